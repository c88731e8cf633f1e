-- A turn calls the disk, or leaves it as it was.
use Rattle.std.proofs.Common.{◌≡◌, ◌⊎◌, inl, inr, ℕ, List, Option, Some, None, refl, sym, ap, ◌∙◌, subst}
use Rattle.odb_disk.specs.MemDisk.{Volume}
use Rattle.odb_disk.specs.Ask.{answer_now, fails_now, op_of}
use Rattle.odb_disk.specs.declared.ask.DiskAsk.{DiskAsk}
use Rattle.gix_odb_history.specs.declared.record.Did.TheVariants.{Disk}
use Rattle.gix_odb_history.specs.Event.{OfDisk, Event, answered}
use Rattle.gix_odb_events.specs.declared.answer.Ask.{Ask}
use Rattle.gix_odb_events.specs.declared.answer.Ask.TheVariants as parts
use Rattle.gix_odb_events.specs.declared.answer.Answer.TheVariants as given
use Rattle.gix_odb_world.specs.Headline.{LeavesDisk, Works, outcome_of, stand_of}
use Rattle.gix_odb_world.specs.Machines.{ask_in, fed_in}
use Rattle.gix_odb_world.specs.Recorded.{opened_in}
use Rattle.gix_odb_history.specs.PathRecorded.{path_recorded}
use Rattle.gix_odb_history.specs.Run.{NoCall, change_asked, change_by, did_asked, disk_after, told_now}
use Rattle.gix_odb_world.specs.Status.{Running}

-- what a turn does that makes a call of the disk
pub record CallsDisk (first : Volume) (past : List Event) (handle : ℕ) (running : Running) (e : Event) : Type 0 where
  pub ask : DiskAsk
  pub asks : ask_in running.store running.work ≡ Some (parts.Disk ask)
  pub asked : e.entry.did ≡ Disk (op_of ask) (path_recorded (opened_in running.work) ask) (fails_now (disk_after first past) ask)
  pub told : e.asked ≡ OfDisk ask (answer_now (disk_after first past) ask)
  pub goes : e.outcome ≡ outcome_of (fed_in running.store running.work (Some (given.Disk (answer_now (disk_after first past) ask))))
  pub changed : e.entry.change ≡ change_by (disk_after first past) ask

-- an event changed nothing, and made no call of the disk
pub record IsQuiet (e : Event) : Type 0 where
  pub none : e.entry.change ≡ None
  pub did : NoCall e.entry.did
  pub leaves : LeavesDisk e.asked

module _ (first : Volume) (past : List Event) (handle : ℕ) (running : Running) (e : Event) (works : Works first past handle running e) where
  abbrev disk : Volume
  disk = disk_after first past

  -- a turn that asks for a call of the disk makes the call
  pub by_call : (ask : DiskAsk) → works.ask ≡ Some (parts.Disk ask) → CallsDisk first past handle running e
  by_call ask is =
      let told : e.asked ≡ OfDisk ask (answer_now disk ask) = works.told ∙ ap (told_now (stand_of past handle running) disk) is in
      record {
        ask = ask;
        asks = works.asks ∙ is;
        asked = works.asked ∙ ap (did_asked (opened_in running.work) (stand_of past handle running) disk) is;
        told = told;
        goes = works.goes ∙ ap (λ asked. outcome_of (fed_in running.store running.work (answered asked))) told;
        changed = works.changed ∙ ap (change_asked disk) is;
      }

  -- a turn that asks for nothing, or for an event of a core, leaves the disk
  by_ask : (ask : Option Ask) → works.ask ≡ ask → CallsDisk first past handle running e ⊎ IsQuiet e
  by_ask (Some (parts.Disk ask)) is = inl (by_call ask is)
  by_ask None is = inr (record {
    none = works.changed ∙ ap (change_asked disk) is;
    did = subst NoCall (sym (works.asked ∙ ap (did_asked (opened_in running.work) (stand_of past handle running) disk) is)) tt;
    leaves = subst LeavesDisk (sym (works.told ∙ ap (told_now (stand_of past handle running) disk) is)) tt;
  })
  by_ask (Some (parts.Core event)) is = inr (record {
    none = works.changed ∙ ap (change_asked disk) is;
    did = subst NoCall (sym (works.asked ∙ ap (did_asked (opened_in running.work) (stand_of past handle running) disk) is)) tt;
    leaves = subst LeavesDisk (sym (works.told ∙ ap (told_now (stand_of past handle running) disk) is)) tt;
  })
  by_ask (Some (parts.NewCore slots folders)) is = inr (record {
    none = works.changed ∙ ap (change_asked disk) is;
    did = subst NoCall (sym (works.asked ∙ ap (did_asked (opened_in running.work) (stand_of past handle running) disk) is)) tt;
    leaves = subst LeavesDisk (sym (works.told ∙ ap (told_now (stand_of past handle running) disk) is)) tt;
  })

  pub called_or_quiet : CallsDisk first past handle running e ⊎ IsQuiet e
  called_or_quiet = by_ask works.ask refl
