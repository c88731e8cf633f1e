-- What a turn does that asks this: what its record says, what it changes, and what the code of it does.
use Rattle.std.proofs.Common.{◌≡◌, ℕ, List, Option, Some, None, Ok, Err, Result, refl, ap, subst, sym}
use Rattle.odb_base.specs.Path.{Path}
use Rattle.odb_disk.specs.Tree.{IsTree, tree_of}
use Rattle.odb_disk.specs.MemDisk.{Volume}
use Rattle.odb_disk.specs.Ask.{op_of}
use Rattle.gix_odb_calls.specs.declared.call.Reply.{Reply}
use Rattle.gix_odb_history.specs.declared.record.Did.{Did}
use Rattle.gix_odb_history.specs.declared.record.Did.TheVariants.{Disk}
use Rattle.gix_odb_calls.specs.declared.step.Step.TheVariants as steps
use Rattle.gix_odb_world.specs.Work.{Work}
use Rattle.gix_odb_world.specs.Asks.{AsksAsTask}
use Rattle.gix_odb_world.specs.Changes.{ChangesAsAsked}
use Rattle.gix_odb_history.specs.Event.{Asked, OfCore, OfDisk, OfNewCore, OfNothing, Event}
use Rattle.gix_odb_events.specs.declared.answer.Ask.{Ask}
use Rattle.gix_odb_events.specs.declared.answer.Ask.TheVariants as parts
use Rattle.gix_odb_world.specs.Headline.{FailsAsListed, Suits, outcome_of, stand_of}
use Rattle.gix_odb_history.specs.PathRecorded.{path_recorded}
use Rattle.gix_odb_history.specs.Run.{IsTurnOf, NoCall, Stand, change_asked, did_asked, did_of_asked, disk_after, told_now}
use Rattle.gix_odb_world.specs.Status.{Running, Task}
use Rattle.gix_odb_history.proofs.FailedLemmas.{has_failed-now}
use Rattle.gix_odb_world.proofs.MachineLaws.{IsTurnAsking, TakesTurn}

-- a turn whose work goes on asked for something
pub suits_turn : (number : ℕ) (result : Result Reply Work) (asked : Asked) → (asked ≡ OfNothing → (reply : Reply) × (result ≡ Ok reply))
    → Suits (steps.Turn number) (outcome_of result) asked
suits_turn number (Ok reply) asked ends = tt
suits_turn number (Err work) OfNothing ends = let end = ends refl in let both : Err work ≡ Ok end.0 = end.1 in absurd (cc both)
suits_turn number (Err work) (OfDisk ask answer) ends = (tt, tt)
suits_turn number (Err work) (OfCore store seat event answer) ends = (tt, tt)
suits_turn number (Err work) (OfNewCore slots folders store seat answer) ends = (tt, tt)

-- where nothing was asked, the work asked for nothing
pub told_nothing : (at : Stand) (disk : Volume) (ask : Option Ask) → told_now at disk ask ≡ OfNothing → ask ≡ None
told_nothing at disk None is = refl
told_nothing at disk (Some (parts.Disk ask)) is = absurd (cc is)
told_nothing at disk (Some (parts.Core event)) is = absurd (cc is)
told_nothing at disk (Some (parts.NewCore slots folders)) is = absurd (cc is)

-- the record says that a call of the disk failed exactly where its number is listed
pub did_told : (opened : Option Path) (at : Stand) (disk : Volume) (ask : Option Ask)
    → did_of_asked opened at.cores (told_now at disk ask) ≡ did_asked opened at disk ask
did_told opened at disk None = refl
did_told opened at disk (Some (parts.Disk ask)) = ap (Disk (op_of ask) (path_recorded opened ask)) (has_failed-now disk ask)
did_told opened at disk (Some (parts.Core event)) = refl
did_told opened at disk (Some (parts.NewCore slots folders)) = refl

pub fails_listed : (at : Stand) (disk : Volume) (ask : Option Ask) → FailsAsListed disk (told_now at disk ask)
fails_listed at disk None = tt
fails_listed at disk (Some (parts.Disk ask)) = has_failed-now disk ask
fails_listed at disk (Some (parts.Core event)) = tt
fails_listed at disk (Some (parts.NewCore slots folders)) = tt

-- a record that has no call
no_call : (opened : Option Path) (at : Stand) (disk : Volume) (ask : Option Ask) (did : Did) → did ≡ did_asked opened at disk ask → NoCall (did_asked opened at disk ask)
    → NoCall did
no_call opened at disk ask did is none = subst NoCall (sym is) none

pub turn_asking : (first : Volume) (events : List Event) (e : Event) (handle : ℕ) (running : Running) (opened : Option Path) (ask : Option Ask) → IsTurnOf handle e
    → e.entry.did ≡ did_asked opened (stand_of events handle running) (disk_after first events) ask
    → e.asked ≡ told_now (stand_of events handle running) (disk_after first events) ask
    → e.entry.change ≡ change_asked (disk_after first events) ask → IsTree (tree_of (disk_after first events).state)
    → IsTurnAsking first events e handle running ask
turn_asking first events e handle running opened None turn did asked change tree =
    record { turn = turn; did = no_call opened (stand_of events handle running) (disk_after first events) None e.entry.did did tt; asked = asked; change = change; tree = tree }
turn_asking first events e handle running opened (Some (parts.Disk ask)) turn did asked change tree = record { turn = turn; did = (opened, did); asked = asked; change = change; tree = tree }
turn_asking first events e handle running opened (Some (parts.Core event)) turn did asked change tree =
    record { turn = turn; did = no_call opened (stand_of events handle running) (disk_after first events) (Some (parts.Core event)) e.entry.did did tt; asked = asked; change = change; tree = tree }
turn_asking first events e handle running opened (Some (parts.NewCore slots folders)) turn did asked change tree =
    record {
      turn = turn;
      did = no_call opened (stand_of events handle running) (disk_after first events) (Some (parts.NewCore slots folders)) e.entry.did did tt;
      asked = asked;
      change = change;
      tree = tree;
    }

module _ (first : Volume) (events : List Event) (handle : ℕ) (running : Running) (task : Task) where
  pub order_of : (ask : Option Ask) → TakesTurn first events handle running task ask
      → AsksAsTask first events handle running.store running.modes running.begun running.turns task ask
  order_of None takes = takes
  order_of (Some (parts.Disk ask)) takes = takes.in_order
  order_of (Some (parts.Core event)) takes = takes
  order_of (Some (parts.NewCore slots folders)) takes = takes

  pub five_of : (ask : Option Ask) → TakesTurn first events handle running task ask
      → ChangesAsAsked first events handle running.store running.begun task ask (change_asked (disk_after first events) ask)
  five_of None takes = refl
  five_of (Some (parts.Disk ask)) takes = takes.five
  five_of (Some (parts.Core event)) takes = refl
  five_of (Some (parts.NewCore slots folders)) takes = refl
