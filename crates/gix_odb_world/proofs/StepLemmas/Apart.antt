-- The law of an event that is no turn, or is misused: it makes no call of the disk.
use Rattle.std.proofs.Common.{◌≡◌, ◌≢◌, ℕ, true, List, None, Option, refl, sym, ◌∙◌, ap, subst}
use Rattle.std.proofs.lemmas.Bool.{false≢true}
use Rattle.odb_disk.specs.MemDisk.{Volume}
use Rattle.odb_disk.specs.declared.change.Change.{Change}
use Rattle.gix_odb_calls.specs.declared.step.Step.{Step}
use Rattle.gix_odb_calls.specs.declared.step.Step.TheVariants as steps
use Rattle.gix_odb_calls.specs.declared.step.Outcome.{Outcome}
use Rattle.gix_odb_calls.specs.declared.step.Outcome.TheVariants as outcomes
use Rattle.gix_odb_calls.specs.declared.call.Reply.{Reply}
use Rattle.gix_odb_history.specs.declared.record.Did.{Did}
use Rattle.gix_odb_history.specs.declared.record.Did.TheVariants.{Nothing}
use Rattle.gix_odb_history.specs.Cores.{cores_after}
use Rattle.gix_odb_history.specs.Event.{Asked, OfCore, OfDisk, OfNewCore, OfNothing, Event}
use Rattle.gix_odb_history.specs.Run.{did_of_asked, disk_after, disk_after_asked, disk_after_change}
use Rattle.gix_odb_history.specs.Turned.{is_done}
use Rattle.gix_odb_world.specs.Valid.{IsReason, misuse_of}
use Rattle.gix_odb_world.specs.Headline.{FailsAsListed, Law, LeavesDisk, Suits, asked_applied}
use Rattle.gix_odb_world.specs.Changes.{ChangesAs}
use Rattle.gix_odb_world.proofs.HistoryLemmas.{disk_after-push}

-- an event that asked this, if it asked for anything, and made no call of the disk
abbrev pub apart : Step → Outcome → Did → Option Change → ℕ → Asked → Event
apart step outcome did change faults asked =
    record { step = step; outcome = outcome; entry = record { did = did; change = change; faults = faults }; asked = asked }

-- an event that asked for nothing
abbrev pub quiet : Step → Outcome → Option Change → ℕ → Event
quiet step outcome change faults = apart step outcome Nothing change faults OfNothing

-- a turn that is no misuse gives a reply, or its call goes on
no_quiet_turn : (handle : ℕ) (outcome : Outcome) (asked : Asked) → Suits (steps.Turn handle) outcome asked → is_done outcome ≡ true
    → ((reply : Reply) → outcome ≢ outcomes.Reply reply) → outcome ≢ outcomes.Pending → ⊥
no_quiet_turn handle outcomes.Applied asked suits done no_reply not_pending = suits.0 tt
no_quiet_turn handle outcomes.Pending asked suits done no_reply not_pending = not_pending refl
no_quiet_turn handle (outcomes.Reply reply) asked suits done no_reply not_pending = no_reply reply refl
no_quiet_turn handle (outcomes.Misuse why) asked suits done no_reply not_pending = false≢true done

-- without a call of the disk only the change of the record changes it, and no call failed
pub left_alone : (disk : Volume) (asked : Asked) (change : Option Change) → LeavesDisk asked → disk_after_asked disk asked change ≡ disk_after_change disk change
left_alone disk OfNothing change leaves = refl
left_alone disk (OfDisk ask answer) change leaves = absurd leaves
left_alone disk (OfCore store seat event answer) change leaves = refl
left_alone disk (OfNewCore slots folders store seat answer) change leaves = refl

none_fails : (disk : Volume) (asked : Asked) → LeavesDisk asked → FailsAsListed disk asked
none_fails disk OfNothing leaves = tt
none_fails disk (OfDisk ask answer) leaves = absurd leaves
none_fails disk (OfCore store seat event answer) leaves = tt
none_fails disk (OfNewCore slots folders store seat answer) leaves = tt

-- it is lawful where it is no reply, and no call goes on
pub law_apart : (first : Volume) (past : List Event) (step : Step) (outcome : Outcome) (did : Did) (change : Option Change) (faults : ℕ) (asked : Asked)
    → IsReason first past step (misuse_of outcome) → Suits step outcome asked → LeavesDisk asked → ChangesAs step outcome change
    → faults ≡ (disk_after_change (disk_after first past) change).calls.faults → ((reply : Reply) → outcome ≢ outcomes.Reply reply)
    → outcome ≢ outcomes.Pending → did ≡ did_of_asked None (cores_after past) asked → (outcome ≡ outcomes.Applied → asked ≡ asked_applied past step)
    → Law first past (apart step outcome did change faults asked)
law_apart first past step outcome did change faults asked valid suits leaves made counted no_reply not_pending tells asks =
    record {
      valid = valid;
      suits = suits;
      change = made;
      failed = none_fails (disk_after first past) asked leaves;
      faults =
          counted ∙ (ap (λ (disk : Volume). disk.calls.faults) (sym (left_alone (disk_after first past) asked change leaves))
          ∙ ap (λ (disk : Volume). disk.calls.faults) (sym (disk_after-push first past (apart step outcome did change faults asked))));
      did = (None, tells);
      applied = asks;
      worked = λ handle running turn.
          absurd (no_quiet_turn handle outcome asked (subst (λ s. Suits s outcome asked) turn.turn.step suits) turn.turn.done no_reply not_pending);
      promise = λ handle running task reply turn began is. absurd (no_reply reply is);
      in_time = λ handle running task entries turn began is most. absurd (not_pending is);
    }
