-- Why the core of a store refused an event of a call.
use Rattle.std.specs.Prelude.{◌≡◌, ℕ, ◌+◌, ◌≤◌, List, take, slice_get, Some, Err}
use Rattle.gix_odb_core.specs.Causes.{RefusalCause}
use Rattle.gix_odb_core.specs.History.{present}
use Rattle.gix_odb_core.specs.declared.shape.Shape.{Shape}
use Rattle.gix_odb_events.specs.declared.event.Refusal.{Refusal}
use Rattle.gix_odb_events.specs.declared.event.Refusal.TheVariants as refusals
use Rattle.gix_odb_calls.specs.declared.load_index.Error as load
use Rattle.gix_odb_calls.specs.declared.load_index.Error.TheVariants as load_errors
use Rattle.gix_odb_history.specs.Cores.{cores_after, history_at}
use Rattle.gix_odb_history.specs.Event.{CoreEvent, Event, OfCore}
use Rattle.gix_odb_history.specs.Run.{IsTurnOf}

-- the shape of a core after the first so many events
abbrev pub shape_at : List Event → (core number : ℕ) → Shape
shape_at events core number = present (history_at (cores_after (take number events)) core)

-- The event that has a number is a turn of the handle in which the core refused this event: a listing that has so many more new rows than
-- slots are free, or an event that would raise a counter at its greatest value. This holds of the shape that the core had then, and it kept it.
pub record RefusedAt (events : List Event) (handle core number : ℕ) (refusal : Refusal) : Type 0 where
  pub turn : Event
  pub there : slice_get events number ≡ Some turn
  pub own : IsTurnOf handle turn
  pub event : CoreEvent
  pub asked : turn.asked ≡ OfCore core handle event (Err refusal)
  pub cause : RefusalCause (shape_at events core number) event refusal
  pub unchanged : shape_at events core (number + 1) ≡ shape_at events core number

-- the core refused an event in a turn of the handle, after the step that began its call
pub record RefusedSince (events : List Event) (handle core begun : ℕ) (refusal : Refusal) : Type 0 where
  pub number : ℕ
  pub later : begun ≤ number
  pub at : RefusedAt events handle core number refusal

-- Why a list could not be loaded, where `Refused` says which refusals of the core a call got, and `Caused` the cause of any other
-- error. Running out of memory is no outcome: the whole run ends by it.
abbrev pub LoadCause : (Refused : Refusal → Type 0) → (Caused : Type 0) → load.Error → Type 0
LoadCause Refused Caused (load_errors.InsufficientSlots current needed) = Refused (refusals.InsufficientSlots current needed)
LoadCause Refused Caused load_errors.GenerationOverflow = Refused refusals.GenerationOverflow
LoadCause Refused Caused load_errors.NoMemory = ⊥
LoadCause Refused Caused error = Caused
