-- Turns of one handle that are all pending, one after another: they are fewer than the bound of its task.
use Rattle.std.specs.Prelude.{◌≡◌, ◌≢◌, ℕ, ◌+◌, ◌<◌, ◌≤◌, List, [], ◌∷◌, take, slice_get, Some}
use Rattle.odb_disk.specs.MemDisk.{Volume}
use Rattle.gix_odb_calls.specs.declared.line.Line.{Line}
use Rattle.gix_odb_calls.specs.declared.line.Line.TheVariants.{One, Finish}
use Rattle.gix_odb_calls.specs.declared.step.Step.TheVariants as steps
use Rattle.gix_odb_calls.specs.declared.step.Outcome.TheVariants as outcomes
use Rattle.gix_odb_history.specs.Event.{Event}
use Rattle.gix_odb_history.specs.Run.{tree_at}
use Rattle.gix_odb_world.specs.AtWork.{Running}
use Rattle.gix_odb_world.specs.Begun.{BegunAs}
use Rattle.gix_odb_world.specs.Bound.{HasAtMost, bound_of_task}
use Rattle.gix_odb_world.specs.Status.{Working, status_of}

-- the event at a place is a turn of a handle, after which its task goes on
pub record IsPendingTurn (events : List Event) (handle place : ℕ) : Type 0 where
  pub event : Event
  pub there : slice_get events place ≡ Some event
  pub step : event.step ≡ steps.Turn handle
  pub pending : event.outcome ≡ outcomes.Pending

-- so many events from a place on are such turns
abbrev pub ArePending : List Event → (handle from count : ℕ) → Type 0
ArePending events handle from count = (place : ℕ) → from ≤ place → place < from + count → IsPendingTurn events handle place

-- A handle was at a task at a place, and took so many turns from there on. With those that it took for the task before, they are fewer than the
-- task's bound, where no folder that it may list had more than `entries` entries from the step that set the task to the last of the turns.
pub record AreInTime (first : Volume) (events : List Event) (handle from count : ℕ) : Type 0 where
  pub running : Running
  pub status : status_of (take from events) handle ≡ Working running
  pub begins : BegunAs (take from events) handle running.begun running.store running.task
  pub few : (entries : ℕ) → HasAtMost (tree_at first events) running.store.parts running.begun (from + count) entries
      → running.turns + count < bound_of_task running.store running.modes running.task entries

-- ---- the lines of a script

-- The turns of a line that finishes a task lie from one place to another. Only the last of them isn't pending, and those before
-- it, if there are any, are in time.
pub record FinishesInTime (first : Volume) (events : List Event) (handle from to : ℕ) : Type 0 where
  pub count : ℕ
  pub long : to ≡ from + count
  pub pending : ArePending events handle from count
  pub last : Event
  pub there : slice_get events to ≡ Some last
  pub turn : last.step ≡ steps.Turn handle
  pub ends : last.outcome ≢ outcomes.Pending
  pub in_time : 0 < count → AreInTime first events handle from count

-- a line whose steps lie from one place to another: only a finish may take more than one
abbrev pub IsLineInTime : Volume → List Event → (from to : ℕ) → Line → Type 0
IsLineInTime first events from to (Finish handle) = FinishesInTime first events handle from to
IsLineInTime first events from to (One step) = to ≡ from

-- Each of the lines, whose steps lie one after another from a place on. `last` has, for each line, the place of its last step.
abbrev pub AreLinesInTime : Volume → List Event → (from : ℕ) → List Line → (last : List ℕ) → Type 0
AreLinesInTime first events from [] last = Unit {0}
AreLinesInTime first events from (line ∷ lines) [] = ⊥
AreLinesInTime first events from (line ∷ lines) (to ∷ last) = IsLineInTime first events from to line × AreLinesInTime first events (to + 1) lines last
