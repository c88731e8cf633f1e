-- The present state of a core beside its journal, and the effect of each part of an event's work. Public clauses cite only `newest`.
use Rattle.std.specs.Prelude.{◌≡◌, ℕ, ◌+◌, ◌≤◌, ◌++◌, List, [], ◌∷◌, ◌<◌, length, min, Option, Some, None, Err, if◌then◌else◌}
use Rattle.std.specs.Option.{option_to_list}
use Rattle.gix_odb_core.specs.Countable.{IsCountable}
use Rattle.gix_odb_core.specs.Handles.{without_seat}
use Rattle.gix_odb_core.specs.Replay.{answer_of, is_refresh, number_behind, passed_by, passed_in, refreshes_in}
use Rattle.gix_odb_events.specs.Answers.{Answer}
use Rattle.gix_odb_core.specs.Shelf.{settled_by, shown_of}
use Rattle.gix_odb_core.specs.Steps.{after}
use Rattle.gix_odb_events.specs.View.{last_state, view_at}
use Rattle.gix_odb_core.specs.Turn.{answer_with, handles_after}
use Rattle.gix_odb_core.specs.Views.{view_of}
use Rattle.gix_odb_events.specs.declared.event.Event.{Event}
use Rattle.gix_odb_events.specs.declared.event.Event.TheVariants as event
use Rattle.gix_odb_events.specs.declared.event.Refusal.TheVariants as refusals
use Rattle.gix_odb_core.specs.declared.journal.Entry.{Entry}
use Rattle.gix_odb_core.specs.declared.journal.Journal.{Journal}
use Rattle.gix_odb_core.specs.declared.shape.Shelf.{Shelf}
use Rattle.gix_odb_core.specs.declared.plan.Plan.{Plan}
use Rattle.gix_odb_core.specs.declared.state.State.{State}
use Rattle.gix_odb_core.specs.declared.turn.Turn.{Turn}
use Rattle.gix_odb_events.specs.declared.view.View.{View}

abbrev pub entries_in : State → List Entry
entries_in state = state.journal.entries

-- the number of the newest entry, or 0 if there is none
abbrev pub newest : List Entry → ℕ
newest entries = min (length entries) last_state

-- the invariant of every state: the view, the files that were passed over and the refreshes are those of shape and journal, the
-- numbers are small, and there is room for the entry with which each registered handle is removed
pub record IsKept (state : State) : Type 0 where
  pub shown : state.view ≡ view_of state.shape (newest (entries_in state))
  pub passed : state.passed ≡ passed_in (entries_in state)
  pub counted : state.refreshes ≡ refreshes_in (entries_in state)
  pub numbered : state.shape.list_no ≤ state.shape.state_id
  pub countable : IsCountable state.shape
  pub room : length state.shape.handles ≤ state.journal.room

-- ---- what the parts of the work do

-- the state with another journal
abbrev pub entered : State → Journal → State
entered state journal = record state { journal = journal }

abbrev pub view_behind : View → Option Shelf → ℕ → View
view_behind view None entry = view_at view entry
view_behind view (Some shelf) entry = shown_of shelf entry

pub record IsPlan (before : View) (turn : Turn) (entry : ℕ) (plan : Plan) : Type 0 where
  pub shelf : plan.shelf ≡ turn.shelf
  pub view : plan.view ≡ view_behind before turn.shelf entry
  pub kept : plan.kept ≡ answer_with turn.told (view_behind before turn.shelf entry)
  pub given : plan.given ≡ answer_with turn.told (view_behind before turn.shelf entry)

-- how many entries an event needs room for, with those that remove the handles that are registered then
abbrev pub entries_for : Event → ℕ
entries_for (event.Register stable) = 2
entries_for other = 1

-- a journal has that room, where `handles` handles are registered before the event
abbrev pub IsRoomFor : Event → ℕ → Journal → Type 0
IsRoomFor event handles journal = handles + entries_for event ≤ journal.room

abbrev pub noted : State → ℕ → Event → State
noted state seat event =
    record state {
      shape = record state.shape { handles = handles_after state.shape.handles seat event };
      passed = state.passed ++ option_to_list (passed_by event);
    }

abbrev pub settled_with : State → Plan → State
settled_with state plan =
    record state {
      shape = settled_by state.shape plan.shelf;
      view = plan.view;
      refreshes = state.refreshes + (if is_refresh plan.kept then 1 else 0);
    }

abbrev pub removed : State → ℕ → State
removed state seat =
    record state {
      shape = record state.shape { handles = without_seat state.shape.handles seat };
      view = view_at state.view (number_behind (entries_in state));
    }

abbrev pub entry_of : List Entry → ℕ → Event → Answer → Entry
entry_of past seat event answer = record { number = number_behind past; seat = seat; event = event; answer = answer }

-- ---- the whole

-- the state after an event that isn't refused for lack of memory
pub record IsNextState (old : State) (seat : ℕ) (event : Event) (given : Answer) (now : State) : Type 0 where
  pub shape : now.shape ≡ after old.shape seat event
  pub answer : given ≡ answer_of (entries_in old) old.shape (number_behind (entries_in old)) seat event
  pub entries : entries_in now ≡ entries_in old ++ entry_of (entries_in old) seat event given ∷ []
  pub kept : IsKept now

-- the state after an event that was refused for lack of memory, and left an entry: nothing else changes
pub record IsRefusedState (old : State) (seat : ℕ) (event : Event) (now : State) : Type 0 where
  pub shape : now.shape ≡ old.shape
  pub entries : entries_in now ≡ entries_in old ++ entry_of (entries_in old) seat event (Err refusals.NoMemory) ∷ []
  pub kept : IsKept now

-- there is room for one entry more than those that remove the registered handles
abbrev pub HasRoom : State → Type 0
HasRoom state = length state.shape.handles < state.journal.room

-- the state after memory ran out, where no entry is left: unchanged but for spare room
pub record IsSameState (old now : State) : Type 0 where
  pub shape : now.shape ≡ old.shape
  pub entries : entries_in now ≡ entries_in old
  pub kept : IsKept now
