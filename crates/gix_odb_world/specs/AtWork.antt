-- What a handle is at: a task in a store, and the work that is left of it.
use Rattle.std.specs.Prelude.{ℕ, Bool, true, false, Option, None, unwrap_or}
use Rattle.gix_odb_events.specs.declared.view.View.{View}
use Rattle.gix_odb.specs.HandleState.{unseen}
use Rattle.gix_odb.specs.LookUpOrder.{Setting}
use Rattle.gix_odb.specs.declared.refresh_mode.RefreshMode.{RefreshMode}
use Rattle.gix_odb.specs.declared.refresh_mode.RefreshMode.TheVariants.{AfterAllIndicesLoaded, Never}
use Rattle.gix_odb_calls.specs.declared.call.Call.{Call}
use Rattle.gix_odb_calls.specs.declared.store_parts.StoreParts.{StoreParts}
use Rattle.gix_odb_events.specs.Answers.{view_in}
use Rattle.gix_odb_history.specs.Cores.{or_before}
use Rattle.gix_odb_history.specs.Event.{Asked, OfCore, OfDisk, OfNewCore, OfNothing}
use Rattle.gix_odb_world.specs.Work.{Work}

-- a store that was opened, or whose opening runs: the number of its open step, its parts, and the most changes of the list of indices that a
-- call tolerates
pub record Store : Type 0 where
  pub opened : ℕ
  pub parts : StoreParts
  pub max_changes : ℕ

-- the store as a handle on it sees it
abbrev pub setting_in : Store → Setting
setting_in store = record { parts = store.parts; most = store.max_changes }

-- what a handle at work is to do: to open its store, or to make a call
pub data Task : Type 0 where
  OpenStore : Task
  MakeCall : (call : Call) → Task

-- What a handle has of its own: its modes, which are whether it refreshes its list, and whether it ignores replacements; and of the
-- core of its store the core's number, how many slots it was made with, and its snapshot, which is the view that the core last passed to
-- it. Before its opening registered it there it has number 0, no slots and no snapshot.
pub record Modes : Type 0 where
  pub refresh : RefreshMode
  pub ignoring : Bool
  pub core : ℕ
  pub slots : ℕ
  pub view : Option View

-- what a handle sees in these modes: its snapshot, if it has one
abbrev pub view_in_modes : Modes → View
view_in_modes modes = unwrap_or modes.view unseen

-- the modes of a handle whose store was just opened
abbrev pub modes_at_opening : Modes
modes_at_opening = record { refresh = AfterAllIndicesLoaded; ignoring = false; core = 0; slots = 0; view = None }

-- the modes of a handle that never refreshes its list from now on
abbrev pub now_frozen : Modes → Modes
now_frozen modes = record modes { refresh = Never }

-- the modes of a handle that ignores replacements from now on
abbrev pub now_ignoring : Modes → Modes
now_ignoring modes = record modes { ignoring = true }

-- the modes after an event that asked this
abbrev pub modes_after : Asked → Modes → Modes
modes_after OfNothing modes = modes
modes_after (OfDisk ask answer) modes = modes
modes_after (OfCore store seat event answer) modes = record modes { view = or_before (view_in answer) modes.view }
modes_after (OfNewCore slots folders store seat answer) modes = record modes { core = store; slots = slots; view = or_before (view_in answer) modes.view }

-- What a handle is at: a task in a store, set by the event that has the number `begun`, with so many turns taken, and the work that
-- is left of it; and the modes of the handle.
pub record Running : Type 0 where
  pub store : Store
  pub modes : Modes
  pub begun : ℕ
  pub turns : ℕ
  pub task : Task
  pub work : Work
