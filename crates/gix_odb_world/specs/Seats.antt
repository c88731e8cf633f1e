-- The seats of the handles of open stores at their cores.
use Rattle.std.specs.Prelude.{◌≡◌, ◌≢◌, ◌↔◌, ◌≤◌, ℕ, List, IsSome, length, slice_get, take, Option, None, Some}
use Rattle.gix_odb_core.specs.Handles.{IsRegistered}
use Rattle.gix_odb_core.specs.History.{History, present}
use Rattle.gix_odb_core.specs.Replay.{snapshot_of}
use Rattle.gix_odb_events.specs.declared.view.View.{View}
use Rattle.gix_odb_history.specs.Cores.{cores_after, registered_at}
use Rattle.gix_odb_history.specs.Event.{Event}
use Rattle.gix_odb_world.specs.Status.{Free, MakeCall, Modes, OpenStore, Resting, Status, Task, Working, status_of}

-- A handle is registered at the core of its store, under its number, and at no other one; the core was made with as many slots as the handle says; and
-- the handle's snapshot is the view of its last entry in the core's journal that passed it one.
pub record IsSeated (cores : List History) (handle : ℕ) (modes : Modes) : Type 0 where
  pub history : History
  pub there : slice_get cores modes.core ≡ Some history
  pub slots : length history.opening.slots ≡ modes.slots
  pub registered : IsRegistered (present history).handles handle
  pub only : (store : ℕ) → store ≢ modes.core → registered_at cores store handle ≡ None
  pub snapshot : modes.view ≡ snapshot_of handle history.entries

-- a number is registered at no core
abbrev pub IsNowhere : List History → (handle : ℕ) → Type 0
IsNowhere cores handle = (store : ℕ) → registered_at cores store handle ≡ None

-- each handle of an open store is seated; one whose store is opening isn't registered yet, nor is a number that no handle has
abbrev pub HasSeatAt : List History → (handle : ℕ) → Modes → Task → Type 0
HasSeatAt cores handle modes OpenStore = IsNowhere cores handle
HasSeatAt cores handle modes (MakeCall call) = IsSeated cores handle modes

abbrev pub HasSeat : List Event → (handle : ℕ) → Status → Type 0
HasSeat events handle Free = IsNowhere (cores_after events) handle
HasSeat events handle (Resting store modes) = IsSeated (cores_after events) handle modes
HasSeat events handle (Working running) = HasSeatAt (cores_after events) handle running.modes running.task

-- a handle at this task is one of the open store whose core has this number
abbrev pub IsOpenAtTask : (core : ℕ) → Modes → Task → Type 0
IsOpenAtTask core modes OpenStore = ⊥
IsOpenAtTask core modes (MakeCall call) = modes.core ≡ core

abbrev pub IsOpenAt : (core : ℕ) → Status → Type 0
IsOpenAt core Free = ⊥
IsOpenAt core (Resting store modes) = modes.core ≡ core
IsOpenAt core (Working running) = IsOpenAtTask core running.modes running.task

-- What is registered at the core of a store are the handles of that store that are open, and nothing else.
abbrev pub RegistersOwn : List Event → Type 0
RegistersOwn events =
    (store seat : ℕ) → IsSome (registered_at (cores_after events) store seat) ↔ IsOpenAt store (status_of events seat)

-- ---- after each of the events

abbrev pub HasSeatThroughout : List Event → Type 0
HasSeatThroughout events = (now handle : ℕ) → now ≤ length events → HasSeat (take now events) handle (status_of (take now events) handle)

abbrev pub RegistersOwnThroughout : List Event → Type 0
RegistersOwnThroughout events = (now : ℕ) → now ≤ length events → RegistersOwn (take now events)

-- ---- snapshots

-- a view is no older than another: neither its list number, nor its state number, nor its generation, nor the number of the entry that passed
-- it on is less
pub record IsNoOlder (before now : View) : Type 0 where
  pub list_no : before.list_no ≤ now.list_no
  pub state_id : before.snapshot.marker.state_id ≤ now.snapshot.marker.state_id
  pub generation : before.snapshot.marker.generation ≤ now.snapshot.marker.generation
  pub entry : before.snapshot.entry ≤ now.snapshot.entry

-- the modes of a handle of an open store
abbrev pub open_modes_at : Modes → Task → Option Modes
open_modes_at modes OpenStore = None
open_modes_at modes (MakeCall call) = Some modes

abbrev pub open_modes : Status → Option Modes
open_modes Free = None
open_modes (Resting store modes) = Some modes
open_modes (Working running) = open_modes_at running.modes running.task

-- At two moments of a run at which a handle has a number that is one of an open store, and the store is the same, the later snapshot exists
-- where the earlier one did, and is no older. This holds too where the handle was closed and another one of the store began under its number.
abbrev pub SnapshotsNeverFall : List Event → Type 0
SnapshotsNeverFall events =
    (earlier later handle : ℕ) (was is : Modes) (before : View) → earlier ≤ later → later ≤ length events
    → open_modes (status_of (take earlier events) handle) ≡ Some was → open_modes (status_of (take later events) handle) ≡ Some is
    → is.core ≡ was.core → was.view ≡ Some before → (now : View) × (is.view ≡ Some now) × IsNoOlder before now
