-- Which store a handle's core is of, after each event.
use Rattle.std.proofs.Common.{◌≡◌, ℕ, List, length, Some}
use Rattle.odb_disk.specs.MemDisk.{Volume}
use Rattle.std.specs.Prelude.{slice_get}
use Rattle.gix_odb_world.specs.AtWork.{Modes, Store, Task, OpenStore, MakeCall}
use Rattle.gix_odb_history.specs.Cores.{cores_after}
use Rattle.gix_odb_history.specs.Event.{Event}
use Rattle.gix_odb_world.specs.Status.{Free, Resting, Status, Working, status_of}
use Rattle.gix_odb_world.proofs.Stock.OneCore.{IsStocked}

abbrev pub OwnsAt : List Store → Store → Modes → Task → Type 0
OwnsAt stores store modes OpenStore = Unit {0}
OwnsAt stores store modes (MakeCall call) = slice_get stores modes.core ≡ Some store

-- a handle of an open store has the core of its store
abbrev pub Owns : List Store → Status → Type 0
Owns stores Free = Unit {0}
Owns stores (Resting store modes) = slice_get stores modes.core ≡ Some store
Owns stores (Working running) = OwnsAt stores running.store running.modes running.task

-- each core is that of a store, in their order, and each handle of an open store has the core of its store
pub record AreStocked (first : Volume) (events : List Event) : Type 0 where
  pub stores : List Store
  pub long : length stores ≡ length (cores_after events)
  pub each : (core : ℕ) (store : Store) → slice_get stores core ≡ Some store → IsStocked first events core store
  pub owned : (handle : ℕ) → Owns stores (status_of events handle)
