-- How long the name of an object that a write made holds a whole encoding.
use Rattle.std.specs.Prelude.{◌≡◌, ◌⊎◌, ℕ, ◌<◌, ◌≤◌, false, List, ◌++◌, length, take, slice_get, Some, Ok}
use Rattle.odb_base.specs.Path.{Path}
use Rattle.odb_disk.specs.MemDisk.{Volume}
use Rattle.odb_disk.specs.Tree.Follow.{read_of}
use Rattle.odb_disk.specs.Tree.Way.{crosses}
use Rattle.odb_disk.specs.Tree.Write.{spot}
use Rattle.odb_disk.specs.declared.change.Change.TheVariants.{Rename}
use Rattle.gix_object.specs.Loose.{header_of}
use Rattle.gix_odb_loose.specs.LooseFile.{loose_path}
use Rattle.gix_odb_loose.specs.declared.call.LooseCall.{LooseCall}
use Rattle.gix_odb_history.specs.Event.{Event}
use Rattle.gix_odb_world.specs.Status.{IsAtWrite, Running, status_of}
use Rattle.gix_odb_history.specs.Run.{IsTurnOf, tree_at}
use Rattle.gix_odb_world.specs.Begun.{BegunBy}
use Rattle.gix_odb_world.specs.Undisturbed.{IsUndisturbed}
use Rattle.gix_odb_history.specs.Writing.{ToWrite, call_to_write, name_to_write}
pub use Rattle.gix_odb_history.specs.Writing.{LeavesAlone}

-- the path of the object of a write
abbrev pub name_path : ToWrite → Path
name_path w = loose_path w.objects (name_to_write w)

-- The event at a place gives the object of a write its name: the write's turn moves its file to the spot `to`.
pub record GivesName (events : List Event) (place : ℕ) (w : ToWrite) (to : Path) : Type 0 where
  pub event : Event
  pub there : slice_get events place ≡ Some event
  pub handle : ℕ
  pub turn : IsTurnOf handle event
  pub running : Running
  pub call : LooseCall
  pub at : IsAtWrite (status_of (take place events) handle) running call
  pub begins : BegunBy (take place events) handle running.begun (call_to_write w)
  pub into : w.objects ≡ running.store.parts.objects
  pub hashed : w.hash ≡ running.store.parts.object_hash
  pub from : Path
  pub moves : event.entry.change ≡ Some (Rename from to)

-- a path reads as a whole encoding of a write's object
abbrev pub ReadsWhole : Volume → List Event → Path → ToWrite → (moment : ℕ) → Type 0
ReadsWhole first events path w moment = read_of (tree_at first events moment) path ≡ Ok (header_of w.kind w.size ++ w.bytes, 0)

-- the event at a place moved the file of a write onto the same name at which a path ends
pub record GivesAgain (first : Volume) (events : List Event) (path : Path) (place : ℕ) : Type 0 where
  pub write : ToWrite
  pub to : Path
  pub gives : GivesName events place write to
  pub onto : spot (tree_at first events place) path ≡ Ok to

-- A path holds the whole encoding of the write that was the last to move its file onto that name, whose data are as
-- many as its header says, and since then nothing changed the path or its way.
pub record HoldsWhole (first : Volume) (events : List Event) (path : Path) (place now : ℕ) : Type 0 where
  pub last : ℕ
  pub later : place ≤ last
  pub before : last < now
  pub gives : GivesAgain first events path last
  pub since : (step : ℕ) → last < step → step < now → LeavesAlone first events path step
  pub whole : ReadsWhole first events path gives.write now
  pub full : length gives.write.bytes ≡ gives.write.size

-- In an undisturbed run, a name that a write made, whose rename replaced no link that its path crosses, holds a whole encoding
-- from its rename on, until a step other than a write's rename onto that name changes the path or the way to it.
abbrev pub NamesStayWhole : Volume → List Event → Type 0
NamesStayWhole first events =
    (place now : ℕ) (w : ToWrite) (to : Path) → GivesName events place w to → crosses (tree_at first events place) (name_path w) to ≡ false
    → place < now → IsUndisturbed first events now
    → ((step : ℕ) → place < step → step < now → LeavesAlone first events (name_path w) step ⊎ GivesAgain first events (name_path w) step)
    → HoldsWhole first events (name_path w) place now
