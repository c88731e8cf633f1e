-- Which change of the tree the record of an event has, and which changes a write makes.
use Rattle.std.specs.Prelude.{◌≡◌, ◌⊎◌, ℕ, ◌<◌, ◌≤◌, List, [], length, Option, Some, None, Ok}
use Rattle.odb_disk.specs.MemDisk.{Volume}
use Rattle.odb_disk.specs.declared.ask.DiskAsk.{DiskAsk}
use Rattle.odb_disk.specs.declared.ask.DiskAsk.TheVariants as asks
use Rattle.odb_base.specs.Path.{Path}
use Rattle.odb_disk.specs.Tree.{Tree, tree_of}
use Rattle.odb_disk.specs.Tree.Write.{spot, file_spot}
use Rattle.odb_disk.specs.declared.change.Change.{Change}
use Rattle.odb_disk.specs.declared.change.Change.TheVariants.{PutFile, MakeDir, PutLink, Rename, Append, Remove, SetTime}
use Rattle.gix_hash.specs.declared.object_id.ObjectId.{ObjectId}
use Rattle.gix_odb_loose.specs.LooseFile.{loose_path}
use Rattle.gix_odb_loose.specs.WriteOrder.{prefix_path, temp_names, temp_path}
use Rattle.gix_odb_loose.specs.WritePieces.{piece_size}
use Rattle.gix_odb_calls.specs.declared.call.Call.TheVariants.{Write}
use Rattle.gix_odb_calls.specs.declared.step.Step.{Step}
use Rattle.gix_odb_calls.specs.declared.step.Step.TheVariants as steps
use Rattle.gix_odb_calls.specs.declared.step.Outcome.{Outcome}
use Rattle.gix_odb_calls.specs.declared.step.Outcome.TheVariants as outcomes
use Rattle.gix_odb_history.specs.Event.{Event}
use Rattle.gix_odb_events.specs.declared.answer.Ask.{Ask}
use Rattle.gix_odb_events.specs.declared.answer.Ask.TheVariants as work_asks
use Rattle.gix_odb_world.specs.Status.{Store, MakeCall, Task}
use Rattle.gix_odb_history.specs.Run.{disk_after}
use Rattle.gix_odb_history.specs.Writing.{DoneSince, ToWrite, name_to_write, to_write}

-- the change that an applied step makes, if it makes one
abbrev pub change_applied : Step → Option Change
change_applied (steps.Disk change) = Some change
change_applied step = None

-- The change that a record has: that of an applied step, and in a turn that isn't misused that of its call of the disk, which the
-- order of work determines.
abbrev pub ChangesAs : Step → Outcome → Option Change → Type 0
ChangesAs step outcomes.Applied made = made ≡ change_applied step
ChangesAs step outcomes.Pending made = Unit {0}
ChangesAs step (outcomes.Reply reply) made = Unit {0}
ChangesAs step (outcomes.Misuse why) made = made ≡ None

-- One of the five changes of a write into an objects directory, whose temporary path has a number, and whose object an id:
-- an empty file with time 0 at the spot of the temporary path; at most one more piece in the file to which that path leads; the
-- directory of the object; a rename from the spot of the temporary path to that of the object's path; the removal of the spot of the
-- temporary path. No write puts a link or sets a time.
abbrev pub IsOneOfFive : Tree → Path → (number : ℕ) → ObjectId → Change → Type 0
IsOneOfFive tree objects number id (PutFile path time bytes) = (time ≡ 0) × (bytes ≡ []) × (spot tree (temp_path objects number) ≡ Ok path)
IsOneOfFive tree objects number id (Append path bytes) = (length bytes ≤ piece_size) × (file_spot tree (temp_path objects number) ≡ Ok path)
IsOneOfFive tree objects number id (MakeDir path dev) = spot tree (prefix_path objects id) ≡ Ok path
IsOneOfFive tree objects number id (Rename from to) = (spot tree (temp_path objects number) ≡ Ok from) × (spot tree (loose_path objects id) ≡ Ok to)
IsOneOfFive tree objects number id (Remove path) = spot tree (temp_path objects number) ≡ Ok path
IsOneOfFive tree objects number id (PutLink path target) = ⊥
IsOneOfFive tree objects number id (SetTime path time) = ⊥

-- A write changes the tree by one of its five changes. Its temporary path has the number that this turn asks to make, or that
-- of the file that the write made before; its object has the id that the write names.
pub record ChangesInWrite (first : Volume) (past : List Event) (handle begun : ℕ) (w : ToWrite) (ask : DiskAsk) (change : Change) : Type 0 where
  pub number : ℕ
  pub below : number < temp_names
  pub own : (ask ≡ asks.NewFile (temp_path w.objects number)) ⊎ DoneSince first past handle begun (asks.NewFile (temp_path w.objects number))
  pub one : IsOneOfFive (tree_of (disk_after first past).state) w.objects number (name_to_write w) change

-- a turn changes the tree only in a write
abbrev pub ChangesInTask : Volume → List Event → (handle : ℕ) → Store → (begun : ℕ) → Task → DiskAsk → Option Change → Type 0
ChangesInTask first past handle store begun task ask None = Unit {0}
ChangesInTask first past handle store begun (MakeCall (Write kind size bytes known)) ask (Some change) =
    ChangesInWrite first past handle begun (to_write store.parts.objects store.parts.object_hash kind size bytes known) ask change
ChangesInTask first past handle store begun task ask (Some change) = ⊥

-- a turn changes the tree as its ask does, if it asks for anything: only a call of the disk changes the tree
abbrev pub ChangesAsAsked : Volume → List Event → (handle : ℕ) → Store → (begun : ℕ) → Task → Option Ask → Option Change → Type 0
ChangesAsAsked first past handle store begun task None change = change ≡ None
ChangesAsAsked first past handle store begun task (Some (work_asks.Disk ask)) change = ChangesInTask first past handle store begun task ask change
ChangesAsAsked first past handle store begun task (Some (work_asks.Core event)) change = change ≡ None
ChangesAsAsked first past handle store begun task (Some (work_asks.NewCore slots folders)) change = change ≡ None
