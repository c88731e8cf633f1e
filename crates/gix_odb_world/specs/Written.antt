-- How a write on a handle ends, and what that promises.
use Rattle.std.specs.Prelude.{◌≡◌, ◌⊎◌, ℕ, ◌+◌, ◌≤◌, false, List, [], ◌∷◌, ◌++◌, length, Option, Some, None, Ok}
use Rattle.odb_base.specs.Path.{Path}
use Rattle.odb_disk.specs.MemDisk.{Volume}
use Rattle.odb_disk.specs.Tree.Follow.{read_of}
use Rattle.odb_disk.specs.Tree.Way.{crosses}
use Rattle.odb_disk.specs.Tree.Write.{change_of_rename}
use Rattle.odb_disk.specs.declared.ask.DiskAnswer.{DiskAnswer}
use Rattle.odb_disk.specs.declared.ask.DiskAnswer.TheVariants as answers
use Rattle.odb_disk.specs.declared.ask.DiskAsk.TheVariants as asks
use Rattle.odb_disk.specs.declared.change.Change.TheVariants.{Rename}
use Rattle.gix_hash.specs.declared.object_id.ObjectId.{ObjectId}
use Rattle.gix_object.specs.Loose.{header_of}
use Rattle.gix_odb_loose.specs.LooseFile.{loose_path}
use Rattle.gix_odb_loose.specs.WriteOrder.{temp_path}
use Rattle.gix_odb_loose.specs.declared.write.Error as loose_write
use Rattle.gix_odb_loose.specs.declared.write.Error.TheVariants as loose_errors
use Rattle.gix_odb_loose.specs.declared.write.Message.TheVariants as messages
use Rattle.gix_odb_calls.specs.declared.load_index.Error as load
use Rattle.gix_odb.specs.Refreshed.{IsCaused, WasUnread}
use Rattle.gix_odb_world.specs.AtWork.{Modes, Store, setting_in}
use Rattle.gix_odb_history.specs.Event.{Event}
use Rattle.gix_odb_history.specs.Run.{tree_at}
use Rattle.gix_odb_world.specs.Refused.{LoadCause, RefusedSince}
use Rattle.gix_odb_world.specs.Told.{told_since, view_then}
use Rattle.gix_odb_history.specs.Writing.{AskedAt, CauseOfWrite, ChangedNothing, LeftAlone, TurnsMadeOnly, NoTurnRenamed, ToWrite, name_to_write}
use Rattle.gix_odb_calls.specs.declared.call.CallError.TheVariants as call_errors
use Rattle.gix_odb_calls.specs.declared.call.Reply.{Reply}
use Rattle.gix_odb_calls.specs.declared.call.Reply.TheVariants as replies
use Rattle.gix_odb_calls.specs.declared.write.Error.TheVariants as write_errors

-- A write that gave the object its name, in the last event. The temporary file was made at the place `made`.
pub record HasWritten (first : Volume) (events : List Event) (handle begun : ℕ) (w : ToWrite) (id : ObjectId) : Type 0 where
  pub size : length w.bytes ≡ w.size
  pub name : id ≡ name_to_write w
  pub past : List Event
  pub last : Event
  pub is : events ≡ past ++ last ∷ []
  pub number : ℕ
  pub made : ℕ
  pub later : begun ≤ made
  pub makes : AskedAt first events handle made (asks.NewFile (temp_path w.objects number)) answers.Done
  -- only the last turn renamed
  pub source : Path
  pub target : Path
  pub renames : change_of_rename (tree_at first events (length past)) (temp_path w.objects number) (loose_path w.objects id)
      ≡ Ok (Rename source target)
  pub change : last.entry.change ≡ Some (Rename source target)
  pub only : NoTurnRenamed past handle begun
  -- where nobody else touched the file, and no link was replaced on the way of the object's path, this reads as the object
  pub reads : LeftAlone first events handle (temp_path w.objects number) (made + 1) (length past)
      → crosses (tree_at first events (length past)) (loose_path w.objects id) target ≡ false
      → read_of (tree_at first events (length past + 1)) (loose_path w.objects id) ≡ Ok (header_of w.kind w.size ++ w.bytes, 0)

-- in the event at a place, which is a turn of the handle, it was asked to remove what a path names
abbrev pub AsksRemoval : Volume → List Event → (handle place : ℕ) → Path → Type 0
AsksRemoval first events handle place path = (answer : DiskAnswer) × AskedAt first events handle place (asks.Remove path) answer

-- A refused write made no name of an object. It made no file, or its last turn asked to remove the one that it made.
pub record WasRefused (first : Volume) (events : List Event) (handle begun : ℕ) (w : ToWrite) (error : loose_write.Error) : Type 0 where
  pub unnamed : NoTurnRenamed events handle begun
  pub made : Option ℕ
  pub makes : TurnsMadeOnly events handle begun w.objects made
  pub cleared : (made ≡ None)
      ⊎ ((number : ℕ) × (past : ℕ) × (made ≡ Some number) × (length events ≡ past + 1) × AsksRemoval first events handle past (temp_path w.objects number))
  -- where no temporary file could be made, it changed nothing
  pub untouched : (at : Path) → error ≡ loose_errors.Io messages.CreateTempFile at → ChangedNothing events handle begun
  pub cause : CauseOfWrite first events handle begun w error

-- A write whose store could not be listed changed nothing. The store was unread, by the snapshot of the handle as the write began and by the
-- core's list, and the error has its cause in an answer to the handle since then, or in what its core refused.
pub record WasUnlisted (events : List Event) (handle : ℕ) (store : Store) (modes : Modes) (begun : ℕ) (error : load.Error) : Type 0 where
  pub unchanged : ChangedNothing events handle begun
  pub unread : WasUnread (view_then events handle modes.core begun) (told_since events handle begun)
  pub cause : LoadCause (RefusedSince events handle modes.core begun) (IsCaused (setting_in store) (told_since events handle begun) error) error

-- what the reply to a write promises. A write ends with no other reply
abbrev pub PromiseOfWrite : Volume → List Event → (handle : ℕ) → Store → (modes : Modes) → (begun : ℕ) → ToWrite → Reply → Type 0
PromiseOfWrite first events handle store modes begun w (replies.Wrote id) = HasWritten first events handle begun w id
PromiseOfWrite first events handle store modes begun w (replies.Refused (call_errors.Write (write_errors.LooseWrite error))) =
    WasRefused first events handle begun w error
PromiseOfWrite first events handle store modes begun w (replies.Refused (call_errors.Write (write_errors.LoadIndex error))) =
    WasUnlisted events handle store modes begun error
PromiseOfWrite first events handle store modes begun w reply = ⊥
