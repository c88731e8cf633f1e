-- A write on a handle: its object, and its asks of the disk and changes since it began.
use Rattle.std.specs.Prelude.{◌≡◌, ◌⊎◌, ℕ, ◌+◌, ◌<◌, ◌≤◌, Bool, true, List, take, slice_get, Option, Some, None}
use Rattle.odb_base.specs.Path.{Path}
use Rattle.odb_disk.specs.Ask.{op_of, answer_now}
use Rattle.odb_disk.specs.MemDisk.{Volume}
use Rattle.odb_disk.specs.Tree.Way.{SameOnWay}
use Rattle.odb_disk.specs.declared.ask.DiskAnswer.{DiskAnswer}
use Rattle.odb_disk.specs.declared.ask.DiskAnswer.TheVariants as answers
use Rattle.odb_disk.specs.declared.ask.DiskAsk.{DiskAsk}
use Rattle.odb_disk.specs.declared.ask.DiskAsk.TheVariants as asks
use Rattle.odb_disk.specs.declared.change.Change.{Change}
use Rattle.odb_disk.specs.declared.change.Change.TheVariants.{PutFile, Rename}
use Rattle.odb_disk.specs.declared.disk_error.DiskError.{DiskError}
use Rattle.odb_disk.specs.declared.disk_error.DiskError.TheVariants as disk_errors
use Rattle.gix_hash.specs.declared.kind.Kind.{Kind as HashKind}
use Rattle.gix_hash.specs.declared.object_id.ObjectId.{ObjectId}
use Rattle.gix_object.specs.declared.kind.Kind.{Kind}
use Rattle.gix_odb_loose.specs.Causes.{WriteCause}
use Rattle.gix_odb_loose.specs.WriteNames.{name_for}
use Rattle.gix_odb_loose.specs.WriteOrder.{temp_path}
use Rattle.gix_odb_loose.specs.WriteRuns.RefusedAsks.{IsOnWay}
use Rattle.gix_odb_loose.specs.WriteStreams.{OtherLength}
use Rattle.gix_odb_loose.specs.declared.write.Error as loose_write
use Rattle.gix_odb_loose.specs.declared.write_order.WriteHead.{WriteHead}
use Rattle.gix_odb_history.specs.Event.{OfDisk, Event}
use Rattle.gix_odb_history.specs.Run.{Fails, IsTurnOf, TellsCall, disk_after, tree_at}
use Rattle.gix_odb_calls.specs.declared.call.Call.{Call}
use Rattle.gix_odb_calls.specs.declared.call.Call.TheVariants.{Write}
use Rattle.gix_odb_history.specs.declared.record.Did.{Did}
use Rattle.gix_odb_history.specs.declared.record.Did.TheVariants.{Disk}

-- ---- what is written

-- an object that is to be written into the objects directory of a store of a hash
pub record ToWrite : Type 0 where
  pub objects : Path
  pub hash : HashKind
  pub kind : Kind
  pub size : ℕ
  pub bytes : List ℕ
  pub known : Option ObjectId

-- the object of a write into an objects directory
abbrev pub to_write : (objects : Path) (hash : HashKind) (kind : Kind) (size : ℕ) (bytes : List ℕ) (known : Option ObjectId) → ToWrite
to_write objects hash kind size bytes known = record { objects = objects; hash = hash; kind = kind; size = size; bytes = bytes; known = known }

abbrev pub call_to_write : ToWrite → Call
call_to_write w = Write w.kind w.size w.bytes w.known

abbrev pub head_to_write : ToWrite → WriteHead
head_to_write w = record { objects = w.objects; kind = w.kind; size = w.size }

-- its id: the known one, or that of header and data, by the hash of the store
abbrev pub name_to_write : ToWrite → ObjectId
name_to_write w = name_for w.known (w.hash) (head_to_write w) w.bytes

-- ---- the asks of the disk

-- in the event at a place, which is a turn of the handle, this call of the disk was made and got this answer
pub record AskedAt (first : Volume) (events : List Event) (handle place : ℕ) (ask : DiskAsk) (answer : DiskAnswer) : Type 0 where
  pub event : Event
  pub there : slice_get events place ≡ Some event
  pub turn : IsTurnOf handle event
  pub did : TellsCall (disk_after first (take place events)) ask event.entry.did
  pub asked : event.asked ≡ OfDisk ask answer
  pub given : answer ≡ answer_now (disk_after first (take place events)) ask

-- this call and answer, in some turn of the handle since its call began. (Events are numbered from 1, so the events after the
-- step that began it are those from place `begun` on.)
pub record AskedSince (first : Volume) (events : List Event) (handle begun : ℕ) (ask : DiskAsk) (answer : DiskAnswer) : Type 0 where
  pub place : ℕ
  pub later : begun ≤ place
  pub at : AskedAt first events handle place ask answer

-- this call of the disk was made, and failed: the record of that turn says so
pub record AskFailed (first : Volume) (events : List Event) (handle begun : ℕ) (ask : DiskAsk) : Type 0 where
  pub asked : AskedSince first events handle begun ask (answers.Refused disk_errors.Failed)
  pub failed : Fails asked.at.event.entry.did

-- this call of the disk was made, and failed, or found a part of its way absent, of the wrong kind or a link loop
abbrev pub RefusedSince : Volume → List Event → (handle begun : ℕ) → DiskAsk → Type 0
RefusedSince first events handle begun ask =
    AskFailed first events handle begun ask ⊎ ((error : DiskError) × IsOnWay error × AskedSince first events handle begun ask (answers.Refused error))

-- something was there already when a call of the disk was made
abbrev pub TakenSince : Volume → List Event → (handle begun : ℕ) → DiskAsk → Type 0
TakenSince first events handle begun ask = AskedSince first events handle begun ask (answers.Refused disk_errors.Exists)

-- a call of the disk was made, and was done
abbrev pub DoneSince : Volume → List Event → (handle begun : ℕ) → DiskAsk → Type 0
DoneSince first events handle begun ask = AskedSince first events handle begun ask answers.Done

-- The cause of an error of a write. Its data are in memory, so no source of them fails.
abbrev pub CauseOfWrite : Volume → List Event → (handle begun : ℕ) → ToWrite → loose_write.Error → Type 0
CauseOfWrite first events handle begun w error =
    WriteCause (head_to_write w) (λ id. id ≡ name_to_write w) (RefusedSince first events handle begun) (TakenSince first events handle begun)
    (DoneSince first events handle begun) ⊥ ⊥ (OtherLength (Some w.bytes) w.size) error

-- ---- what its turns changed

-- each turn of the handle since its call began has Q
abbrev pub EachTurn : List Event → (handle begun : ℕ) → (Event → Type 0) → Type 0
EachTurn events handle begun Q = (place : ℕ) (e : Event) → begun ≤ place → slice_get events place ≡ Some e → IsTurnOf handle e → Q e

abbrev pub IsRename : Option Change → Type 0
IsRename (Some (Rename from to)) = Unit {0}
IsRename change = ⊥

abbrev pub IsNewFile : Option Change → Type 0
IsNewFile (Some (PutFile path time bytes)) = Unit {0}
IsNewFile change = ⊥

-- none of its turns changed anything
abbrev pub ChangedNothing : List Event → (handle begun : ℕ) → Type 0
ChangedNothing events handle begun = EachTurn events handle begun (λ e. e.entry.change ≡ None)

-- none of its turns renamed
abbrev pub NoTurnRenamed : List Event → (handle begun : ℕ) → Type 0
NoTurnRenamed events handle begun = EachTurn events handle begun (λ e. ¬ (IsRename e.entry.change))

-- the call that makes a temporary file with a number, if there is one
abbrev pub IsMaking : Path → Option ℕ → Did → Type 0
IsMaking objects None did = ⊥
IsMaking objects (Some number) did =
    (failed : Bool) × (did ≡ Disk (op_of (asks.NewFile (temp_path objects number))) (temp_path objects number) failed)

-- none of its turns made a file, but for the temporary file with this number, if there is one
abbrev pub TurnsMadeOnly : List Event → (handle begun : ℕ) → Path → Option ℕ → Type 0
TurnsMadeOnly events handle begun objects number = EachTurn events handle begun (λ e. IsNewFile e.entry.change → IsMaking objects number e.entry.did)

-- the event at a place left a path and its way unchanged, with the file that the path leads to
abbrev pub LeavesAlone : Volume → List Event → Path → (place : ℕ) → Type 0
LeavesAlone first events path place = SameOnWay (tree_at first events place) (tree_at first events (place + 1)) true path

-- From one place of a run to another, only the turns of a handle changed anything on the way of a path, including the file that
-- it leads to.
abbrev pub LeftAlone : Volume → List Event → (handle : ℕ) → Path → (from to : ℕ) → Type 0
LeftAlone first events handle path from to =
    (place : ℕ) (e : Event) → from ≤ place → place < to → slice_get events place ≡ Some e → ¬ (IsTurnOf handle e)
    → LeavesAlone first events path place
