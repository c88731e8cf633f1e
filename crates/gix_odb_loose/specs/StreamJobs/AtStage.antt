-- What a write from a source holds at each stage: its data, its id, the removal of its file. No public clause cites this.
use Rattle.std.specs.Prelude.{◌≡◌, ◌≢◌, ℕ, ◌+◌, ◌≤◌, Bool, true, false, List, [], ◌++◌, length, Option, if◌then◌else◌}
use Rattle.odb_disk.specs.declared.ask.DiskAsk.{DiskAsk}
use Rattle.odb_disk.specs.declared.ask.DiskAsk.TheVariants as asks
use Rattle.gix_hash.specs.declared.kind.Kind.{Kind as HashKind}
use Rattle.gix_hash.specs.declared.object_id.ObjectId.{ObjectId}
use Rattle.gix_odb_loose.specs.WriteJobs.{writes_left}
use Rattle.gix_odb_loose.specs.WritePieces.{IsInPieces, room_behind}
use Rattle.gix_odb_loose.specs.WriteNames.{name_for, Names}
use Rattle.gix_odb_loose.specs.WriteOrder.{temp_path, number_in}
use Rattle.gix_odb_loose.specs.WriteStreams.{IsAtEnd}
use Rattle.gix_odb_loose.specs.declared.naming.Naming.{Naming}
use Rattle.gix_odb_loose.specs.declared.write_streamed.StreamJob.{StreamJob}
use Rattle.gix_odb_loose.specs.declared.write_order.WriteAsk.{WriteAsk}
use Rattle.gix_odb_loose.specs.declared.write_order.WriteAsk.TheVariants as wants
use Rattle.gix_odb_loose.specs.declared.write_order.WriteHead.{WriteHead}
use Rattle.gix_odb_loose.specs.declared.write_order.WriteStage.{WriteStage}
use Rattle.gix_odb_loose.specs.declared.write_order.WriteStage.TheVariants as stages
use Rattle.gix_odb_loose.specs.StreamJobs.Progress.{Begun}

abbrev pub removal_at : Begun → WriteStage → DiskAsk
removal_at w stage = asks.Remove (temp_path w.head.objects (number_in stage))

-- ---- the data

-- none is taken; or those that aren't appended are in the piece; or all are appended and named
abbrev pub Unread : Begun → List ℕ → StreamJob → Type 0
Unread w all job = (all ≡ []) × (job.has_ended ≡ false) × Names w.known w.hash w.head [] job.naming

abbrev pub Named : Begun → Option (List ℕ) → (appended all : List ℕ) → ObjectId → Type 0
Named w rest appended all id = IsAtEnd rest × (all ≡ appended) × (id ≡ name_for w.known w.hash w.head appended)

pub record HasPiece (w : Begun) (rest : Option (List ℕ)) (written : ℕ) (appended all piece : List ℕ) (naming : Option Naming) (has_ended : Bool) : Type 0 where
  pub is : all ≡ appended ++ piece
  pub named : Names w.known w.hash w.head all naming
  pub within : written ≤ w.head.size
  pub ended : has_ended ≡ true → IsAtEnd rest

-- the pieces before a piece are whole, and it is as long as there is room, unless the source is at its end
pub record IsNext (w : Begun) (written : ℕ) (piece : List ℕ) (has_ended : Bool) : Type 0 where
  pub some : piece ≢ []
  pub few : length piece ≤ room_behind w.head.size written
  pub in_pieces : IsInPieces written
  pub full : has_ended ≡ false → length piece ≡ room_behind w.head.size written

-- where a piece is asked for, those before it are whole, unless the source is at its end
abbrev pub HoldsNone : Begun → Option (List ℕ) → (written : ℕ) → (appended all : List ℕ) → StreamJob → Type 0
HoldsNone w rest written appended all job = HasPiece w rest written appended all [] job.naming job.has_ended × (job.has_ended ≡ false → IsInPieces written)

-- where a stage asks the disk: a piece that is to be appended has some bytes
abbrev pub Holds : Begun → Option (List ℕ) → (appended all : List ℕ) → StreamJob → WriteStage → Type 0
Holds w rest appended all job (stages.Making number) = Unread w all job
Holds w rest appended all job (stages.Heading number) = Unread w all job
Holds w rest appended all job (stages.Filling number written) = HasPiece w rest written appended all job.piece job.naming job.has_ended × IsNext w written job.piece job.has_ended
Holds w rest appended all job (stages.Foldering number id) = Named w rest appended all id
Holds w rest appended all job (stages.Moving number id) = Named w rest appended all id
Holds w rest appended all job (stages.Removing number refusal) = Unit {0}

-- the removal is ready, but where the next temporary name is to be tried
abbrev pub IsReady : Begun → DiskAsk → WriteStage → Type 0
IsReady w removal (stages.Making number) = Unit {0}
IsReady w removal stage = removal ≡ removal_at w stage

-- a write that has asked nothing and read nothing
pub record IsNew (head : WriteHead) (hash : HashKind) (known : Option ObjectId) (job : StreamJob) : Type 0 where
  pub about : job.head ≡ head
  pub stage : job.stage ≡ stages.Making 0
  pub has_ended : job.has_ended ≡ false
  pub naming : Names known hash head [] job.naming
  pub removal : job.removal ≡ asks.Remove (temp_path head.objects 0)

-- ---- the calls that are left

-- how many bytes of data there can be, at most: those read if the source is at its end, else the size and one more
abbrev pub most_of : StreamJob → (written : ℕ) → ℕ
most_of job written = if job.has_ended then written + length job.piece else job.head.size + 1

-- how many bytes of data are written so far
abbrev pub written_at : WriteAsk → ℕ
written_at (wants.Disk (stages.Filling number written)) = written
written_at (wants.Data number written) = written
written_at wanted = 0

-- how many calls of the disk are left, at most, by what is asked for next
abbrev pub calls_left : StreamJob → WriteAsk → ℕ
calls_left job wanted = writes_left (most_of job (written_at wanted)) wanted
