-- What a write with its data in memory has done after its exchanges, and how many these are.
use Rattle.std.specs.Prelude.{◌≡◌, ℕ, ◌+◌, ◌<◌, ◌≤◌, List, [], length, take, Some}
use Rattle.gix_hash.specs.declared.object_id.ObjectId.{ObjectId}
use Rattle.gix_odb_loose.specs.Exchanges.{Exchange}
use Rattle.gix_odb_loose.specs.WriteHistory.{IsHistory, IsHistoryOfEnd}
use Rattle.gix_odb_loose.specs.WriteJobs.{name_of, pieces_of}
use Rattle.gix_odb_loose.specs.WritePieces.{IsInPieces}
use Rattle.gix_odb_loose.specs.WriteStreams.{OtherLength}
use Rattle.gix_odb_loose.specs.declared.write_at_hand.Onward.{Onward}
use Rattle.gix_odb_loose.specs.declared.write_at_hand.Onward.TheVariants.{Stage, End}
use Rattle.gix_odb_loose.specs.declared.write_at_hand.WriteJob.{WriteJob}
use Rattle.gix_odb_loose.specs.declared.write_order.WriteStage.{WriteStage}
use Rattle.gix_odb_loose.specs.declared.write_order.WriteStage.TheVariants as stages

-- the object gets this id
abbrev pub GetsNameOf : WriteJob → ObjectId → Type 0
GetsNameOf job id = id ≡ name_of job

-- there are this many bytes of data, which isn't the size
abbrev pub CountsOf : WriteJob → ℕ → Type 0
CountsOf job actual = OtherLength (Some job.bytes) job.head.size actual

-- the data in the temporary file
abbrev pub data_at : (bytes : List ℕ) → WriteStage → List ℕ
data_at bytes (stages.Making number) = []
data_at bytes (stages.Heading number) = []
data_at bytes (stages.Filling number written) = take written bytes
data_at bytes (stages.Foldering number id) = bytes
data_at bytes (stages.Moving number id) = bytes
data_at bytes (stages.Removing number refusal) = []

-- where a piece is to be appended, there is one, and whole pieces were appended before it
abbrev pub HasNext : (size : ℕ) (bytes : List ℕ) → WriteStage → Type 0
HasNext size bytes (stages.Filling number written) = (written ≤ size) × (written < length bytes) × IsInPieces written
HasNext size bytes stage = Unit {0}

-- its exchanges are the history of a write of these data
pub record HasDone (job : WriteJob) (stage : WriteStage) (past : List Exchange) : Type 0 where
  pub history : IsHistory job.head (GetsNameOf job) ⊥ (CountsOf job) (data_at job.bytes stage) stage past
  pub next : HasNext job.head.size job.bytes stage

-- the same, by what the exchanges led to
abbrev pub HasDoneTo : WriteJob → Onward → List Exchange → Type 0
HasDoneTo job (Stage stage) past = HasDone job stage past
HasDoneTo job (End end) past = IsHistoryOfEnd job.head (GetsNameOf job) ⊥ (CountsOf job) job.bytes end past

-- How many calls of the disk a write with `len` bytes of data has made at a stage: one for each name that it tried, one for the
-- header, one for each piece, and one for the directory.
abbrev pub HasAsked : (len count : ℕ) → WriteStage → Type 0
HasAsked len count (stages.Making number) = count ≡ number
HasAsked len count (stages.Heading number) = count ≡ number + 1
HasAsked len count (stages.Filling number written) = count ≡ number + 2 + pieces_of written
HasAsked len count (stages.Foldering number id) = count ≡ number + 2 + pieces_of len
HasAsked len count (stages.Moving number id) = count ≡ number + 3 + pieces_of len
HasAsked len count (stages.Removing number refusal) = Unit {0}
