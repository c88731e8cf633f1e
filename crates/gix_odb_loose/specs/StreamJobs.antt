-- A write from a source in progress, turn by turn. No public clause cites this.
pub mod Reads
pub mod Progress
pub mod AtStage
pub mod SameAsks
pub mod Standing
use Rattle.std.specs.Prelude.{◌≡◌, ◌⊎◌, ℕ, List, Option, Some, None, Result, Ok, Err}
use Rattle.odb_disk.specs.declared.ask.DiskAsk.{DiskAsk}
use Rattle.odb_disk.specs.declared.ask.DiskAnswer.{DiskAnswer}
use Rattle.odb_disk.specs.Tree.{State}
use Rattle.gix_hash.specs.declared.object_id.ObjectId.{ObjectId}
use Rattle.gix_odb_loose.specs.Asked.{AreAllCalls}
use Rattle.gix_odb_loose.specs.Exchanges.{Exchange}
use Rattle.gix_odb_loose.specs.WriteOrder.{error_from}
use Rattle.gix_odb_loose.specs.declared.write_streamed.StreamJob.{StreamJob}
use Rattle.gix_odb_loose.specs.declared.write.Error.{Error}
use Rattle.gix_odb_loose.specs.declared.write.Error.TheVariants as errors
use Rattle.gix_odb_loose.specs.declared.write_order.WriteAsk.{WriteAsk}
use Rattle.gix_odb_loose.specs.declared.write_order.WriteAsk.TheVariants as wants
use Rattle.gix_odb_loose.specs.declared.write_order.Refusal.{Refusal}
use Rattle.gix_odb_loose.specs.declared.write_order.WriteHead.{WriteHead}
use Rattle.gix_odb_loose.specs.StreamJobs.Progress.{Begun}
use Rattle.gix_odb_loose.specs.StreamJobs.Standing.{StandsAt, StandsBefore, WaitsAt, BreaksAt, IsAtItsEnd, IsBrokenOff}

-- a write asks the disk next
abbrev pub IsUnderway : Begun → Option State → ℕ → List Exchange → Option (List ℕ) → ℕ → StreamJob → Type 0
IsUnderway w state now past rest source_now job = StandsAt w state now past rest source_now job job.stage

-- a write that ran out of memory
abbrev pub IsBroken : Begun → Option State → ℕ → List Exchange → Option (List ℕ) → ℕ → StreamJob → Type 0
IsBroken w state now past rest source_now job = BreaksAt w state now past rest source_now job job.stage

-- after one turn: the write goes on, ends, or ran out of memory
abbrev pub TurnsTo : {E : Type 0} → Begun → Option State → ℕ → List Exchange → Option (List ℕ) → ℕ → StreamJob → Result (Option (Result ObjectId Refusal)) E → Type 0
TurnsTo w state now past rest source_now job (Ok None) = IsUnderway w state now past rest source_now job
TurnsTo w state now past rest source_now job (Ok (Some end)) = IsAtItsEnd w state now past rest source_now end
TurnsTo w state now past rest source_now job (Err error) = IsBroken w state now past rest source_now job

abbrev pub GoesOn : {E : Type 0} → Begun → Option State → ℕ → List Exchange → Option (List ℕ) → ℕ → StreamJob → Result (Unit {0}) E → Type 0
GoesOn w state now past rest source_now job (Ok x) = IsUnderway w state now past rest source_now job
GoesOn w state now past rest source_now job (Err error) = IsBroken w state now past rest source_now job

-- what an answer led to: a stage, data that are asked for, or the end
abbrev pub AnsweredTo : Begun → Option State → ℕ → List Exchange → Option (List ℕ) → ℕ → StreamJob → WriteAsk → Type 0
AnsweredTo w state now past rest source_now job (wants.Disk stage) = StandsBefore w state now past rest source_now job stage
AnsweredTo w state now past rest source_now job (wants.Data number written) = WaitsAt w state now past rest source_now job number written
AnsweredTo w state now past rest source_now job (wants.Done end) = (job.head ≡ w.head) × IsAtItsEnd w state now past rest source_now end

-- after one call of the disk: its answer led on, or memory ran out before it
abbrev pub AsksTo : {E : Type 0} → Begun → Option State → ℕ → List Exchange → Option (List ℕ) → ℕ → StreamJob → Result WriteAsk E → Type 0
AsksTo w state now past rest source_now job (Ok wanted) = AnsweredTo w state now past rest source_now job wanted
AsksTo w state now past rest source_now job (Err error) = IsBroken w state now past rest source_now job

-- the exchanges are all calls made since a first disk, and have the property `Stands`
abbrev pub Since : {D : Type 0} → (answered : D → DiskAsk → DiskAnswer → D → Type 0) (first now : D) → (Stands : List Exchange → Type 0) → Type 0
Since answered first now Stands = (past : List Exchange) × AreAllCalls answered past first now × Stands past

-- some write is in progress
abbrev pub IsSomeUnderway : {D : Type 0} → (answered : D → DiskAsk → DiskAnswer → D → Type 0) → D → Option State → ℕ → Option (List ℕ) → ℕ → StreamJob → Type 0
IsSomeUnderway {D} answered disk state now rest source_now job = (w : Begun) × (first : D) × Since answered first disk (λ past. IsUnderway w state now past rest source_now job)

-- after all turns: the end, or memory ran out
abbrev pub RunsTo : {E : Type 0} → Begun → Option State → ℕ → List Exchange → Option (List ℕ) → ℕ → Result (Result ObjectId Refusal) E → Type 0
RunsTo w state now past rest source_now (Ok end) = IsAtItsEnd w state now past rest source_now end
RunsTo w state now past rest source_now (Err error) = IsBrokenOff w state now past rest source_now

-- the result of a write with this end: its reply, or that memory ran out for its error
abbrev pub IsToldBy : WriteHead → Result ObjectId Refusal → Result ObjectId Error → Type 0
IsToldBy head (Ok id) result = result ≡ Ok id
IsToldBy head (Err refusal) result = (result ≡ Err (error_from head refusal)) ⊎ (result ≡ Err errors.NoMemory)
