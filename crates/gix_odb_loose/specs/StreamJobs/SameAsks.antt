-- A write from a source makes the asks of the same write with its data in memory. No public clause cites this.
use Rattle.std.specs.Prelude.{◌≡◌, ◌⊎◌, ℕ, List, Result, Err}
use Rattle.gix_hash.specs.declared.object_id.ObjectId.{ObjectId}
use Rattle.gix_odb_loose.specs.Exchanges.{Exchange}
use Rattle.gix_odb_loose.specs.WriteAsks.{write_of, IsAlong, IsCutOff}
use Rattle.gix_odb_loose.specs.WriteOrder.{number_made}
use Rattle.gix_odb_loose.specs.declared.write.Message.TheVariants as messages
use Rattle.gix_odb_loose.specs.declared.write_at_hand.Onward.TheVariants.{Stage, End}
use Rattle.gix_odb_loose.specs.declared.write_order.Refusal.{Refusal}
use Rattle.gix_odb_loose.specs.declared.write_order.Refusal.TheVariants as refusals
use Rattle.gix_odb_loose.specs.declared.write_order.WriteStage.{WriteStage}
use Rattle.gix_odb_loose.specs.declared.write_order.WriteStage.TheVariants as stages
use Rattle.gix_odb_loose.specs.declared.write_at_hand.WriteJob.{WriteJob}
use Rattle.gix_odb_loose.specs.StreamJobs.Progress.{Begun}

-- the same write with its data in memory
abbrev pub at_hand : Begun → List ℕ → WriteJob
at_hand w bytes = write_of w.head w.hash w.known bytes

-- where a write is broken off at a stage, its asks led to a stage with the same temporary file
pub record CutsAt (job : WriteJob) (stage : WriteStage) (past : List Exchange) : Type 0 where
  pub reached : WriteStage
  pub made : number_made reached ≡ number_made stage
  pub along : IsAlong job (Stage reached) past

-- the source failed, and the temporary file is to be removed
pub record FailsAt (job : WriteJob) (Stopped : Type 0) (stage : WriteStage) (past : List Exchange) : Type 0 where
  pub number : ℕ
  pub failed : Stopped
  pub is : stage ≡ stages.Removing number (refusals.Io messages.StreamData)
  pub cuts : CutsAt job stage past

abbrev pub FollowsAt : WriteJob → (Stopped : Type 0) → WriteStage → List Exchange → Type 0
FollowsAt job Stopped stage past = IsAlong job (Stage stage) past ⊎ FailsAt job Stopped stage past

abbrev pub FollowsToEnd : WriteJob → (Stopped : Type 0) → Result ObjectId Refusal → List Exchange → Type 0
FollowsToEnd job Stopped end past = IsAlong job (End end) past ⊎ (Stopped × (end ≡ Err (refusals.Io messages.StreamData)) × IsCutOff job past)
