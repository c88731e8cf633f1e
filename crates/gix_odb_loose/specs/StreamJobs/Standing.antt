-- A write from a source in progress: at a stage, waiting for data, or at its end. No public clause cites this.
use Rattle.std.specs.Prelude.{◌≡◌, ◌⊎◌, ℕ, List, [], Option, Some, Result, Ok, Err}
use Rattle.odb_disk.specs.Tree.{State}
use Rattle.odb_disk.specs.declared.ask.DiskAsk.{DiskAsk}
use Rattle.gix_hash.specs.declared.kind.Kind.{Kind as HashKind}
use Rattle.gix_hash.specs.declared.object_id.ObjectId.{ObjectId}
use Rattle.gix_odb_loose.specs.Exchanges.{Exchange}
use Rattle.gix_odb_loose.specs.WriteHistory.Refused.{IsFailedRead}
use Rattle.gix_odb_loose.specs.WriteHistory.{GoesWell}
use Rattle.gix_odb_loose.specs.WriteNames.{name_for, Names}
use Rattle.gix_odb_loose.specs.WriteAsks.{IsAlong, IsCutOff}
use Rattle.gix_odb_loose.specs.WriteJobs.{supplied_with}
use Rattle.gix_odb_loose.specs.WriteOrder.{ended_with}
use Rattle.gix_odb_loose.specs.declared.naming.Naming.{Naming}
use Rattle.gix_odb_loose.specs.declared.write_streamed.StreamJob.{StreamJob}
use Rattle.gix_odb_loose.specs.declared.write.Message.TheVariants as messages
use Rattle.gix_odb_loose.specs.declared.write_at_hand.Onward.TheVariants.{Stage}
use Rattle.gix_odb_loose.specs.declared.write_order.Refusal.{Refusal}
use Rattle.gix_odb_loose.specs.declared.write_order.Refusal.TheVariants as refusals
use Rattle.gix_odb_loose.specs.declared.write_order.WriteHead.{WriteHead}
use Rattle.gix_odb_loose.specs.declared.write_order.WriteStage.{WriteStage}
use Rattle.gix_odb_loose.specs.declared.write_order.WriteStage.TheVariants as stages
use Rattle.gix_odb_loose.specs.StreamJobs.Progress.{Begun, NamedBy, SourceFailed, IsSpared, FailedAt, LostAt, Did, Took, WentToEnd, BrokeOff, WentTo}
use Rattle.gix_odb_loose.specs.StreamJobs.AtStage.{removal_at, Named, Holds, HoldsNone, IsReady}
use Rattle.gix_odb_loose.specs.StreamJobs.SameAsks.{at_hand, CutsAt, FollowsAt, FollowsToEnd}

-- a write at a stage, with the removal that this stage requires
pub record Stands (Ready : DiskAsk → Type 0) (w : Begun) (state : Option State) (now : ℕ) (past : List Exchange) (rest : Option (List ℕ)) (source_now : ℕ) (job : StreamJob) (stage : WriteStage) : Type 0 where
  pub appended : List ℕ
  pub all : List ℕ
  pub did : Did w state now past
  pub took : Took w rest source_now all
  pub head : job.head ≡ w.head
  pub removal : Ready job.removal
  pub history : WentTo w source_now appended stage past
  pub holds : Holds w rest appended all job stage
  pub spared : IsSpared w source_now ⊎ FailedAt w stage past
  pub follows : (bytes : List ℕ) → w.left ≡ Some bytes → FollowsAt (at_hand w bytes) (SourceFailed w source_now) stage past

-- it asks the disk next
abbrev pub StandsAt : Begun → Option State → ℕ → List Exchange → Option (List ℕ) → ℕ → StreamJob → WriteStage → Type 0
StandsAt w state now past rest source_now job stage = Stands (λ removal. removal ≡ removal_at w stage) w state now past rest source_now job stage

-- an answer led to a stage: its removal is ready, unless the next temporary name is to be tried
abbrev pub StandsBefore : Begun → Option State → ℕ → List Exchange → Option (List ℕ) → ℕ → StreamJob → WriteStage → Type 0
StandsBefore w state now past rest source_now job stage = Stands (λ removal. IsReady w removal stage) w state now past rest source_now job stage

-- a write that asks for data after `written` bytes
pub record WaitsAt (w : Begun) (state : Option State) (now : ℕ) (past : List Exchange) (rest : Option (List ℕ)) (source_now : ℕ) (job : StreamJob) (number written : ℕ) : Type 0 where
  pub appended : List ℕ
  pub all : List ℕ
  pub did : Did w state now past
  pub took : Took w rest source_now all
  pub head : job.head ≡ w.head
  pub none : job.piece ≡ []
  pub removal : job.removal ≡ removal_at w (stages.Filling number written)
  pub history : GoesWell w.head (NamedBy w) appended (stages.Filling number written) past
  pub holds : HoldsNone w rest written appended all job
  pub spared : IsSpared w source_now
  pub follows : (bytes : List ℕ) → w.left ≡ Some bytes → IsAlong (at_hand w bytes) (Stage (supplied_with (at_hand w bytes) number written)) past

-- a write that ran out of memory between two turns: its removal is ready, if it made its file
pub record BreaksAt (w : Begun) (state : Option State) (now : ℕ) (past : List Exchange) (rest : Option (List ℕ)) (source_now : ℕ) (job : StreamJob) (stage : WriteStage) : Type 0 where
  pub appended : List ℕ
  pub all : List ℕ
  pub did : Did w state now past
  pub took : Took w rest source_now all
  pub removal : IsReady w job.removal stage
  pub history : WentTo w source_now appended stage past
  pub spared : IsSpared w source_now ⊎ LostAt w stage past
  pub follows : (bytes : List ℕ) → w.left ≡ Some bytes → CutsAt (at_hand w bytes) stage past

-- the data have ended, with the id from their naming
abbrev pub IsEnded : (number written size : ℕ) → Option Naming → WriteStage → Type 0
IsEnded number written size naming stage =
    (known : Option ObjectId) (hash : HashKind) (head : WriteHead) (all : List ℕ) → Names known hash head all naming → stage ≡ ended_with size (name_for known hash head all) number written

-- ---- the end of a write

abbrev pub EndsWith : Begun → Option (List ℕ) → ℕ → (appended all : List ℕ) → List Exchange → Result ObjectId Refusal → Type 0
EndsWith w rest source_now appended all past (Ok id) =
    WentToEnd w source_now appended (Ok id) past × Named w rest appended all id
EndsWith w rest source_now appended all past (Err refusal) = WentToEnd w source_now appended (Err refusal) past

pub record IsAtItsEnd (w : Begun) (state : Option State) (now : ℕ) (past : List Exchange) (rest : Option (List ℕ)) (source_now : ℕ) (end : Result ObjectId Refusal) : Type 0 where
  pub appended : List ℕ
  pub all : List ℕ
  pub did : Did w state now past
  pub took : Took w rest source_now all
  pub ends : EndsWith w rest source_now appended all past end
  pub spared : IsSpared w source_now ⊎ ((end ≡ Err (refusals.Io messages.StreamData)) × IsFailedRead w.head past)
  pub follows : (bytes : List ℕ) → w.left ≡ Some bytes → FollowsToEnd (at_hand w bytes) (SourceFailed w source_now) end past

-- a write that ran out of memory, and asked to remove the temporary file that it made
pub record IsBrokenOff (w : Begun) (state : Option State) (now : ℕ) (past : List Exchange) (rest : Option (List ℕ)) (source_now : ℕ) : Type 0 where
  pub all : List ℕ
  pub did : Did w state now past
  pub run : BrokeOff w source_now past
  pub took : Took w rest source_now all
  pub spared : IsSpared w source_now ⊎ IsFailedRead w.head past
  pub follows : (bytes : List ℕ) → w.left ≡ Some bytes → IsCutOff (at_hand w bytes) past
