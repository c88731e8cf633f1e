-- What a write from a source began with, and what it did to the disk and took from the source since. No public clause cites this.
use Rattle.std.specs.Prelude.{Result, ◌≡◌, ◌⊎◌, ℕ, ◌+◌, ◌≤◌, List, [], length, Option, Some, IfSome}
use Rattle.odb_base.specs.Faults.{Rose}
use Rattle.odb_disk.specs.Tree.{State, IsTree, tree_of}
use Rattle.gix_hash.specs.declared.kind.Kind.{Kind as HashKind}
use Rattle.gix_hash.specs.declared.object_id.ObjectId.{ObjectId}
use Rattle.gix_object.specs.declared.kind.Kind.{Kind}
use Rattle.gix_odb_loose.specs.Exchanges.{Exchange, left_by, AreGiven, FailByFaults}
use Rattle.gix_odb_loose.specs.Store.{store_hash}
use Rattle.gix_odb_loose.specs.WriteHistory.WentWell.{IsFilled}
use Rattle.gix_odb_loose.specs.WriteNames.{name_for}
use Rattle.gix_odb_loose.specs.WriteOrder.{number_made}
use Rattle.gix_odb_loose.specs.WriteRuns.{write_head, Write, Streamed}
use Rattle.gix_odb_loose.specs.WriteHistory.{IsHistory, IsHistoryOnward, IsHistoryOfEnd, IsBrokenRun}
use Rattle.gix_odb_loose.specs.WriteStreams.{Draws, OtherLength}
use Rattle.gix_odb_loose.specs.declared.write_order.Refusal.{Refusal}
use Rattle.gix_odb_loose.specs.declared.write_order.WriteAsk.{WriteAsk}
use Rattle.gix_odb_loose.specs.declared.write.Error.{Error}
use Rattle.gix_odb_loose.specs.declared.store.Store.{Store}
use Rattle.gix_odb_loose.specs.declared.write.Message.TheVariants as messages
use Rattle.gix_odb_loose.specs.declared.write_order.Refusal.TheVariants as refusals
use Rattle.gix_odb_loose.specs.declared.write_order.WriteHead.{WriteHead}
use Rattle.gix_odb_loose.specs.declared.write_order.WriteStage.{WriteStage}
use Rattle.gix_odb_loose.specs.declared.write_order.WriteStage.TheVariants as stages

-- what a write is about, and the disk and the source at its start
pub record Begun : Type 0 where
  pub head : WriteHead
  pub hash : HashKind
  pub known : Option ObjectId
  pub left : Option (List ℕ)
  pub source_faults : ℕ
  pub state : Option State
  pub faults : ℕ

-- a write into a store at its start
abbrev pub begun_in : Store → Kind → ℕ → Option ObjectId → Option (List ℕ) → ℕ → Option State → ℕ → Begun
begun_in store kind size known left source_faults state faults =
    record { head = write_head store kind size; hash = store_hash store; known = known; left = left; source_faults = source_faults; state = state; faults = faults }

-- the object gets this id: the known one, or that of its header and data
abbrev pub NamedBy : Begun → ObjectId → Type 0
NamedBy w id = IfSome w.left (λ bytes. id ≡ name_for w.known w.hash w.head bytes)

abbrev pub SourceFailed : Begun → ℕ → Type 0
SourceFailed w now = Rose w.source_faults now

-- no read of the source has failed since the write began
abbrev pub IsSpared : Begun → ℕ → Type 0
IsSpared w now = now ≡ w.source_faults

-- the source failed after what was appended, and the temporary file is to be removed
pub record FailedAt (w : Begun) (stage : WriteStage) (past : List Exchange) : Type 0 where
  pub number : ℕ
  pub appended : List ℕ
  pub filled : IsFilled w.head number appended past
  pub is : stage ≡ stages.Removing number (refusals.Io messages.StreamData)

-- reads were made after what was appended
pub record LostAt (w : Begun) (stage : WriteStage) (past : List Exchange) : Type 0 where
  pub number : ℕ
  pub appended : List ℕ
  pub filled : IsFilled w.head number appended past
  pub made : number_made stage ≡ Some number

-- the exchanges so far, and the disk that they left
pub record Did (w : Begun) (state : Option State) (now : ℕ) (past : List Exchange) : Type 0 where
  pub given : AreGiven w.state past
  pub left : state ≡ left_by w.state past
  pub failed : FailByFaults w.faults now past
  pub later : w.faults ≤ now
  -- before the first exchange, nothing is assumed of the disk's tree
  pub tree : (past ≡ []) ⊎ IfSome w.state (λ s. IsTree (tree_of s))

-- the bytes taken so far: at most one more than the size
pub record Took (w : Begun) (rest : Option (List ℕ)) (now : ℕ) (all : List ℕ) : Type 0 where
  pub drawn : Draws w.left rest all
  pub few : length all ≤ w.head.size + 1
  pub later : w.source_faults ≤ now

-- a write that was made, by what it left, its result, and which exchanges are all its calls
abbrev pub write_made : Begun → (AreCalls : List Exchange → Type 0) → Option State → (now source_now : ℕ) → Result ObjectId Error → Write
write_made w AreCalls state now source_now result =
    record {
      head = w.head;
      hash = w.hash;
      known = w.known;
      content = Streamed w.left w.source_faults source_now;
      disk = record { state = w.state; state_now = state; faults = w.faults; faults_now = now; AreCalls = AreCalls };
      answer = result;
    }

-- ---- the history of a write, by where its id comes from and what is known of its source

abbrev pub WentTo : Begun → (source_now : ℕ) (appended : List ℕ) → WriteStage → List Exchange → Type 0
WentTo w source_now appended stage past = IsHistory w.head (NamedBy w) (SourceFailed w source_now) (OtherLength w.left w.head.size) appended stage past

abbrev pub WentToWanted : Begun → (source_now : ℕ) (appended : List ℕ) → WriteAsk → List Exchange → Type 0
WentToWanted w source_now appended wanted past = IsHistoryOnward w.head (NamedBy w) (SourceFailed w source_now) (OtherLength w.left w.head.size) appended wanted past

abbrev pub WentToEnd : Begun → (source_now : ℕ) (appended : List ℕ) → Result ObjectId Refusal → List Exchange → Type 0
WentToEnd w source_now appended end past = IsHistoryOfEnd w.head (NamedBy w) (SourceFailed w source_now) (OtherLength w.left w.head.size) appended end past

abbrev pub BrokeOff : Begun → (source_now : ℕ) → List Exchange → Type 0
BrokeOff w source_now past = IsBrokenRun w.head (NamedBy w) (SourceFailed w source_now) (OtherLength w.left w.head.size) past
