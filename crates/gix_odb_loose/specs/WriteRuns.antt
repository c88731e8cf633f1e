-- What one write of a store does to its disk, and why it ended as it did.
pub mod ReadBack
pub mod RefusedAsks
use Rattle.std.specs.Prelude.{◌≡◌, ◌⊎◌, ⊤, ℕ, ◌<◌, List, length, Option, Some, Result, Ok, Err, IfSome}
use Rattle.odb_base.specs.Faults.{Rose}
use Rattle.odb_base.specs.Path.{Path}
use Rattle.odb_disk.specs.Tree.{State}
use Rattle.gix_hash.specs.declared.kind.Kind.{Kind as HashKind}
use Rattle.gix_hash.specs.declared.object_id.ObjectId.{ObjectId}
use Rattle.gix_object.specs.declared.kind.Kind.{Kind}
use Rattle.odb_disk.specs.declared.ask.DiskAsk.{DiskAsk}
use Rattle.odb_disk.specs.declared.ask.DiskAnswer.{DiskAnswer}
use Rattle.gix_odb_loose.specs.Asked.{AreAllCalls}
use Rattle.gix_odb_loose.specs.Causes.{WriteCause}
use Rattle.gix_odb_loose.specs.Exchanges.{Exchange, left_by, AreGiven, RenamedNothing}
use Rattle.gix_odb_loose.specs.Store.{store_path, store_hash}
use Rattle.gix_odb_loose.specs.WriteHistory.WentWell.{IsMoved}
use Rattle.gix_odb_loose.specs.WriteHistory.Refused.{IsFailedRead, DoneIn}
use Rattle.gix_odb_loose.specs.WriteHistory.{IsRefusedRun, IsBrokenRun}
use Rattle.gix_odb_loose.specs.WriteAsks.{write_of, RunsAlong}
use Rattle.gix_odb_loose.specs.WriteOwn.{AreOwn, LeavesNothing}
use Rattle.gix_odb_loose.specs.WriteNames.{name_for}
use Rattle.gix_odb_loose.specs.WriteOrder.{temp_names, error_from}
use Rattle.gix_odb_loose.specs.WriteStreams.{OtherLength}
use Rattle.gix_odb_loose.specs.WriteRuns.ReadBack.{ReadsBack}
use Rattle.gix_odb_loose.specs.declared.store.Store.{Store}
use Rattle.gix_odb_loose.specs.declared.write.Error.{Error}
use Rattle.gix_odb_loose.specs.declared.write.Error.TheVariants as errors
use Rattle.gix_odb_loose.specs.declared.write.Message.TheVariants as messages
use Rattle.gix_odb_loose.specs.declared.write_order.Refusal.{Refusal}
use Rattle.gix_odb_loose.specs.declared.write_order.WriteHead.{WriteHead}
use Rattle.gix_odb_loose.specs.WriteRuns.RefusedAsks.{Refuses, FoundThere}

-- the head of a write into a store
abbrev pub write_head : Store → Kind → ℕ → WriteHead
write_head store kind size = record { objects = store_path store; kind = kind; size = size }

-- The exchanges of a write that was refused with this error: all went well up to an ask that was refused, or up to the end or a
-- failure of the source, and then the file that was made was asked to be removed. Memory may run out at any time, also for the
-- paths of an error.
abbrev pub IsRefusedWrite : WriteHead → (Named : ObjectId → Type 0) (SourceFailed : Type 0) (Counted : ℕ → Type 0) → List Exchange → Error → Type 0
IsRefusedWrite head Named SourceFailed Counted exchanges error =
    ((refusal : Refusal) × IsRefusedRun head Named SourceFailed Counted refusal exchanges × ((error ≡ error_from head refusal) ⊎ (error ≡ errors.NoMemory))) ⊎
    (IsBrokenRun head Named SourceFailed Counted exchanges × (error ≡ errors.NoMemory))

-- the object gets this id, where the source reports its data
abbrev pub NamedFrom : WriteHead → HashKind → (known : Option ObjectId) → Option (List ℕ) → ObjectId → Type 0
NamedFrom head hash known source id = IfSome source (λ bytes. id ≡ name_for known hash head bytes)

-- The last exchange renamed the temporary file to the object's name, after the header and all data were appended to it. There
-- are as many data as the size says, and the id is the known one, or that of header and data.
pub record Writes (head : WriteHead) (hash : HashKind) (known : Option ObjectId) (source : Option (List ℕ)) (state new : Option State) (exchanges : List Exchange) (id : ObjectId) : Type 0 where
  pub bytes : List ℕ
  pub number : ℕ
  pub below : number < temp_names
  pub moved : IsMoved head number id bytes exchanges
  pub size : length bytes ≡ head.size
  pub name : id ≡ name_for known hash head bytes
  pub whole : IfSome source (λ all. all ≡ bytes)
  -- where the disk reports its states, the object's path reads as the header and the data
  pub read_back : IfSome state (λ _. ReadsBack head number id bytes (left_by state moved.before) new)

-- A read of the source failed after what was appended, and the removal of the temporary file was asked next.
abbrev pub IsStoppedBySource : WriteHead → List Exchange → Result ObjectId Error → Type 0
IsStoppedBySource head exchanges result = IsFailedRead head exchanges × ((result ≡ Err (errors.Io messages.StreamData head.objects)) ⊎ (result ≡ Err errors.NoMemory))

-- ---- a write as a whole

-- where the data of a write come from
pub data Content : Type 0 where
  -- these bytes are in memory, and no read of them fails
  AtHand : (bytes : List ℕ) → Content
  -- a source has `left` left, if it reports that; its counts of faults before the write and after it
  Streamed : (left : Option (List ℕ)) (before now : ℕ) → Content

abbrev pub bytes_told : Content → Option (List ℕ)
bytes_told (AtHand bytes) = Some bytes
bytes_told (Streamed left before now) = left

-- a read of the source failed
abbrev pub HasFailed : Content → Type 0
HasFailed (AtHand bytes) = ⊥
HasFailed (Streamed left before now) = Rose before now

-- the source's count of faults is unchanged
abbrev pub HasNotFailed : Content → Type 0
HasNotFailed (AtHand bytes) = ⊤
HasNotFailed (Streamed left before now) = now ≡ before

-- what a source had left before a write, if it reports that, and its counts of faults
abbrev pub streamed : {S : Type 0} → (left : S → Option (List ℕ)) (faults : S → ℕ) (before now : S) → Content
streamed left faults before now = Streamed (left before) (faults before) (faults now)

-- the state of a disk before a write and after, if it reports that, and its counts of faults; and which exchanges are all calls
-- that were made of it in between
pub record DiskSeen : Type 1 where
  pub state : Option State
  pub state_now : Option State
  pub faults : ℕ
  pub faults_now : ℕ
  pub AreCalls : List Exchange → Type 0

abbrev pub disk_seen : {D : Type 0} → (state : D → Option State) (faults : D → ℕ) (answered : D → DiskAsk → DiskAnswer → D → Type 0) (before now : D) → DiskSeen
disk_seen state faults answered before now =
    record {
      state = state before;
      state_now = state now;
      faults = faults before;
      faults_now = faults now;
      AreCalls = λ exchanges. AreAllCalls answered exchanges before now;
    }

-- a write that was made: what it was given, what it did to the disk, and its result
pub record Write : Type 1 where
  pub head : WriteHead
  pub hash : HashKind
  -- the id that the object is known to have
  pub known : Option ObjectId
  pub content : Content
  pub disk : DiskSeen
  pub answer : Result ObjectId Error

-- a write of this kind and size into a store, by where its data come from, what it did to the disk, and its result
abbrev pub write_into : Store → Kind → (size : ℕ) (known : Option ObjectId) → Content → DiskSeen → Result ObjectId Error → Write
write_into store kind size known content disk answer = record { head = write_head store kind size; hash = store_hash store; known = known; content = content; disk = disk; answer = answer }

-- the object gets this id, if its data are known
abbrev pub GetsName : Write → ObjectId → Type 0
GetsName w id = NamedFrom w.head w.hash w.known (bytes_told w.content) id

-- What a write does to its disk, and why it ended as it did.
pub record WriteRuns (w : Write) : Type 0 where
  -- the calls of the disk that it made, all of them, with their answers and the states after them
  pub exchanges : List Exchange
  pub made : w.disk.AreCalls exchanges
  pub given : AreGiven w.disk.state exchanges
  pub left : w.disk.state_now ≡ left_by w.disk.state exchanges
  -- each is one of the write's own
  pub own : AreOwn w.head (GetsName w) exchanges
  -- and they are those of a write with the same data in memory, if they are known: each is the one that the answers before it
  -- led to, up to the end, or to where the source failed or memory ran out
  pub asks : (bytes : List ℕ) → bytes_told w.content ≡ Some bytes → RunsAlong (write_of w.head w.hash w.known bytes) (HasFailed w.content) exchanges w.answer
  -- no read of the source failed; or one did, and the removal of the temporary file was asked next
  pub spared : HasNotFailed w.content ⊎ IsStoppedBySource w.head exchanges w.answer
  -- if an object was written, the rename to its name was the last step
  pub wrote : (id : ObjectId) → w.answer ≡ Ok id → Writes w.head w.hash w.known (bytes_told w.content) w.disk.state w.disk.state_now exchanges id
  -- a refused write went well up to what refused it, and then removed the temporary file that it made
  pub stopped : (error : Error) → w.answer ≡ Err error → IsRefusedWrite w.head (GetsName w) (HasFailed w.content) (OtherLength (bytes_told w.content) w.head.size) exchanges error
  -- so it made no name of an object, and left no file unless its removal was refused too
  pub unnamed : (error : Error) → w.answer ≡ Err error → RenamedNothing exchanges
  pub cleared : (error : Error) → w.answer ≡ Err error → LeavesNothing w.head exchanges
  -- if no temporary file could be made, the disk is unchanged
  pub untouched : (at : Path) → w.answer ≡ Err (errors.Io messages.CreateTempFile at) → w.disk.state_now ≡ w.disk.state
  -- and it has its cause
  pub refused : (error : Error) → w.answer ≡ Err error
      → WriteCause w.head (GetsName w) (Refuses w.disk.state (Rose w.disk.faults w.disk.faults_now) exchanges) (FoundThere exchanges) (DoneIn exchanges) (HasFailed w.content) ⊤
      (OtherLength (bytes_told w.content) w.head.size) error
