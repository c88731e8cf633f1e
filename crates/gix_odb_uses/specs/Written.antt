-- What a caller knows of objects that it writes: what was done to the disk, and why one wasn't kept or copied.
use Rattle.std.specs.Prelude.{⊤, ◌≡◌, ℕ, Bool, true, false, List, [], length, Option, Some, None, Result, Ok, Err, IfSome}
use Rattle.odb_base.specs.Faults.{Rose}
use Rattle.odb_disk.specs.declared.ask.DiskAsk.{DiskAsk}
use Rattle.odb_disk.specs.declared.ask.DiskAnswer.{DiskAnswer}
use Rattle.odb_disk.specs.Tree.{State}
use Rattle.gix_hash.specs.declared.object_id.ObjectId.{ObjectId}
use Rattle.gix_object.specs.Id.{object_id}
use Rattle.gix_object.specs.declared.kind.Kind.{Kind}
use Rattle.gix_object.specs.declared.kind.Kind.TheVariants.{Blob}
use Rattle.gix_odb_loose.specs.Answers.{FindRefused, path_in}
use Rattle.gix_odb_loose.specs.Asked.{AreAllCalls}
use Rattle.gix_odb_loose.specs.Exchanges.{Exchange}
use Rattle.gix_odb_loose.specs.Store.{store_hash}
use Rattle.gix_odb_loose.specs.WriteRuns.{AtHand, DiskSeen, WriteRuns, write_head, write_into}
use Rattle.gix_odb_loose.specs.WriteRuns.ReadBack.{ReadsBack}
use Rattle.gix_odb_loose.specs.WriteStreams.{OtherLength}
use Rattle.gix_odb_loose.specs.declared.store.Store.{Store}
use Rattle.gix_odb_loose.specs.declared.write.Error.{Error as WriteError}
use Rattle.gix_odb_loose.specs.declared.write.Error.TheVariants as write_errors
use Rattle.gix_odb_uses.specs.Objects.{IsAbsent, IsHeld}
use Rattle.gix_odb_uses.specs.Reads.{MayRead}
use Rattle.gix_odb_uses.specs.declared.error.Error.{Error}
use Rattle.gix_odb_uses.specs.declared.error.Error.TheVariants.{NotKept, NotRead, NotWritten}

-- What was done to the disk is a write of these bytes into a store, with this answer. `WriteRuns` says what a write does: the
-- rename to the object's name is its last step, and a refused write has its cause, makes no name of an object, and leaves no
-- file unless its removal was refused too.
abbrev pub IsWrite : Store → Kind → List ℕ → (known : Option ObjectId) → DiskSeen → Result ObjectId WriteError → Type 0
IsWrite store kind bytes known disk answer = WriteRuns (write_into store kind (length bytes) known (AtHand bytes) disk answer)

-- what was seen of a disk, by which exchanges are the calls of a write
abbrev pub seen_by : {D : Type 0} → (state : D → Option State) (faults : D → ℕ) (before now : D) (AreCalls : List Exchange → Type 0) → DiskSeen
seen_by state faults before now AreCalls =
    record { state = state before; state_now = state now; faults = faults before; faults_now = faults now; AreCalls = AreCalls }

-- ---- bytes that are kept

abbrev pub blob_id : Store → List ℕ → ObjectId
blob_id store bytes = object_id (store_hash store) Blob bytes

-- what a call that keeps bytes did to a disk: the calls of a write, and then a read of the object's path, if any
abbrev pub kept_on : {D : Type 0} → (state : D → Option State) (faults : D → ℕ) (answered : D → DiskAsk → DiskAnswer → D → Type 0) → Store → List ℕ → (before now : D) → DiskSeen
kept_on {D} state faults answered store bytes before now =
    seen_by state faults before now
    (λ exchanges. (between : D) × AreAllCalls answered exchanges before between × MayRead answered (path_in store (blob_id store bytes)) between now)

-- Bytes weren't kept: the write was refused; or they were written, and then the find was refused, or the file doesn't hold
-- them, where the disk reports its state.
abbrev pub IsRefusedKeep : Store → List ℕ → DiskSeen → Error → Type 0
IsRefusedKeep store bytes disk (NotWritten error) = IsWrite store Blob bytes None disk (Err error)
IsRefusedKeep store bytes disk (NotRead error) =
    IsWrite store Blob bytes None disk (Ok (blob_id store bytes)) × FindRefused store (blob_id store bytes) disk.state_now (Rose disk.faults disk.faults_now) error
IsRefusedKeep store bytes disk NotKept =
    IsWrite store Blob bytes None disk (Ok (blob_id store bytes)) × IfSome disk.state_now (λ s. ¬ (IsHeld store (blob_id store bytes) s Blob bytes))

-- ---- an object that is copied

-- an object of the first store was written into the second one under its id, and the write gave this answer
pub record IsCopy (from to : Store) (id : ObjectId) (disk : DiskSeen) (answer : Result ObjectId WriteError) : Type 0 where
  pub kind : Kind
  pub bytes : List ℕ
  -- the file of the first store holds it, where the disk reports its state
  pub held : IfSome disk.state (λ s. IsHeld from id s kind bytes)
  pub written : IsWrite to kind bytes (Some id) disk answer

-- what a call that copies an object did to a disk: a read of its path in the first store, if any, and then the calls of a write
abbrev pub copied_on : {D : Type 0} → (state : D → Option State) (faults : D → ℕ) (answered : D → DiskAsk → DiskAnswer → D → Type 0) → (from : Store) → ObjectId → (before now : D) → DiskSeen
copied_on {D} state faults answered from id before now =
    seen_by state faults before now (λ exchanges. (between : D) × MayRead answered (path_in from id) before between × AreAllCalls answered exchanges between now)

-- it was copied; or there is none to copy, no call of a write was made, and nothing was changed
abbrev pub IsCopied : (from to : Store) → ObjectId → DiskSeen → Bool → Type 0
IsCopied from to id disk true = IsCopy from to id disk (Ok id)
IsCopied from to id disk false = IfSome disk.state (IsAbsent from id) × disk.AreCalls [] × (disk.state_now ≡ disk.state)

-- An object that the first store holds can be read at its path in the second one: its header, and then its data, unless a
-- link was replaced that is crossed on the way of this path.
abbrev pub CanBeRead : (from to : Store) → ObjectId → State → (after : Option State) → Bool → Type 0
CanBeRead from to id state after true =
    (kind : Kind) (bytes : List ℕ) → IsHeld from id state kind bytes → (early : Option State) × (number : ℕ) × ReadsBack (write_head to kind (length bytes)) number id bytes early after
CanBeRead from to id state after false = ⊤

-- an object wasn't copied: it couldn't be read, no call of a write was made, and nothing was changed; or it couldn't be written
abbrev pub IsRefusedCopy : (from to : Store) → ObjectId → DiskSeen → Error → Type 0
IsRefusedCopy from to id disk (NotRead error) = FindRefused from id disk.state (Rose disk.faults disk.faults_now) error × disk.AreCalls [] × (disk.state_now ≡ disk.state)
IsRefusedCopy from to id disk (NotWritten error) = IsCopy from to id disk (Err error)
IsRefusedCopy from to id disk NotKept = ⊥

-- ---- data from a source

-- a length that isn't the expected one is that of what the source had, or the expected one plus one
abbrev pub TellsLength : (size : ℕ) → Option (List ℕ) → WriteError → Type 0
TellsLength size left (write_errors.SizeMismatch expected actual) = (expected ≡ size) × OtherLength left size actual
TellsLength size left error = ⊤
