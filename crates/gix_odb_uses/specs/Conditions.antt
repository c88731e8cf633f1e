-- What each condition says of the file of an object.
use Rattle.std.specs.Prelude.{◌≡◌, ◌≢◌, ◌⊎◌, ℕ, List, Option, Some, None}
use Rattle.odb_disk.specs.Tree.{State}
use Rattle.gix_hash.specs.declared.kind.Kind.{Kind as HashKind}
use Rattle.gix_hash.specs.declared.object_id.ObjectId.{ObjectId}
use Rattle.gix_object.specs.Id.{object_id}
use Rattle.gix_object.specs.declared.kind.Kind.{Kind}
use Rattle.gix_odb_loose.specs.Causes.{HasLargeSize, HasNoHeader, HasOtherLength, IsUnreadable}
use Rattle.gix_odb_loose.specs.Store.{store_hash, store_limit}
use Rattle.gix_odb_loose.specs.declared.find.Error.{Error}
use Rattle.gix_odb_loose.specs.declared.find.Error.TheVariants as errors
use Rattle.gix_odb_loose.specs.declared.store.Store.{Store}
use Rattle.gix_odb_uses.specs.Objects.{IsAbsent, IsHeld, read_at}
use Rattle.gix_odb_uses.specs.declared.asking.Condition.{Condition}
use Rattle.gix_odb_uses.specs.declared.asking.Condition.TheVariants as conditions

-- the file of an object holds one whose hash is this id
abbrev pub HoldsSound : Store → ObjectId → State → Type 0
HoldsSound store id state = (kind : Kind) × (bytes : List ℕ) × IsHeld store id state kind bytes × (object_id (store_hash store) kind bytes ≡ id)

-- the file of an object holds one of another id
abbrev pub HoldsOther : Store → ObjectId → State → Type 0
HoldsOther store id state = (kind : Kind) × (bytes : List ℕ) × IsHeld store id state kind bytes × (object_id (store_hash store) kind bytes ≢ id)

-- the file of an object has data of another length than its header says
abbrev pub IsCutOrLonger : Store → ObjectId → State → Type 0
IsCutOrLonger store id state = (expected : ℕ) × (actual : ℕ) × HasOtherLength (store_limit store) expected actual (read_at store id state)

-- the header of the file of an object says a size above the limit of the store
abbrev pub IsTooLarge : Store → ObjectId → State → Type 0
IsTooLarge store id state = (size : ℕ) × HasLargeSize (store_limit store) size (read_at store id state)

-- an object is in a condition; `Failed`: a call of the disk failed
abbrev pub IsIn : Store → ObjectId → State → (Failed : Type 0) → Condition → Type 0
IsIn store id state Failed conditions.Sound = HoldsSound store id state
IsIn store id state Failed conditions.Absent = IsAbsent store id state
IsIn store id state Failed conditions.Damaged = HasNoHeader (read_at store id state) ⊎ (IsCutOrLonger store id state ⊎ HoldsOther store id state)
IsIn store id state Failed conditions.Unread = Failed ⊎ (IsUnreadable (read_at store id state) ⊎ IsTooLarge store id state)

-- ---- how the condition is found

-- from an object that was found: whether its hash is this id
abbrev pub TellsFound : HashKind → ObjectId → Kind → List ℕ → Condition → Type 0
TellsFound hash id kind bytes conditions.Sound = object_id hash kind bytes ≡ id
TellsFound hash id kind bytes conditions.Damaged = object_id hash kind bytes ≢ id
TellsFound hash id kind bytes conditions.Absent = ⊥
TellsFound hash id kind bytes conditions.Unread = ⊥

-- from the error of a find; running out of memory gives none
abbrev pub condition_by : Error → Option Condition
condition_by errors.Decode = Some conditions.Damaged
condition_by (errors.SizeMismatch actual expected path) = Some conditions.Damaged
condition_by (errors.OutOfMemory size) = Some conditions.Unread
condition_by (errors.Io action path) = Some conditions.Unread
condition_by errors.NoMemory = None
