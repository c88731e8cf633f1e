-- What a caller learns of objects in a store: which its files hold, and why a call was refused.
use Rattle.std.specs.Prelude.{◌≡◌, ℕ, List, Contains, Option, Some, None, Err}
use Rattle.odb_disk.specs.Tree.{State, tree_of}
use Rattle.odb_disk.specs.Tree.Follow.{Absent, read_of}
use Rattle.gix_hash.specs.declared.object_id.ObjectId.{ObjectId}
use Rattle.gix_object.specs.declared.kind.Kind.{Kind}
use Rattle.gix_odb_loose.specs.Answers.{HeaderRefused, path_in}
use Rattle.gix_odb_loose.specs.LooseFile.{Gives, HoldsHeader, HoldsObject, Reading}
use Rattle.gix_odb_loose.specs.Store.{store_limit}
use Rattle.gix_odb_loose.specs.declared.find.Error.{Error}
use Rattle.gix_odb_loose.specs.declared.store.Store.{Store}

-- what a read of the path of an object gives
abbrev pub read_at : Store → ObjectId → State → Reading
read_at store id state = read_of (tree_of state) (path_in store id)

-- the file of an object holds it, within the limit of the store
abbrev pub IsHeld : Store → ObjectId → State → Kind → List ℕ → Type 0
IsHeld store id state kind bytes = Gives (read_at store id state) (λ file. HoldsObject (store_limit store) file kind bytes)

-- nothing is at the path of an object
abbrev pub IsAbsent : Store → ObjectId → State → Type 0
IsAbsent store id state = read_at store id state ≡ Err Absent

-- the file of an object begins with a header of this kind, or nothing is there
abbrev pub IsKindAt : Store → State → ObjectId → Option Kind → Type 0
IsKindAt store state id (Some kind) = Gives (read_at store id state) (λ file. (size : ℕ) × HoldsHeader file kind size)
IsKindAt store state id None = IsAbsent store id state

-- the header look-up of one of these objects was refused with this error
abbrev pub IsRefusedAmong : Store → List ObjectId → Option State → (Failed : Type 0) → Error → Type 0
IsRefusedAmong store ids state Failed error = (id : ObjectId) × Contains ids id × HeaderRefused store id state Failed error
