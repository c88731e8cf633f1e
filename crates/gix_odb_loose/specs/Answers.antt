-- What a call of a store returns, by what the tree shows where the disk reports it.
use Rattle.std.specs.Prelude.{⊤, ◌≡◌, ℕ, List, Option, Some, None, Result, Ok, Err, IfSome}
use Rattle.odb_base.specs.Path.{Path}
use Rattle.odb_disk.specs.Tree.{State, tree_of}
use Rattle.odb_disk.specs.Tree.Follow.{Absent, read_of}
use Rattle.gix_hash.specs.declared.object_id.ObjectId.{ObjectId}
use Rattle.gix_object.specs.Data.{Object}
use Rattle.gix_object.specs.declared.kind.Kind.{Kind}
use Rattle.gix_odb_loose.specs.Store.{store_path, store_limit}
use Rattle.gix_odb_loose.specs.LooseFile.{Reading, Gives, loose_path, HoldsObject, HoldsHeader}
use Rattle.gix_odb_loose.specs.Causes.{FindCause, HeaderCause, TestCause}
use Rattle.gix_odb_loose.specs.declared.store.Store.{Store}
use Rattle.gix_odb_loose.specs.declared.find.Error.{Error}
use Rattle.gix_odb_loose.specs.declared.find.Error.TheVariants as errors

-- a call ends with an answer, unless a call of the disk failed or memory ran out
abbrev pub ComesTo : {A : Type 0} → Type 0 → Result A Error → A → Type 0
ComesTo Failed (Ok x) answer = x ≡ answer
ComesTo Failed (Err errors.NoMemory) answer = Unit {0}
ComesTo Failed (Err (errors.Io action path)) answer = Failed
ComesTo Failed (Err errors.Decode) answer = ⊥
ComesTo Failed (Err (errors.OutOfMemory size)) answer = ⊥
ComesTo Failed (Err (errors.SizeMismatch actual expected path)) answer = ⊥

-- The result of a call, by what a read of the object's path gives. `Holds bytes x`: a file with these bytes holds the answer x.
pub record AnswersRead {A : Type 0} (read : Reading) (Holds : List ℕ → A → Type 0) (Failed : Type 0) (result : Result (Option A) Error) : Type 0 where
  -- what is found is held by the file, and what the file holds is found
  pub found : (x : A) → result ≡ Ok (Some x) → Gives read (λ bytes. Holds bytes x)
  pub finds : (x : A) → Gives read (λ bytes. Holds bytes x) → ComesTo Failed result (Some x)
  -- a not-found means that nothing is at the path, and nothing at the path gives a not-found
  pub none : result ≡ Ok None → read ≡ Err Absent
  pub misses : read ≡ Err Absent → ComesTo Failed result None

-- what a read of a path gave in a call that leaves the tree unchanged; any reading, if the disk doesn't report its state
abbrev pub GaveIn : Option State → Path → Reading → Type 0
GaveIn state path read = IfSome state (λ s. read ≡ read_of (tree_of s) path)

-- ---- the calls of a store, where `Failed` says that a call of the disk failed

-- the path of an object's file in a store
abbrev pub path_in : Store → ObjectId → Path
path_in store id = loose_path (store_path store) id

-- the result of a find that puts data into a buffer, by what the buffer holds afterwards
abbrev pub put_in : {E : Type 0} → Result (Option Kind) E → List ℕ → Result (Option Object) E
put_in (Ok (Some kind)) bytes = Ok (Some (record { kind = kind; bytes = bytes }))
put_in (Ok None) bytes = Ok None
put_in (Err error) bytes = Err error

-- a find returns the object that the file at the path holds
abbrev pub Finds : Store → ObjectId → State → (Failed : Type 0) → Result (Option Object) Error → Type 0
Finds store id state Failed result =
    AnswersRead (read_of (tree_of state) (path_in store id)) (λ bytes object. HoldsObject (store_limit store) bytes object.kind object.bytes) Failed result

-- a header look-up returns the header that the file begins with
abbrev pub TellsHeader : Store → ObjectId → State → (Failed : Type 0) → Result (Option (ℕ × Kind)) Error → Type 0
TellsHeader store id state Failed result = AnswersRead (read_of (tree_of state) (path_in store id)) (λ bytes header. HoldsHeader bytes header.1 header.0) Failed result

-- the causes of the errors of a find, and below of a header look-up and a test; running out of memory is always allowed
abbrev pub FindRefused : Store → ObjectId → Option State → (Failed : Type 0) → Error → Type 0
FindRefused store id state Failed error = FindCause (path_in store id) (store_limit store) (GaveIn state (path_in store id)) Failed ⊤ error

abbrev pub HeaderRefused : Store → ObjectId → Option State → (Failed : Type 0) → Error → Type 0
HeaderRefused store id state Failed error = HeaderCause (path_in store id) (GaveIn state (path_in store id)) Failed ⊤ error

abbrev pub TestRefused : Store → ObjectId → (Failed : Type 0) → Error → Type 0
TestRefused store id Failed error = TestCause (path_in store id) Failed ⊤ error
