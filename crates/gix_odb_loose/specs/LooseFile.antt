-- Loose files: the path of an object's file, and what its bytes hold as answers of calls.
use Rattle.std.specs.Prelude.{◌≡◌, ℕ, true, List, [], ◌∷◌, ◌++◌, length, take, drop, Option, Some, None, Result, Ok}
use Rattle.odb_base.specs.Path.{Path}
use Rattle.odb_disk.specs.Tree.{Tree}
use Rattle.odb_disk.specs.Tree.Follow.{Refusal, read_of}
use Rattle.gix_hash.specs.ObjectId.{hex_of}
use Rattle.gix_hash.specs.declared.object_id.ObjectId.{ObjectId}
use Rattle.gix_hash.specs.declared.kind.Kind.{Kind as HashKind}
use Rattle.gix_object.specs.Id.{object_id}
use Rattle.gix_object.specs.Limit.{is_within}
use Rattle.gix_object.specs.Loose.{IsLoose}
use Rattle.gix_object.specs.declared.kind.Kind.{Kind}
use Rattle.gix_odb_loose.specs.declared.call.LooseJob.{LooseJob}
use Rattle.gix_odb_loose.specs.declared.call.LooseJob.TheVariants.{Contains, Find, Header, Prefix, Write}

-- the path of an object's file below an objects directory: the first two hex digits, then the others
unfoldable pub loose_path : Path → ObjectId → Path
loose_path objects id = objects ++ take 2 (hex_of id) ∷ drop 2 (hex_of id) ∷ []

-- the id that a write is about: the known one, else the object's own
abbrev pub id_written : HashKind → Kind → List ℕ → Option ObjectId → ObjectId
id_written hash kind bytes (Some id) = id
id_written hash kind bytes None = object_id hash kind bytes

-- the id that a call is about; of a prefix, the one with zeros after its digits
abbrev pub id_asked : HashKind → LooseJob → ObjectId
id_asked hash (Contains id) = id
id_asked hash (Find id) = id
id_asked hash (Header id) = id
id_asked hash (Prefix prefix gather) = prefix.id
id_asked hash (Write kind size bytes id) = id_written hash kind bytes id

-- a call that finds, tests or reads a header: it makes one call of the disk, and writes nothing
abbrev pub IsFinding : LooseJob → Type 0
IsFinding (Contains id) = Unit {0}
IsFinding (Find id) = Unit {0}
IsFinding (Header id) = Unit {0}
IsFinding (Prefix prefix gather) = ⊥
IsFinding (Write kind size bytes id) = ⊥

-- what a read of a path gives: bytes and a time, or why there are none
abbrev pub Reading : Type 0
Reading = Result (List ℕ × ℕ) Refusal

-- a read gives a file, and its bytes have a property
pub record Gives (read : Reading) (P : List ℕ → Type 0) : Type 0 where
  pub bytes : List ℕ
  pub time : ℕ
  pub given : read ≡ Ok (bytes, time)
  pub holds : P bytes

-- a path of a tree leads to a file, links followed
abbrev pub LeadsToFile : Tree → Path → Type 0
LeadsToFile tree path = Gives (read_of tree path) (λ bytes. Unit {0})

-- a size is within the limit, where there is one
abbrev pub IsWithin : Option ℕ → ℕ → Type 0
IsWithin limit size = is_within limit size ≡ true

-- the bytes of a file hold an object: data as long as the header says, within the limit
pub record HoldsObject (limit : Option ℕ) (bytes : List ℕ) (kind : Kind) (found : List ℕ) : Type 0 where
  pub spelled : IsLoose bytes kind (length found) found
  pub within : IsWithin limit (length found)

-- the bytes of a file begin with a header, whatever follows
pub record HoldsHeader (bytes : List ℕ) (kind : Kind) (size : ℕ) : Type 0 where
  pub rest : List ℕ
  pub spelled : IsLoose bytes kind size rest

-- what a call may answer
pub data Answer : Type 0 where
  Object : (kind : Kind) (bytes : List ℕ) → Answer
  HeaderOf : (kind : Kind) (size : ℕ) → Answer
  Presence : Answer

-- The bytes of a loose file hold an answer of a call. Any file answers a test of presence with yes.
abbrev pub Holds : Option ℕ → LooseJob → List ℕ → Answer → Type 0
Holds limit (Contains id) bytes Presence = Unit {0}
Holds limit (Find id) bytes (Object kind found) = HoldsObject limit bytes kind found
Holds limit (Header id) bytes (HeaderOf kind size) = HoldsHeader bytes kind size
Holds limit job bytes answer = ⊥
