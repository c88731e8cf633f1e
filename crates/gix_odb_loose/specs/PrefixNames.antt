-- The candidates of a prefix in a folder of loose objects, what a look-up answers of them, and which names stand for them.
use Rattle.std.specs.Prelude.{◌≡◌, ◌≢◌, ◌⊎◌, ◌↔◌, ◌+◌, ◌==◌, Bool, ◌++◌, length, take, Option, Some, None, IsTrue, if◌then◌else◌}
use Rattle.std.specs.Borrow.{MutBor}
use Rattle.std.specs.HashSet.{HashSet, contains}
use Rattle.std.proofs.Common.{inl, inr}
use Rattle.std.specs.Ordering.{is_eq}
use Rattle.odb_base.specs.Path.{Name, Path}
use Rattle.odb_disk.specs.Tree.{Tree}
use Rattle.gix_hash.specs.Kind.{digits_in}
use Rattle.gix_hash.specs.ObjectId.{hex_of, id_of, kind_of, IsId}
use Rattle.gix_hash.specs.Prefix.{PrefixOf, prefix_cmp, HasPrefix}
use Rattle.gix_hash.specs.contracts.object_id.ObjectIdPartialEq.TheImpl as same
use Rattle.gix_hash.specs.declared.object_id.ObjectId.{ObjectId}
use Rattle.gix_odb_loose.specs.LooseFile.{LeadsToFile, loose_path}
use Rattle.gix_odb_loose.specs.declared.lookup.Outcome.{Outcome}
use Rattle.gix_odb_loose.specs.declared.lookup.Outcome.TheVariants.{One, Ambiguous}

-- an object is a candidate of a prefix: its id begins with it, and its path leads to a file, links followed
pub record IsCandidate (tree : Tree) (objects : Path) (prefix : PrefixOf) (id : ObjectId) : Type 0 where
  pub is : IsId id
  pub has : HasPrefix prefix id
  pub file : LeadsToFile tree (loose_path objects id)

-- two different ids count
pub record TwoCount (Counts : ObjectId → Type 0) : Type 0 where
  pub one : ObjectId
  pub other : ObjectId
  pub first : Counts one
  pub second : Counts other
  pub differ : one ≢ other

-- what a look-up answers of the ids that count: that there is none, the only one, or that two different ones are there
abbrev pub Tells : (Counts : ObjectId → Type 0) → Option Outcome → Type 0
Tells Counts None = (id : ObjectId) → ¬ (Counts id)
Tells Counts (Some (One id)) = Counts id × ((other : ObjectId) → Counts other → other ≡ id)
Tells Counts (Some Ambiguous) = TwoCount Counts

-- whether two ids are the same
abbrev pub same_id : ObjectId → ObjectId → Bool
same_id = (same.ghosts).eq

-- a set gains the ids that count, and nothing else
abbrev pub Gains : {S : Type 0} → (Counts : ObjectId → Type 0) → (before after : HashSet ObjectId S) → Type 0
Gains Counts before after = (id : ObjectId) → IsTrue (contains same_id after id) ↔ (IsTrue (contains same_id before id) ⊎ Counts id)

-- a set has what it had
abbrev pub Stays : {S : Type 0} → (before after : HashSet ObjectId S) → Type 0
Stays before after = after.keys ≡ before.keys

-- what holds of the set that was passed in, as it was and as it is left, if one was
abbrev pub IfPassed : {A : Type 0} → (A → A → Type 0) → Option (MutBor A) → Unit {0} ⊎ ((MutBor A × Unit {0}) ⊎ ⊥) → Type 0
IfPassed Holds (Some before) (inr (inl after)) = Holds before.now after.0.now
IfPassed Holds (Some before) after = ⊥
IfPassed Holds None after = Unit {0}

-- ---- names in the directory of a prefix

-- an id, if it has the prefix
abbrev pub with_prefix : PrefixOf → Option ObjectId → Option ObjectId
with_prefix prefix None = None
with_prefix prefix (Some id) = if is_eq (prefix_cmp prefix id) then Some id else None

-- The id of the object whose file has this name in the directory of a prefix, if it has the prefix: the name is as long as the
-- digits of an id that follow the first two, and is of hex digits in lower case.
unfoldable pub id_named : PrefixOf → Name → Option ObjectId
id_named prefix name = if length name + 2 == digits_in (kind_of prefix.id) then with_prefix prefix (id_of (take 2 (hex_of prefix.id) ++ name)) else None
