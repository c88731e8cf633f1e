-- Hashes: the id of some bytes, and the bytes that a hasher has taken.
use Rattle.std.specs.Prelude.{ℕ, List}
use Rattle.sha1.specs.Sha1.{sha1}
use Rattle.sha1.specs.Sha1 as first
use Rattle.sha2.specs.Sha256.{sha256}
use Rattle.sha2.specs.Hashers.{Holds256}
use Rattle.gix_hash.specs.declared.kind.Kind.{Kind}
use Rattle.gix_hash.specs.declared.kind.Kind.TheVariants as kind
use Rattle.gix_hash.specs.declared.object_id.ObjectId.{ObjectId}
use Rattle.gix_hash.specs.declared.object_id.ObjectId.TheVariants as id
use Rattle.gix_hash.specs.declared.hasher.Hasher.{Hasher}
use Rattle.gix_hash.specs.declared.hasher.State.{State}
use Rattle.gix_hash.specs.declared.hasher.State.TheVariants.{Sha1, Sha256}

-- the id of some bytes: their digest by the hash function of this kind
abbrev pub hash_of : Kind → List ℕ → ObjectId
hash_of kind.Sha1 bytes = id.Sha1 (sha1 bytes)
hash_of kind.Sha256 bytes = id.Sha256 (sha256 bytes)

abbrev kind_of_state : State → Kind
kind_of_state (Sha1 hasher) = kind.Sha1
kind_of_state (Sha256 hasher) = kind.Sha256

abbrev StateHolds : State → List ℕ → Type 0
StateHolds (Sha1 hasher) bytes = first.Holds hasher bytes
StateHolds (Sha256 hasher) bytes = Holds256 hasher bytes

-- the hash function of a hasher
abbrev pub hasher_kind : Hasher → Kind
hasher_kind hasher = kind_of_state hasher.state

-- a hasher has taken these bytes, and no others
abbrev pub HasTaken : Hasher → List ℕ → Type 0
HasTaken hasher bytes = StateHolds hasher.state bytes
