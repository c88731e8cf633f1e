-- Whether ids are of the hash of a store.
use Rattle.std.specs.Prelude.{◌&&◌, Bool, true, false, Option, Some, None}
use Rattle.gix_hash.specs.ObjectId.{kind_of}
use Rattle.gix_hash.specs.declared.kind.Kind.{Kind}
use Rattle.gix_hash.specs.declared.kind.Kind.TheVariants.{Sha1, Sha256}
use Rattle.gix_hash.specs.declared.object_id.ObjectId.{ObjectId}
use Rattle.gix_odb_calls.specs.Query.{by_call}
use Rattle.gix_odb_calls.specs.declared.call.Call.{Call}

-- whether two hashes are the same
abbrev pub is_same_hash : Kind → Kind → Bool
is_same_hash Sha1 Sha1 = true
is_same_hash Sha1 Sha256 = false
is_same_hash Sha256 Sha1 = false
is_same_hash Sha256 Sha256 = true

-- whether an id is of this hash
abbrev pub is_id_of : Kind → ObjectId → Bool
is_id_of hash id = is_same_hash (kind_of id) hash

-- whether an id and its replacement are of this hash
abbrev pub is_pair_of : Kind → ObjectId × ObjectId → Bool
is_pair_of hash pair = is_id_of hash pair.0 && is_id_of hash pair.1

-- whether the id of a write is of this hash, if it is known
abbrev pub is_known_of : Kind → Option ObjectId → Bool
is_known_of hash None = true
is_known_of hash (Some id) = is_id_of hash id

-- whether the ids of a call are of this hash; a write of an object whose id isn't known has none
abbrev pub is_of_hash : Kind → Call → Bool
is_of_hash hash call = by_call (λ query. is_id_of hash query.of) (λ kind size bytes known. is_known_of hash known) call
