-- The laws of ids of objects.
use Rattle.std.specs.Prelude.{◌≡◌, ℕ, List, ◌++◌, length}
use Rattle.gix_hash.specs.ObjectId.{kind_of}
use Rattle.gix_hash.specs.declared.kind.Kind.{Kind as HashKind}
use Rattle.gix_hash.proofs.HashLemmas.{kind_of-hash_of}
use Rattle.gix_object.specs.Id.{object_id}
use Rattle.gix_object.specs.Loose.{header_of}
use Rattle.gix_object.specs.declared.kind.Kind.{Kind}

-- an id is of the hash that it was computed by
pub kind_of-object_id : (hash : HashKind) (kind : Kind) (bytes : List ℕ) → kind_of (object_id hash kind bytes) ≡ hash
unfolding object_id
kind_of-object_id hash kind bytes = kind_of-hash_of hash (header_of kind (length bytes) ++ bytes)
