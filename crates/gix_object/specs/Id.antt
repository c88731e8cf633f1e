-- The ids of objects.
use Rattle.std.specs.Prelude.{ℕ, List, ◌++◌, length}
use Rattle.gix_hash.specs.Hash.{hash_of}
use Rattle.gix_hash.specs.declared.kind.Kind.{Kind as HashKind}
use Rattle.gix_hash.specs.declared.object_id.ObjectId.{ObjectId}
use Rattle.gix_object.specs.Loose.{header_of}
use Rattle.gix_object.specs.declared.kind.Kind.{Kind}

-- the id of an object: the hash of its header and its data
unfoldable pub object_id : HashKind → Kind → List ℕ → ObjectId
object_id hash kind bytes = hash_of hash (header_of kind (length bytes) ++ bytes)
