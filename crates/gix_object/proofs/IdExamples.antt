-- The bytes that are hashed for an id, on examples.
use Rattle.std.proofs.Common.{◌≡◌, [], ◌∷◌, ◌++◌, codes, refl}
use Rattle.std.specs.Fmt.{digits}
use Rattle.gix_hash.specs.Hash.{hash_of}
use Rattle.gix_hash.specs.declared.kind.Kind.{Kind}
use Rattle.gix_object.specs.Id.{object_id}
use Rattle.gix_object.specs.Loose.{header_of}
use Rattle.gix_object.specs.declared.kind.Kind.TheVariants.{Tree, Blob}

empty_tree : (hash : Kind) → object_id hash Tree [] ≡ hash_of hash (codes "tree 0" ++ 0 ∷ [])
unfolding object_id header_of digits
empty_tree hash = refl

hello : (hash : Kind) → object_id hash Blob (codes "hello") ≡ hash_of hash (codes "blob 5" ++ 0 ∷ codes "hello")
unfolding object_id header_of digits
hello hash = refl
