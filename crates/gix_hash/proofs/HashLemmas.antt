-- Laws of hashes.
use Rattle.std.proofs.Common.{◌≡◌, ℕ, List, [], ◌∷◌, ◌++◌, codes, refl}
use Rattle.sha1.specs.Sha1 as first
use Rattle.sha2.specs.Sha256 as second
use Rattle.hex.specs.Hex.{encode_with}
use Rattle.gix_hash.specs.Hash.{hash_of}
use Rattle.gix_hash.specs.ObjectId.{hex_of, kind_of}
use Rattle.gix_hash.specs.declared.kind.Kind.{Kind}
use Rattle.gix_hash.specs.declared.kind.Kind.TheVariants.{Sha1, Sha256}

-- an id is of the kind that it was hashed by
pub kind_of-hash_of : (kind : Kind) (bytes : List ℕ) → kind_of (hash_of kind bytes) ≡ kind
kind_of-hash_of Sha1 bytes = refl
kind_of-hash_of Sha256 bytes = refl

-- ---- the digests of `abc` that the standard of the two functions gives as examples

abc-Sha1 : hex_of (hash_of Sha1 (codes "abc")) ≡ codes "a9993e364706816aba3e25717850c26c9cd0d89d"
unfolding first.first_words first.schedule first.rounds first.compress first.hash_after first.digest_bytes first.sha1 encode_with
abc-Sha1 = refl

abc-Sha256 : hex_of (hash_of Sha256 (codes "abc")) ≡ codes "ba7816bf8f01cfea414140de5dae2223b00361a396177a9cb410ff61f20015ad"
unfolding second.first_words second.schedule second.rounds second.compress second.hash_after second.digest_bytes second.sha256 encode_with
abc-Sha256 = refl

-- ---- Git's ids of the empty tree

empty_tree-Sha1 : hex_of (hash_of Sha1 (codes "tree 0" ++ 0 ∷ [])) ≡ codes "4b825dc642cb6eb9a060e54bf8d69288fbee4904"
unfolding first.first_words first.schedule first.rounds first.compress first.hash_after first.digest_bytes first.sha1 encode_with
empty_tree-Sha1 = refl

empty_tree-Sha256 : hex_of (hash_of Sha256 (codes "tree 0" ++ 0 ∷ [])) ≡ codes "6ef19b41225c5369f1c104d45d8d85efa9b057b53b14b4b9b939dd74decc5321"
unfolding second.first_words second.schedule second.rounds second.compress second.hash_after second.digest_bytes second.sha256 encode_with
empty_tree-Sha256 = refl
