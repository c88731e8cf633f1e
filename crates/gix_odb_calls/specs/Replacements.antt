-- The ids that are sought in the place of others.
use Rattle.std.specs.Prelude.{◌≡◌, ◌⊎◌, ℕ, List, refl}
use Rattle.std.specs.Coded.{Coded, code_by, coded⊎, coded_list, coded_ℕ}
use Rattle.std.specs.FinMap as finite
use Rattle.std.proofs.Common.{inl, inr}
use Rattle.gix_hash.specs.ObjectId.{id_cmp}
use Rattle.gix_hash.specs.declared.object_id.ObjectId.{ObjectId}
use Rattle.gix_hash.specs.declared.object_id.ObjectId.TheVariants.{Sha1, Sha256}

-- the replacement of each id that has one
abbrev pub Replacements : Type 0
Replacements = finite.FinMap id_cmp ObjectId

abbrev coded_to : ObjectId → List ℕ ⊎ List ℕ
coded_to (Sha1 bytes) = inl bytes
coded_to (Sha256 bytes) = inr bytes

abbrev coded_from : List ℕ ⊎ List ℕ → ObjectId
coded_from (inl bytes) = Sha1 bytes
coded_from (inr bytes) = Sha256 bytes

pub coded_back : (id : ObjectId) → coded_from (coded_to id) ≡ id
coded_back (Sha1 bytes) = refl
coded_back (Sha256 bytes) = refl

abbrev pub coded_id : Coded ObjectId
coded_id = code_by (List ℕ ⊎ List ℕ) (coded⊎ (coded_list coded_ℕ) (coded_list coded_ℕ)) coded_to coded_from coded_back

abbrev pub coded_replacements : Coded Replacements
coded_replacements = finite.code coded_id coded_id
