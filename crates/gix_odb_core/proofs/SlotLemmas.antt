-- A slot after settling, and which row a slot holds.
use Rattle.std.proofs.Common.{◌≡◌, ℕ, true, List, Option, Some, None, refl, eq-eqb}
use Rattle.std.proofs.lemmas.Bool.{and_parts, and_from}
use lib.Pointwise.{pointwise_decides}
use Rattle.gix_odb_events.proofs.SamePathLaws.{same_path-true, same_path-self}
use Rattle.gix_odb_events.specs.Slots.{filled_put_back, filled_trashed, holds, index_path, index_put_back, index_trashed, is_index_of, new_filled, new_index}
use Rattle.gix_odb_events.specs.declared.listing.ListingRow.{ListingRow}
use Rattle.gix_odb_events.specs.declared.slot.Filled.{Filled}
use Rattle.gix_odb_events.specs.declared.slot.IndexFile.{IndexFile}
use Rattle.gix_odb_events.specs.declared.slot.IndexFile.TheVariants.{Single, Multi}

-- ---- which row a slot holds

-- a slot that a new row takes holds it
pub holds-new : (row : ListingRow) → holds row (Some (new_filled row)) ≡ true
holds-new row = by row.multi
  where
    by : (multi : Option (List ℕ)) → is_index_of row multi (new_index row.path multi) row.time ≡ true
    by None = same_path-self row.path
    by (Some multi) = and_from _ _ (same_path-self row.path) (eq-eqb row.time row.time refl)

-- a slot that holds a row has its path
pub holds_path : (row : ListingRow) (filled : Filled) → holds row (Some filled) ≡ true → index_path filled.index ≡ row.path
holds_path row filled is = by row.multi filled.index is
  where
    by : (multi : Option (List ℕ)) (index : IndexFile) → is_index_of row multi index filled.time ≡ true → index_path index ≡ row.path
    by None (Single file) is = same_path-true file.path row.path is
    by None (Multi file) is = absurd cc
    by (Some multi) (Single file) is = absurd cc
    by (Some multi) (Multi file) is = same_path-true file.path row.path (and_parts _ _ is).0

-- neither putting back nor trashing changes which row a slot holds
pub holds-put_back : (row : ListingRow) (filled : Filled) → holds row (Some (filled_put_back filled)) ≡ holds row (Some filled)
holds-put_back row filled = by row.multi filled.index
  where
    by : (multi : Option (List ℕ)) (index : IndexFile) → is_index_of row multi (index_put_back index) filled.time ≡ is_index_of row multi index filled.time
    by None (Single file) = refl
    by None (Multi file) = refl
    by (Some multi) (Single file) = refl
    by (Some multi) (Multi file) = refl

pub holds-trashed : (row : ListingRow) (filled : Filled) → holds row (Some (filled_trashed filled)) ≡ holds row (Some filled)
holds-trashed row filled = by row.multi filled.index
  where
    by : (multi : Option (List ℕ)) (index : IndexFile) → is_index_of row multi (index_trashed index) filled.time ≡ is_index_of row multi index filled.time
    by None (Single file) = refl
    by None (Multi file) = refl
    by (Some multi) (Single file) = refl
    by (Some multi) (Multi file) = refl
