-- When two indices are the same: by their paths, their kinds and, for multi-indices, their times.
use Rattle.std.proofs.Common.{◌≡◌, ℕ, Bool, true, false, nat_eq, List, Option, Some, None, ◌⊎◌, inl, inr, ⊎_elim, refl, sym, ap, ◌∙◌, ne_eqb}
use Rattle.std.proofs.lemmas.Bool.{and_cases, and_left, and_right, eqb-false}
use Rattle.gix_odb_core.specs.Publish.{is_kept, settled}
use Rattle.gix_odb_events.specs.Slots.{filled_put_back, filled_trashed, holds, index_put_back, index_trashed, is_index_of, new_index, same_index}
use Rattle.gix_odb_events.specs.PackFiles.{same_path}
use Rattle.gix_odb_events.specs.declared.listing.ListingRow.{ListingRow}
use Rattle.gix_odb_events.specs.declared.slot.Filled.{Filled}
use Rattle.gix_odb_events.specs.declared.slot.IndexFile.{IndexFile}
use Rattle.gix_odb_events.specs.declared.slot.IndexFile.TheVariants.{Single, Multi}
use Rattle.gix_odb_core.proofs.SettledLemmas.{settled_cases}
use Rattle.gix_odb_events.proofs.SamePathLaws.{same_path_flip}

flip_time : (one other : ℕ) → nat_eq one other ≡ false → nat_eq other one ≡ false
flip_time one other is = ne_eqb other one (λ e. eqb-false one other is (sym e))

pub same_index_flip : (one : IndexFile) (time : ℕ) (other : IndexFile) (later : ℕ) → same_index one time other later ≡ false → same_index other later one time ≡ false
same_index_flip (Single one) time (Single other) later is = same_path_flip one.path other.path is
same_index_flip (Single one) time (Multi other) later is = refl
same_index_flip (Multi one) time (Single other) later is = refl
same_index_flip (Multi one) time (Multi other) later is =
    ⊎_elim (λ h. and_left _ _ (same_path_flip one.path other.path h)) (λ h. and_right _ _ (flip_time time later h)) (and_cases _ _ is)

-- the index of a new row is that of a slot iff the slot holds the row
pub same_index-new : (filled : Filled) (row : ListingRow) → same_index filled.index filled.time (new_index row.path row.multi) row.time ≡ holds row (Some filled)
same_index-new filled row = by filled.index row.multi
  where
    by : (index : IndexFile) (multi : Option (List ℕ)) → same_index index filled.time (new_index row.path multi) row.time ≡ is_index_of row multi index filled.time
    by (Single file) None = refl
    by (Single file) (Some multi) = refl
    by (Multi file) None = refl
    by (Multi file) (Some multi) = refl

-- the indices of rows with different paths
pub same_index-rows : (one other : ListingRow) → same_path one.path other.path ≡ false → same_index (new_index one.path one.multi) one.time (new_index other.path other.multi) other.time ≡ false
same_index-rows one other differ = by one.multi other.multi
  where
    by : (m n : Option (List ℕ)) → same_index (new_index one.path m) one.time (new_index other.path n) other.time ≡ false
    by None None = differ
    by None (Some n) = refl
    by (Some m) None = refl
    by (Some m) (Some n) = and_left _ _ differ

-- ---- settling keeps the index

left_put_back : (one : IndexFile) (time : ℕ) (other : IndexFile) (later : ℕ) → same_index (index_put_back one) time other later ≡ same_index one time other later
left_put_back (Single one) time (Single other) later = refl
left_put_back (Single one) time (Multi other) later = refl
left_put_back (Multi one) time (Single other) later = refl
left_put_back (Multi one) time (Multi other) later = refl

left_trashed : (one : IndexFile) (time : ℕ) (other : IndexFile) (later : ℕ) → same_index (index_trashed one) time other later ≡ same_index one time other later
left_trashed (Single one) time (Single other) later = refl
left_trashed (Single one) time (Multi other) later = refl
left_trashed (Multi one) time (Single other) later = refl
left_trashed (Multi one) time (Multi other) later = refl

-- whether two slots hold the same index
abbrev pub same_filled : Filled → Filled → Bool
same_filled one other = same_index one.index one.time other.index other.time

pub same_filled_flip : (one other : Filled) → same_filled one other ≡ false → same_filled other one ≡ false
same_filled_flip one other is = same_index_flip one.index one.time other.index other.time is

-- one of the two was settled
pub same_filled-settled : (stable : Bool) (rows : List ListingRow) (before after other : Filled) → settled stable rows (Some before) ≡ Some after → same_filled after other ≡ same_filled before other
same_filled-settled stable rows before after other is = by (settled_cases stable rows before after is)
  where
    by : ((is_kept rows (Some before) ≡ true) × (filled_put_back before ≡ after)) ⊎ ((is_kept rows (Some before) ≡ false) × (filled_trashed before ≡ after))
        → same_filled after other ≡ same_filled before other
    by (inl (kept, to)) = ap (λ (f : Filled). same_filled f other) (sym to) ∙ left_put_back before.index before.time other.index other.time
    by (inr (kept, to)) = ap (λ (f : Filled). same_filled f other) (sym to) ∙ left_trashed before.index before.time other.index other.time
