-- At most two rows, of different paths.
use Rattle.std.proofs.Common.{◌≡◌, ◌<◌, ◌≤◌, Bool, true, false, not, List, [], ◌∷◌, length, slice_index_or, refl, arith}
use Rattle.std.specs.List.{IsDistinct}
use Rattle.gix_odb_events.specs.PackFiles.{same_path, HasDifferentPaths}
use Rattle.gix_odb_events.specs.declared.listing.ListingRow.{ListingRow}

-- no row, or one
pub HasDifferentPaths-few : (rows : List ListingRow) → length rows < 2 → HasDifferentPaths rows
unfolding IsDistinct
HasDifferentPaths-few [] few = tt
HasDifferentPaths-few (row ∷ []) few = (tt, tt)
HasDifferentPaths-few (row ∷ other ∷ rest) few = absurd (omega (arith, few))

other_paths : (x y a b : ListingRow) → x ≡ a → y ≡ b → not (same_path x.path y.path) ≡ true → same_path a.path b.path ≡ false
other_paths x y a b is so differ = by (same_path a.path b.path) cc
  where
    by : (c : Bool) → not c ≡ true → c ≡ false
    by true h = absurd cc
    by false h = refl

-- the rows of a list of two
pub HasDifferentPaths-two : (rows : List ListingRow) (x y : ListingRow) → 2 ≤ length rows → length rows < 3 → x ≡ slice_index_or rows 0 x → y ≡ slice_index_or rows 1 y
    → not (same_path x.path y.path) ≡ true → HasDifferentPaths rows
unfolding IsDistinct
HasDifferentPaths-two [] x y least most is so differ = absurd (omega (arith, least))
HasDifferentPaths-two (a ∷ []) x y least most is so differ = absurd (omega (arith, least))
HasDifferentPaths-two (a ∷ b ∷ []) x y least most is so differ = ((other_paths x y a b is so differ, tt), (tt, tt))
HasDifferentPaths-two (a ∷ b ∷ c ∷ rest) x y least most is so differ = absurd (omega (arith, most))
