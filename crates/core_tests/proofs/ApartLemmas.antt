-- Rows of different paths, row by row.
use Rattle.std.proofs.Common.{◌≡◌, Bool, true, false, not, ◌&&◌, List, [], ◌∷◌, map, ◌||◌, refl}
use Rattle.std.specs.List.{AllByRecursion, IsDistinct, list_any}
use Rattle.core_tests.specs.Apart.{are_apart}
use Rattle.odb_base.specs.Path.{Path}
use Rattle.gix_odb_events.specs.PackFiles.{same_path, HasDifferentPaths}
use Rattle.gix_odb_events.specs.declared.listing.ListingRow.{ListingRow}

-- whether a row has a path
abbrev has : Path → List ListingRow → Bool
has path rows = list_any (λ (row : ListingRow). same_path path row.path) rows

-- the paths of rows are others
abbrev others : Path → List ListingRow → Type 0
others path rows = AllByRecursion (λ y. same_path path y ≡ false) (map (λ (row : ListingRow). row.path) rows)

-- a path that no row has differs from each row's
each-other : (path : Path) (rows : List ListingRow) → has path rows ≡ false → others path rows
each-other path [] none = tt
each-other path (row ∷ rows) none = by (same_path path row.path) none (each-other path rows)
  where
    by : (b : Bool) → (b || has path rows) ≡ false → (has path rows ≡ false → others path rows) → (b ≡ false) × others path rows
    by true none rest = absurd cc
    by false none rest = (refl, rest none)

pub HasDifferentPaths-from : (rows : List ListingRow) → are_apart rows ≡ true → HasDifferentPaths rows
unfolding IsDistinct are_apart
HasDifferentPaths-from [] apart = tt
HasDifferentPaths-from (row ∷ rows) apart = by (has row.path rows) refl (are_apart rows) refl apart (HasDifferentPaths-from rows)
  where
    by : (b : Bool) → has row.path rows ≡ b → (c : Bool) → are_apart rows ≡ c → (not b && c) ≡ true → (are_apart rows ≡ true → HasDifferentPaths rows) → others row.path rows × HasDifferentPaths rows
    by true is c so apart rest = absurd cc
    by false is true so apart rest = (each-other row.path rows is, rest so)
    by false is false so apart rest = absurd cc
