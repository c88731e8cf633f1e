-- Rows of a listing, row by row.
use Rattle.std.specs.Prelude.{Bool, true, not, ◌&&◌, List, [], ◌∷◌}
use Rattle.std.specs.List.{list_any}
use Rattle.gix_odb_events.specs.PackFiles.{same_path}
use Rattle.gix_odb_events.specs.declared.listing.ListingRow.{ListingRow}

-- whether no two rows have the same path
unfoldable pub are_apart : List ListingRow → Bool
are_apart [] = true
are_apart (row ∷ rows) = not (list_any (λ (other : ListingRow). same_path row.path other.path) rows) && are_apart rows
