-- The order in which the rows of a listing are tried: the longest file first, and files of one length in the order in which they were found.
use Rattle.std.specs.Prelude.{List, [], ◌∷◌, nat_lt, if◌then◌else◌}
use Rattle.gix_odb_events.specs.declared.listing.ListingRow.{ListingRow}

-- a row is put before the first one that is shorter
abbrev pub put_row : ListingRow → List ListingRow → List ListingRow
put_row row [] = row ∷ []
put_row row (other ∷ rows) = if nat_lt other.len row.len then row ∷ other ∷ rows else other ∷ put_row row rows

-- rows put among others that are in order, one after another
abbrev pub put_rows : List ListingRow → List ListingRow → List ListingRow
put_rows ordered [] = ordered
put_rows ordered (row ∷ rows) = put_rows (put_row row ordered) rows

abbrev pub longest_first : List ListingRow → List ListingRow
longest_first rows = put_rows [] rows
