-- The keys of indices, and their order. Public clauses cite only `parts_cmp`.
use Rattle.std.specs.Prelude.{ℕ, Bool, List, Option, Some, None}
use Rattle.std.specs.Ordering.{is_eq, nat_cmp, ordering_then}
use Rattle.std.specs.Option.{option_cmp}
use Rattle.std.specs.declared.cmp.Ordering.{Ordering}
use Rattle.odb_base.specs.Path.{Path, path_cmp}
use Rattle.gix_odb_core.specs.declared.index_key.IndexKey.{IndexKey}
use Rattle.gix_odb_events.specs.declared.listing.ListingRow.{ListingRow}
use Rattle.gix_odb_events.specs.declared.slot.IndexFile.{IndexFile}
use Rattle.gix_odb_events.specs.declared.slot.IndexFile.TheVariants.{Single, Multi}

-- the time of a multi-pack index; another index has none
abbrev pub row_time : Option (List ℕ) → ℕ → Option ℕ
row_time None time = None
row_time (Some multi) time = Some time

abbrev pub index_time : IndexFile → ℕ → Option ℕ
index_time (Single file) time = None
index_time (Multi file) time = Some time

-- by the path, and then by the time
abbrev pub parts_cmp : Path → Option ℕ → Path → Option ℕ → Ordering
parts_cmp path time other later = ordering_then (path_cmp path other) (option_cmp nat_cmp time later)

abbrev pub key_cmp : IndexKey → IndexKey → Ordering
key_cmp one other = parts_cmp one.path.now one.multi_time other.path.now other.multi_time

-- whether a row's index has a key
abbrev pub row_has : IndexKey → ListingRow → Bool
row_has key row = is_eq (parts_cmp row.path (row_time row.multi row.time) key.path.now key.multi_time)
