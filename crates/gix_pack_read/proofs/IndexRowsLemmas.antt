-- The rows of an index, one after another.
use Rattle.std.proofs.Common.{◌≡◌, ℕ, ◌+◌, ◌<◌, ◌≤◌, List, [], ◌∷◌, length, map, drop, slice_get, Some, None, option_map, ap, ◌∙◌, arith}
use Rattle.std.proofs.lemmas.List.{length-map, drop_all}
use Rattle.std.specs.List.{zip}
use Rattle.std.proofs.lemmas.Option.{slice_get-map}
use Rattle.gix_hash.specs.declared.kind.Kind.{Kind}
use Rattle.gix_hash.specs.declared.object_id.ObjectId.{ObjectId}
use Rattle.gix_pack_read.specs.Index.{ids_place, index_ids, index_offsets, index_rows, objects_in}
use Rattle.gix_pack_read.specs.IndexRows.{unchecked}
use Rattle.gix_pack_read.specs.Rows.{Row}
use Rattle.gix_pack_read.proofs.ListLemmas.{drop_at, zip_get}
use Rattle.gix_pack_read.proofs.SearchLemmas.{length-ids_of}

length-zip : {X Y : Type 0} (xs : List X) (ys : List Y) → length (zip xs ys) ≤ length xs
length-zip [] ys = omega arith
length-zip (a ∷ xs) [] = omega arith
length-zip (a ∷ xs) (b ∷ ys) = let less = length-zip xs ys in omega arith

abbrev row_of : ObjectId × ℕ → Row
row_of pair = record { id = pair.0; offset = pair.1 }

-- a row, and those after it
rows_more : (kind : Kind) (bytes : List ℕ) (row : ℕ) (id : ObjectId) (offset : ℕ) → slice_get (index_ids kind bytes) row ≡ Some id → slice_get (index_offsets kind bytes) row ≡ Some offset
    → drop row (index_rows kind bytes) ≡ record { id = id; offset = offset } ∷ drop (row + 1) (index_rows kind bytes)
rows_more kind bytes row id offset its own =
    drop_at (index_rows kind bytes) row (record { id = id; offset = offset })
    (slice_get-map row_of (zip (index_ids kind bytes) (index_offsets kind bytes)) row ∙ ap (option_map row_of) (zip_get (index_ids kind bytes) (index_offsets kind bytes) row id offset its own))

-- after the last row there is none
rows_end : (kind : Kind) (bytes : List ℕ) (row : ℕ) → objects_in bytes ≤ row → drop row (index_rows kind bytes) ≡ []
rows_end kind bytes row past =
    let whole = length-map (zip (index_ids kind bytes) (index_offsets kind bytes)) row_of in
    let pairs = length-zip (index_ids kind bytes) (index_offsets kind bytes) in
    let ids : length (index_ids kind bytes) ≡ objects_in bytes = length-ids_of kind (objects_in bytes) (drop ids_place bytes) in
    drop_all row (index_rows kind bytes) (omega arith)

-- after the last row by a count that was read, nothing is returned
pub entries_end : (kind : Kind) (bytes : List ℕ) (row count : ℕ) → count ≡ objects_in bytes → count ≤ row → map unchecked (drop row (index_rows kind bytes)) ≡ []
entries_end kind bytes row count count_is past = ap (map unchecked) (rows_end kind bytes row (rw (← count_is) past))

-- a row is returned without a checksum, and those after it
pub entries_more : (kind : Kind) (bytes : List ℕ) (row : ℕ) (id : ObjectId) (offset : ℕ) → slice_get (index_ids kind bytes) row ≡ Some id → slice_get (index_offsets kind bytes) row ≡ Some offset
    → map unchecked (drop row (index_rows kind bytes)) ≡ (record { id = id; offset = offset }, None) ∷ map unchecked (drop (row + 1) (index_rows kind bytes))
entries_more kind bytes row id offset its own = ap (map unchecked) (rows_more kind bytes row id offset its own)

-- the others are fewer
pub fewer_entries : {X : Type 0} (entries others : List X) (entry : X) → entries ≡ entry ∷ others → length others < length entries
fewer_entries entries others entry is = rw is (omega arith)
