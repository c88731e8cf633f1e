-- A pack index, version 2.
--
--     part                                        bytes
--     255 116 79 99, the number 2                 8
--     256 cumulative counts; the last is n        1,024
--     n ids, strictly rising                      n * h
--     n CRC values, which reading ignores         4 * n
--     n offsets                                   4 * n
--     w wide offsets                              8 * w
--     the pack's trailing hash, the index's own   2 * h
--
-- Here h is the length of an id. A part's offset is the sum of the parts before it.
use Rattle.std.specs.Prelude.{ℕ, ◌+◌, ◌-◌, ◌*◌, ◌/◌, ◌==◌, ◌&&◌, Bool, List, [], ◌∷◌, ◌++◌, length, drop, map, nat_eq, Option, Some, None, if◌then◌else◌}
use Rattle.std.specs.List.{list_all, starts_with, zip}
use Rattle.gix_hash.specs.Kind.{len_in_bytes_of}
use Rattle.gix_hash.specs.declared.kind.Kind.{Kind}
use Rattle.gix_hash.specs.declared.object_id.ObjectId.{ObjectId}
use Rattle.gix_pack_read.specs.Bytes.{same, number_at, numbers, long_numbers}
use Rattle.gix_pack_read.specs.Rows.{Row, ids_of, is_rising, counts_of, offset_in, is_named_below, wide_len}

-- the first bytes of an index that has a version
abbrev pub index_start : List ℕ
index_start = 255 ∷ 116 ∷ 79 ∷ 99 ∷ []

-- the first bytes of each version 2 index
abbrev pub signature : List ℕ
signature = index_start ++ 0 ∷ 0 ∷ 0 ∷ 2 ∷ []

-- the offset of the 256 counts: after the signature
abbrev pub counts_place : ℕ
counts_place = 8

-- the offset of the last of them: after the signature and 255 counts
abbrev pub last_count_place : ℕ
last_count_place = 1028

-- the offset of the ids: after the signature and 256 counts
abbrev pub ids_place : ℕ
ids_place = 1032

-- n: the number of objects, from the last of the counts
abbrev pub objects_in : List ℕ → ℕ
objects_in bytes = number_at last_count_place bytes

-- where the offsets begin in the file, and below where the wide ones do
abbrev pub offsets_place : Kind → ℕ → ℕ
offsets_place kind n = ids_place + n * (len_in_bytes_of kind + 4)

abbrev pub wides_place : Kind → ℕ → ℕ
wides_place kind n = ids_place + n * (len_in_bytes_of kind + 8)

-- w: how many wide offsets the length leaves room for
abbrev pub wides_in : Kind → List ℕ → ℕ
wides_in kind bytes = (length bytes - (wides_place kind (objects_in bytes) + 2 * len_in_bytes_of kind)) / wide_len

-- the ids
abbrev pub index_ids : Kind → List ℕ → List ObjectId
index_ids kind bytes = ids_of kind (objects_in bytes) (drop ids_place bytes)

-- the offsets, in their four bytes
abbrev pub narrow_offsets : Kind → List ℕ → List ℕ
narrow_offsets kind bytes = numbers (objects_in bytes) (drop (offsets_place kind (objects_in bytes)) bytes)

-- the table of wide offsets
abbrev pub wide_offsets : Kind → List ℕ → List ℕ
wide_offsets kind bytes = long_numbers (wides_in kind bytes) (drop (wides_place kind (objects_in bytes)) bytes)

-- whether the length is that of n objects and w wide offsets, and no other
abbrev pub has_length : Kind → List ℕ → Bool
has_length kind bytes = length bytes == wides_place kind (objects_in bytes) + wide_len * wides_in kind bytes + 2 * len_in_bytes_of kind

-- whether the ids rise strictly, the counts are theirs, and each offset that refers to a row of the wide ones refers to an existing one
unfoldable pub tables_agree : Kind → List ℕ → Bool
tables_agree kind bytes =
    is_rising (index_ids kind bytes) && same (numbers 256 (drop counts_place bytes)) (counts_of (index_ids kind bytes))
    && list_all (is_named_below (wides_in kind bytes)) (narrow_offsets kind bytes)

-- whether bytes are an index: they begin with the signature, and have their length, and tables that agree
unfoldable pub is_index : Kind → List ℕ → Bool
is_index kind bytes = starts_with nat_eq bytes signature && has_length kind bytes && tables_agree kind bytes

-- the offsets of the objects, in the order of their ids
abbrev pub index_offsets : Kind → List ℕ → List ℕ
index_offsets kind bytes = map (offset_in (wide_offsets kind bytes)) (narrow_offsets kind bytes)

-- the rows of an index
abbrev pub index_rows : Kind → List ℕ → List Row
index_rows kind bytes = map (λ row. record { id = row.0; offset = row.1 }) (zip (index_ids kind bytes) (index_offsets kind bytes))

-- the rows of bytes as an index, if they are one
abbrev pub rows_of_index : Kind → List ℕ → Option (List Row)
rows_of_index kind bytes = if is_index kind bytes then Some (index_rows kind bytes) else None
