-- A multi-pack index, version 1.
--
--     part                                             bytes
--     `MIDX`, 1, the hash's number                     6
--     number of chunks c, number of base files (0)     2
--     number of packs p                                4
--     c + 1 rows of a name and a place                 12 * (c + 1)
--     chunks, each up to the place of the next row     as the rows say
--     trailing hash                                    h
--
-- The places never fall. The last row has the name 0, and the place of the trailing hash.
pub mod Chunks
pub mod Held
use Rattle.std.specs.Prelude.{◌≡◌, ◌⊎◌, ℕ, ◌-◌, ◌*◌, ◌%◌, ◌==◌, ◌&&◌, Bool, true, List, [], ◌∷◌, length, take, map, codes}
use Rattle.std.specs.Prelude.{nat_lt, Option, Some, None, Result, Err, ok_or, option_and_then, unwrap_or, if◌then◌else◌}
use Rattle.std.specs.List.{list_all, zip}
use Rattle.gix_hash.specs.Kind.{len_in_bytes_of}
use Rattle.gix_hash.specs.declared.kind.Kind.{Kind}
use Rattle.gix_hash.specs.declared.kind.Kind.TheVariants.{Sha1}
use Rattle.gix_hash.specs.declared.object_id.ObjectId.{ObjectId}
use Rattle.gix_pack_read.specs.declared.multi_index.file.Error.{Error}
use Rattle.gix_pack_read.specs.declared.multi_index.file.Error.TheVariants.{AboveLimit, BadMultiIndex, NoMemory}
use Rattle.gix_pack_read.specs.Bytes.{is_within, same, table, number_at, numbers}
use Rattle.gix_pack_read.specs.Rows.{PackRow, counts_len, ids_of, is_rising, counts_of, wide_len}
use Rattle.gix_pack_read.specs.MultiIndex.Chunks.{Chunk, chunk, chunk_rows, ends_at, has_header, has_room, kind_in, last_count_place, named, packs_in, trailer_place}
pub use Rattle.gix_pack_read.specs.MultiIndex.Chunks.{multi_index_start}
pub use Rattle.gix_pack_read.specs.MultiIndex.Held.{are_names}
use Rattle.gix_pack_read.specs.MultiIndex.Held.{has_offset, holds_names, name_parts, offset_of_bytes}

-- ---- the whole

-- the parts of a multi-index that hold its names and rows
pub record Parts : Type 0 where
  pub names : List ℕ
  pub counts : List ℕ
  pub ids : List ℕ
  pub offsets : List ℕ
  -- the chunk of wide offsets, if there is one
  pub wides : Option (List ℕ)

infixl 10 ◌>>=◌
abbrev ◌>>=◌ : {A B : Type 0} → Option A → (A → Option B) → Option B
found >>= f = option_and_then f found

-- the chunk of wide offsets may be missing, and is there at most once
abbrev pub at_most_one : List Chunk → Option (Option (List ℕ))
at_most_one [] = Some None
at_most_one (chunk ∷ []) = Some (Some chunk.bytes)
at_most_one (chunk ∷ other ∷ chunks) = None

-- the parts, if each required chunk is there exactly once
unfoldable pub parts_of : List ℕ → Option Parts
parts_of bytes = do
  names ← chunk (codes "PNAM") bytes
  counts ← chunk (codes "OIDF") bytes
  ids ← chunk (codes "OIDL") bytes
  offsets ← chunk (codes "OOFF") bytes
  wides ← at_most_one (named (codes "LOFF") bytes)
  Some (record { names = names; counts = counts; ids = ids; offsets = offsets; wides = wides })

-- n: the number of objects, from the last of the counts
abbrev pub objects_in : Parts → ℕ
objects_in parts = number_at last_count_place parts.counts

abbrev pub part_ids : Kind → Parts → List ObjectId
part_ids kind parts = ids_of kind (objects_in parts) parts.ids

-- the length of a row of the offsets: the number of a pack, and an offset, of four bytes each
abbrev pub offset_row_len : ℕ
offset_row_len = 8

-- the contents of such a row: the pack first, and below the offset after it
abbrev pub pack_in : List ℕ → ℕ
pack_in row = number_at 0 row

abbrev pub narrow_in : List ℕ → ℕ
narrow_in row = number_at 4 row

abbrev pub offset_rows : Parts → List (List ℕ)
offset_rows parts = table offset_row_len (objects_in parts) parts.offsets

-- whether the chunks have their lengths
abbrev pub have_lengths : Kind → Parts → Bool
have_lengths kind parts =
    length parts.counts == counts_len && length parts.ids == objects_in parts * len_in_bytes_of kind
    && length parts.offsets == objects_in parts * offset_row_len && length (unwrap_or parts.wides []) % wide_len == 0

-- whether the parts agree: names and ids that rise strictly, the counts of the ids, packs that have names, and offsets
unfoldable pub are_parts : Kind → ℕ → Parts → Bool
are_parts kind packs parts =
    have_lengths kind parts && holds_names packs parts.names && is_rising (part_ids kind parts)
    && same (numbers 256 parts.counts) (counts_of (part_ids kind parts))
    && list_all (λ row. nat_lt (pack_in row) packs && has_offset parts.wides (narrow_in row)) (offset_rows parts)

-- the contents of a multi-index: its hash, the names of its packs, and its rows
pub record MultiIndex : Type 0 where
  pub kind : Kind
  pub names : List (List ℕ)
  pub rows : List PackRow

abbrev pub pack_row : Option (List ℕ) → ObjectId × List ℕ → PackRow
pack_row wides row = record { id = row.0; pack = pack_in row.1; offset = offset_of_bytes wides (narrow_in row.1) }

-- the rows in the parts
abbrev pub rows_of : Kind → Parts → List PackRow
rows_of kind parts = map (pack_row parts.wides) (zip (part_ids kind parts) (offset_rows parts))

-- the multi-index in the parts, if they agree
unfoldable pub multi_index_from : Kind → ℕ → Parts → Option MultiIndex
multi_index_from kind packs parts =
    if are_parts kind packs parts
    then Some (record { kind = kind; names = take packs (name_parts parts.names); rows = rows_of kind parts })
    else None

-- the multi-index in bytes, if they are one
unfoldable pub multi_index_of : List ℕ → Option MultiIndex
multi_index_of bytes =
    if has_header bytes && has_room bytes && ends_at (trailer_place bytes) (chunk_rows bytes)
    then (do
      parts ← parts_of bytes
      multi_index_from (kind_in bytes) (packs_in bytes) parts)
    else None

-- the multi-index in bytes that are known to be one
unfoldable pub told : List ℕ → MultiIndex
told bytes = unwrap_or (multi_index_of bytes) (record { kind = Sha1; names = []; rows = [] })

-- the result of reading: the limit is tested first
abbrev pub read_of : Option ℕ → List ℕ → Result MultiIndex Error
read_of limit bytes = if is_within limit (length bytes) then ok_or (multi_index_of bytes) BadMultiIndex else Err AboveLimit

-- why reading fails: with its result for the bytes, or because memory ran out, the latter only within the limit
abbrev pub IsRefusal : Option ℕ → List ℕ → Error → Type 0
IsRefusal limit bytes error = (read_of limit bytes ≡ Err error) ⊎ ((error ≡ NoMemory) × (is_within limit (length bytes) ≡ true))
