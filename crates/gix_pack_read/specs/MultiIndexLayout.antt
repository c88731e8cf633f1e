-- The places of the parts of a multi-pack index in its bytes, as a parsed one keeps them. No public clause cites this module.
use Rattle.std.specs.Prelude.{◌≡◌, ℕ, ◌*◌, ◌/◌, ◌%◌, ◌==◌, ◌+◌, ◌^◌, ◌<◌, ◌≤◌, ◌&&◌, Bool, true, nat_lt, List, [], ◌∷◌, length, map, slice_get, Option, Some, None, option_map}
use Rattle.std.specs.List.{list_all, zip}
use Rattle.gix_hash.specs.Kind.{len_in_bytes_of}
use Rattle.gix_hash.specs.declared.kind.Kind.{Kind}
use Rattle.gix_hash.specs.declared.object_id.ObjectId.{ObjectId}
use Rattle.gix_pack_read.specs.Bytes.{part, numbers, same, table}
use Rattle.gix_pack_read.specs.MultiIndex.Chunks.{Chunk, chunk_rows, ends_at, has_header, has_room, kind_in, packs_in, trailer_place}
use Rattle.gix_pack_read.specs.MultiIndex.{Parts, at_most_one, parts_of, have_lengths, multi_index_of, narrow_in, objects_in, offset_row_len, offset_rows, pack_in, pack_row, part_ids}
use Rattle.gix_pack_read.specs.MultiIndex.Held.{has_offset}
use Rattle.gix_pack_read.specs.Rows.{PackRow, counts_fit, counts_len, counts_of, ids_of, is_named_below, is_rising, wide_len}
use Rattle.gix_pack_read.specs.declared.multi_index.layout.Layout as layout
use Rattle.gix_pack_read.specs.declared.multi_index.layout.Span as span
use Rattle.gix_pack_read.specs.declared.multi_index.layout.Spans as spans

-- ---- chunks that were found

abbrev pub span_of : List ℕ → span.Span → List ℕ
span_of bytes place = part place.start place.len bytes

abbrev pub IsIn : List ℕ → span.Span → Type 0
IsIn bytes place = place.start + place.len ≤ length bytes

-- the chunk of wide offsets is in the bytes, if there is one
abbrev pub IsInIfThere : List ℕ → Option span.Span → Type 0
IsInIfThere bytes None = Unit {0}
IsInIfThere bytes (Some place) = IsIn bytes place

-- the contents of a chunk that may be missing, with one that was found and those after it
abbrev pub with_found : List ℕ → Option span.Span → List Chunk → Option (Option (List ℕ))
with_found bytes None chunks = at_most_one chunks
with_found bytes (Some place) [] = Some (Some (span_of bytes place))
with_found bytes (Some place) (chunk ∷ chunks) = None

-- the chunks at these places
abbrev pub parts_at : List ℕ → spans.Spans → Parts
parts_at bytes places =
    record {
      names = span_of bytes places.names;
      counts = span_of bytes places.counts;
      ids = span_of bytes places.ids;
      offsets = span_of bytes places.offsets;
      wides = option_map (span_of bytes) places.wides;
    }

-- the chunks are in the bytes
pub record AreIn (bytes : List ℕ) (places : spans.Spans) : Type 0 where
  pub names : IsIn bytes places.names
  pub counts : IsIn bytes places.counts
  pub ids : IsIn bytes places.ids
  pub offsets : IsIn bytes places.offsets
  pub wides : IsInIfThere bytes places.wides

-- how many bytes of wide offsets there are
abbrev pub len_of : Option span.Span → ℕ
len_of None = 0
len_of (Some place) = place.len

-- whether four bytes are an offset, by the number of wide ones, if there is a chunk of them
abbrev pub is_offset : Option ℕ → ℕ → Bool
is_offset None narrow = true
is_offset (Some wides) narrow = is_named_below wides narrow

-- whether a row has one of `packs` packs, and an offset
abbrev pub is_row : ℕ → Option ℕ → List ℕ → Bool
is_row packs wides row = nat_lt (pack_in row) packs && is_offset wides (narrow_in row)

-- how many wide offsets there are, if there is a chunk of them
abbrev pub wides_in : Option (List ℕ) → Option ℕ
wides_in wides = option_map (λ (chunk : List ℕ). length chunk / wide_len) wides

-- whether the ids rise strictly, and the counts are theirs
abbrev pub ids_agree : Kind → Parts → Bool
ids_agree kind parts = is_rising (part_ids kind parts) && same (numbers 256 parts.counts) (counts_of (part_ids kind parts))

-- whether each row has one of `packs` packs, and an offset
abbrev pub rows_name : ℕ → Parts → Bool
rows_name packs parts = list_all (is_row packs (wides_in parts.wides)) (offset_rows parts)

-- whether both agree
unfoldable pub rows_agree : Kind → ℕ → Parts → Bool
rows_agree kind packs parts = ids_agree kind parts && rows_name packs parts

-- whether the parts agree, but for the names
unfoldable pub tables_agree : Kind → ℕ → Parts → Bool
tables_agree kind packs parts = have_lengths kind parts && rows_agree kind packs parts

-- ---- what is kept

-- the places of the rows among those of the chunks
abbrev pub layout_in : List ℕ → spans.Spans → layout.Layout
layout_in bytes places = record { count = objects_in (parts_at bytes places); counts = places.counts; ids = places.ids; offsets = places.offsets; wides = places.wides }

-- whether ids, offsets and wide offsets have the lengths of tables of `count` rows
abbrev pub spans_have_lengths : Kind → layout.Layout → Bool
spans_have_lengths kind places =
    places.ids.len == places.count * len_in_bytes_of kind && places.offsets.len == places.count * offset_row_len
    && len_of places.wides % wide_len == 0

-- the chunk of wide offsets, if there is one
abbrev pub wides_at : layout.Layout → List ℕ → Option (List ℕ)
wides_at places bytes = option_map (span_of bytes) places.wides

abbrev pub ids_at : Kind → layout.Layout → List ℕ → List ObjectId
ids_at kind places bytes = ids_of kind places.count (span_of bytes places.ids)

abbrev pub offset_rows_at : layout.Layout → List ℕ → List (List ℕ)
offset_rows_at places bytes = table offset_row_len places.count (span_of bytes places.offsets)

-- the rows at these places
unfoldable pub rows_at : Kind → layout.Layout → List ℕ → List PackRow
rows_at kind places bytes = map (pack_row (wides_at places bytes)) (zip (ids_at kind places bytes) (offset_rows_at places bytes))

-- their ids
abbrev pub row_ids : Kind → layout.Layout → List ℕ → List ObjectId
row_ids kind places bytes = map (λ (row : PackRow). row.id) (rows_at kind places bytes)

-- the value of a part in the row with this number
abbrev pub told_by : {X : Type 0} → (PackRow → X) → Kind → layout.Layout → List ℕ → ℕ → Option X
told_by part_of kind places bytes n = option_map part_of (slice_get (rows_at kind places bytes) n)

-- the tables are in the bytes, the ids rise strictly, the counts are theirs, and each offset that refers to a wide one refers to an existing one
pub record IsLaidOut (kind : Kind) (places : layout.Layout) (bytes : List ℕ) : Type 0 where
  pub counts_in : IsIn bytes places.counts
  pub ids_in : IsIn bytes places.ids
  pub offsets_in : IsIn bytes places.offsets
  pub wides_in : IsInIfThere bytes places.wides
  pub counts_len : places.counts.len ≡ counts_len
  pub ids_len : places.ids.len ≡ places.count * len_in_bytes_of kind
  pub offsets_len : places.offsets.len ≡ places.count * offset_row_len
  pub rising : is_rising (ids_at kind places bytes) ≡ true
  pub counted : counts_fit (span_of bytes places.counts) (ids_at kind places bytes) ≡ true
  pub named : list_all (λ row. has_offset (wides_at places bytes) (narrow_in row)) (offset_rows_at places bytes) ≡ true

-- bytes hold a multi-index of this kind, with these names, and with the rows at these places
pub record IsRead (kind : Kind) (names : List (List ℕ)) (places : layout.Layout) (bytes : List ℕ) : Type 0 where
  pub told : multi_index_of bytes ≡ Some (record { kind = kind; names = names; rows = rows_at kind places bytes })
  pub few : length names < 2 ^ 32
  pub laid_out : IsLaidOut kind places bytes

-- the header and the chunk table are sound, the chunks are at these places, and agree except perhaps for the names
pub record AreTables (places : spans.Spans) (rows : layout.Layout) (bytes : List ℕ) : Type 0 where
  pub front : (has_header bytes && has_room bytes && ends_at (trailer_place bytes) (chunk_rows bytes)) ≡ true
  pub within : AreIn bytes places
  pub parts : parts_of bytes ≡ Some (parts_at bytes places)
  pub agree : tables_agree (kind_in bytes) (packs_in bytes) (parts_at bytes places) ≡ true
  pub rows_are : rows ≡ layout_in bytes places
