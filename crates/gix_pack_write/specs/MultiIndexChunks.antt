-- No public clause cites this module: chunks as the encoder of multi-pack indices keeps them.
use Rattle.std.specs.Prelude.{◌≡◌, ℕ, Bool, true, List, ◌∷◌, [], ◌++◌, length, map, sum_by, codes}
use Rattle.std.specs.Int.{w32, to_be_bytes}
use Rattle.std.specs.List.{filter, flat_map, zip}
use Rattle.std.specs.Ordering.{is_lt}
use Rattle.odb_base.specs.Path.{name_cmp}
use Rattle.gix_hash.specs.declared.kind.Kind.{Kind as HashKind}
use Rattle.gix_pack_read.specs.MultiIndex.Chunks.{Chunk, multi_index_start}
use Rattle.gix_pack_write.specs.WrittenMultiIndex.{Named, chunk_table, chunks_place, hash_number, named_seen, names_of, offsets_written, pack_and_offset, wide_chunk}
use Rattle.gix_pack_write.specs.PlacedRow.{offset_of, pack_of}
use Rattle.gix_pack_write.specs.WrittenTables.{is_wide, long_number_bytes, narrow_from}
use Rattle.gix_pack_write.specs.declared.rows.Placed.{Placed}
use Rattle.gix_pack_write.specs.declared.multi_index.named_pack.NamedPack as given
use Rattle.gix_pack_write.specs.declared.multi_index.writing.Chunk as kept

abbrev pub chunk_seen : kept.Chunk → Chunk
chunk_seen chunk = record { name = chunk.name; bytes = chunk.bytes }

-- the most chunks of a multi-index: names, counts, ids, offsets and wide offsets
abbrev pub most_chunks : ℕ
most_chunks = 5

-- some chunks were appended to others
abbrev pub Gains : List kept.Chunk → List kept.Chunk → List Chunk → Type 0
Gains before now more = map chunk_seen now ≡ map chunk_seen before ++ more

-- one chunk
abbrev pub one_chunk : List ℕ → List ℕ → List Chunk
one_chunk name bytes = record { name = name; bytes = bytes } ∷ []

-- the chunk of packs and offsets, and that of wide offsets if one is needed
abbrev pub offset_chunks : List ℕ → List ℕ → List Chunk
offset_chunks packs offsets =
    record { name = codes "OOFF"; bytes = flat_map pack_and_offset (zip packs (offsets_written offsets)) } ∷ wide_chunk offsets

-- rows of the offsets: the numbers of the rows' packs, with these offsets
abbrev pub place_bytes : List Placed → List ℕ → List ℕ
place_bytes rows offsets = flat_map pack_and_offset (zip (map pack_of rows) offsets)

-- the names of packs that are given
abbrev pub names_given : List given.NamedPack → List (List ℕ)
names_given packs = names_of (map named_seen packs)

-- a multi-index of some packs and chunks, without its hash
abbrev pub front_with : HashKind → ℕ → List Chunk → List ℕ
front_with hash packs chunks =
    multi_index_start ++ 1 ∷ hash_number hash ∷ length chunks ∷ 0 ∷ to_be_bytes w32 packs ++ chunk_table (chunks_place (length chunks)) chunks
    ++ flat_map (λ (chunk : Chunk). chunk.bytes) chunks

-- the chunk of offsets if some are wide, and that of the wide ones
abbrev pub narrow_chunk : List Placed → List Chunk
narrow_chunk rows = one_chunk (codes "OOFF") (place_bytes rows (narrow_from 0 (map offset_of rows)))

abbrev pub wide_rows_chunk : List Placed → List Chunk
wide_rows_chunk rows = one_chunk (codes "LOFF") (long_number_bytes (filter is_wide (map offset_of rows)))

-- how many bytes chunks have in all
abbrev pub bytes_over : List Chunk → ℕ
bytes_over chunks = length (flat_map (λ (chunk : Chunk). chunk.bytes) chunks)

-- how many objects packs have in all
abbrev pub objects_over : List Named → ℕ
objects_over packs = sum_by (λ (pack : Named). length pack.objects) packs

-- whether a name is below the first of some names, if there is one
abbrev pub below_first : List ℕ → List (List ℕ) → Bool
below_first name [] = true
below_first name (first ∷ names) = is_lt (name_cmp name first)
