-- What the encoder of multi-pack indices writes: the required chunks in their order, wide offsets if one is needed, and the hash.
use Rattle.std.specs.Prelude.{◌≡◌, ℕ, ◌+◌, ◌-◌, ◌*◌, ◌%◌, ◌^◌, ◌<◌, Bool, true, List, [], ◌∷◌, ◌++◌, length, map, sum_by, codes, not, nat_lt, replicate, Some, if◌then◌else◌}
use Rattle.std.specs.List.{flat_map, filter, list_any, zip, enumerate_from}
use Rattle.std.specs.Int.{w32, w64, to_be_bytes}
use Rattle.gix_hash.specs.Hash.{hash_of}
use Rattle.gix_hash.specs.ObjectId.{bytes_of}
use Rattle.gix_hash.specs.declared.kind.Kind.{Kind as HashKind}
use Rattle.gix_hash.specs.declared.kind.Kind.TheVariants.{Sha1, Sha256}
use Rattle.gix_object.specs.Data.{Object}
use Rattle.gix_pack_read.specs.Rows.{Row, PackRow, counts_of, rows_limit}
use Rattle.gix_pack_read.specs.MultiIndex.Chunks.{Chunk, header_len, multi_index_start, name_len, row_len}
use Rattle.gix_pack_read.specs.MultiIndex.Held.{are_names}
use Rattle.gix_pack_read.specs.MultiIndex.{multi_index_of}
use Rattle.gix_pack_write.specs.WrittenPack.{object_seen, rows_in_order}
use Rattle.gix_pack_write.specs.declared.multi_index.named_pack.NamedPack as given
use Rattle.gix_pack_write.specs.WrittenTables.{IsTableOf, table_of, is_wide, narrow_from, number_bytes, long_number_bytes}

-- a pack with a name: the name of its index, and its objects
pub record Named : Type 0 where
  pub name : List ℕ
  pub objects : List Object

-- a pack that is given
abbrev pub named_seen : given.NamedPack → Named
named_seen pack = record { name = pack.name; objects = map object_seen pack.objects }

abbrev pub names_of : List Named → List (List ℕ)
names_of packs = map (λ (pack : Named). pack.name) packs

-- the input of the encoder: fewer than 2^31 packs, with names that rise strictly, and fewer than 2^31 objects in all of them
pub record CanBeWritten (packs : List Named) : Type 0 where
  pub few_packs : length packs < rows_limit
  pub few_objects : sum_by (λ (pack : Named). length pack.objects) packs < rows_limit
  pub names : are_names (names_of packs) ≡ true

-- the rows of a pack, as rows of the pack with this number
abbrev pub in_pack : ℕ → Row → PackRow
in_pack pack row = record { id = row.id; pack = pack; offset = row.offset }

abbrev pub rows_in_pack : HashKind → ℕ × Named → List PackRow
rows_in_pack hash pack = map (in_pack pack.0) (rows_in_order hash pack.1.objects)

-- the rows of all packs, in the order of the packs and of their objects
unfoldable pub rows_in_packs : HashKind → List Named → List PackRow
rows_in_packs hash packs = flat_map (rows_in_pack hash) (enumerate_from 0 packs)

-- ---- the chunks

abbrev pub hash_number : HashKind → ℕ
hash_number Sha1 = 1
hash_number Sha256 = 2

-- the names, each ended by NUL
abbrev pub name_bytes : List (List ℕ) → List ℕ
name_bytes names = flat_map (λ name. name ++ 0 ∷ []) names

-- the length of the chunk of names is a multiple of this, so that the next one is aligned
abbrev pub alignment : ℕ
alignment = 4

-- bytes, with NULs up to a multiple of it
abbrev pub padded : List ℕ → List ℕ
padded bytes = bytes ++ replicate ((alignment - length bytes % alignment) % alignment) 0

-- whether the chunk of wide offsets is needed: some offset does not fit four bytes
abbrev pub needs_wide : List ℕ → Bool
needs_wide offsets = list_any (λ offset. not (nat_lt offset (2 ^ 32))) offsets

-- the offsets in four bytes
abbrev pub offsets_written : List ℕ → List ℕ
offsets_written offsets = if needs_wide offsets then narrow_from 0 offsets else offsets

-- a row of the offsets: the number of the pack, and the offset
abbrev pub pack_and_offset : ℕ × ℕ → List ℕ
pack_and_offset row = to_be_bytes w32 row.0 ++ to_be_bytes w32 row.1

abbrev pub wide_chunk : List ℕ → List Chunk
wide_chunk offsets = if needs_wide offsets then record { name = codes "LOFF"; bytes = long_number_bytes (filter is_wide offsets) } ∷ [] else []

unfoldable pub chunks_written : List (List ℕ) → List PackRow → List Chunk
chunks_written names rows =
    let ids = map (λ (row : PackRow). row.id) rows in
    let offsets = map (λ (row : PackRow). row.offset) rows in
    record { name = codes "PNAM"; bytes = padded (name_bytes names) }
    ∷ record { name = codes "OIDF"; bytes = number_bytes (counts_of ids) }
    ∷ record { name = codes "OIDL"; bytes = flat_map bytes_of ids }
    ∷ record { name = codes "OOFF"; bytes = flat_map pack_and_offset (zip (map (λ (row : PackRow). row.pack) rows) (offsets_written offsets)) }
    ∷ wide_chunk offsets

-- the chunk table: a name and a place for each chunk, the first of which is at this place, and the place of their end
unfoldable pub chunk_table : ℕ → List Chunk → List ℕ
chunk_table place [] = replicate name_len 0 ++ to_be_bytes w64 place
chunk_table place (chunk ∷ chunks) = chunk.name ++ to_be_bytes w64 place ++ chunk_table (place + length chunk.bytes) chunks

-- ---- the whole

-- the place of the first of n chunks: after the header, and the chunk table with its last row
abbrev pub chunks_place : ℕ → ℕ
chunks_place chunks = header_len + row_len * (chunks + 1)

-- a multi-index without its hash
unfoldable pub multi_front : HashKind → List (List ℕ) → List Chunk → List ℕ
multi_front hash names chunks =
    multi_index_start ++ 1 ∷ hash_number hash ∷ length chunks ∷ 0 ∷ to_be_bytes w32 (length names)
    ++ chunk_table (chunks_place (length chunks)) chunks ++ flat_map (λ (chunk : Chunk). chunk.bytes) chunks

unfoldable pub multi_bytes : HashKind → List (List ℕ) → List PackRow → List ℕ
multi_bytes hash names rows =
    let front = multi_front hash names (chunks_written names rows) in
    front ++ bytes_of (hash_of hash front)

-- the multi-index of some packs
unfoldable pub multi_index_of_packs : HashKind → List Named → List ℕ
multi_index_of_packs hash packs = multi_bytes hash (names_of packs) (table_of (λ (row : PackRow). row.id) (rows_in_packs hash packs))

-- the bytes are the multi-index of these packs: its rows are the table of their objects' offsets
pub record IsMultiIndexOf (hash : HashKind) (packs : List Named) (bytes : List ℕ) : Type 0 where
  pub rows : List PackRow
  pub table : IsTableOf (λ row. row.id) (rows_in_packs hash packs) rows
  pub bytes_are : bytes ≡ multi_bytes hash (names_of packs) rows

-- the bytes are read as a multi-index of this hash with the names of these packs, whose rows are the table of their objects' offsets
pub record ReadsMultiIndex (hash : HashKind) (packs : List Named) (bytes : List ℕ) : Type 0 where
  pub rows : List PackRow
  pub table : IsTableOf (λ row. row.id) (rows_in_packs hash packs) rows
  pub read : multi_index_of bytes ≡ Some (record { kind = hash; names = names_of packs; rows = rows })
