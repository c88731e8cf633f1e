-- The header of a multi-pack index, and its chunks.
use Rattle.std.specs.Prelude.{ℕ, ◌+◌, ◌-◌, ◌*◌, ◌==◌, ◌&&◌, Bool, false, List, [], ◌∷◌, ◌++◌, length, take, drop, map}
use Rattle.std.specs.Prelude.{codes, slice_index, nat_eq, nat_le, Option, Some, None, is_some, unwrap_or, if◌then◌else◌}
use Rattle.std.specs.List.{zip, filter, starts_with}
use Rattle.std.specs.Int.{w64, from_be_bytes}
use Rattle.gix_hash.specs.Kind.{len_in_bytes_of}
use Rattle.gix_hash.specs.declared.kind.Kind.{Kind}
use Rattle.gix_hash.specs.declared.kind.Kind.TheVariants.{Sha1, Sha256}
use Rattle.gix_pack_read.specs.Bytes.{same, part, table, number_at, trailer_place as place_of_trailer}

-- ---- the header

-- the length of the header: `MIDX`, the version, the hash's number, the numbers of chunks and of base files, and the number of packs
abbrev pub header_len : ℕ
header_len = 12

-- the length of a row of the chunk table: a name of four bytes, and a place of eight
abbrev pub row_len : ℕ
row_len = 12

-- the length of the name of a chunk, which is before the place in a row
abbrev pub name_len : ℕ
name_len = 4

-- the place of the last of the counts among them: after 255 of four bytes each
abbrev pub last_count_place : ℕ
last_count_place = 1020

-- where the header has the hash
abbrev pub hash_place : ℕ
hash_place = 5

-- where it has the number of chunks
abbrev pub chunk_count_place : ℕ
chunk_count_place = 6

-- where it has the number of base files
abbrev pub base_count_place : ℕ
base_count_place = 7

-- where it has the number of packs
abbrev pub pack_count_place : ℕ
pack_count_place = 8

-- the first bytes of each version 1 multi-pack index
abbrev pub multi_index_start : List ℕ
multi_index_start = codes "MIDX"

-- the kind of hash with a number
abbrev pub hash_of_number : ℕ → Option Kind
hash_of_number number = if number == 1 then Some Sha1 else if number == 2 then Some Sha256 else None

-- the hash of the header
abbrev pub hash_in : List ℕ → Option Kind
hash_in bytes = hash_of_number (slice_index bytes hash_place)

-- the hash of the header, if it is known to have one
abbrev pub kind_in : List ℕ → Kind
kind_in bytes = unwrap_or (hash_in bytes) Sha1

abbrev pub chunks_in : List ℕ → ℕ
chunks_in bytes = slice_index bytes chunk_count_place

abbrev pub packs_in : List ℕ → ℕ
packs_in bytes = number_at pack_count_place bytes

abbrev pub has_header : List ℕ → Bool
has_header bytes = starts_with nat_eq bytes (multi_index_start ++ 1 ∷ []) && is_some (hash_in bytes) && slice_index bytes base_count_place == 0

-- ---- the chunks

-- a row of the chunk table
pub record ChunkRow : Type 0 where
  pub name : List ℕ
  pub place : ℕ

abbrev pub chunk_row : List ℕ → ChunkRow
chunk_row row = record { name = take name_len row; place = from_be_bytes w64 (drop name_len row) }

abbrev pub chunk_rows : List ℕ → List ChunkRow
chunk_rows bytes = map chunk_row (table row_len (chunks_in bytes + 1) (drop header_len bytes))

-- the offset of the trailing hash
abbrev pub trailer_place : List ℕ → ℕ
trailer_place bytes = place_of_trailer (kind_in bytes) bytes

-- whether there is room for the header, the chunk table and the trailing hash
abbrev pub has_room : List ℕ → Bool
has_room bytes = nat_le (header_len + row_len * (chunks_in bytes + 1) + len_in_bytes_of (kind_in bytes)) (length bytes)

-- whether the places never fall, and the last row has this place as the end
unfoldable pub ends_at : ℕ → List ChunkRow → Bool
ends_at place [] = false
ends_at place (row ∷ []) = same row.name (0 ∷ 0 ∷ 0 ∷ 0 ∷ []) && row.place == place
ends_at place (row ∷ next ∷ rows) = nat_le row.place next.place && ends_at place (next ∷ rows)

-- a chunk: its name, and its bytes
pub record Chunk : Type 0 where
  pub name : List ℕ
  pub bytes : List ℕ

-- each row but the last is a chunk, which extends to the place of the next row
abbrev pub chunk_at : List ℕ → ChunkRow × ChunkRow → Chunk
chunk_at bytes rows = record { name = rows.0.name; bytes = part rows.0.place (rows.1.place - rows.0.place) bytes }

abbrev pub chunks_of : List ℕ → List Chunk
chunks_of bytes = map (chunk_at bytes) (zip (chunk_rows bytes) (drop 1 (chunk_rows bytes)))

-- the chunks of a name
abbrev pub named : List ℕ → List ℕ → List Chunk
named name bytes = filter (λ chunk. same chunk.name name) (chunks_of bytes)

-- the bytes of the only chunk
abbrev pub the_one : List Chunk → Option (List ℕ)
the_one [] = None
the_one (chunk ∷ []) = Some chunk.bytes
the_one (chunk ∷ other ∷ chunks) = None

-- the bytes of a chunk that is there exactly once
abbrev pub chunk : List ℕ → List ℕ → Option (List ℕ)
chunk name bytes = the_one (named name bytes)
