-- The chunk table of a multi-pack index, row by row. No public clause cites this module.
use Rattle.std.specs.Prelude.{ℕ, suc, ◌+◌, List, drop, map}
use Rattle.std.specs.List.{filter, zip}
use Rattle.gix_pack_read.specs.Bytes.{long_number_at, same, table}
use Rattle.gix_pack_read.specs.MultiIndex.Chunks.{Chunk, ChunkRow, chunk_at, chunk_row, name_len, row_len}

-- the rows that are left: those of n chunks, and one more
unfoldable pub rows_left : ℕ → List ℕ → List ChunkRow
rows_left left rest = map chunk_row (table row_len (suc left) rest)

-- the place in the first of some rows, and below that in the next one, where the chunk of the first ends
abbrev pub first_place : List ℕ → ℕ
first_place rest = long_number_at name_len rest

abbrev pub next_place : List ℕ → ℕ
next_place rest = long_number_at (row_len + name_len) rest

-- the chunks of those rows
unfoldable pub chunks_left : List ℕ → ℕ → List ℕ → List Chunk
chunks_left bytes left rest = map (chunk_at bytes) (zip (rows_left left rest) (drop 1 (rows_left left rest)))

-- those of a name
unfoldable pub named_left : List ℕ → List ℕ → ℕ → List ℕ → List Chunk
named_left name bytes left rest = filter (λ chunk. same chunk.name name) (chunks_left bytes left rest)
