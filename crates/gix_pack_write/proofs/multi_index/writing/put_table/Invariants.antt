use Rattle.std.proofs.Common.{◌≡◌, ◌+◌, ◌^◌, ◌<◌, ◌++◌, drop, length, map}
use Rattle.gix_pack_write.specs.MultiIndexChunks.{bytes_over, chunk_seen}
use Rattle.gix_pack_write.specs.WrittenMultiIndex.{chunk_table, chunks_place}
use Rattle.gix_pack_write.proofs.multi_index.writing.put_table.Given as goal

-- the rows so far with those of the chunks that are left are the table, and these end where all chunks do
abbrev pub invariant-loop-chunk : goal.invariant-loop-chunk
invariant-loop-chunk l =
    record {
      written : l.file ++ chunk_table l.place (map chunk_seen (drop l.chunk-index l.chunks)) ≡ l.initial.file ++ chunk_table (chunks_place (length l.chunks)) (map chunk_seen l.chunks);
      end : l.place + bytes_over (map chunk_seen (drop l.chunk-index l.chunks)) ≡ chunks_place (length l.chunks) + bytes_over (map chunk_seen l.chunks);
      small : l.place < 2 ^ 64;
    }
