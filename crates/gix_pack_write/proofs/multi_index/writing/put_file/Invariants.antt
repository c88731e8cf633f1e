use Rattle.std.proofs.Common.{◌≡◌, ◌++◌, drop, map}
use Rattle.std.specs.List.{flat_map}
use Rattle.gix_pack_read.specs.MultiIndex.Chunks.{Chunk}
use Rattle.gix_pack_write.specs.MultiIndexChunks.{chunk_seen}
use Rattle.gix_pack_write.proofs.multi_index.writing.put_file.Given as goal

-- the chunks so far with those that are left are all
abbrev pub invariant-loop-chunk : goal.invariant-loop-chunk
invariant-loop-chunk l =
    l.file ++ flat_map (λ (c : Chunk). c.bytes) (map chunk_seen (drop l.chunk-index l.chunks)) ≡ l.initial.file ++ flat_map (λ (c : Chunk). c.bytes) (map chunk_seen l.chunks)
