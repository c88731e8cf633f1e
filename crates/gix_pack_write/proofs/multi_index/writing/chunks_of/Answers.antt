-- The chunks are put one after another.
use Rattle.std.proofs.Common.{map, ap}
use Rattle.gix_pack_write.specs.MultiIndexChunks.{chunk_seen}
use Rattle.gix_pack_write.specs.WrittenMultiIndex.{named_seen, names_of}
use Rattle.gix_pack_write.proofs.WrittenMultiIndexLemmas.{chunks_put}
use Rattle.gix_pack_write.proofs.multi_index.writing.chunks_of.Goals as goal

pub returns-clause-chunks : goal.returns-clause-chunks
returns-clause-chunks c =
    chunks_put (names_of (map named_seen c.args.packs.now)) c.args.rows.now _ _ _ _ _
    (ap (map chunk_seen) c.new-chunks.ensures.items) c.in_ok-push_names.ensures.chunk c.in_ok-push_counts.ensures.chunk c.in_ok-push_ids.ensures.chunk
    c.in_ok-push_offsets.ensures.chunks
