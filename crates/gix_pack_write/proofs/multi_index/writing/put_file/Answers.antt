-- The header, the table and the chunks are put one after another.
use Rattle.std.proofs.Common.{arith}
use Rattle.gix_pack_write.proofs.WrittenMultiIndexLemmas.Loops.{bytes_all}
use Rattle.gix_pack_write.proofs.WrittenMultiIndexLemmas.{front_steps}
use Rattle.gix_pack_write.proofs.multi_index.writing.put_file.Goals as goal

pub returns-clause-front : goal.returns-clause-front
returns-clause-front c =
    front_steps c.args.kind c.args.packs c.args.chunks.now _ _ _ _ c.requires.empty c.in_ok-put_front.ensures.put c.in_ok-put_table.ensures.table
    (bytes_all c.loop-chunk.file c.put_table.new.file c.args.chunks.now c.loop-chunk.chunk-index (omega arith) c.loop-chunk.invariant)
