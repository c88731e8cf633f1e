-- A chunk's row is written, and the next chunk begins where it ends.
use Rattle.std.proofs.Common.{◌≡◌, ◌+◌, length, arith}
use Rattle.std.proofs.lemmas.Grind.{common_steps}
use Rattle.gix_pack_write.proofs.WrittenMultiIndexLemmas.Loops.{end_all, end_on, table_all, table_on}
use Rattle.gix_pack_write.proofs.multi_index.writing.put_table.Goals as goal

pub loop-chunk-preserved : goal.loop-chunk-preserved
loop-chunk-preserved c =
    let chunks = c.args.chunks.now in
    let i = c.loop-chunk.chunk-index in
    let chunk = c.chunk-item.result in
    let next_is : c.in_ok-place.place ≡ c.loop-chunk.place + length c.chunk-item.result.bytes = grind (arith, common_steps, c.in_ok-place.ensures, c.checked_add.ensures, c.len.ensures.len) in
    record {
      written =
          table_on c.loop-chunk.file c.extend_from_slice.new.self c.put_long.new.list _ chunks i c.loop-chunk.place c.in_ok-place.place chunk
          (omega arith) c.chunk-item.is c.in_ok-extend_from_slice.ensures.ok c.in_ok-put_long.ensures.put next_is
          c.loop-chunk.invariant.written;
      end = end_on chunks i c.loop-chunk.place c.in_ok-place.place _ chunk (omega arith) c.chunk-item.is next_is c.loop-chunk.invariant.end;
      small = grind (arith, common_steps, c.in_ok-place.ensures, c.checked_add.ensures, c.len.ensures.len);
    }

pub returns-clause-table : goal.returns-clause-table
returns-clause-table c =
    table_all c.loop-chunk.file c.put_zeros.new.list c.put_long-2.new.list _ c.args.chunks.now c.loop-chunk.chunk-index c.loop-chunk.place
    (omega arith) c.in_ok-put_zeros.ensures.put c.in_ok-put_long-2.ensures.put c.loop-chunk.invariant.written

pub returns-clause-small : goal.returns-clause-small
returns-clause-small c = end_all c.args.chunks.now c.loop-chunk.chunk-index c.loop-chunk.place _ (omega arith) c.loop-chunk.invariant.small c.loop-chunk.invariant.end
