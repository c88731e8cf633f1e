-- The next count is written, and is at most the one after it.
use Rattle.std.proofs.Common.{◌+◌, arith}
use Rattle.gix_pack_write.proofs.PlacedLemmas.Counts.{counts_grow, counts_on}
use Rattle.gix_pack_write.proofs.tables.put_counts.Goals as goal

pub loop-first-preserved : goal.loop-first-preserved
loop-first-preserved c =
    let first = c.loop-first.first in
    let grow = counts_grow c.args.rows.now first (first + 1) (omega arith) in
    record {
      written = counts_on c.loop-first.list c.put_number.new.list _ c.args.rows.now first c.count_from-count.result
          (omega arith) c.in_ok-put_number.ensures.put c.count_from-count.ensures.count c.loop-first.invariant.written;
      known = omega (arith, grow, c.count_from-count.ensures.count);
    }
