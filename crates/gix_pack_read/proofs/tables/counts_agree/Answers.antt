use Rattle.std.proofs.Common.{◌-◌, arith, length-drop}
use Rattle.gix_pack_read.specs.Rows.{ids_of}
use Rattle.gix_pack_read.proofs.RowsLemmas.{right_count, wrong_count}
use Rattle.gix_pack_read.proofs.tables.counts_agree.Goals as goal

-- a count differs
pub returns-then-not-is_count : goal.returns-then-not-is_count
returns-then-not-is_count c = record {
  agree = wrong_count (ids_of c.args.kind c.args.n c.args.ids.now) c.loop-first.first c.loop-first.rest.now _ c.number_at.result c.loop-first-test.true
      c.loop-first.invariant.same_so_far c.number_at.ensures.number
      (λ h. let counted = c.is_count.ensures.count.1 h in cc (counted));
}

-- a count is that of the ids
pub loop-first-preserved : goal.loop-first-preserved
loop-first-preserved c =
    rw c.behind_first-rest.ensures.rest (record {
      counts_left = omega (arith, length-drop 4 c.loop-first.rest.now);
      same_so_far = right_count (ids_of c.args.kind c.args.n c.args.ids.now) c.loop-first.first c.loop-first.rest.now _ c.number_at.result c.loop-first-test.true
          c.loop-first.invariant.same_so_far c.number_at.ensures.number (c.is_count.ensures.count.0 (cc));
    })
