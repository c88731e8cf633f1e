-- The present row begins with a byte that is counted, or with a higher one.
use Rattle.std.proofs.Common.{ℕ, ◌<◌, ◌≤◌, List, slice_index, subst, arith}
use Rattle.gix_pack_write.proofs.PlacedLemmas.Counts.{counts_high, counts_low}
use Rattle.gix_pack_write.proofs.tables.count_from.Goals as goal

pub loop-count-preserved : goal.loop-count-preserved
loop-count-preserved c =
    let low = subst (λ (bytes : List ℕ). slice_index bytes 0 ≤ c.args.first) c.as_bytes.ensures.bytes c.if-as_bytes-first.true in
    let counted = counts_low c.requires.placed.0 c.args.rows.now c.loop-count.count c.args.first _ c.requires.rising c.requires.placed.1 c.loop-count-test.true low in
    omega (arith, counted)

pub returns-else-as_bytes-first : goal.returns-else-as_bytes-first
returns-else-as_bytes-first c = record {
  count = let high = subst (λ (bytes : List ℕ). c.args.first < slice_index bytes 0) c.as_bytes.ensures.bytes c.if-as_bytes-first.false in
      let uncounted = counts_high c.requires.placed.0 c.args.rows.now c.loop-count.count c.args.first _ c.requires.rising c.requires.placed.1 c.loop-count-test.true high in
      omega (arith, uncounted, c.loop-count.invariant);
}
