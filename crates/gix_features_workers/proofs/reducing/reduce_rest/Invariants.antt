use Rattle.std.proofs.Common.{Result}
use Rattle.std.specs.Vec.Iter.{into_iter_items, into_iter_len}
use Rattle.gix_features_workers.specs.Reduced.{Reduces}
use Rattle.gix_features_workers.proofs.reducing.reduce_rest.Given as goal

-- the reducer's result with the outputs that are left is its result with all
abbrev pub invariant-feeding : goal.invariant-feeding
invariant-feeding g l = (answer : Result _ _) → Reduces g.R.Reduce.feeds g.R.Reduce.comes_to l.reducer (into_iter_items l.rest) answer
    → Reduces g.R.Reduce.feeds g.R.Reduce.comes_to l.fn.reducer (into_iter_items l.fn.rest) answer

abbrev pub decreases-feeding : goal.decreases-feeding
decreases-feeding g l = into_iter_len l.rest
