use Rattle.std.proofs.Common.{◌≤◌, ◌-◌, length, vec_len}
use Rattle.gix_features_parts.specs.Chunks.{Runs}
use Rattle.gix_features_parts.proofs.iter.fill.Given as goal

-- the vector has the items that came so far
abbrev pub invariant-filling : goal.invariant-filling
invariant-filling g l = record {
  run : Runs g.I.Iterator.can_next g.I.Iterator.next_gives g.I.Iterator.remaining l.fn.inner l.chunk.items l.inner;
  short : length l.chunk.items ≤ l.size;
}

abbrev pub decreases-filling : goal.decreases-filling
decreases-filling g l = l.size - vec_len l.chunk
