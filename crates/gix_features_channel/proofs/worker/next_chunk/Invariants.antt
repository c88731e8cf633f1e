use Rattle.std.proofs.Common.{◌-◌, vec_len}
use Rattle.std.specs.Iterator.{Yields}
use Rattle.gix_features_channel.proofs.worker.next_chunk.Given as goal

-- the chunk has the items that came so far
abbrev pub invariant-filling : goal.invariant-filling
invariant-filling g l = record {
  yields : Yields g.I.Iterator.next_gives l.fn.iter l.chunk.items l.iter;
  asked : g.I.Iterator.can_next l.iter;
}

abbrev pub decreases-filling : goal.decreases-filling
decreases-filling g l = l.size - vec_len l.chunk
