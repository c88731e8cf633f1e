use Rattle.std.proofs.Common.{◌≡◌, ◌<◌, ◌++◌, List, length}
use Rattle.std.specs.List.{sum_by}
use Rattle.std.specs.Vec.Iter.{into_iter_len}
use Rattle.gix_features_workers.specs.Dealt.{AreShares}
use Rattle.gix_features_workers.proofs.outputs.merge.Given as goal

-- whatever the outputs are, some are in order, and the streams are the shares of the rest
abbrev pub invariant-turns : goal.invariant-turns
invariant-turns g l = record {
  in_turn : l.turn < length l.streams.items;
  workers : l.workers ≡ length l.initial.streams.items;
  same : length l.streams.items ≡ length l.initial.streams.items;
  left : (outputs : List _) → AreShares (length l.initial.streams.items) 0 outputs l.initial.streams.items
      → (rest : List _) × (outputs ≡ l.in_order.items ++ rest) × AreShares (length l.initial.streams.items) l.turn rest l.streams.items;
}

abbrev pub decreases-turns : goal.decreases-turns
decreases-turns g l = sum_by into_iter_len l.streams.items
