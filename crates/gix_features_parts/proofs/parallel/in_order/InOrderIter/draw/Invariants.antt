use Rattle.std.proofs.Common.{◌≡◌, ◌+◌, ◌≤◌, false, None}
use Rattle.std.specs.Ordering.{nat_cmp}
use Rattle.std.specs.Iterator.{IsFinite, size}
use Rattle.std.specs.BTreeMap.{get, btree_map_len}
use Rattle.gix_features_parts.specs.InOrderState.{in_order_at}
use Rattle.gix_features_parts.proofs.InOrderLemmas.{ComesOn}
use Rattle.gix_features_parts.proofs.parallel.in_order.InOrderIter.draw.Given as goal

-- what comes from here on is what comes from where it began
abbrev pub invariant-drawing : goal.invariant-drawing
invariant-drawing g l = record {
  going : l.self.is_over ≡ false;
  gap : get nat_cmp l.self.waiting l.self.next ≡ None;
  can : g.I.Iterator.can_next l.self.inner;
  finite : IsFinite (g.I.Iterator.remaining l.self.inner);
  fewer : size (g.I.Iterator.remaining l.self.inner) + btree_map_len l.self.waiting
      ≤ size (g.I.Iterator.remaining l.initial.self.inner) + btree_map_len l.initial.self.waiting;
  comes : ComesOn g.I.Iterator.next_gives (in_order_at l.initial.self) (in_order_at l.self);
}

abbrev pub decreases-drawing : goal.decreases-drawing
decreases-drawing g l = size (g.I.Iterator.remaining l.self.inner)
