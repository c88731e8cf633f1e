-- An item that waits and has its turn leaves the map. If there is none the inner iterator is asked.
use Rattle.std.proofs.Common.{ap, sym, subst, None}
use Rattle.std.specs.Ordering.{nat_cmp}
use Rattle.std.specs.BTreeMap.{get}
use Rattle.gix_features_parts.specs.InOrder.{Changes, Comes, GivesInOrder}
use Rattle.gix_features_parts.specs.InOrderState.{in_order_at}
use Rattle.gix_features_parts.proofs.InOrderLemmas.{Changes-map, get-entries}
use Rattle.gix_features_parts.proofs.parallel.in_order.InOrderIterIterator.next.Goals as goal

pub returns-then-self-clause-steps : goal.returns-then-self-clause-steps
returns-then-self-clause-steps g c = GivesInOrder.Over c.if-self.true

pub returns-in-Some-clause-steps : goal.returns-in-Some-clause-steps
returns-in-Some-clause-steps g c =
    let changes = Changes-map c.args.self.now.next _ c.args.self.now.waiting c.remove.new.self c.in-Some.ensures.updates in
    let same = ap (λ waiting. get nat_cmp waiting) c.pass_turn.ensures.same.1 in
    GivesInOrder.Waited c.if-self.false
    record {
      waited = sym c.in-Some.ensures.value;
      rest = subst (λ waiting. Changes (get nat_cmp c.args.self.now.waiting) c.args.self.now.next None waiting) (sym same) changes;
      unasked = c.pass_turn.ensures.same.0;
      passes = c.pass_turn.ensures.passes;
    }

pub returns-clause-steps : goal.returns-clause-steps
returns-clause-steps g c =
    let same = get-entries c.args.self.now.waiting c.remove.new.self c.in_default.ensures.unchanged in
    let at = in_order_at c.args.self.now in
    GivesInOrder.Came c.if-self.false
    (subst
    (λ waiting. Comes g.I.Iterator.next_gives (record { inner = at.inner; next = at.next; waiting = waiting; is_over = at.is_over })
    c.draw.result (in_order_at c.draw.new.self))
    same c.draw.ensures.comes)
