-- An item in its turn is given, and one before its turn waits.
use Rattle.std.proofs.Common.{refl, ap, sym, subst, ◌∙◌, ◌≡◌, ◌+◌, None, Some}
use Rattle.std.specs.Ordering.{nat_cmp}
use Rattle.std.specs.BTreeMap.{get, btree_map_len}
use Rattle.std.specs.Iterator.{IsFinite, size}
use Rattle.gix_features_parts.specs.InOrder.{IsGivenFor}
use Rattle.gix_features_parts.proofs.InOrderLemmas.{comes_now, comes_later, refused_item, at_answer, get-entries, waits_fewer}
use Rattle.gix_features_parts.proofs.NumberedLemmas.{changed_there}
use Rattle.gix_features_parts.proofs.parallel.in_order.InOrderIter.draw.Goals as goal

pub returns-in-Err-clause-comes : goal.returns-in-Err-clause-comes
returns-in-Err-clause-comes g c =
    c.drawing.invariant.comes.then _ _
    (comes_now c.drawing.invariant.gap
    (at_answer g.I.Iterator.next_gives c.drawing.self.inner c.next.new.self c.in-Err.is c.in-Some.ensures.steps) refl refl
    (IsGivenFor.Fails (refl, refl)))

pub returns-then-number-self-clause-comes : goal.returns-then-number-self-clause-comes
returns-then-number-self-clause-comes g c =
    c.drawing.invariant.comes.then _ _
    (comes_now c.drawing.invariant.gap
    (at_answer g.I.Iterator.next_gives c.drawing.self.inner c.next.new.self c.in-Ok.is c.in-Some.ensures.steps)
    c.pass_turn.ensures.same.0
    (ap (λ waiting. get nat_cmp waiting) c.pass_turn.ensures.same.1)
    (IsGivenFor.InTurn c.if-number-self.true c.pass_turn.ensures.passes))

pub returns-in-Err-keep-clause-comes : goal.returns-in-Err-keep-clause-comes
returns-in-Err-keep-clause-comes g c =
    let same = get-entries c.drawing.self.waiting c.keep.new.self.waiting c.in-Err-keep.ensures.unkept in
    c.drawing.invariant.comes.then _ _
    (comes_now c.drawing.invariant.gap
    (at_answer g.I.Iterator.next_gives c.drawing.self.inner c.next.new.self c.in-Ok.is c.in-Some.ensures.steps)
    c.keep.ensures.same.0 same
    (refused_item c.in-Err-keep.error c.in-Err-keep.ensures.refused c.if-number-self.false same c.keep.ensures.same.1 refl))

pub drawing-preserved : goal.drawing-preserved
drawing-preserved g c =
    let nearer = c.in-Some.ensures.goes.on c.drawing.invariant.finite in
    let kept = c.in_default-keep.ensures.kept in
    let there : get nat_cmp c.keep.new.self.waiting c.drawing.self.next ≡ None
    = changed_there (get nat_cmp c.drawing.self.waiting) (get nat_cmp c.keep.new.self.waiting) c.in-Ok.pair.0 c.drawing.self.next
    (Some c.in-Ok.pair.1) kept.1 c.if-number-self.false ∙ c.drawing.invariant.gap in
    let on = comes_later c.in-Ok.pair.0 c.in-Ok.pair.1 c.drawing.invariant.gap
    (at_answer g.I.Iterator.next_gives c.drawing.self.inner c.next.new.self c.in-Ok.is c.in-Some.ensures.steps)
    c.keep.ensures.same.0 c.keep.ensures.same.1 c.if-number-self.false kept.0 kept.1 in
    record {
      going = c.keep.ensures.same.2 ∙ c.drawing.invariant.going;
      gap = subst (λ n. get nat_cmp c.keep.new.self.waiting n ≡ None) (sym c.keep.ensures.same.1) there;
      can = subst (λ inner. g.I.Iterator.can_next inner) (sym c.keep.ensures.same.0) nearer.0;
      finite = subst (λ inner. IsFinite (g.I.Iterator.remaining inner)) (sym c.keep.ensures.same.0) nearer.1;
      fewer = waits_fewer g.I.Iterator.remaining c.next.new.self c.keep.new.self.inner (btree_map_len c.drawing.self.waiting)
          (btree_map_len c.keep.new.self.waiting) (size (g.I.Iterator.remaining c.drawing.self.inner))
          (size (g.I.Iterator.remaining c.args.self.now.inner) + btree_map_len c.args.self.now.waiting) c.keep.ensures.same.0 nearer.2
          c.in_default-keep.ensures.one_more c.drawing.invariant.fewer;
      comes = record { then = λ result after comes. c.drawing.invariant.comes.then result after (on.then result after comes) };
    }

pub returns-clause-comes : goal.returns-clause-comes
returns-clause-comes g c =
    c.drawing.invariant.comes.then _ _
    (comes_now c.drawing.invariant.gap c.in_default.ensures.steps refl refl (IsGivenFor.Ends (refl, refl)))
