-- The next entry is accepted, or left out with what is below it.
use Rattle.std.proofs.Common.{Some, arith, refl, sym, subst, ◌∙◌}
use Rattle.std.proofs.lemmas.Fn.{called_at}
use denote.Param.Always.{mut_next}
use Rattle.walkdir.specs.Filter.{Filters}
use Rattle.walkdir.proofs.FilterLemmas.{after_passed, after_skipped, passes_rejected}
use Rattle.walkdir.proofs.filter.FilterEntryIterator.next.Goals as goal
use Rattle.walkdir.proofs.filter.FilterEntryIterator.next.Goals.{then-has_entered, else-has_entered}

pub returns-in_err-error-clause-steps : goal.returns-in_err-error-clause-steps
returns-in_err-error-clause-steps g c =
    rw c.from_residual.ensures (c.loop-error.invariant.passes.then _ _ _ (Filters.Ends c.in_err-error.ensures.steps))

pub returns-in-Err-clause-steps : goal.returns-in-Err-clause-steps
returns-in-Err-clause-steps g c =
    c.loop-error.invariant.passes.then _ _ _
    (Filters.Errs (subst (λ item. g.I.Iterator.next_gives c.loop-error.self.walk (Some item) c.next.new.self)
    c.in-Err.is c.in_ok-error.ensures.steps))

pub returns-then-predicate-clause-steps : goal.returns-then-predicate-clause-steps
returns-then-predicate-clause-steps g c =
    c.loop-error.invariant.passes.then _ _ _
    (Filters.Accepts (subst (λ item. g.I.Iterator.next_gives c.loop-error.self.walk (Some item) c.next.new.self)
    c.in-Ok.is c.in_ok-error.ensures.steps)
    (called_at g.P.FnMut c.predicate.ensures c.if-predicate.true))

pub loop-error-preserved : goal.loop-error-preserved
loop-error-preserved g c =
    let before = c.loop-error.invariant in
    let steps = subst (λ item. g.I.Iterator.next_gives c.loop-error.self.walk (Some item) c.next.new.self) c.in-Ok.is c.in_ok-error.ensures.steps in
    let rejected = called_at g.P.FnMut c.predicate.ensures c.if-predicate.false in
    let nearer = c.in_ok-error.ensures.goes.on before.finite in
    let callable = mut_next g.P.FnMut c.loop-error.self.predicate _ _ c.predicate.new.self c.predicate.new.self c.predicate.ensures refl
    before.callable in
    let few = before.fewer in
    elim c.if-has_entered.branch [
      | then-has_entered w ↦
          let skip = w.skip_current_dir.ensures in
          let less = (skip.left nearer.1).1 in
          rw w.self-is
          record {
            can = skip.can nearer.0;
            finite = (skip.left nearer.1).0;
            callable = callable;
            fewer = omega (arith, less, nearer.2, few);
            passes = passes_rejected g.I.Iterator.next_gives g.I.Walk.skips g.I.Walk.entered g.P.FnMut _ _ _ c.next.new.self
                w.skip_current_dir.new.self _ _ c.in-Ok.entry before.passes steps rejected
                (after_skipped g.I.Iterator.next_gives g.I.Walk.skips g.I.Walk.entered g.P.FnMut _ _ (sym c.has_entered.ensures.told
                ∙ w.if-has_entered.true) skip.skipped);
          }
      | else-has_entered w ↦
          rw w.self-is
          record {
            can = nearer.0;
            finite = nearer.1;
            callable = callable;
            fewer = omega (arith, nearer.2, few);
            passes = passes_rejected g.I.Iterator.next_gives g.I.Walk.skips g.I.Walk.entered g.P.FnMut _ _ _ c.next.new.self c.next.new.self _ _
                c.in-Ok.entry before.passes steps rejected
                (after_passed g.I.Iterator.next_gives g.I.Walk.skips g.I.Walk.entered g.P.FnMut _ (sym c.has_entered.ensures.told
                ∙ w.if-has_entered.false));
          }
    ]
