use Rattle.std.proofs.Common.{ap, arith, None, refl, sym, ◌∙◌}
use Rattle.list_walk.specs.declared.status.Status.TheVariants as statuses
use Rattle.list_walk.proofs.WrittenLemmas.{all_of, begins, ends_by, ends_cut, ends_whole, front, front_more, leaves_all, leaves_more, more, status_with, step_at, whole}
use Rattle.list_walk.proofs.run.written.Goals as goal
use Rattle.list_walk.proofs.run.written.Goals.{then-is_err, else-is_err}

-- nothing is given yet
pub items-init : goal.items-init
items-init g c = record {
  own = c.requires.own;
  state = refl;
  name = refl;
  faults = omega arith;
  error_faults = omega arith;
  nul = c.new-lines.ensures.nul;
  leaves = leaves_all _;
  so_far = begins _ _ _ _ _ _ _ c.new-lines.ensures.empty;
}

-- out of memory: the lines before it
pub returns-then-is_want-clause-ends : goal.returns-then-is_want-clause-ends
returns-then-is_want-clause-ends g c =
    ends_by _ c.ended.result statuses.NoMemory _ _ c.ended.ensures.ok c.ended.ensures.err
    (λ added. front _ _ _ _ _ _ _ _ _ _ _ _ None _ _ c.items.invariant.so_far _ _ c.in-Some.ensures.steps.2 (all_of _ _ _ added))
    (λ part. front _ _ _ _ _ _ _ _ _ _ _ _ None _ _ c.items.invariant.so_far _ _ c.in-Some.ensures.steps.2 part)

-- one more item
pub items-preserved : goal.items-preserved
items-preserved g c = record {
  own = c.in-Some.ensures.steps.0;
  state = c.in-Some.ensures.steps.3 ∙ c.items.invariant.state;
  name = c.in-Some.ensures.steps.4 ∙ c.items.invariant.name;
  faults = omega (arith, c.put.ensures.later, c.items.invariant.faults);
  error_faults = omega (arith, c.put.ensures.later_errors, c.items.invariant.error_faults);
  nul = c.put.ensures.nul ∙ c.items.invariant.nul;
  leaves = leaves_more _ _ _ _ _ c.items.invariant.leaves c.in-Some.ensures.steps.1;
  so_far =
      more _ _ _ _ _ _ _ _ _ _ _ _ _ _ _ c.items.invariant.so_far c.in-Some.item _ _ _
      (step_at _ _ _ _ _ c.items.invariant.state c.in-Some.ensures.steps.1) c.in-Some.ensures.steps.2 (sym c.is_want.ensures.want ∙ c.if-is_want.false)
      (rw c.items.invariant.nul at c.in_ok-put.ensures.added) c.in_ok-put.ensures.told
      (elim c.if-is_err.branch [
        | then-is_err w ↦ w.status-is ∙ ap (λ b. status_with b c.items.status) (sym w.if-is_err.true ∙ c.is_err.ensures.value)
        | else-is_err w ↦ w.status-is ∙ ap (λ b. status_with b c.items.status) (sym w.if-is_err.false ∙ c.is_err.ensures.value)
      ]);
}

pub returns-in_err-put-clause-ends : goal.returns-in_err-put-clause-ends
returns-in_err-put-clause-ends g c =
    ends_cut _ c.from_residual.result c.from_residual.ensures.0
    (front_more _ _ _ _ _ _ _ _ _ _ _ _ _ _ _ c.items.invariant.so_far c.in-Some.item _ (step_at _ _ _ _ _ c.items.invariant.state c.in-Some.ensures.steps.1) c.in-Some.ensures.steps.2
    (rw c.items.invariant.nul at c.in_err-put.ensures.cut) c.in_err-put.ensures.told_cut)

-- the end of the walk
pub returns-clause-ends : goal.returns-clause-ends
returns-clause-ends g c =
    ends_by _ c.ended-2.result _ _ _ c.ended-2.ensures.ok c.ended-2.ensures.err
    (λ added. ends_whole _ _ (whole _ _ _ _ _ _ _ _ _ _ _ _ None _ _ c.items.invariant.so_far _
    (step_at _ _ _ _ _ c.items.invariant.state c.in_default.ensures.steps.1) c.in_default.ensures.steps.2 added))
    (λ part. front _ _ _ _ _ _ _ _ _ _ _ _ None _ _ c.items.invariant.so_far _ _ c.in_default.ensures.steps.2 part)

-- what the walk leaves as it was
pub returns-then-is_want-clause-leaves : goal.returns-then-is_want-clause-leaves
returns-then-is_want-clause-leaves g c = leaves_more _ _ _ _ _ c.items.invariant.leaves c.in-Some.ensures.steps.1

pub returns-in_err-put-clause-leaves : goal.returns-in_err-put-clause-leaves
returns-in_err-put-clause-leaves g c = leaves_more _ _ _ _ _ c.items.invariant.leaves c.in-Some.ensures.steps.1

pub returns-clause-leaves : goal.returns-clause-leaves
returns-clause-leaves g c = leaves_more _ _ _ _ _ c.items.invariant.leaves c.in_default.ensures.steps.1
