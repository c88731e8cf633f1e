use Rattle.std.proofs.Common.{ℕ, ◌+◌, ◌-◌, ap, ◌∙◌}
use Rattle.gix_odb_core.specs.Handles.{stable_at}
use Rattle.gix_odb_core.proofs.StableCountLemmas.{count_with}
use Rattle.gix_odb_core.proofs.handles.HandleTable.set.Goals as goal

pub overflow_sub-self : goal.overflow_sub-self
overflow_sub-self c =
    (count_with _ _ c.args.seat c.args.stable _ _ c.self.invariant (c.stable_at.ensures.count ∙ ap stable_at c.in_ok-before.ensures.old) c.in_ok-before.ensures.was_ordered c.in_ok-before.ensures.entries).0

pub invariant_of-self-2 : goal.invariant_of-self-2
invariant_of-self-2 c =
    ap (λ (n : ℕ). c.self.inside.stable - c.stable_at.result + n) c.stable_at-2.ensures.count
    ∙ (count_with _ _ c.args.seat c.args.stable _ _ c.self.invariant (c.stable_at.ensures.count ∙ ap stable_at c.in_ok-before.ensures.old) c.in_ok-before.ensures.was_ordered c.in_ok-before.ensures.entries).1
