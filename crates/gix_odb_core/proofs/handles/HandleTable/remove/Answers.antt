use Rattle.std.proofs.Common.{ap, ◌∙◌}
use Rattle.gix_odb_core.specs.Handles.{stable_at}
use Rattle.gix_odb_core.proofs.StableCountLemmas.{count_without}
use Rattle.gix_odb_core.proofs.handles.HandleTable.remove.Goals as goal

pub overflow_sub-self : goal.overflow_sub-self
overflow_sub-self c = (count_without _ _ c.args.seat _ _ c.self.invariant (c.stable_at.ensures.count ∙ ap stable_at c.remove-removed.ensures.value) c.remove-removed.ensures.entries).0

pub invariant_of-self : goal.invariant_of-self
invariant_of-self c = (count_without _ _ c.args.seat _ _ c.self.invariant (c.stable_at.ensures.count ∙ ap stable_at c.remove-removed.ensures.value) c.remove-removed.ensures.entries).1
