use Rattle.std.proofs.Common.{ap, ◌∙◌}
use Rattle.odb_base.specs.Calls.{after_call}
use Rattle.odb_base.proofs.source.MemSourceSource.read.Goals as goal

-- a read that didn't fail is no fault
pub returns-clause-same : goal.returns-clause-same
unfolding after_call
returns-clause-same c =
    ap (λ calls. calls.faults) (c.count.ensures.counted ∙ ap (λ failed. after_call failed c.self.inside.calls) c.if-failed.false) ∙ ap (λ source. source.calls.faults) c.self.view_is
