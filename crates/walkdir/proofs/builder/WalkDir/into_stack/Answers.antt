-- The state of a walk before it begins is what was built.
use Rattle.std.proofs.Common.{ap, ◌∙◌}
use Rattle.walkdir.specs.Progress.{begun}
use Rattle.walkdir.proofs.builder.WalkDir.into_stack.Goals as goal

pub returns : goal.returns
returns g c = record { begun = λ streams. c.new.ensures.begun streams ∙ ap (λ walk. begun g.S.Sorter.order walk streams) c.self.view_is }
