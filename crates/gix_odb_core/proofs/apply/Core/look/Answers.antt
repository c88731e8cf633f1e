use Rattle.std.proofs.Common.{◌≤◌, length, subst}
use Rattle.gix_odb_core.specs.History.{History, present}
use Rattle.gix_odb_core.specs.Steps.{IsShape}
use Rattle.gix_odb_core.specs.declared.shape.Shape.{Shape}
use Rattle.gix_odb_core.specs.State.{entries_in}
use Rattle.gix_odb_core.proofs.OpenedLemmas.{shape-core}
use Rattle.gix_odb_core.proofs.apply.Core.look.Goals as goal

pub returns-clause-shape : goal.returns-clause-shape
returns-clause-shape c = subst (λ (h : History). IsShape (present h)) c.self.view_is (shape-core c.self.inside.opening (entries_in c.self.inside.state) c.self.invariant.possible)

pub returns-clause-few : goal.returns-clause-few
returns-clause-few c =
    subst (λ (h : History). length (present h).slots ≤ 32767) c.self.view_is
    (subst (λ (shape : Shape). length shape.slots ≤ 32767) c.self.invariant.replayed c.self.invariant.kept.countable.few)
