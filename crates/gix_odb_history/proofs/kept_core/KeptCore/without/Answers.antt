use Rattle.std.proofs.Common.{subst}
use Rattle.gix_odb_core.specs.Possible.{IsComplete}
use Rattle.gix_odb_history.proofs.KeptCoreLemmas.{whole_if_registered}
use Rattle.gix_odb_history.specs.KeptCore.{history_in}
use Rattle.gix_odb_history.specs.declared.kept_core.CoreState.{CoreState}
use Rattle.gix_odb_history.proofs.kept_core.KeptCore.without.Goals as goal

pub whole_without-requires-clause-complete : goal.whole_without-requires-clause-complete
whole_without-requires-clause-complete c =
    rw c.in-Held.core-is (subst (λ (s : CoreState). IsComplete (history_in s).entries) c.in-Held.is c.self.invariant.complete)

pub unreachable-requires : goal.unreachable-requires
unreachable-requires c =
    whole_if_registered c.self.inside.state c.args.self _ c.args.seat c.self.view_is c.self.invariant.left c.in-Left.is c.requires.registered
