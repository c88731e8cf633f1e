use Rattle.std.proofs.Common.{sym, subst}
use Rattle.std.proofs.lemmas.Result.{IfOk-weaker}
use Rattle.gix_odb_core.specs.Countable.{LeavesFewPacks}
use Rattle.gix_odb_core.proofs.state.State.plan.Goals as goal

pub returns-clause-few_packs : goal.returns-clause-few_packs
returns-clause-few_packs c =
    IfOk-weaker c.planned.result _ _ (λ plan is. subst (LeavesFewPacks c.args.event.now) (sym is.shelf) c.in_ok-turn.ensures.few_packs) c.planned.ensures.plan
