use Rattle.std.proofs.Common.{Result, subst}
use Rattle.std.specs.Prelude.{IfOk}
use Rattle.std.specs.Result.{result_err}
use Rattle.std.proofs.lemmas.Result.{on_ok_weaker}
use Rattle.odb_disk.specs.Tree.{tree_of}
use Rattle.odb_disk.specs.Tree.Change.{changed}
use Rattle.gix_odb_calls.specs.declared.step.Step.TheVariants as steps
use Rattle.gix_odb_calls.specs.declared.step.Why.{Why}
use Rattle.gix_odb_watch.specs.Revealed.{IsRevealed}
use Rattle.gix_odb_watch.specs.declared.revealed.Revealed.{Revealed}
use Rattle.gix_odb_world.specs.Table.{IsReasonNow}
use Rattle.gix_odb_world.proofs.FitsLemmas.{fits_now}
use Rattle.gix_odb_world.proofs.StepLemmas.{misused_for}
use Rattle.gix_odb_world.proofs.course.Course.change.Goals as goal

-- the change isn't valid
pub returns-in-Err-clause-continues : goal.returns-in-Err-clause-continues
returns-in-Err-clause-continues c =
    on_ok_weaker c.misuse.result
    (misused_for c.args.self.now c.misuse.new.self (steps.Disk c.args.change.now) c.in-Err.why
    (subst (λ (j : Result Revealed Why). IsReasonNow c.args.self.now (steps.Disk c.args.change.now) (result_err j)) c.in-Err.is c.in_ok-judged.ensures.why)) c.misuse.ensures.notes

pub judged_change-requires : goal.judged_change-requires
judged_change-requires c = record { fits = fits_now c.args.self.now c.requires.explained }

pub make_change-requires-clause-valid : goal.make_change-requires-clause-valid
make_change-requires-clause-valid c =
    subst (λ (j : Result Revealed Why). IsReasonNow c.args.self.now (steps.Disk c.args.change.now) (result_err j)) c.in-Ok.is c.in_ok-judged.ensures.why

pub make_change-requires-clause-tells : goal.make_change-requires-clause-tells
make_change-requires-clause-tells c =
    subst (λ (j : Result Revealed Why). IfOk j (IsRevealed c.args.self.now.shown.folders (tree_of c.args.self.now.disk.state) (changed (tree_of c.args.self.now.disk.state) c.args.change.now)))
    c.in-Ok.is c.in_ok-judged.ensures.tells
