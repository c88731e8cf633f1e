use Rattle.std.proofs.Common.{◌≡◌, Result, subst}
use Rattle.std.specs.Prelude.{IfOk}
use Rattle.std.specs.Result.{result_err}
use Rattle.std.proofs.lemmas.Result.{on_ok_weaker}
use Rattle.odb_disk.specs.Tree.{tree_of}
use Rattle.gix_odb_calls.specs.declared.step.Step.TheVariants as steps
use Rattle.gix_odb_calls.specs.declared.step.Why.{Why}
use Rattle.gix_odb_history.specs.Run.{change_asked}
use Rattle.gix_odb_world.specs.Table.{IsReasonNow, ask_by_handle, would_change_now}
use Rattle.gix_odb_world.specs.Watch.{TellsChange}
use Rattle.gix_odb_world.specs.World.{handle_at}
use Rattle.gix_odb_world.specs.declared.watch.Judged.{Judged}
use Rattle.gix_odb_world.proofs.FitsLemmas.{fits_now}
use Rattle.gix_odb_world.proofs.StepLemmas.{misused_for}
use Rattle.gix_odb_world.proofs.course.Course.turn.Goals as goal

-- a turn that isn't valid leaves its handle as it was
pub returns-in-Err-clause-continues : goal.returns-in-Err-clause-continues
returns-in-Err-clause-continues c =
    on_ok_weaker c.misuse.result
    (misused_for c.args.self.now c.misuse.new.self (steps.Turn c.args.number) c.in-Err.why
    (subst (λ (j : Result Judged Why). IsReasonNow c.args.self.now (steps.Turn c.args.number) (result_err j)) c.in-Err.is c.in_ok-checked.ensures.why)) c.misuse.ensures.notes

pub check_turn-requires : goal.check_turn-requires
check_turn-requires c = record { fits = fits_now c.args.self.now c.requires.explained }

pub make_turn-requires-clause-valid : goal.make_turn-requires-clause-valid
make_turn-requires-clause-valid c =
    subst (λ (j : Result Judged Why). IsReasonNow c.args.self.now (steps.Turn c.args.number) (result_err j)) c.in-Ok.is c.in_ok-checked.ensures.why

-- what is passed on is what the work asks for, its change, and what watched paths show by it
pub make_turn-requires-clause-asked : goal.make_turn-requires-clause-asked
make_turn-requires-clause-asked c =
    subst (λ (j : Result Judged Why). IfOk j (λ told. told.ask ≡ ask_by_handle (handle_at c.args.self.now c.args.number))) c.in-Ok.is c.in_ok-checked.ensures.asked

pub make_turn-requires-clause-change : goal.make_turn-requires-clause-change
make_turn-requires-clause-change c =
    subst (λ (j : Result Judged Why). IfOk j (λ told. told.change ≡ change_asked c.args.self.now.disk told.ask)) c.in-Ok.is c.in_ok-checked.ensures.change

pub make_turn-requires-clause-tells : goal.make_turn-requires-clause-tells
make_turn-requires-clause-tells c =
    subst (λ (j : Result Judged Why). IfOk j (λ told. TellsChange c.args.self.now.shown.folders (tree_of c.args.self.now.disk.state)
    (would_change_now c.args.self.now (steps.Turn c.args.number)) told.revealed))
    c.in-Ok.is c.in_ok-checked.ensures.tells
