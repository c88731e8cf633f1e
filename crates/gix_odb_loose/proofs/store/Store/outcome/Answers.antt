use Rattle.std.proofs.Common.{false}
use Rattle.gix_odb_loose.specs.PrefixOrder.{begun}
use Rattle.gix_odb_loose.specs.Store.{store_path}
use Rattle.gix_odb_loose.proofs.PrefixFoundLemmas.{lost_answer, lost_asks, lost_cause, own_error, own_outcome, told_asks, told_cause, told_outcome}
use Rattle.gix_odb_loose.proofs.store.Store.outcome.Goals as goal

pub returns-in_err-found-clause-answer : goal.returns-in_err-found-clause-answer
returns-in_err-found-clause-answer g c = lost_answer _ _ c.from_residual.result c.from_residual.ensures.1

pub returns-in_err-found-clause-cause : goal.returns-in_err-found-clause-cause
returns-in_err-found-clause-cause g c = lost_cause _ _ _ _ c.from_residual.result c.from_residual.ensures.1

pub returns-in_err-found-clause-asked : goal.returns-in_err-found-clause-asked
returns-in_err-found-clause-asked g c = lost_asks g.D.Disk.answered (begun (store_path c.args.self.now) c.args.prefix false) _ _ c.from_residual.result c.from_residual.ensures.1

pub returns-clause-answer : goal.returns-clause-answer
returns-clause-answer g c = told_outcome _ _ c.in_ok-found.found c.in_ok-found.ensures.found _ (own_outcome c.in_ok-found.found.answer)

pub returns-clause-cause : goal.returns-clause-cause
returns-clause-cause g c = told_cause _ _ c.in_ok-found.found c.in_ok-found.ensures.found _ (own_error c.in_ok-found.found.answer)

pub returns-clause-asked : goal.returns-clause-asked
returns-clause-asked g c =
    told_asks g.D.Disk.answered (begun (store_path c.args.self.now) c.args.prefix false) _ _ c.in_ok-found.found _ c.in_ok-found.ensures.asked (own_outcome c.in_ok-found.found.answer) (own_error c.in_ok-found.found.answer)
