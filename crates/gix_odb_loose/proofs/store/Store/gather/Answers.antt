use Rattle.std.proofs.Common.{refl, true}
use Rattle.gix_odb_loose.specs.PrefixOrder.{begun}
use Rattle.gix_odb_loose.specs.Store.{store_path}
use Rattle.gix_odb_loose.proofs.PrefixFoundLemmas.{lost_answer, lost_asks, lost_cause, lost_gains, told_asks, told_cause, told_gains, told_outcome}
use Rattle.gix_odb_loose.proofs.store.Store.gather.Goals as goal

pub returns-in_err-found-clause-answer : goal.returns-in_err-found-clause-answer
returns-in_err-found-clause-answer g c = lost_answer _ _ c.from_residual.result c.from_residual.ensures.1

pub returns-in_err-found-clause-gathered : goal.returns-in_err-found-clause-gathered
returns-in_err-found-clause-gathered g c = lost_gains _ _ c.from_residual.result c.from_residual.ensures.1

pub returns-in_err-found-clause-cause : goal.returns-in_err-found-clause-cause
returns-in_err-found-clause-cause g c = lost_cause _ _ _ _ c.from_residual.result c.from_residual.ensures.1

pub returns-in_err-found-clause-asked : goal.returns-in_err-found-clause-asked
returns-in_err-found-clause-asked g c = lost_asks g.D.Disk.answered (begun (store_path c.args.self.now) c.args.prefix true) _ _ c.from_residual.result c.from_residual.ensures.1

pub returns-clause-answer : goal.returns-clause-answer
returns-clause-answer g c = told_outcome _ _ c.in_ok-found.found c.in_ok-found.ensures.found c.put_found.result c.put_found.ensures.outcome

pub returns-clause-gathered : goal.returns-clause-gathered
returns-clause-gathered g c = told_gains _ _ c.in_ok-found.found c.in_ok-found.ensures.found c.args.set.now c.put_found.new.set c.put_found.result refl c.put_found.ensures.outcome c.put_found.ensures.all

pub returns-clause-cause : goal.returns-clause-cause
returns-clause-cause g c = told_cause _ _ c.in_ok-found.found c.in_ok-found.ensures.found c.put_found.result c.put_found.ensures.error

pub returns-clause-asked : goal.returns-clause-asked
returns-clause-asked g c = told_asks g.D.Disk.answered (begun (store_path c.args.self.now) c.args.prefix true) _ _ c.in_ok-found.found c.put_found.result c.in_ok-found.ensures.asked c.put_found.ensures.outcome c.put_found.ensures.error
