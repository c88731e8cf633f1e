use Rattle.std.proofs.Common.{[], refl}
use Rattle.gix_odb_loose.specs.Asked.{AreAllCalls}
use Rattle.gix_odb_loose.proofs.WriteRunsLemmas.Begins.{begun_on, new_underway}
use Rattle.gix_odb_loose.proofs.WriteRunsLemmas.Ends.{for_memory, runs_nothing}
use Rattle.gix_odb_loose.proofs.store.Store.run_write.Goals as goal

pub returns-in_err-job-clause-run : goal.returns-in_err-job-clause-run
returns-in_err-job-clause-run g c = runs_nothing (λ exchanges. AreAllCalls g.D.Disk.answered exchanges c.args.disk.now c.args.disk.now) _ refl c.from_residual.result (for_memory c.from_residual.result c.from_residual.ensures.1)

pub answered-answer-requires : goal.answered-answer-requires
answered-answer-requires g c =
    let w = begun_on c.args.self.now c.args.kind c.args.size c.args.known g.S.Source.left g.S.Source.faults c.args.from.now g.D.Disk.state g.D.Disk.faults c.args.disk.now in
    record { underway = (w, c.args.disk.now, ([], refl, new_underway w c.in_ok-job.job c.in_ok-job.ensures.begun)) }

pub returns-clause-run : goal.returns-clause-run
returns-clause-run g c =
    let w = begun_on c.args.self.now c.args.kind c.args.size c.args.known g.S.Source.left g.S.Source.faults c.args.from.now g.D.Disk.state g.D.Disk.faults c.args.disk.now in
    c.answered-answer.ensures.run w c.args.disk.now ([], refl, new_underway w c.in_ok-job.job c.in_ok-job.ensures.begun)

pub returns-clause-taken : goal.returns-clause-taken
returns-clause-taken g c =
    let w = begun_on c.args.self.now c.args.kind c.args.size c.args.known g.S.Source.left g.S.Source.faults c.args.from.now g.D.Disk.state g.D.Disk.faults c.args.disk.now in
    c.answered-answer.ensures.taken w c.args.disk.now ([], refl, new_underway w c.in_ok-job.job c.in_ok-job.ensures.begun)
