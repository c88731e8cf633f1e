use Rattle.std.proofs.Common.{◌∙◌, subst}
use Rattle.gix_odb_loose.specs.Asked.{AreAllCalls}
use Rattle.gix_odb_loose.specs.StreamJobs.{IsToldBy}
use Rattle.gix_odb_loose.proofs.WriteRunsLemmas.Ends.{for_memory, runs_broken, runs_told, ended_told, took_from}
use Rattle.gix_odb_loose.proofs.store_writes.answered.Goals as goal

-- memory ran out on the way
pub returns-in_err-end-clause-run : goal.returns-in_err-end-clause-run
returns-in_err-end-clause-run g c =
    λ w first since.
    let off = c.in_err-end.ensures.ran w first since in
    runs_broken (λ exchanges. AreAllCalls g.D.Disk.answered exchanges first c.run.new.disk) w _ _ off.0 _ _ off.1 off.2 c.from_residual.result
    (for_memory c.from_residual.result c.from_residual.ensures.1)

pub returns-in_err-end-clause-taken : goal.returns-in_err-end-clause-taken
returns-in_err-end-clause-taken g c = λ w first since. let off = c.in_err-end.ensures.ran w first since in took_from w _ _ off.2.all off.2.took

pub returns-clause-run : goal.returns-clause-run
returns-clause-run g c =
    λ w first since.
    let end = c.in_ok-end.ensures.ran w first since in
    runs_told (λ exchanges. AreAllCalls g.D.Disk.answered exchanges first c.run.new.disk) w _ _ end.0 _ _ end.1 c.in_ok-end.end end.2 c.told.result
    (subst (λ h. IsToldBy h c.in_ok-end.end c.told.result) (c.in_ok-end.ensures.head ∙ since.2.head) c.told.ensures.answer)

pub returns-clause-taken : goal.returns-clause-taken
returns-clause-taken g c = λ w first since. let end = c.in_ok-end.ensures.ran w first since in took_from w _ _ end.2.all end.2.took

pub returns-clause-ended : goal.returns-clause-ended
returns-clause-ended g c =
    let some = c.requires.underway in
    let end = c.in_ok-end.ensures.ran some.0 some.1 some.2 in
    ended_told some.0 _ _ end.0 _ _ c.in_ok-end.end end.2 c.told.result
    (subst (λ h. IsToldBy h c.in_ok-end.end c.told.result) (c.in_ok-end.ensures.head ∙ some.2.2.head) c.told.ensures.answer)
