use Rattle.gix_odb_loose.proofs.StreamJobsLemmas.Turns.{fewer_on}
use Rattle.gix_odb_loose.proofs.StreamJobsLemmas.Ends.{turns_broken}
use Rattle.gix_odb_loose.proofs.write_streamed.StreamJob.turn.Goals as goal

-- memory ran out before the ask
pub returns-in_err-wanted-clause-turned : goal.returns-in_err-wanted-clause-turned
returns-in_err-wanted-clause-turned g c =
    λ w first since.
    let off = c.in_err-wanted.ensures.asks w first _ _ since in
    (off.0, off.1, turns_broken w _ _ off.0 _ _ c.asked.new.self c.from_residual.result c.from_residual.ensures.0 off.2)

pub returns-clause-turned : goal.returns-clause-turned
returns-clause-turned g c = λ w first since. let next = c.in_ok-wanted.ensures.asks w first _ _ since in (next.0, next.1, c.go_on.ensures.goes_on w _ _ next.0 next.2)

pub returns-clause-fewer : goal.returns-clause-fewer
returns-clause-fewer g c =
    λ w first since.
    let next = c.in_ok-wanted.ensures.asks w first _ _ since in
    fewer_on _ _ _ c.go_on.result (c.go_on.ensures.fewer w _ _ next.0 next.2) (c.in_ok-wanted.ensures.fewer w since.0 _ _ since.2)
