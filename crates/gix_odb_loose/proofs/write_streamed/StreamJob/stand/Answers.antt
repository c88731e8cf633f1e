use Rattle.std.proofs.Common.{refl}
use Rattle.gix_odb_loose.proofs.StreamJobsLemmas.GoesOn.{goes_on_broken, before_broken}
use Rattle.gix_odb_loose.proofs.write_streamed.StreamJob.stand.Goals as goal

-- memory ran out for the removal of the next temporary name
pub returns-in_err-removal-in-Making-clause-goes_on : goal.returns-in_err-removal-in-Making-clause-goes_on
returns-in_err-removal-in-Making-clause-goes_on c =
    λ w state now past rest source_now before.
    goes_on_broken w state now past rest source_now _ c.from_residual.result c.from_residual.ensures.0
    (before_broken w state now past rest source_now c.args.self.now (record c.args.self.now { stage = c.args.stage }) c.args.stage refl refl before)
