-- The next of the outputs is fed, or there is none.
use Rattle.std.proofs.Common.{rules}
use Rattle.gix_features_workers.specs.Reduced.{IsStep}
use Rattle.gix_features_workers.proofs.DealtLemmas.{into_iter-end, into_iter-left}
use Rattle.gix_features_workers.proofs.ReducedLemmas.{IsStep-none}
use Rattle.gix_features_workers.proofs.stepwise.Stepwise.next.Goals as goal

pub returns-in_err-output : goal.returns-in_err-output
returns-in_err-output g c =
    let none = c.in_err-output.was in
    record {
      step = IsStep-none g.R.Reduce.feeds c.args.self.now.reducer _ _ _
          (into_iter-end c.args.self.now.outputs c.next.new.self c.next.result (λ x e. cc (e, none)) c.next.ensures.cases) (search rules)
          (into_iter-left c.args.self.now.outputs c.next.new.self c.next.result (λ x e. cc (e, none)) c.next.ensures.cases);
    }

pub returns-in-Ok : goal.returns-in-Ok
returns-in-Ok g c = record { step = rw c.in_ok-output.ensures.cases.0 (IsStep.Fed c.in-Ok.ensures.fed) }

pub returns-in-Err : goal.returns-in-Err
returns-in-Err g c = record { step = rw c.in_ok-output.ensures.cases.0 (IsStep.Fed c.in-Err.ensures.fed) }
