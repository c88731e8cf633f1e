-- The outputs that were made are what is reduced.
use Rattle.gix_features_workers.proofs.ReducedLemmas.{IfReduced-then}
use Rattle.gix_features_workers.proofs.calls.run.Goals as goal

pub returns-in-Ok : goal.returns-in-Ok
returns-in-Ok g c = let made = c.in-Ok.ensures.made in record {
  answer = IfReduced-then c.reduce_all.result (λ answer reduced. record {
    items = made.0;
    outputs = c.in-Ok.outputs.items;
    lasts = made.1;
    given = made.2;
    worked = made.3;
    reduced = reduced;
  }) c.reduce_all.ensures.reduced;
}
