-- The outputs that were made are what is fed.
use Rattle.std.proofs.Common.{subst}
use Rattle.std.specs.Prelude.{⊤}
use Rattle.std.specs.Vec.Iter.{into_iter_items}
use Rattle.gix_features_workers.specs.Workers.{BeginsAs, ConsumesTo, AreWorked}
use Rattle.gix_features_workers.proofs.stepwise.Stepwise.new.Goals as goal

pub returns-in-Ok-clause-outputs : goal.returns-in-Ok-clause-outputs
returns-in-Ok-clause-outputs g c =
    let made = c.in-Ok.ensures.made in (
      made.0,
      made.1,
      made.2,
      subst (λ n. AreWorked {L = Unit {0}} (BeginsAs g.N.Fn c.args.new_thread_state) (ConsumesTo g.C.Fn c.args.consume) (λ _ _. ⊤) n made.0 (into_iter_items c.into_iter.result) made.1)
          c.num_threads-workers.ensures.number (rw c.into_iter.ensures.rest made.3),
    )
