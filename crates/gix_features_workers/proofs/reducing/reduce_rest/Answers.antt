-- What is fed next is the first of the outputs that are left.
use Rattle.std.proofs.Common.{Ok, Err}
use Rattle.gix_features_workers.specs.Reduced.{Reduces}
use Rattle.gix_features_workers.proofs.DealtLemmas.{into_iter-end}
use Rattle.gix_features_workers.proofs.reducing.reduce_rest.Goals as goal

pub feeding-preserved : goal.feeding-preserved
feeding-preserved g c = λ answer rest. c.feeding.invariant answer (rw c.in-Some.ensures.cases.0 (Reduces.Feeds c.in-Ok.ensures.fed rest))

pub returns-in-Err : goal.returns-in-Err
returns-in-Err g c = record { reduced = c.feeding.invariant (Err c.in-Err.error) (rw c.in-Some.ensures.cases.0 (Reduces.Fails c.in-Err.ensures.fed)) }

pub returns-in-Ok-finalize : goal.returns-in-Ok-finalize
returns-in-Ok-finalize g c = record {
  reduced = c.feeding.invariant (Ok c.in-Ok-finalize.value) (rw (into_iter-end c.feeding.rest c.next.new.self c.next.result c.in_default.not-Some c.next.ensures.cases) (Reduces.Ends c.in-Ok-finalize.ensures.result));
}

pub returns : goal.returns
returns g c = record {
  reduced = c.feeding.invariant (Err c.in-Err-finalize.error) (rw (into_iter-end c.feeding.rest c.next.new.self c.next.result c.in_default.not-Some c.next.ensures.cases) (Reduces.Ends c.in-Err-finalize.ensures.result));
}
