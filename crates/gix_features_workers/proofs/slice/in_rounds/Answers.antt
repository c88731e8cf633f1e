-- Each round begins with what the last one left.
use Rattle.std.proofs.Common.{Ok, Err, rules, arith, of_calls}
use Rattle.gix_features_workers.specs.Rounds.{Rounds}
use Rattle.gix_features_workers.proofs.slice.in_rounds.Goals as goal

pub returns-in-Err : goal.returns-in-Err
returns-in-Err g c = record { rounds = c.rounds.invariant.goes_on (Err c.in-Err.error) _ _ (Rounds.Fails c.rounds-test.true c.in-Err.ensures.round) }

pub returns-in-None : goal.returns-in-None
returns-in-None g c = record { rounds = c.rounds.invariant.goes_on (Ok tt) _ _ (Rounds.Stops {p = c.rounds.periodic} {q = c.periodic.new.self} c.rounds-test.true c.in-Ok.ensures.round c.in-None.ensures) }

pub rounds-preserved : goal.rounds-preserved
rounds-preserved g c = record {
  some = omega (arith, c.round.auto.states, c.rounds.invariant.some);
  asks = search (rules, of_calls);
  goes_on = λ answer lasts left rest. c.rounds.invariant.goes_on answer lasts left (Rounds.Goes {p = c.rounds.periodic} {q = c.periodic.new.self} c.rounds-test.true c.in-Ok.ensures.round c.in-Some.ensures rest);
}

pub returns : goal.returns
returns g c = record { rounds = c.rounds.invariant.goes_on (Ok tt) _ _ (Rounds.Done (omega (arith, c.rounds-test.false))) }
