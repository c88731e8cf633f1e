use Rattle.std.proofs.Common.{◌<◌, List, length, Result}
use Rattle.gix_features_workers.specs.Rounds.{ChangesTo, Rounds}
use Rattle.gix_features_workers.proofs.slice.in_rounds.Given as goal

-- what the rounds from here on do is what all do
abbrev pub invariant-rounds : goal.invariant-rounds
invariant-rounds g l = record {
  some : 0 < length l.states;
  asks : goal.P-IsAlwaysCallable g l.periodic;
  goes_on : (answer : Result _ _) (lasts left : List _) → Rounds (ChangesTo g.K.Fn l.consume) (λ p r q. goal.P-step g p r q) l.size l.at l.periodic l.states l.items answer lasts left
      → Rounds (ChangesTo g.K.Fn l.consume) (λ p r q. goal.P-step g p r q) l.size 0 l.initial.periodic l.initial.states l.initial.items answer lasts left;
}
