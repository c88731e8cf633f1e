use Rattle.gix_features_workers.specs.Dealt.{AreDealing}
use Rattle.gix_features_workers.proofs.deal.deal.Given as goal

-- the workers have their shares of the items so far
abbrev pub invariant-loop-item : goal.invariant-loop-item
invariant-loop-item g l = AreDealing l.workers l.turn l.yielded l.jobs.items
