use Rattle.gix_features_workers.specs.Dealt.{HaveNone}
use Rattle.gix_features_workers.proofs.deal.idle.Given as goal

-- the workers so far have no items
abbrev pub invariant-loop-worker : goal.invariant-loop-worker
invariant-loop-worker g l = HaveNone l.worker l.jobs.items
