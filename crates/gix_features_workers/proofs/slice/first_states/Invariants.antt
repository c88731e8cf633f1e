use Rattle.gix_features_workers.specs.Workers.{BeginsAs}
use Rattle.gix_features_workers.specs.Rounds.{Begin}
use Rattle.gix_features_workers.proofs.slice.first_states.Given as goal

-- the workers so far have their first states
abbrev pub invariant-loop-worker : goal.invariant-loop-worker
invariant-loop-worker g l = Begin (BeginsAs g.N.Fn l.new_thread_state) l.worker l.states.items
