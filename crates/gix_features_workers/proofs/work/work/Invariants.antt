use Rattle.gix_features_workers.specs.Workers.{Works, ConsumesTo}
use Rattle.gix_features_workers.proofs.work.work.Given as goal

-- the outputs are those of the items so far
abbrev pub invariant-loop-item : goal.invariant-loop-item
invariant-loop-item g l = Works (ConsumesTo g.C.Fn l.consume) l.initial.state l.yielded l.outputs.items l.state
