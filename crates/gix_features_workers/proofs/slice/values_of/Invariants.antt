use Rattle.std.specs.List.{AllZip}
use Rattle.gix_features_workers.specs.Workers.{EndsAs}
use Rattle.gix_features_workers.proofs.slice.values_of.Given as goal

-- the values so far are of the states so far
abbrev pub invariant-loop-state : goal.invariant-loop-state
invariant-loop-state g l = AllZip (EndsAs g.L.Fn l.state_to_rval) l.yielded l.values.items
