use Rattle.std.specs.Prelude.{⊤}
use Rattle.gix_features_channel.specs.Eager.{IsReady}
use Rattle.parallel_trials.proofs.drawing.count_first.Given as goal

-- the numbers may be asked
abbrev pub invariant-loop-wanted : goal.invariant-loop-wanted
invariant-loop-wanted g l = IsReady (λ _. ⊤) l.numbers
