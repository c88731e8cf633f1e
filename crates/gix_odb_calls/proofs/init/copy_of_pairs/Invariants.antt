use Rattle.std.specs.Prelude.{◌≡◌, take}
use Rattle.gix_odb_calls.proofs.init.copy_of_pairs.Given as goal

-- the pairs so far are copied
abbrev pub invariant-loop-pair : goal.invariant-loop-pair
invariant-loop-pair l = l.copy ≡ take l.pair-index l.pairs
