use Rattle.std.proofs.Common.{◌≡◌, length}
use Rattle.core_tests.specs.Apart.{are_apart}
use Rattle.core_tests.proofs.apart.are_apart.Given as goal

-- the rows that are left determine whether all rows have different paths
abbrev pub invariant-loop-rest : goal.invariant-loop-rest
invariant-loop-rest l = are_apart l.rest ≡ are_apart l.initial.rest

abbrev pub decreases-loop-rest : goal.decreases-loop-rest
decreases-loop-rest l = length l.rest
