use Rattle.std.proofs.Common.{◌≡◌}
use Rattle.odb_base.proofs.filling.in_blocks.Given as goal

-- the items so far
abbrev pub invariant-loop-item : goal.invariant-loop-item
invariant-loop-item g l = l.filling ≡ l.yielded
