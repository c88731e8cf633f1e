use Rattle.std.proofs.Common.{◌≡◌, ◌≤◌, count_by, is_none, take}
use Rattle.gix_odb_core.proofs.counts.count_unused.Given as goal

abbrev pub invariant-loop-place : goal.invariant-loop-place
invariant-loop-place l = record { unused : l.unused ≡ count_by is_none (take l.place l.slots); within : l.unused ≤ l.place }
