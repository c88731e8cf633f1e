use Rattle.std.proofs.Common.{◌≡◌, Some, map}
use Rattle.gix_odb_events.proofs.shared_sequence.filled.Given as goal

-- the values so far
abbrev pub invariant-loop-value : goal.invariant-loop-value
invariant-loop-value g l = l.places.items ≡ map Some l.yielded
