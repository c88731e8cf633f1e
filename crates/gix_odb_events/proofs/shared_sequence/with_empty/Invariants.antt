use Rattle.std.proofs.Common.{◌≡◌, ◌++◌, None, replicate}
use Rattle.gix_odb_events.proofs.shared_sequence.with_empty.Given as goal

-- so many empty places as were counted
abbrev pub invariant-loop : goal.invariant-loop
invariant-loop g l = l.more.items ≡ l.fn.items.items ++ replicate l.counter None
