use Rattle.std.proofs.Common.{◌≡◌, None, replicate}
use Rattle.odb_base.proofs.shared_list.empty_places.Given as goal

-- so many empty places as were counted
abbrev pub invariant-loop : goal.invariant-loop
invariant-loop g l = l.items.items ≡ replicate l.counter None
