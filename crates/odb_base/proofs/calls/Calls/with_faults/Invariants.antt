use Rattle.std.proofs.Common.{◌≡◌, take}
use Rattle.std.specs.Ordering.{nat_cmp}
use Rattle.std.specs.FinSet as set
use Rattle.odb_base.proofs.calls.Calls.with_faults.Given as goal

abbrev pub invariant-loop-call : goal.invariant-loop-call
invariant-loop-call l = set.from_list {R = nat_cmp} l.listed.keys ≡ set.from_list (take l.call-index l.calls)
