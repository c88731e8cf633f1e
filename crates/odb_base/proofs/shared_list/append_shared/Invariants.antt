use Rattle.std.proofs.Common.{◌≡◌, ◌++◌, take}
use Rattle.odb_base.proofs.shared_list.append_shared.Given as goal

-- the values so far
abbrev pub invariant-loop-value : goal.invariant-loop-value
invariant-loop-value g l = l.copies.items ≡ l.fn.copies.items ++ take l.value-index l.value-items
