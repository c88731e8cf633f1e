use Rattle.std.proofs.Common.{◌≡◌, ◌++◌, take}
use Rattle.odb_base.proofs.shared_list.append.Given as goal

-- the places so far
abbrev pub invariant-loop-item : goal.invariant-loop-item
invariant-loop-item g l = l.items.items ≡ l.fn.items.items ++ take l.item-index l.item-items
