use Rattle.std.proofs.Common.{◌≡◌, ◌++◌, take}
use Rattle.odb_base.specs.Blocks.{joined}
use Rattle.odb_base.proofs.shared_list.append_group.Given as goal

-- the places of the blocks so far
abbrev pub invariant-loop-block : goal.invariant-loop-block
invariant-loop-block g l = l.items.items ≡ l.fn.items.items ++ joined (take l.block-index l.block-items)
