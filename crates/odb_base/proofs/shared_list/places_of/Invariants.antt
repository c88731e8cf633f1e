use Rattle.std.proofs.Common.{◌≡◌, take}
use Rattle.odb_base.specs.Blocks.{joined}
use Rattle.odb_base.proofs.shared_list.places_of.Given as goal

-- the places of the groups so far
abbrev pub invariant-loop-group : goal.invariant-loop-group
invariant-loop-group g l = l.items.items ≡ joined (joined (take l.group-index l.group-items))
