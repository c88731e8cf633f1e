-- Those further in are skipped.
use Rattle.std.proofs.Common.{◌≤◌, drop, length}
use Rattle.walkdir.specs.Turns.AtIndex.{AllSkipped}
use Rattle.walkdir.proofs.stack.Stack.unskipped.Given as goal

abbrev pub invariant-loop-index : goal.invariant-loop-index
invariant-loop-index g l = (l.index ≤ length l.self.lists.items) × AllSkipped (drop l.index l.self.lists.items)

abbrev pub decreases-loop-index : goal.decreases-loop-index
decreases-loop-index g l = l.index
