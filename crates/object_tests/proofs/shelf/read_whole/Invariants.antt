use Rattle.std.proofs.Common.{◌+◌, ◌-◌, ◌≤◌, length}
use Rattle.object_tests.proofs.SourceLemmas.{ReadSoFar}
use Rattle.object_tests.proofs.shelf.read_whole.Given as goal

-- the bytes are those that the source gave, and no fault was lost
abbrev pub invariant-reading : goal.invariant-reading
invariant-reading g l =
    ReadSoFar (g.S.Source.left l.fn.from) (g.S.Source.left l.from) l.bytes × (g.S.Source.faults l.fn.from ≤ g.S.Source.faults l.from)

abbrev pub decreases-reading : goal.decreases-reading
decreases-reading g l = l.size + 1 - length l.bytes
