use Rattle.std.specs.FinMap as finite
use Rattle.odb_disk.specs.StreamNumbers.{AreOpenBelow}
use Rattle.odb_mem_disk.proofs.dir_streams.least_closed.Given as goal

-- each number before this one has a stream
abbrev pub invariant-loop-number : goal.invariant-loop-number
invariant-loop-number l = AreOpenBelow (finite.from_entries l.lists.entries) l.number-counter
