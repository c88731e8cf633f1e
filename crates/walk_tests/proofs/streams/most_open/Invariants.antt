-- The walk has its streams on the disk.
use Rattle.std.proofs.Common.{◌≡◌, true}
use Rattle.walkdir.specs.Progress.{has_its_streams}
use Rattle.walkdir.specs.StackProgress.{progress}
use Rattle.walkdir.specs.Sorted.{all_equal}
use Rattle.walk_tests.proofs.streams.most_open.Given as goal

abbrev pub invariant-loop : goal.invariant-loop
invariant-loop l = has_its_streams (progress (λ _. all_equal) l.walk l.disk.streams) ≡ true
