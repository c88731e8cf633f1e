-- The entries so far and the errors so far, and those that are still to come.
use Rattle.std.proofs.Common.{◌≡◌, ◌++◌}
use Rattle.std.specs.List.{filter_map}
use Rattle.std.specs.Result.{result_ok}
use Rattle.walkdir.specs.Walk.Children.{error_in}
use Rattle.walkdir.proofs.read.tell_apart.Given as goal

abbrev pub invariant-loop-child : goal.invariant-loop-child
invariant-loop-child l =
    (filter_map result_ok l.fn.children.items ≡ l.entries.items ++ filter_map result_ok l.child-iterator.rest.items)
    × (filter_map error_in l.fn.children.items ≡ l.errors.items ++ filter_map error_in l.child-iterator.rest.items)
