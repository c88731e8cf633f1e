-- What was there, the entries so far, and those that are still to come.
use Rattle.std.proofs.Common.{◌≡◌, ◌++◌, map}
use Rattle.std.specs.Prelude.{Ok}
use Rattle.walkdir.proofs.read.put_behind.Given as goal

abbrev pub invariant-loop-entry : goal.invariant-loop-entry
invariant-loop-entry l = l.ordered.items ++ map Ok l.entry-iterator.rest.items ≡ l.fn.ordered.items ++ map Ok l.fn.entries.items
