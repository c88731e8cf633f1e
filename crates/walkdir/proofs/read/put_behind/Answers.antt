-- All entries are put after what was there.
use Rattle.std.proofs.Common.{◌++◌, map, arith}
use Rattle.std.specs.Prelude.{Ok}
use Rattle.walkdir.proofs.OrderLemmas.{all_behind, none_left}
use Rattle.walkdir.proofs.read.put_behind.Goals as goal

pub returns-clause-behind : goal.returns-clause-behind
returns-clause-behind c =
    let last = c.loop-entry.entry-iterator.rest.items in
    all_behind (c.args.ordered.now.items ++ map Ok c.args.entries.items) c.loop-entry.ordered.items last c.loop-entry.invariant
    (none_left last (omega (arith, c.in-None.ensures.steps.0)))
