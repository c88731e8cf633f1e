-- A directory at the greatest depth has no contents.
use Rattle.std.proofs.Common.{◌≤◌, refl, arith}
use Rattle.std.specs.Option.{option_map}
use Rattle.walkdir.specs.declared.directory.Items.TheVariants.{Closed}
use Rattle.walkdir.proofs.ContainsLemmas.{opened_deepest}
use Rattle.walkdir.proofs.stack.Stack.contents.Goals as goal

pub returns-else-depth-self-clause-contents : goal.returns-else-depth-self-clause-contents
returns-else-depth-self-clause-contents g c =
    let walk = c.args.self.now in
    let deep : walk.options.max_depth ≤ c.args.depth = omega arith in
    opened_deepest (g.D.Disk.state c.args.disk.now) (option_map g.S.Sorter.order walk.sorter) walk.options c.args.path.now c.args.depth
    (Closed c.new.result) (g.D.Disk.streams c.args.disk.now)
    deep (record { no_stream = refl; nothing = c.new.ensures.items })
