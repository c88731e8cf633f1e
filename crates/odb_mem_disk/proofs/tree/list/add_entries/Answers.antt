use Rattle.std.proofs.Common.{◌≡◌, ◌++◌, ◌∙◌}
use Rattle.std.specs.Option.{option_copied}
use Rattle.odb_disk.specs.Tree.{tree_of_entries}
use Rattle.odb_mem_disk.proofs.ListingLemmas.{begun, one_more, ended_before}
use Rattle.odb_mem_disk.proofs.tree.list.add_entries.Goals as goal

pub loop-path-init : goal.loop-path-init
loop-path-init c =
    begun c.args.directory.now c.args.last.now c.args.entries.now c.args.nodes.now.entries _ c.range-path-items.ensures.ordered
    (c.into_iter-path-iterator.ensures.into_iter_gives ∙ c.range-path-items.ensures.between tt)

-- the path doesn't begin with the directory
pub returns-in_default-2-clause-ended : goal.returns-in_default-2-clause-ended
returns-in_default-2-clause-ended c =
    ended_before (tree_of_entries c.args.nodes.now.entries) c.args.directory.now c.args.last.now c.args.entries.now c.loop-path.entries (option_copied c.loop-path.previous) c.loop-path.path-iterator
    c.loop-path.invariant c.in-Some.path.now c.in-Some.node.now c.next.new.self c.in-Some.ensures.steps c.requires.below (c.in_ok-rest.ensures.apart c.in_default-2.is)

pub loop-path-preserved : goal.loop-path-preserved
loop-path-preserved c =
    let below : c.args.directory.now ++ c.in-Some-2.rest ≡ c.in-Some.path.now = rw c.in-Some-2.is at c.in_ok-rest.ensures.below in
    one_more (tree_of_entries c.args.nodes.now.entries) c.args.directory.now c.args.last.now c.args.entries.now c.loop-path.entries (option_copied c.loop-path.previous) c.loop-path.path-iterator
    c.loop-path.invariant c.in-Some.path.now c.in-Some.node.now c.next.new.self c.in-Some.ensures.steps c.in-Some-2.rest c.add_entry.new.entries (option_copied c.if_directory-previous.result) below
    c.in_ok-add_entry.ensures.added c.if_directory-previous.ensures.directory
