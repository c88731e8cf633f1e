use Rattle.std.proofs.Common.{subst, IsSome}
use Rattle.odb_disk.specs.Tree.{tree_of_entries}
use Rattle.odb_disk.proofs.TreeLemmas.{node_at-entries}
use Rattle.odb_mem_disk.proofs.TreeMovesLemmas.{fewer_behind}
use Rattle.odb_mem_disk.proofs.ListingLemmas.{none_listed, passed_on, later_still}
use Rattle.odb_mem_disk.proofs.tree.list.entries_below.Goals as goal

pub loop-entries-init : goal.loop-entries-init
loop-entries-init c = none_listed (tree_of_entries c.args.nodes.now.entries) c.args.directory.now c.new-entries.result c.new-entries.ensures.empty

pub loop-entries-smaller : goal.loop-entries-smaller
loop-entries-smaller c =
    let es = c.args.nodes.now.entries in
    let last = c.in_ok-last.last.now in
    let went = rw c.in-Some.is at c.in_ok-path.ensures.went in
    fewer_behind c.loop-entries.last.now last (later_still c.loop-entries.last.now c.in-Some.path.now last went.behind c.in_ok-last.ensures.below) es
    (subst IsSome (node_at-entries es last) c.in_ok-last.ensures.stands)

pub loop-entries-preserved : goal.loop-entries-preserved
loop-entries-preserved c =
    let went = rw c.in-Some.is at c.in_ok-path.ensures.went in
    passed_on (tree_of_entries c.args.nodes.now.entries) c.args.directory.now c.loop-entries.last.now c.loop-entries.entries c.loop-entries.invariant c.add_entries.new.entries c.in-Some.path.now
    c.in_ok-last.last.now went c.in_ok-last.ensures.below
