use Rattle.std.specs.Option.{option_copied}
use Rattle.odb_disk.specs.Tree.{tree_of_entries}
use Rattle.odb_mem_disk.proofs.ListingLemmas.{IsUnderWay}
use Rattle.odb_mem_disk.proofs.tree.list.add_entries.Given as goal

-- the entries of the nodes that the loop has passed are listed
abbrev pub invariant-loop-path : goal.invariant-loop-path
invariant-loop-path l =
    IsUnderWay (tree_of_entries l.nodes.entries) l.directory l.last l.initial.entries l.entries (option_copied l.previous) l.path-iterator
