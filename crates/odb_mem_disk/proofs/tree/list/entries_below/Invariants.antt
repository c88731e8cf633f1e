use Rattle.odb_disk.specs.Tree.{tree_of_entries}
use Rattle.odb_mem_disk.proofs.ListingLemmas.{IsListedTo}
use Rattle.odb_mem_disk.proofs.TreeMovesLemmas.{behind_count}
use Rattle.odb_mem_disk.proofs.tree.list.entries_below.Given as goal

-- the entries up to the last path are listed
abbrev pub invariant-loop-entries : goal.invariant-loop-entries
invariant-loop-entries l = IsListedTo (tree_of_entries l.nodes.entries) l.directory l.last l.entries

abbrev pub decreases-loop-entries : goal.decreases-loop-entries
decreases-loop-entries l = behind_count l.nodes.entries l.last
