use Rattle.std.proofs.Common.{◌≡◌, drop}
use Rattle.odb_disk.specs.Tree.{tree_of_entries}
use Rattle.odb_mem_disk.specs.TreeMoves.{without_all}
use Rattle.odb_mem_disk.proofs.node_moves.take_all.Given as goal

-- what is removed so far, and what is still to be, are all
abbrev pub invariant-loop-path : goal.invariant-loop-path
invariant-loop-path l = without_all (tree_of_entries l.nodes.entries) (drop l.path-index l.paths) ≡ without_all (tree_of_entries l.fn.nodes.entries) l.paths
