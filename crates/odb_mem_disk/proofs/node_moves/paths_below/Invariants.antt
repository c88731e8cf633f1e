use Rattle.std.proofs.Common.{◌≡◌, map}
use Rattle.odb_disk.specs.Tree.{tree_of_entries}
use Rattle.odb_mem_disk.specs.TreeMoves.{moved_path}
use Rattle.odb_mem_disk.proofs.TreeMovesLemmas.{AreSoFar, behind_count}
use Rattle.odb_mem_disk.proofs.node_moves.paths_below.Given as goal

-- the paths up to the last one are gathered, and each has its target
abbrev pub invariant-loop-path : goal.invariant-loop-path
invariant-loop-path l = record {
  so_far : AreSoFar (tree_of_entries l.nodes.entries) l.from l.last l.sources.items;
  targets : l.targets.items ≡ map (moved_path l.from l.to) l.sources.items;
}

abbrev pub decreases-loop-path : goal.decreases-loop-path
decreases-loop-path l = behind_count l.nodes.entries l.last
