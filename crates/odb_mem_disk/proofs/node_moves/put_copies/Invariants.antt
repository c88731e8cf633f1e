use Rattle.std.proofs.Common.{◌≡◌, false, drop}
use Rattle.odb_base.specs.Path.{Path}
use Rattle.odb_disk.specs.Tree.{node_at, tree_of_entries}
use Rattle.odb_mem_disk.specs.TreeMoves.{is_among, with_copies}
use Rattle.odb_mem_disk.proofs.node_moves.put_copies.Given as goal

-- the copies so far, and those to come, are all copies; what is elsewhere stays
abbrev pub invariant-loop-i : goal.invariant-loop-i
invariant-loop-i l = record {
  whole : with_copies (tree_of_entries l.nodes.entries) (drop l.i l.sources) (drop l.i l.targets) ≡ with_copies (tree_of_entries l.fn.nodes.entries) l.sources l.targets;
  others : (q : Path) → is_among q l.targets ≡ false → node_at (tree_of_entries l.nodes.entries) q ≡ node_at (tree_of_entries l.fn.nodes.entries) q;
}
