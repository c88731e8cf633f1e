-- What holds of the fields of a tree in memory. No public clause cites this.
use Rattle.odb_disk.specs.Tree.{IsTree, tree_of_entries}
use Rattle.odb_mem_disk.specs.declared.tree.Tree.TheInside.{Inside}
use Rattle.odb_disk.specs.TreeNumbers.{AreNumbers}

pub record IsWellKept (t : Inside) : Type 0 where
  pub is_tree : IsTree (tree_of_entries t.nodes.entries)
  pub numbers : AreNumbers (tree_of_entries t.nodes.entries) t.next_ino t.free_inos.keys
