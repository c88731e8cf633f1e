-- A tree in memory of the root alone is well kept.
use Rattle.std.proofs.Common.{◌≡◌, [], ◌∷◌, sym, subst}
use Rattle.odb_disk.specs.Tree.{IsTree, tree_of_entries, bare_tree}
use Rattle.odb_disk.specs.TreeNumbers.{AreNumbers}
use Rattle.odb_mem_disk.specs.declared.tree.Tree.TheInside.{Inside}
use Rattle.odb_mem_disk.specs.WellKept.{IsWellKept}
use Rattle.odb_disk.proofs.TreeNumbersLemmas.Taken.{bare_root, IsTree-bare, AreNumbers-bare}

pub IsWellKept-bare : (t : Inside) → t.nodes.entries ≡ ([], bare_root) ∷ [] → t.next_ino ≡ 2 → t.free_inos.keys ≡ [] → IsWellKept t
unfolding bare_tree
IsWellKept-bare t entries next free = record {
  is_tree = subst (λ es. IsTree (tree_of_entries es)) (sym entries) IsTree-bare;
  numbers =
      subst (λ es. AreNumbers (tree_of_entries es) t.next_ino t.free_inos.keys) (sym entries)
      (subst (λ n. AreNumbers bare_tree n t.free_inos.keys) (sym next) (subst (AreNumbers bare_tree 2) (sym free) AreNumbers-bare));
}
