use Rattle.std.proofs.Common.{◌∙◌, sym, ap, subst}
use Rattle.odb_disk.specs.Tree.{IsTree, tree_of}
use Rattle.odb_disk.proofs.TreeLemmas.{tree_of-state_of}
use Rattle.odb_mem_disk.proofs.mem_disk.MemDisk.tree.Goals as goal

pub returns-clause-shown : goal.returns-clause-shown
returns-clause-shown c = sym (tree_of-state_of _) ∙ ap (λ v. tree_of v.state) c.self.view_is

pub returns-clause-is_tree : goal.returns-clause-is_tree
returns-clause-is_tree c = subst IsTree (sym (tree_of-state_of c.self.inside.tree) ∙ ap (λ v. tree_of v.state) c.self.view_is) c.self.invariant
