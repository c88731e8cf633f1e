use Rattle.std.proofs.Common.{◌∙◌, sym, ap}
use Rattle.odb_disk.specs.Tree.{tree_of_entries}
use Rattle.odb_disk.specs.Tree.Change.{with_moved}
use Rattle.odb_disk.proofs.TreeLemmas.Changed.{made-rename}
use Rattle.odb_disk.proofs.MovedNumbersLemmas.{apart_outside, leaf_made, IsTree-renamed, AreNumbers-renamed}
use Rattle.odb_mem_disk.proofs.tree.Tree.move_leaf.Goals as goal

pub invariant_of-self-2 : goal.invariant_of-self-2
invariant_of-self-2 c =
    let t = tree_of_entries c.self.inside.nodes.entries in
    let i = c.self.invariant in
    record {
      is_tree =
          IsTree-renamed t _ i.is_tree _ _ i.numbers c.args.from.now c.args.to.now (rw c.self.view_is c.requires.possible)
          (apart_outside t i.is_tree _ _ (rw c.self.view_is c.requires.possible) c.requires.apart)
          (leaf_made t _ i.is_tree _ _ i.numbers _ _ (rw c.self.view_is c.requires.possible) (rw c.self.view_is c.requires.leaf) c.requires.apart c.in_ok-move_node.ensures.made);
      numbers =
          AreNumbers-renamed t _ i.is_tree _ _ i.numbers c.args.from.now c.args.to.now (rw c.self.view_is c.requires.possible)
          (apart_outside t i.is_tree _ _ (rw c.self.view_is c.requires.possible) c.requires.apart)
          (leaf_made t _ i.is_tree _ _ i.numbers _ _ (rw c.self.view_is c.requires.possible) (rw c.self.view_is c.requires.leaf) c.requires.apart c.in_ok-move_node.ensures.made) _
          c.in_ok-free_number.ensures.freed;
    }

pub returns-clause-made : goal.returns-clause-made
returns-clause-made c =
    let t = tree_of_entries c.self.inside.nodes.entries in
    let i = c.self.invariant in
    leaf_made t _ i.is_tree _ _ i.numbers _ _ (rw c.self.view_is c.requires.possible) (rw c.self.view_is c.requires.leaf) c.requires.apart c.in_ok-move_node.ensures.made
    ∙ ap (λ u. with_moved u c.args.from.now c.args.to.now) c.self.view_is ∙ sym (made-rename c.args.self.now c.args.from.now c.args.to.now)
