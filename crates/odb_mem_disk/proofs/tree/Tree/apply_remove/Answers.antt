use Rattle.std.proofs.Common.{◌∙◌, sym, ap}
use Rattle.odb_disk.specs.Tree.{tree_of_entries, without}
use Rattle.odb_disk.proofs.TreeLemmas.Change.{made-remove}
use Rattle.odb_disk.proofs.TreeLemmas.Possible.{below_root-remove, empty-remove}
use Rattle.odb_disk.proofs.TreeNumbersLemmas.Kept.{IsTree-taken, AreNumbers-taken}
use Rattle.odb_mem_disk.proofs.tree.Tree.apply_remove.Goals as goal

pub invariant_of-self-2 : goal.invariant_of-self-2
invariant_of-self-2 c =
    let t = tree_of_entries c.self.inside.nodes.entries in
    let i = c.self.invariant in
    record {
      is_tree =
          IsTree-taken t _ i.is_tree c.args.path.now (below_root-remove t _ (rw c.self.view_is c.requires.possible)) (empty-remove t _ (rw c.self.view_is c.requires.possible))
          c.take.ensures.taken;
      numbers = AreNumbers-taken t _ i.is_tree _ _ i.numbers c.args.path.now _ c.in_ok-free_number.ensures.freed c.take.ensures.taken;
    }

pub returns-clause-made : goal.returns-clause-made
returns-clause-made c = c.take.ensures.taken ∙ ap (λ t. without t c.args.path.now) c.self.view_is ∙ sym (made-remove c.args.self.now c.args.path.now)
