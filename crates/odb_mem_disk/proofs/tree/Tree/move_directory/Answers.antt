use Rattle.std.proofs.Common.{◌∙◌, sym, ap}
use Rattle.std.proofs.lemmas.Result.{on_ok_weaker}
use Rattle.odb_disk.specs.Tree.{tree_of_entries}
use Rattle.odb_disk.specs.Tree.Change.{with_moved}
use Rattle.odb_disk.proofs.TreeLemmas.Changed.{made-rename}
use Rattle.odb_disk.proofs.MovedNumbersLemmas.{rename_absent, rename_outside, IsTree-directory, AreNumbers-directory}
use Rattle.odb_mem_disk.proofs.tree.Tree.move_directory.Goals as goal

pub move_below-requires-clause-absent : goal.move_below-requires-clause-absent
move_below-requires-clause-absent c =
    rename_absent (tree_of_entries c.self.inside.nodes.entries) c.self.invariant.is_tree c.args.from.now c.args.to.now (rw c.self.view_is c.requires.possible)
    (rw c.self.view_is c.requires.directory)

pub move_below-requires-clause-outside : goal.move_below-requires-clause-outside
move_below-requires-clause-outside c =
    rename_outside (tree_of_entries c.self.inside.nodes.entries) c.self.invariant.is_tree c.args.from.now c.args.to.now (rw c.self.view_is c.requires.possible)
    (rw c.self.view_is c.requires.directory)

pub invariant_of-self : goal.invariant_of-self
invariant_of-self c =
    let t = tree_of_entries c.self.inside.nodes.entries in
    let i = c.self.invariant in
    record {
      is_tree =
          IsTree-directory t _ i.is_tree _ _ i.numbers _ _ (rw c.self.view_is c.requires.possible) c.move_below.result (rw c.self.view_is c.requires.directory) c.move_below.ensures.made
          c.move_below.ensures.kept;
      numbers =
          AreNumbers-directory t _ i.is_tree _ _ i.numbers _ _ (rw c.self.view_is c.requires.possible) c.move_below.result (rw c.self.view_is c.requires.directory) c.move_below.ensures.made
          c.move_below.ensures.kept;
    }

pub returns-clause-made : goal.returns-clause-made
returns-clause-made c =
    on_ok_weaker c.move_below.result (λ made. made ∙ ap (λ t. with_moved t c.args.from.now c.args.to.now) c.self.view_is ∙ sym (made-rename c.args.self.now c.args.from.now c.args.to.now))
    c.move_below.ensures.made
