use Rattle.std.proofs.Common.{◌∙◌, sym, ap, not}
use Rattle.std.proofs.lemmas.Bool.{false≢true}
use Rattle.odb_disk.specs.Tree.{names_in}
use Rattle.odb_disk.specs.Tree.Change.{is_nil}
use Rattle.odb_disk.proofs.TreeLemmas.Change.{lies_in-node}
use Rattle.odb_disk.proofs.TreeLemmas.Possible.{root-remove, absent-remove, standing-remove}
use Rattle.odb_mem_disk.proofs.NamesLemmas.{not_twice}
use Rattle.odb_mem_disk.proofs.tree.Tree.can_remove.Goals as goal

pub returns-then-is_root : goal.returns-then-is_root
returns-then-is_root c = record { can = sym (root-remove _ _ (c.is_root.ensures.root.0 c.if-is_root.true)) }

pub returns-in_default : goal.returns-in_default
returns-in_default c = record { can = sym (absent-remove _ _ (sym c.in_default.ensures.value)) }

pub returns : goal.returns
returns c = record {
  can = let t = c.args.self.now in
      let p = c.args.path.now in
      let at = sym c.in-Some.ensures.value in
      let lies = lies_in-node t c.in-Some.ensures.is_tree p _ (λ root. false≢true (sym c.if-is_root.false ∙ c.is_root.ensures.root.1 (sym root))) at in
      ap not c.has_names.ensures.names ∙ not_twice _ ∙ ap (λ u. is_nil (names_in u p)) c.self.view_is ∙ sym (standing-remove t p lies _ at);
}
