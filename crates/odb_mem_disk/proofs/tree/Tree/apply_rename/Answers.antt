use Rattle.std.proofs.Common.{◌∙◌, sym, ap}
use Rattle.std.specs.Cmp.Lexicographic.{nat_list_eq_equiv, lists_equiv}
use Rattle.std.proofs.lemmas.Bool.{false≢true}
use lib.Pointwise.{pointwise}
use Rattle.odb_base.specs.Path.{same_name}
use Rattle.odb_disk.specs.Tree.Change.{with_moved}
use Rattle.odb_disk.proofs.TreeLemmas.Moved.{moved_onto_itself}
use Rattle.odb_disk.proofs.TreeLemmas.Changed.{made-rename}
use Rattle.odb_mem_disk.proofs.NamesLemmas.{same_paths}
use Rattle.odb_mem_disk.proofs.tree.Tree.apply_rename.Goals as goal

pub returns-then-eq-clause-made : goal.returns-then-eq-clause-made
returns-then-eq-clause-made c =
    let t = c.args.self.now in
    let from = c.args.from.now in
    let same = same_paths from c.args.to.now (sym c.eq.ensures ∙ c.if-eq.true) in
    sym (made-rename t from c.args.to.now ∙ ap (with_moved t from) (sym same) ∙ moved_onto_itself t from)

pub move_leaf-requires-clause-apart : goal.move_leaf-requires-clause-apart
move_leaf-requires-clause-apart c = λ same.
    let from = c.args.from.now in
    false≢true (sym c.if-eq.false ∙ c.eq.ensures ∙ ap (pointwise same_name from) (sym same) ∙ (lists_equiv nat_list_eq_equiv).refl from)
