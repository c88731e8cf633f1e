use Rattle.std.proofs.Common.{◌≡◌, true, sym, ◌∙◌, subst}
use Rattle.odb_disk.specs.Tree.Change.{is_possible_in}
use Rattle.odb_disk.proofs.TreeLemmas.Changed.{is_possible-tree_of}
use Rattle.gix_odb_world.proofs.course.Course.judged_change.Goals as goal

-- the disk and its tree agree on which changes are possible
pub revealed-requires-clause-possible : goal.revealed-requires-clause-possible
revealed-requires-clause-possible c =
    subst (λ t. is_possible_in t c.args.change.now ≡ true) (sym c.tree.ensures.shown)
    (sym (is_possible-tree_of c.args.self.now.disk.state c.args.change.now) ∙ (sym c.in_ok-is_possible.ensures.possible ∙ c.if-not-branch.false))
