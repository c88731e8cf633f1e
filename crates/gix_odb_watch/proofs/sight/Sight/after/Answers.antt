use Rattle.std.proofs.Common.{sym, subst}
use Rattle.odb_disk.specs.Tree.Change.{changed}
use Rattle.gix_odb_watch.specs.Over.{IsLaid}
use Rattle.gix_odb_watch.specs.declared.over.Over.{Over}
use Rattle.gix_odb_watch.proofs.OverLemmas.{over_laid}
use Rattle.gix_odb_watch.proofs.sight.Sight.after.Goals as goal

pub invariant_of-result : goal.invariant_of-result
invariant_of-result c =
    subst (λ (over : Over). IsLaid c.args.tree.now over (changed c.args.tree.now c.args.change.now)) (sym c.in_ok-over_of.ensures.over)
    (over_laid c.args.tree.now c.requires.is_tree c.args.change.now c.requires.possible)
