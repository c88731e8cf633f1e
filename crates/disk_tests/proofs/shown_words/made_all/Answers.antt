use Rattle.std.proofs.Common.{sym, subst}
use Rattle.odb_disk.specs.Tree.{IsTree}
use Rattle.odb_disk.proofs.TreeNumbersLemmas.Taken.{IsTree-bare}
use Rattle.gix_odb_watch.specs.Kept.{Fits, Kept}
use Rattle.gix_odb_watch.proofs.KeepsLaws.{keeps_nothing}
use Rattle.disk_tests.proofs.shown_words.made_all.Goals as goal

-- at first nothing is kept
pub loop-words-init : goal.loop-words-init
loop-words-init c =
    let kept = keeps_nothing (λ moment. c.in_ok-tree.tree) 0 (subst IsTree (sym c.in_ok-tree.ensures.bare) IsTree-bare) in
    subst (λ (kept : Kept). Fits kept c.in_ok-tree.tree) (sym c.new-shown.ensures.empty) kept.fits
