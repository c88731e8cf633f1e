use Rattle.std.proofs.Common.{◌∙◌, sym, ap}
use Rattle.odb_disk.specs.Tree.Follow.{Onward}
use Rattle.odb_disk.proofs.TreeLemmas.Follow.{pass_to_link, pass_to_other, pass_to_unfollowed}
use Rattle.odb_mem_disk.proofs.tree.Tree.pass.Goals as goal
use Rattle.odb_mem_disk.proofs.tree.Tree.pass.Goals.{in_default-content-via-in-Link+else-follow, in_default-content-via-in_default-content}

pub returns-in_ok-try_clone-in-Link : goal.returns-in_ok-try_clone-in-Link
returns-in_ok-try_clone-in-Link c =
    record { comes = pass_to_link _ c.in-Some.ensures.is_tree _ _ (sym c.in-Some.ensures.value) _ _ c.if-follow.true c.in-Link.is ∙ ap Onward (sym c.in_ok-try_clone-in-Link.ensures.copy) }

pub returns-in_default-content : goal.returns-in_default-content
returns-in_default-content c = record {
  comes = elim c.in_default-content.branch [
    | in_default-content-via-in-Link+else-follow w ↦ pass_to_unfollowed _ c.in-Some.ensures.is_tree _ _ (sym c.in-Some.ensures.value) _ w.if-follow.false
    | in_default-content-via-in_default-content w ↦ pass_to_other _ c.in-Some.ensures.is_tree _ _ (sym c.in-Some.ensures.value) _ w.in_default-content.not-Link
  ];
}
