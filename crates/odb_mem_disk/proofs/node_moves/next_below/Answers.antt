use Rattle.std.proofs.Common.{◌∙◌, sym, subst, IsSome}
use Rattle.odb_disk.specs.Tree.{tree_of_entries}
use Rattle.odb_disk.proofs.TreeLemmas.{node_at-entries, IsSome-from}
use Rattle.odb_mem_disk.proofs.TreeMovesLemmas.{none_behind}
use Rattle.odb_mem_disk.proofs.node_moves.next_below.Goals as goal
use Rattle.odb_mem_disk.proofs.node_moves.next_below.Goals.{in_default-via-in-Some+else-starts_with, in_default-via-in_default}

pub returns-in-Some-clause-next : goal.returns-in-Some-clause-next
returns-in-Some-clause-next c =
    let es = c.args.nodes.now.entries in
    let range = c.range.ensures.in_range tt in
    let first = rw c.in-Some.ensures.steps at range.1 in
    let least = rw c.in-Some.ensures.steps at range.2 in
    record {
      below = sym c.starts_with.ensures.starts ∙ c.if-starts_with.true;
      behind = first.0.0;
      stands = IsSome-from _ _ (sym (node_at-entries es _ ∙ first.1));
      least = λ q behind some. least q (behind, tt) (subst IsSome (node_at-entries es q) some);
    }

pub returns-in-Some-clause-node : goal.returns-in-Some-clause-node
returns-in-Some-clause-node c =
    let range = c.range.ensures.in_range tt in
    let first = rw c.in-Some.ensures.steps at range.1 in
    node_at-entries c.args.nodes.now.entries _ ∙ first.1

pub returns-in_default-clause-none : goal.returns-in_default-clause-none
returns-in_default-clause-none c =
    let es = c.args.nodes.now.entries in
    let range = c.range.ensures.in_range tt in
    elim c.in_default.branch [
      | in_default-via-in-Some+else-starts_with w ↦
          let first = rw w.in-Some.ensures.steps at range.1 in
          let least = rw w.in-Some.ensures.steps at range.2 in
          none_behind (tree_of_entries es) c.args.base.now c.args.last.now w.in-Some.path.now c.requires.below first.0.0
          (λ q behind some. least q (behind, tt) (subst IsSome (node_at-entries es q) some)) (sym w.starts_with.ensures.starts ∙ w.if-starts_with.false)
      | in_default-via-in_default w ↦ λ q below behind. node_at-entries es q ∙ range.5 w.in_default.ensures.steps.0 q (behind, tt)
    ]
