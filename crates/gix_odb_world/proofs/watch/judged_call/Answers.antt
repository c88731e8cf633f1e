use Rattle.std.proofs.Common.{sym, ◌∙◌}
use Rattle.gix_odb_world.proofs.JudgedLemmas.{told_possible}
use Rattle.gix_odb_world.proofs.watch.judged_call.Goals as goal

-- the change of a call is possible in the tree that the disk shows
pub judged_boxed-requires-clause-possible : goal.judged_boxed-requires-clause-possible
judged_boxed-requires-clause-possible c =
    told_possible c.args.disk.now c.args.ask.now c.tree-tree.result.now c.tree-tree.ensures.shown c.in-Some.change
    (sym c.in-Some.is ∙ (c.in_ok-change.ensures.same ∙ c.in_ok-made.ensures.change)) c.tree-tree.ensures.is_tree
