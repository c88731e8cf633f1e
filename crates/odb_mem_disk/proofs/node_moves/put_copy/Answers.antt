use Rattle.std.proofs.Common.{◌∙◌, sym, ap}
use Rattle.std.proofs.lemmas.Result.{on_ok_weaker}
use Rattle.odb_disk.specs.Tree.{tree_of_entries, with_node}
use Rattle.odb_disk.proofs.TreeLemmas.{node_at-entries}
use Rattle.odb_mem_disk.proofs.TreeMovesLemmas.{copy_none, copy_some}
use Rattle.odb_mem_disk.proofs.node_moves.put_copy.Goals as goal

pub returns-in_default-clause-made : goal.returns-in_default-clause-made
returns-in_default-clause-made c = sym (copy_none _ _ _ (node_at-entries c.args.nodes.now.entries c.args.source.now ∙ sym c.in_default.ensures.value))

pub returns-clause-made : goal.returns-clause-made
returns-clause-made c =
    let t = tree_of_entries c.args.nodes.now.entries in
    on_ok_weaker c.put.result
    (λ made. made ∙ ap (λ p. with_node t p c.in_ok-copy.copy) c.in_ok-try_clone.ensures.copy ∙ ap (with_node t c.args.target.now) c.in_ok-copy.ensures.copy
    ∙ sym (copy_some t c.args.source.now c.args.target.now c.in-Some.node.now (node_at-entries c.args.nodes.now.entries c.args.source.now ∙ sym c.in-Some.ensures.value)))
    c.put.ensures.made
