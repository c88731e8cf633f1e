use Rattle.std.proofs.Common.{◌≡◌, ◌∙◌, sym, ap, Some, None}
use Rattle.std.proofs.lemmas.Result.{on_ok_weaker, on_err_weaker}
use Rattle.odb_disk.specs.Tree.{tree_of_entries, with_node}
use Rattle.odb_disk.specs.Tree.Change.{longer}
use Rattle.odb_disk.specs.declared.node.Node.{Node}
use Rattle.odb_disk.proofs.TreeLemmas.{tree_put, node_at-entries, IsSome-from}
use Rattle.odb_mem_disk.proofs.NodeMapLemmas.{put_same}
use Rattle.odb_mem_disk.proofs.node_map.append.Goals as goal

pub returns-in-None-clause-made : goal.returns-in-None-clause-made
returns-in-None-clause-made c = λ node at.
    let none : None ≡ Some node = c.in-None.ensures.value ∙ sym (node_at-entries c.args.nodes.now.entries c.args.path.now) ∙ at in
    absurd (cc)

pub returns-in-Some-clause-made : goal.returns-in-Some-clause-made
returns-in-Some-clause-made c =
    let es = c.args.nodes.now.entries in
    let p = c.args.path.now in
    let w = c.get_mut.follows.holds c.append.new.self in
    let put = tree_put es _ p c.append.new.self (w.3 (IsSome-from _ _ c.in-Some.ensures.value)).0 in
    on_ok_weaker c.append.result
    (λ is node at.
    let both : Some c.in-Some.node.now ≡ Some node = c.in-Some.ensures.value ∙ sym (node_at-entries es p) ∙ at in
    let same : c.in-Some.node.now ≡ node = cc in
    put ∙ ap (with_node (tree_of_entries es) p) is ∙ ap (λ (n : Node). with_node (tree_of_entries es) p (record n { content = longer n.content c.args.more.now })) same)
    c.append.ensures.made

pub returns-in-Some-clause-kept : goal.returns-in-Some-clause-kept
returns-in-Some-clause-kept c =
    let es = c.args.nodes.now.entries in
    let p = c.args.path.now in
    let w = c.get_mut.follows.holds c.append.new.self in
    let put = tree_put es _ p c.append.new.self (w.3 (IsSome-from _ _ c.in-Some.ensures.value)).0 in
    on_err_weaker c.append.result
    (λ is. put ∙ put_same (tree_of_entries es) p c.append.new.self (node_at-entries es p ∙ sym c.in-Some.ensures.value ∙ ap Some (sym is)))
    c.append.ensures.kept
