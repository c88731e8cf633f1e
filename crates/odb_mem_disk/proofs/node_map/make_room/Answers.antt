use Rattle.std.proofs.Common.{◌∙◌, sym}
use Rattle.std.proofs.lemmas.Result.{err_from_is_err_and, on_ok_weaker}
use Rattle.odb_disk.specs.Tree.{tree_of_entries}
use Rattle.odb_disk.proofs.TreeLemmas.{node_at-entries, IsSome-from}
use Rattle.odb_mem_disk.proofs.NodeMapLemmas.{room_stands, room_others}
use Rattle.odb_mem_disk.proofs.node_map.make_room.Goals as goal

pub returns-in_default-clause-stands : goal.returns-in_default-clause-stands
returns-in_default-clause-stands c = IsSome-from _ _ (c.in_default.ensures.value ∙ sym (node_at-entries c.args.nodes.now.entries c.args.path.now))

pub returns-in_err-try_clone-clause-absent : goal.returns-in_err-try_clone-clause-absent
returns-in_err-try_clone-clause-absent c =
    let p = err_from_is_err_and c.from_residual.result c.from_residual.ensures.1 in
    rw (p.1) (node_at-entries c.args.nodes.now.entries c.args.path.now ∙ sym c.in-None.ensures.value)

pub returns-clause-stands : goal.returns-clause-stands
returns-clause-stands c =
    on_ok_weaker c.put.result (room_stands (tree_of_entries c.args.nodes.now.entries) _ c.in_ok-try_clone.field-0 c.args.path.now _ c.in_ok-try_clone.ensures.copy) c.put.ensures.made

pub returns-clause-others : goal.returns-clause-others
returns-clause-others c =
    on_ok_weaker c.put.result (room_others (tree_of_entries c.args.nodes.now.entries) _ c.in_ok-try_clone.field-0 c.args.path.now _ c.in_ok-try_clone.ensures.copy) c.put.ensures.made
