use Rattle.std.proofs.Common.{◌∙◌, sym}
use Rattle.odb_disk.specs.Tree.{tree_of_entries}
use Rattle.odb_disk.proofs.TreeLemmas.{tree_take, node_at-entries}
use Rattle.odb_mem_disk.proofs.NodeMapLemmas.{moved_node, nothing_moved}
use Rattle.odb_mem_disk.proofs.node_map.move_node.Goals as goal

pub returns-in-Some-clause-made : goal.returns-in-Some-clause-made
returns-in-Some-clause-made c =
    let es = c.make_room.new.nodes.entries in
    moved_node (tree_of_entries c.args.nodes.now.entries) (tree_of_entries es) (tree_of_entries c.remove.new.self.entries) c.args.from.now c.args.to.now c.in_ok-make_room.ensures.others
    (tree_of_entries c.put_node.new.nodes.entries) c.in-Some.node c.in_ok-make_room.ensures.stands (c.in-Some.ensures.value ∙ sym (node_at-entries es c.args.from.now))
    (tree_take es c.remove.new.self.entries c.args.from.now c.remove.ensures.updates.0) c.put_node.ensures.made

pub returns-in_default-clause-made : goal.returns-in_default-clause-made
returns-in_default-clause-made c = λ node at apart.
    let es = c.make_room.new.nodes.entries in
    let gone = c.in_default.ensures.value ∙ sym (node_at-entries es c.args.from.now) in
    absurd (nothing_moved (tree_of_entries c.args.nodes.now.entries) (tree_of_entries es) (tree_of_entries c.remove.new.self.entries) c.args.from.now c.args.to.now
    c.in_ok-make_room.ensures.others gone node at apart)
