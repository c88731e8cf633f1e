use Rattle.std.proofs.Common.{◌∙◌}
use Rattle.odb_disk.specs.Tree.{tree_of_entries}
use Rattle.odb_mem_disk.proofs.NodeMapLemmas.{put_in_room}
use Rattle.odb_mem_disk.proofs.node_map.put_over.Goals as goal

pub returns-clause-made : goal.returns-clause-made
returns-clause-made c =
    c.put_node.ensures.made c.in_ok-make_room.ensures.stands
    ∙ put_in_room (tree_of_entries c.args.nodes.now.entries) (tree_of_entries c.make_room.new.nodes.entries) c.args.path.now c.args.node c.in_ok-make_room.ensures.others
