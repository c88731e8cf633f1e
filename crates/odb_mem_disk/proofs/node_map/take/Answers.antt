use Rattle.odb_disk.proofs.TreeLemmas.{tree_take}
use Rattle.odb_mem_disk.proofs.node_map.take.Goals as goal

pub returns : goal.returns
returns c = record { taken = tree_take c.args.nodes.now.entries c.remove.new.self.entries c.args.path.now c.remove.ensures.updates.0 }
