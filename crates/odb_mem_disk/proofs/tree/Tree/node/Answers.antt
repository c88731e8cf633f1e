use Rattle.std.proofs.Common.{◌∙◌, sym, ap}
use Rattle.odb_disk.specs.Tree.{node_at}
use Rattle.odb_disk.proofs.TreeLemmas.{node_at-entries}
use Rattle.odb_mem_disk.proofs.tree.Tree.node.Goals as goal

pub returns-clause-value : goal.returns-clause-value
returns-clause-value c =
    c.get.ensures.value ∙ sym (node_at-entries c.self.inside.nodes.entries c.args.path.now) ∙ ap (λ t. node_at t c.args.path.now) c.self.view_is
