use Rattle.std.proofs.Common.{◌∙◌}
use Rattle.std.proofs.lemmas.Result.{err_from_is_err_and}
use Rattle.odb_disk.proofs.TreeLemmas.{tree_put, node_at-entries}
use Rattle.odb_mem_disk.proofs.node_map.put.Goals as goal

pub returns-in_err-insert-clause-absent : goal.returns-in_err-insert-clause-absent
returns-in_err-insert-clause-absent c =
    let p = err_from_is_err_and c.from_residual.result c.from_residual.ensures.1 in
    rw (p.1) (node_at-entries _ _ ∙ c.in_err-insert.ensures.absent)

pub returns-clause-made : goal.returns-clause-made
returns-clause-made c = tree_put c.args.nodes.now.entries c.insert.new.self.entries c.args.path c.args.node c.in_ok-insert.ensures.updates.0
