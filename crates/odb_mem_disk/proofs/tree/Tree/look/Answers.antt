use Rattle.std.proofs.Common.{◌∙◌, sym, ap, Ok}
use Rattle.std.proofs.lemmas.Result.{err_from_is_err_and}
use Rattle.odb_mem_disk.proofs.TreeCallsLemmas.{looked_node, looked_refused}
use Rattle.odb_mem_disk.proofs.tree.Tree.look.Goals as goal

pub returns-in_err-node-clause-answer : goal.returns-in_err-node-clause-answer
returns-in_err-node-clause-answer c =
    let p = err_from_is_err_and c.from_residual.result c.from_residual.ensures.1 in
    rw (p.1, p.2) (looked_refused c.args.self.now c.args.path.now c.args.follow _ c.in_err-node.ensures.leads)

pub returns-clause-answer : goal.returns-clause-answer
returns-clause-answer c = looked_node _ _ _ _ c.in_ok-node.ensures.leads ∙ ap Ok (sym c.meta.ensures.meta)
