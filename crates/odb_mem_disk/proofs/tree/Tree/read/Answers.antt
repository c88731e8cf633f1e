use Rattle.std.proofs.Common.{◌∙◌, sym, ap, Ok, inl, inr}
use Rattle.std.proofs.lemmas.Result.{err_from_is_err_and}
use Rattle.odb_disk.specs.Tree.Follow.{file_of}
use Rattle.odb_mem_disk.proofs.TreeCallsLemmas.{read_node, read_refused}
use Rattle.odb_mem_disk.proofs.tree.Tree.read.Goals as goal

pub returns-in_err-node-clause-answer : goal.returns-in_err-node-clause-answer
returns-in_err-node-clause-answer c =
    let p = err_from_is_err_and c.from_residual.result c.from_residual.ensures.1 in
    rw (p.1, p.2) (read_refused c.args.self.now c.args.path.now _ c.in_err-node.ensures.leads)

pub returns-in_ok-to_list-in-File-clause-answer : goal.returns-in_ok-to_list-in-File-clause-answer
returns-in_ok-to_list-in-File-clause-answer c =
    read_node _ _ _ c.in_ok-node.ensures.leads ∙ ap file_of c.in-File.is ∙ ap (λ bytes. Ok (bytes, c.in-File.time)) (sym c.in_ok-to_list-in-File.ensures.copy)

pub returns-in-Dir-clause-answer : goal.returns-in-Dir-clause-answer
returns-in-Dir-clause-answer c = read_node _ _ _ c.in_ok-node.ensures.leads ∙ elim c.in-Dir.is [ inl e ↦ ap file_of e | inr w ↦ ap file_of w.1 ]
