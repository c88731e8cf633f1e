use Rattle.std.proofs.Common.{Ok, ap, sym, ◌∙◌}
use Rattle.std.proofs.lemmas.Result.{err_from_is_err_and}
use Rattle.odb_disk.specs.declared.change.Change.TheVariants.{Append}
use Rattle.odb_disk.proofs.TreeLemmas.Write.{append_possible}
use Rattle.odb_disk.proofs.WriteCallsLemmas.Changes.{append_unmade, change_of_append-is}
use Rattle.odb_mem_disk.proofs.tree.Tree.change_of_append.Goals as goal

pub returns-in_err-path-clause-told : goal.returns-in_err-path-clause-told
returns-in_err-path-clause-told c =
    let p = err_from_is_err_and c.from_residual.result c.from_residual.ensures.1 in
    rw (p.1, p.2) (append_unmade c.args.self.now c.args.path.now _ c.args.bytes.now c.in_err-path.ensures.told)

pub returns-clause-told : goal.returns-clause-told
returns-clause-told c =
    change_of_append-is c.args.self.now c.args.path.now c.in_ok-path.path c.args.bytes.now c.in_ok-path.ensures.told
    ∙ ap (λ bytes. Ok (Append c.in_ok-path.path bytes)) (sym c.in_ok-bytes.ensures.copy)

pub returns-clause-possible : goal.returns-clause-possible
returns-clause-possible c = append_possible c.args.self.now c.in_ok-path.ensures.is_tree c.args.path.now _ c.args.bytes.now (returns-clause-told c)
