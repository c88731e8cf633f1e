use Rattle.std.proofs.lemmas.Result.{err_from_is_err_and}
use Rattle.odb_disk.proofs.TreeLemmas.Write.{rename_possible}
use Rattle.odb_disk.proofs.WriteCallsLemmas.Changes.{rename_source_unmade, rename_target_unmade, change_of_rename-is}
use Rattle.odb_mem_disk.proofs.tree.Tree.change_of_rename.Goals as goal

pub returns-in_err-from-clause-told : goal.returns-in_err-from-clause-told
returns-in_err-from-clause-told c =
    let p = err_from_is_err_and c.from_residual.result c.from_residual.ensures.1 in
    rw (p.1, p.2) (rename_source_unmade c.args.self.now c.args.from.now _ c.args.to.now c.in_err-from.ensures.told)

pub returns-in_err-to-clause-told : goal.returns-in_err-to-clause-told
returns-in_err-to-clause-told c =
    let p = err_from_is_err_and c.from_residual-in_err-to.result c.from_residual-in_err-to.ensures.1 in
    rw (p.1, p.2) (rename_target_unmade c.args.self.now c.args.to.now _ c.args.from.now c.in_ok-from.from c.in_ok-from.ensures.told c.in_err-to.ensures.told)

pub returns-clause-told : goal.returns-clause-told
returns-clause-told c = change_of_rename-is c.args.self.now c.args.from.now c.args.to.now c.in_ok-from.from c.in_ok-to.to c.in_ok-from.ensures.told c.in_ok-to.ensures.told

pub returns-clause-possible : goal.returns-clause-possible
returns-clause-possible c = rename_possible c.args.self.now c.in_ok-to.ensures.is_tree c.args.from.now _ c.args.to.now (returns-clause-told c)
