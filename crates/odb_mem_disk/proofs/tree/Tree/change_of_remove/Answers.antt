use Rattle.std.proofs.lemmas.Result.{err_from_is_err_and}
use Rattle.odb_disk.proofs.TreeLemmas.Write.{remove_possible}
use Rattle.odb_disk.proofs.WriteCallsLemmas.Changes.{remove_unmade, change_of_remove-is}
use Rattle.odb_mem_disk.proofs.tree.Tree.change_of_remove.Goals as goal

pub returns-in_err-path-clause-told : goal.returns-in_err-path-clause-told
returns-in_err-path-clause-told c =
    let p = err_from_is_err_and c.from_residual.result c.from_residual.ensures.1 in
    rw (p.1, p.2) (remove_unmade c.args.self.now c.args.path.now _ c.in_err-path.ensures.told)

pub returns-clause-told : goal.returns-clause-told
returns-clause-told c = change_of_remove-is c.args.self.now c.args.path.now c.in_ok-path.path c.in_ok-path.ensures.told

pub returns-clause-possible : goal.returns-clause-possible
returns-clause-possible c = remove_possible c.args.self.now c.in_ok-path.ensures.is_tree c.args.path.now _ (returns-clause-told c)
