use Rattle.std.proofs.lemmas.Result.{err_from_is_err_and}
use Rattle.odb_disk.proofs.TreeLemmas.Write.{new_file_possible}
use Rattle.odb_disk.proofs.WriteCallsLemmas.Changes.{new_file_unmade, new_file_told}
use Rattle.odb_mem_disk.proofs.tree.Tree.change_of_new_file.Goals as goal

pub returns-in_err-path-clause-told : goal.returns-in_err-path-clause-told
returns-in_err-path-clause-told c =
    let p = err_from_is_err_and c.from_residual.result c.from_residual.ensures.1 in
    rw (p.1, p.2) (new_file_unmade c.args.self.now c.args.path.now _ c.in_err-path.ensures.told)

pub returns-clause-told : goal.returns-clause-told
returns-clause-told c = new_file_told c.args.self.now c.args.path.now c.in_ok-path.path c.in_ok-path.ensures.told _ c.new-bytes.ensures.empty

pub returns-clause-possible : goal.returns-clause-possible
returns-clause-possible c = new_file_possible c.args.self.now c.in_ok-path.ensures.is_tree c.args.path.now _ (returns-clause-told c)
