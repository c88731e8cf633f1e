use Rattle.std.proofs.lemmas.Result.{err_from_is_err_and}
use Rattle.odb_disk.proofs.TreeLemmas.Write.{make_dir_possible}
use Rattle.odb_disk.proofs.WriteCallsLemmas.Changes.{make_dir_unmade, make_dir_told, vacant_lies}
use Rattle.odb_mem_disk.proofs.tree.Tree.change_of_make_dir.Goals as goal

pub returns-in_err-path-clause-told : goal.returns-in_err-path-clause-told
returns-in_err-path-clause-told c =
    let p = err_from_is_err_and c.from_residual.result c.from_residual.ensures.1 in
    rw (p.1, p.2) (make_dir_unmade c.args.self.now c.args.path.now _ c.in_err-path.ensures.told)

pub device_above-requires : goal.device_above-requires
device_above-requires c = record { lies = vacant_lies c.args.self.now c.args.path.now c.in_ok-path.path c.in_ok-path.ensures.told c.in_ok-path.ensures.is_tree }

pub returns-clause-told : goal.returns-clause-told
returns-clause-told c = make_dir_told c.args.self.now c.args.path.now c.in_ok-path.path c.in_ok-path.ensures.told c.in_ok-dev.dev c.in_ok-dev.ensures.device

pub returns-clause-possible : goal.returns-clause-possible
returns-clause-possible c = make_dir_possible c.args.self.now c.in_ok-path.ensures.is_tree c.args.path.now _ (returns-clause-told c)
