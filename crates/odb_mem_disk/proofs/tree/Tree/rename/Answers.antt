use Rattle.std.proofs.Common.{ap}
use Rattle.std.proofs.lemmas.Result.{err_from_is_err_and}
use Rattle.odb_disk.specs.Tree.Write.{done}
use Rattle.odb_disk.specs.declared.change.Change.TheVariants.{Rename}
use Rattle.odb_disk.proofs.TreeLemmas.Write.{rename_possible}
use Rattle.odb_disk.proofs.WriteCallsLemmas.Changes.{rename_source_unmade, rename_target_unmade, change_of_rename-is, made_as_told, refused_as_told}
use Rattle.odb_mem_disk.proofs.tree.Tree.rename.Goals as goal

pub returns-in_err-source-clause-told : goal.returns-in_err-source-clause-told
returns-in_err-source-clause-told c =
    let p = err_from_is_err_and c.from_residual.result c.from_residual.ensures.1 in
    rw (p.1, p.2) (refused_as_told _ _ (rename_source_unmade c.args.self.now c.args.from.now _ c.args.to.now c.in_err-source.ensures.told))

pub returns-in_err-target-clause-told : goal.returns-in_err-target-clause-told
returns-in_err-target-clause-told c =
    let p = err_from_is_err_and c.from_residual-in_err-target.result c.from_residual-in_err-target.ensures.1 in
    rw (p.1, p.2) (refused_as_told _ _ (rename_target_unmade c.args.self.now c.args.to.now _ c.args.from.now c.in_ok-source.source c.in_ok-source.ensures.told c.in_err-target.ensures.told))

pub apply_rename-requires : goal.apply_rename-requires
apply_rename-requires c =
    let told = change_of_rename-is c.args.self.now c.args.from.now c.args.to.now c.in_ok-source.source c.in_ok-target.target c.in_ok-source.ensures.told c.in_ok-target.ensures.told in
    record { possible = rename_possible c.args.self.now c.in_ok-target.ensures.is_tree c.args.from.now _ c.args.to.now told }

pub returns-clause-told : goal.returns-clause-told
returns-clause-told c = ap done (change_of_rename-is c.args.self.now c.args.from.now c.args.to.now c.in_ok-source.source c.in_ok-target.target c.in_ok-source.ensures.told c.in_ok-target.ensures.told)

pub returns-clause-made : goal.returns-clause-made
returns-clause-made c =
    let told = change_of_rename-is c.args.self.now c.args.from.now c.args.to.now c.in_ok-source.source c.in_ok-target.target c.in_ok-source.ensures.told c.in_ok-target.ensures.told in
    made_as_told c.args.self.now c.apply_rename.new.self _ (Rename c.in_ok-source.source c.in_ok-target.target) told c.in_ok-apply_rename.ensures.made
