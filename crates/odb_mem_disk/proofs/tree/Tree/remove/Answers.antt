use Rattle.std.proofs.Common.{ap}
use Rattle.std.proofs.lemmas.Result.{err_from_is_err_and}
use Rattle.odb_disk.specs.Tree.Write.{done}
use Rattle.odb_disk.specs.declared.change.Change.TheVariants.{Remove}
use Rattle.odb_disk.proofs.TreeLemmas.Write.{remove_possible}
use Rattle.odb_disk.proofs.WriteCallsLemmas.Changes.{remove_unmade, change_of_remove-is, made_as_told, refused_as_told}
use Rattle.odb_mem_disk.proofs.tree.Tree.remove.Goals as goal

pub returns-in_err-place-clause-told : goal.returns-in_err-place-clause-told
returns-in_err-place-clause-told c =
    let p = err_from_is_err_and c.from_residual.result c.from_residual.ensures.1 in
    rw (p.1, p.2) (refused_as_told _ _ (remove_unmade c.args.self.now c.args.path.now _ c.in_err-place.ensures.told))

pub apply_remove-requires : goal.apply_remove-requires
apply_remove-requires c =
    let told = change_of_remove-is c.args.self.now c.args.path.now c.in_ok-place.place c.in_ok-place.ensures.told in
    record { possible = remove_possible c.args.self.now c.in_ok-place.ensures.is_tree c.args.path.now _ told }

pub returns-clause-told : goal.returns-clause-told
returns-clause-told c = ap done (change_of_remove-is c.args.self.now c.args.path.now c.in_ok-place.place c.in_ok-place.ensures.told)

pub returns-clause-made : goal.returns-clause-made
returns-clause-made c =
    let told = change_of_remove-is c.args.self.now c.args.path.now c.in_ok-place.place c.in_ok-place.ensures.told in
    made_as_told c.args.self.now c.apply_remove.new.self _ (Remove c.in_ok-place.place) told c.in_ok-apply_remove.ensures.made
