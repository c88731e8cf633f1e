use Rattle.std.proofs.Common.{ap}
use Rattle.std.proofs.lemmas.Result.{err_from_is_err_and}
use Rattle.odb_disk.specs.Tree.Write.{done}
use Rattle.odb_disk.proofs.TreeLemmas.Write.{new_file_possible}
use Rattle.odb_disk.proofs.WriteCallsLemmas.Changes.{new_file_unmade, new_file_told, made_as_told, refused_as_told}
use Rattle.odb_mem_disk.proofs.tree.Tree.new_file.Goals as goal

pub returns-in_err-place-clause-told : goal.returns-in_err-place-clause-told
returns-in_err-place-clause-told c =
    let p = err_from_is_err_and c.from_residual.result c.from_residual.ensures.1 in
    rw (p.1, p.2) (refused_as_told _ _ (new_file_unmade c.args.self.now c.args.path.now _ c.in_err-place.ensures.told))

pub apply_put_file-requires : goal.apply_put_file-requires
apply_put_file-requires c =
    let told = new_file_told c.args.self.now c.args.path.now c.in_ok-place.place c.in_ok-place.ensures.told _ c.new-bytes.ensures.empty in
    record { possible = new_file_possible c.args.self.now c.in_ok-place.ensures.is_tree c.args.path.now _ told }

pub returns-clause-told : goal.returns-clause-told
returns-clause-told c = ap done (new_file_told c.args.self.now c.args.path.now c.in_ok-place.place c.in_ok-place.ensures.told _ c.new-bytes.ensures.empty)

pub returns-clause-made : goal.returns-clause-made
returns-clause-made c =
    let told = new_file_told c.args.self.now c.args.path.now c.in_ok-place.place c.in_ok-place.ensures.told _ c.new-bytes.ensures.empty in
    made_as_told c.args.self.now c.apply_put_file.new.self _ _ told c.in_ok-apply_put_file.ensures.made
