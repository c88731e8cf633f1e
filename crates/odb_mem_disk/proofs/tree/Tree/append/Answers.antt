use Rattle.std.proofs.Common.{ap}
use Rattle.std.proofs.lemmas.Result.{err_from_is_err_and}
use Rattle.odb_disk.specs.Tree.Write.{done}
use Rattle.odb_disk.specs.declared.change.Change.TheVariants.{Append}
use Rattle.odb_disk.proofs.TreeLemmas.Write.{append_possible}
use Rattle.odb_disk.proofs.WriteCallsLemmas.Changes.{append_unmade, refused_as_told, change_of_append-is, made_as_told}
use Rattle.odb_mem_disk.proofs.tree.Tree.append.Goals as goal

pub returns-in_err-place-clause-told : goal.returns-in_err-place-clause-told
returns-in_err-place-clause-told c =
    let p = err_from_is_err_and c.from_residual.result c.from_residual.ensures.1 in
    rw (p.1, p.2) (refused_as_told _ _ (append_unmade c.args.self.now c.args.path.now _ c.args.bytes.now c.in_err-place.ensures.told))

pub apply_append-requires : goal.apply_append-requires
apply_append-requires c =
    let s = c.in_ok-place.place in
    let bytes = c.args.bytes.now in
    let told = change_of_append-is c.args.self.now c.args.path.now s bytes c.in_ok-place.ensures.told in
    record { possible = append_possible c.args.self.now c.in_ok-place.ensures.is_tree c.args.path.now (Append s bytes) bytes told }

pub returns-clause-told : goal.returns-clause-told
returns-clause-told c = ap done (change_of_append-is c.args.self.now c.args.path.now c.in_ok-place.place c.args.bytes.now c.in_ok-place.ensures.told)

pub returns-clause-made : goal.returns-clause-made
returns-clause-made c =
    let s = c.in_ok-place.place in
    let bytes = c.args.bytes.now in
    made_as_told c.args.self.now c.apply_append.new.self _ (Append s bytes) (change_of_append-is c.args.self.now c.args.path.now s bytes c.in_ok-place.ensures.told) c.in_ok-apply_append.ensures.made
