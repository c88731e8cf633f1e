use Rattle.std.proofs.Common.{ap}
use Rattle.std.proofs.lemmas.Result.{err_from_is_err_and}
use Rattle.odb_disk.specs.Tree.Write.{done}
use Rattle.odb_disk.specs.declared.change.Change.TheVariants.{MakeDir}
use Rattle.odb_disk.proofs.TreeLemmas.Write.{make_dir_possible}
use Rattle.odb_disk.proofs.WriteCallsLemmas.Changes.{make_dir_unmade, make_dir_told, made_as_told, refused_as_told, vacant_lies}
use Rattle.odb_mem_disk.proofs.tree.Tree.make_dir.Goals as goal

pub returns-in_err-place-clause-told : goal.returns-in_err-place-clause-told
returns-in_err-place-clause-told c =
    let p = err_from_is_err_and c.from_residual.result c.from_residual.ensures.1 in
    rw (p.1, p.2) (refused_as_told _ _ (make_dir_unmade c.args.self.now c.args.path.now _ c.in_err-place.ensures.told))

pub device_above-requires : goal.device_above-requires
device_above-requires c = record { lies = vacant_lies c.args.self.now c.args.path.now c.in_ok-place.place c.in_ok-place.ensures.told c.in_ok-place.ensures.is_tree }

pub apply_make_dir-requires : goal.apply_make_dir-requires
apply_make_dir-requires c =
    let told = make_dir_told c.args.self.now c.args.path.now c.in_ok-place.place c.in_ok-place.ensures.told c.in_ok-dev.dev c.in_ok-dev.ensures.device in
    record { possible = make_dir_possible c.args.self.now c.in_ok-place.ensures.is_tree c.args.path.now _ told }

pub returns-clause-told : goal.returns-clause-told
returns-clause-told c = ap done (make_dir_told c.args.self.now c.args.path.now c.in_ok-place.place c.in_ok-place.ensures.told c.in_ok-dev.dev c.in_ok-dev.ensures.device)

pub returns-clause-made : goal.returns-clause-made
returns-clause-made c =
    let told = make_dir_told c.args.self.now c.args.path.now c.in_ok-place.place c.in_ok-place.ensures.told c.in_ok-dev.dev c.in_ok-dev.ensures.device in
    made_as_told c.args.self.now c.apply_make_dir.new.self _ (MakeDir c.in_ok-place.place c.in_ok-dev.dev) told c.in_ok-apply_make_dir.ensures.made
