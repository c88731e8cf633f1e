use Rattle.std.proofs.Common.{sym}
use Rattle.std.proofs.lemmas.Result.{err_from_is_err_and}
use Rattle.odb_disk.proofs.WriteCallsLemmas.Spots.{vacant_refused, vacant_here, taken_here}
use Rattle.odb_mem_disk.proofs.tree.Tree.vacant.Goals as goal

pub returns-in_err-place-clause-told : goal.returns-in_err-place-clause-told
returns-in_err-place-clause-told c =
    let p = err_from_is_err_and c.from_residual.result c.from_residual.ensures.1 in
    rw (p.1, p.2) (vacant_refused c.args.self.now c.args.path.now _ c.in_err-place.ensures.told)

pub returns-in-None-clause-told : goal.returns-in-None-clause-told
returns-in-None-clause-told c = vacant_here c.args.self.now c.args.path.now c.in_ok-place.place c.in_ok-place.ensures.told (sym c.in-None.ensures.value)

pub returns-in-Some-clause-told : goal.returns-in-Some-clause-told
returns-in-Some-clause-told c = taken_here c.args.self.now c.args.path.now c.in_ok-place.place c.in_ok-place.ensures.told _ (sym c.in-Some.ensures.value)
