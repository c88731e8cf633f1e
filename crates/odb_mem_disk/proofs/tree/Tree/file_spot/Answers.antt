use Rattle.std.proofs.Common.{◌∙◌, sym, true, false}
use Rattle.std.proofs.lemmas.Result.{err_from_is_err_and}
use Rattle.odb_disk.proofs.WriteCallsLemmas.Spots.{file_spot_refused, file_or_not, led_nowhere}
use Rattle.odb_mem_disk.proofs.tree.Tree.file_spot.Goals as goal
use Rattle.odb_mem_disk.proofs.tree.Tree.file_spot.Goals.{in_default-via-in-Some+else-is_file, in_default-via-in_default}

pub returns-in_err-place-clause-told : goal.returns-in_err-place-clause-told
returns-in_err-place-clause-told c =
    let p = err_from_is_err_and c.from_residual.result c.from_residual.ensures.1 in
    rw (p.1, p.2) (file_spot_refused c.args.self.now c.args.path.now _ c.in_err-place.ensures.told)

pub returns-in-Some-clause-told : goal.returns-in-Some-clause-told
returns-in-Some-clause-told c =
    file_or_not c.args.self.now c.args.path.now c.in_ok-place.place c.in_ok-place.ensures.told c.in-Some.node.now true (sym c.in-Some.ensures.value)
    (sym c.is_file.ensures.file ∙ c.if-is_file.true)

pub returns-in_default-clause-told : goal.returns-in_default-clause-told
returns-in_default-clause-told c =
    elim c.in_default.branch [
      | in_default-via-in-Some+else-is_file w ↦
          file_or_not c.args.self.now c.args.path.now c.in_ok-place.place c.in_ok-place.ensures.told w.in-Some.node.now false (sym w.in-Some.ensures.value)
          (sym w.is_file.ensures.file ∙ w.if-is_file.false)
      | in_default-via-in_default w ↦ absurd (led_nowhere c.args.self.now c.args.path.now c.in_ok-place.place c.in_ok-place.ensures.told (sym w.in_default.ensures.value))
    ]
