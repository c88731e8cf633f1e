use Rattle.std.proofs.Common.{◌∙◌, sym, ap, true, false}
use Rattle.std.proofs.lemmas.Result.{err_from_is_err_and}
use Rattle.odb_disk.specs.Tree.{is_directory}
use Rattle.odb_disk.proofs.WriteCallsLemmas.Spots.{replaceable_refused, replaced_or_not}
use Rattle.odb_mem_disk.proofs.tree.Tree.replaceable.Goals as goal
use Rattle.odb_mem_disk.proofs.tree.Tree.replaceable.Goals.{in_default-via-in-Some+else-is_dir, in_default-via-in_default}

pub returns-in_err-place-clause-told : goal.returns-in_err-place-clause-told
returns-in_err-place-clause-told c =
    let p = err_from_is_err_and c.from_residual.result c.from_residual.ensures.1 in
    rw (p.1, p.2) (replaceable_refused c.args.self.now c.args.path.now _ c.in_err-place.ensures.told)

pub returns-in-Some-clause-told : goal.returns-in-Some-clause-told
returns-in-Some-clause-told c =
    replaced_or_not c.args.self.now c.args.path.now c.in_ok-place.place c.in_ok-place.ensures.told true
    (ap is_directory (sym c.in-Some.ensures.value) ∙ (sym c.is_dir.ensures.directory ∙ c.if-is_dir.true))

pub returns-in_default-clause-told : goal.returns-in_default-clause-told
returns-in_default-clause-told c =
    let t = c.args.self.now in
    let s = c.in_ok-place.place in
    elim c.in_default.branch [
      | in_default-via-in-Some+else-is_dir w ↦
          replaced_or_not t c.args.path.now s c.in_ok-place.ensures.told false (ap is_directory (sym w.in-Some.ensures.value) ∙ (sym w.is_dir.ensures.directory ∙ w.if-is_dir.false))
      | in_default-via-in_default w ↦ replaced_or_not t c.args.path.now s c.in_ok-place.ensures.told false (ap is_directory (sym w.in_default.ensures.value))
    ]

pub returns-in_default-clause-is_tree : goal.returns-in_default-clause-is_tree
returns-in_default-clause-is_tree c = c.node.ensures.is_tree
