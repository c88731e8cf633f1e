use Rattle.std.proofs.Common.{◌∙◌, sym, true, false}
use Rattle.std.proofs.lemmas.Result.{err_from_is_err_and}
use Rattle.odb_disk.proofs.WriteCallsLemmas.Spots.{movable_refused, nothing_to_move, moves_or_not}
use Rattle.odb_mem_disk.proofs.tree.Tree.movable.Goals as goal

pub returns-in_err-place : goal.returns-in_err-place
returns-in_err-place c = record {
  told = let p = err_from_is_err_and c.from_residual.result c.from_residual.ensures.1 in
      rw (p.1, p.2) (movable_refused c.args.self.now c.args.path.now _ c.in_err-place.ensures.told);
}

pub returns-in-None : goal.returns-in-None
returns-in-None c = record { told = nothing_to_move c.args.self.now c.args.path.now c.in_ok-place.place c.in_ok-place.ensures.told (sym c.in-None.ensures.value) }

pub returns-in-Some : goal.returns-in-Some
returns-in-Some c = record {
  told =
      moves_or_not c.args.self.now c.args.path.now c.in_ok-place.place c.in_ok-place.ensures.told c.in-Some.node.now true (sym c.in-Some.ensures.value)
      (sym c.is_dir.ensures.directory ∙ c.if-is_dir.true);
}

pub returns-in-Some-2 : goal.returns-in-Some-2
returns-in-Some-2 c = record {
  told =
      moves_or_not c.args.self.now c.args.path.now c.in_ok-place.place c.in_ok-place.ensures.told c.in-Some.node.now false (sym c.in-Some.ensures.value)
      (sym c.is_dir.ensures.directory ∙ c.if-is_dir.false);
}
