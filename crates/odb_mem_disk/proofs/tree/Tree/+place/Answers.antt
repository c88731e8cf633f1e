use Rattle.std.proofs.Common.{◌≡◌, ◌∙◌, true, suc, ◌-◌, sym, ap, Ok, arith}
use Rattle.std.proofs.lemmas.Result.{err_from_is_err_and}
use Rattle.odb_disk.specs.Tree.Follow.{followed_within}
use Rattle.odb_disk.specs.Tree.Write.{from_followed}
use Rattle.odb_disk.specs.TreeCalls.{path_of_place}
use Rattle.odb_disk.proofs.TreeLemmas.Follow.{followed_reached, followed_loop, followed_onward}
use Rattle.odb_disk.proofs.WriteCallsLemmas.Spots.{Tells-from_end}
use Rattle.odb_mem_disk.proofs.tree.Tree.+place.Goals as goal

pub returns-in_err-pass : goal.returns-in_err-pass
returns-in_err-pass t c = record {
  told = let p = err_from_is_err_and c.from_residual.result c.from_residual.ensures.1 in
      rw (p.1, p.2) (Tells-from_end c.args.links c.args.self.now c.args.path.now _ c.in_err-pass.ensures.comes);
}

pub returns-then-links-eq0 : goal.returns-then-links-eq0
returns-then-links-eq0 t c = record {
  told = ap (λ links. from_followed (path_of_place (followed_within links c.args.self.now true c.args.path.now))) c.if-links-eq0.true
      ∙ ap (λ r. from_followed (path_of_place r)) (followed_loop c.args.self.now true c.args.path.now c.in-Onward.onward (rw c.in-Onward.is at c.in_ok-pass.ensures.comes));
}

pub returns-in_ok-try_clone-in-Reached : goal.returns-in_ok-try_clone-in-Reached
returns-in_ok-try_clone-in-Reached t c = record {
  told =
      ap (λ r. from_followed (path_of_place r))
      (followed_reached c.args.self.now true c.args.path.now c.args.links c.args.path.now c.in-Reached.field-0.now (rw c.in-Reached.is at c.in_ok-pass.ensures.comes))
      ∙ ap Ok (sym c.in_ok-try_clone-in-Reached.ensures.copy);
}

pub returns-else-links-eq0 : goal.returns-else-links-eq0
returns-else-links-eq0 t c = record {
  told = let one : c.args.links ≡ suc (c.args.links - 1) = omega arith in
      rw (followed_onward c.args.self.now true c.args.path.now c.args.links (c.args.links - 1) c.in-Onward.onward one (rw c.in-Onward.is at c.in_ok-pass.ensures.comes)) c.place.ensures.told;
}
