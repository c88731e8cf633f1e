use Rattle.std.proofs.Common.{◌≡◌, ◌∙◌, suc, ◌-◌, ap, arith}
use Rattle.std.proofs.lemmas.Result.{err_from_is_err_and}
use Rattle.odb_disk.specs.Tree.Follow.{followed_within}
use Rattle.odb_disk.specs.TreeCalls.{node_of_place}
use Rattle.odb_disk.proofs.TreeLemmas.Follow.{followed_reached, followed_loop, followed_onward}
use Rattle.odb_mem_disk.proofs.TreeCallsLemmas.{Leads-from_end}
use Rattle.odb_mem_disk.proofs.tree.Tree.+follow.Goals as goal

pub returns-in_err-node : goal.returns-in_err-node
returns-in_err-node t c = record {
  leads = let p = err_from_is_err_and c.from_residual.result c.from_residual.ensures.1 in
      rw (p.1, p.2) (Leads-from_end c.args.links c.args.self.now c.args.follow c.args.path.now _ c.in_err-node.ensures.comes);
}

pub returns-then-links-eq0 : goal.returns-then-links-eq0
returns-then-links-eq0 t c = record {
  leads =
      ap (λ links. followed_within links c.args.self.now c.args.follow c.args.path.now) c.if-links-eq0.true
      ∙ followed_loop _ _ _ c.in-Onward.onward (rw c.in-Onward.is at c.in_ok-node.ensures.comes);
}

pub returns-in-Reached : goal.returns-in-Reached
returns-in-Reached t c = record { leads = ap node_of_place (followed_reached _ _ _ c.args.links c.args.path.now c.in-Reached.node.now (rw c.in-Reached.is at c.in_ok-node.ensures.comes)) }

pub returns-else-links-eq0 : goal.returns-else-links-eq0
returns-else-links-eq0 t c = record {
  leads = let one : c.args.links ≡ suc (c.args.links - 1) = omega arith in
      rw (followed_onward c.args.self.now c.args.follow c.args.path.now c.args.links (c.args.links - 1) c.in-Onward.onward one (rw c.in-Onward.is at c.in_ok-node.ensures.comes))
      c.follow.ensures.leads;
}
