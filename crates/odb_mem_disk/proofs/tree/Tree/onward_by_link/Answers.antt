use Rattle.std.proofs.Common.{◌∷◌, None, Some, sym, subst}
use Rattle.odb_base.specs.PathLaws.{lies_below}
use Rattle.odb_disk.specs.TreeCalls.{IsLastBefore}
use Rattle.odb_mem_disk.proofs.LastNodeLemmas.{some_before, way_stands, short_of_common, some_not_none}
use Rattle.odb_disk.proofs.TreeLemmas.Follow.{pass_past}
use Rattle.odb_mem_disk.proofs.tree.Tree.onward_by_link.Goals as goal

pub returns-in_default : goal.returns-in_default
returns-in_default c = record { onward = absurd (some_before _ _ c.requires.tree c.requires.absent (subst (λ t. IsLastBefore t c.args.path.now None) c.self.view_is c.in_default.ensures.last)) }

pub returns-in_default-node : goal.returns-in_default-node
returns-in_default-node c = record {
  onward = let earlier = subst (λ t. IsLastBefore t c.args.path.now (Some c.in-Some.before.now)) c.self.view_is c.in-Some.ensures.last in
      absurd (some_not_none _ (way_stands _ _ _ _ c.requires.tree c.requires.absent earlier c.in_ok-last.ensures.front) (sym c.in_default-node.ensures.value));
}

pub onward_past-requires : goal.onward_past-requires
onward_past-requires c = record { front = lies_below _ _ _ c.in_ok-last.ensures.front.path_is }

pub returns : goal.returns
returns c = record {
  onward = λ follow.
      let earlier = subst (λ t. IsLastBefore t c.args.path.now (Some c.in-Some.before.now)) c.self.view_is c.in-Some.ensures.last in
      let short = short_of_common _ _ _ _ c.requires.tree c.requires.absent earlier c.in_ok-last.ensures.front in
      rw (pass_past _ c.requires.tree follow _ _ _ short (sym c.in-Some-node.ensures.value)) (c.onward_past.ensures.onward (short.name ∷ short.names) short.whole);
}
