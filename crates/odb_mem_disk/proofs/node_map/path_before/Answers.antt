use Rattle.std.proofs.Common.{IsSome, subst, ◌∙◌, sym}
use Rattle.odb_disk.proofs.TreeLemmas.{node_at-entries, IsSome-from}
use Rattle.odb_mem_disk.proofs.node_map.path_before.Goals as goal

pub returns-in-None : goal.returns-in-None
returns-in-None c = record {
  last = let es = c.args.nodes.now.entries in
      let none = (c.range.ensures.in_range tt).5 c.in-None.ensures.steps.0 in
      λ q earlier. node_at-entries es q ∙ none q (tt, earlier);
}

pub returns-in-Some : goal.returns-in-Some
returns-in-Some c = record {
  last = let es = c.args.nodes.now.entries in
      let range = c.range.ensures.in_range tt in
      let at = range.3 _ _ c.in-Some.ensures.steps in
      let greatest = range.4 _ _ c.in-Some.ensures.steps in
      (at.0.1, IsSome-from _ _ (sym (node_at-entries es _ ∙ at.1)), λ q earlier there. greatest q (tt, earlier) (subst IsSome (node_at-entries es q) there));
}
