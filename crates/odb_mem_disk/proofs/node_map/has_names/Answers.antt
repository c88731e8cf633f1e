use Rattle.std.proofs.Common.{◌∙◌, sym, ap, not}
use Rattle.odb_disk.specs.Tree.{tree_of_entries}
use Rattle.odb_disk.proofs.TreeLemmas.{node_at-entries, IsSome-from}
use Rattle.odb_mem_disk.proofs.NamesLemmas.{no_names_at_end, told_by_first}
use Rattle.odb_mem_disk.proofs.node_map.has_names.Goals as goal

pub returns-in-None : goal.returns-in-None
returns-in-None c = record {
  names = let es = c.args.nodes.now.entries in
      let none = (c.range.ensures.in_range tt).5 c.in-None.ensures.steps.0 in
      sym (ap not (no_names_at_end (tree_of_entries es) c.requires.is_tree c.args.directory.now (λ q behind. node_at-entries es q ∙ none q (behind, tt))));
}

pub returns-in-Some : goal.returns-in-Some
returns-in-Some c = record {
  names = let es = c.args.nodes.now.entries in
      let range = c.range.ensures.in_range tt in
      let first = rw c.in-Some.ensures.steps at range.1 in
      let least = rw c.in-Some.ensures.steps at range.2 in
      c.starts_with.ensures.starts
      ∙ told_by_first (tree_of_entries es) c.requires.is_tree c.args.directory.now c.in-Some.path.now c.in-Some.field-0-1.now first.0.0 (node_at-entries es _ ∙ first.1)
      (λ r k behind at. least r (behind, tt) (IsSome-from _ _ (sym at ∙ node_at-entries es r)));
}
