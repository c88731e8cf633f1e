use Rattle.std.proofs.Common.{◌≡◌, ◌∙◌, sym, ap, Some, None}
use Rattle.odb_disk.specs.Tree.{tree_of_entries, with_node}
use Rattle.odb_disk.proofs.TreeLemmas.{tree_put, node_at-entries, IsSome-from}
use Rattle.odb_mem_disk.proofs.node_map.put_content.Goals as goal

pub returns-in-Some : goal.returns-in-Some
returns-in-Some c = record {
  made = λ node at.
      let found = c.in-Some.ensures.value in
      let both : Some c.in-Some.node.now ≡ Some node = found ∙ sym (node_at-entries c.args.nodes.now.entries c.args.path.now) ∙ at in
      let same : c.in-Some.node.now ≡ node = cc in
      let w = c.get_mut.follows.holds (record { dev = c.in-Some.node.now.dev; ino = c.in-Some.node.now.ino; content = c.args.content }) in
      tree_put c.args.nodes.now.entries _ c.args.path.now _ (w.3 (IsSome-from _ _ found)).0
      ∙ ap (λ n. with_node (tree_of_entries c.args.nodes.now.entries) c.args.path.now (record n { content = c.args.content })) same;
}

pub returns-in_default : goal.returns-in_default
returns-in_default c = record {
  made = λ node at.
      let none : None ≡ Some node = c.in_default.ensures.value ∙ sym (node_at-entries c.args.nodes.now.entries c.args.path.now) ∙ at in
      absurd (cc);
}
