use Rattle.std.proofs.Common.{◌∙◌, sym, ap, is_some}
use Rattle.std.proofs.lemmas.Bool.{false≢true}
use Rattle.odb_disk.proofs.TreeLemmas.{tree_put, node_at-entries, IsSome-from}
use Rattle.odb_mem_disk.proofs.node_map.put_node.Goals as goal

pub returns-in-Some : goal.returns-in-Some
returns-in-Some c = record {
  made = λ stands.
      let w = c.get_mut.follows.holds c.args.node in
      tree_put c.args.nodes.now.entries _ c.args.path.now _ (w.3 (IsSome-from _ _ c.in-Some.ensures.value)).0;
}

pub returns-in_default : goal.returns-in_default
returns-in_default c = record { made = λ stands. absurd (false≢true (ap is_some (c.in_default.ensures.value ∙ sym (node_at-entries c.args.nodes.now.entries c.args.path.now)) ∙ stands)) }
