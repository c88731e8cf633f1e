use Rattle.std.proofs.Common.{◌∙◌, sym, ap}
use Rattle.odb_disk.specs.Tree.{tree_of_entries, with_node}
use Rattle.odb_disk.specs.Tree.Change.{with_time}
use Rattle.odb_disk.proofs.TreeLemmas.{tree_put, node_at-entries, IsSome-from}
use Rattle.odb_mem_disk.proofs.node_map.put_time.Goals as goal

pub returns-in-Some : goal.returns-in-Some
returns-in-Some c = record {
  made = let es = c.args.nodes.now.entries in
      let p = c.args.path.now in
      let w = c.get_mut.follows.holds c.set_time.new.self in
      tree_put es _ p c.set_time.new.self (w.3 (IsSome-from _ _ c.in-Some.ensures.value)).0
      ∙ ap (with_node (tree_of_entries es) p) c.set_time.ensures.timed
      ∙ ap (with_time (tree_of_entries es) p c.args.time) (c.in-Some.ensures.value ∙ sym (node_at-entries es p));
}

pub returns-in_default : goal.returns-in_default
returns-in_default c = record {
  made = let es = c.args.nodes.now.entries in
      let p = c.args.path.now in
      rw c.get_mut.follows.holds-at-none (ap (with_time (tree_of_entries es) p c.args.time) (c.in_default.ensures.value ∙ sym (node_at-entries es p)));
}
