use Rattle.std.proofs.Common.{◌∙◌, sym, ap}
use Rattle.odb_disk.specs.Tree.{tree_of_entries, node_at}
use Rattle.odb_disk.specs.Tree.Change.{with_time}
use Rattle.odb_disk.proofs.TreeLemmas.Change.{made-set_time}
use Rattle.odb_disk.proofs.TreeLemmas.Possible.{possible-set_time}
use Rattle.odb_disk.proofs.TreeNumbersLemmas.Kept.{IsTree-set_time, AreNumbers-set_time}
use Rattle.odb_mem_disk.proofs.tree.Tree.apply_set_time.Goals as goal

pub invariant_of-self : goal.invariant_of-self
invariant_of-self c =
    let t = tree_of_entries c.self.inside.nodes.entries in
    let i = c.self.invariant in
    let file = sym (possible-set_time c.args.self.now c.args.path.now c.args.time) ∙ c.requires.possible in
    record {
      is_tree = IsTree-set_time t _ i.is_tree _ _ i.numbers c.args.path.now c.args.time (rw c.self.view_is file) c.put_time.ensures.made;
      numbers = AreNumbers-set_time t _ i.is_tree _ _ i.numbers c.args.path.now c.args.time (rw c.self.view_is file) c.put_time.ensures.made;
    }

pub returns : goal.returns
returns c = record {
  made = let p = c.args.path.now in
      c.put_time.ensures.made ∙ ap (λ t. with_time t p c.args.time (node_at t p)) c.self.view_is ∙ sym (made-set_time c.args.self.now p c.args.time);
}
