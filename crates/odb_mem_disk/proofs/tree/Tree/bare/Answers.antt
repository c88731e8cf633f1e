use Rattle.std.proofs.Common.{ap, refl}
use Rattle.odb_disk.specs.Tree.{bare_tree, tree_of_entries}
use Rattle.odb_disk.proofs.TreeNumbersLemmas.Taken.{root_alone}
use Rattle.odb_mem_disk.proofs.WellKeptLemmas.{IsWellKept-bare}
use Rattle.odb_mem_disk.proofs.tree.Tree.bare.Goals as goal

pub invariant_of-result : goal.invariant_of-result
invariant_of-result c =
    IsWellKept-bare _ (root_alone c.new-nodes.result.entries c.insert.new.self.entries c.root.result c.new-nodes.ensures.empty c.root.ensures.empty c.in_ok-insert.ensures.entries) refl
    c.new.ensures.empty

pub returns : goal.returns
unfolding bare_tree
returns c = record {
  bare =
      ap tree_of_entries
      (root_alone c.new-nodes.result.entries c.insert.new.self.entries c.root.result c.new-nodes.ensures.empty c.root.ensures.empty c.in_ok-insert.ensures.entries);
}
