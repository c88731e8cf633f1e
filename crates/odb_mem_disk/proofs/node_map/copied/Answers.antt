use Rattle.std.proofs.Common.{◌∙◌, ap}
use Rattle.std.specs.Map.Iter.{deref_pair}
use Rattle.std.proofs.lemmas.Map.Iter.{btree_map_turn}
use Rattle.odb_disk.specs.Tree.{tree_of_entries, with_node}
use Rattle.odb_base.specs.PathLaws.{path_order}
use Rattle.odb_disk.proofs.TreeLemmas.{node_at-entries}
use Rattle.odb_mem_disk.proofs.NodeMapLemmas.{none_copied, one_copied, all_copied}
use Rattle.odb_mem_disk.proofs.node_map.copied.Goals as goal

pub loop-path-init : goal.loop-path-init
loop-path-init c = λ q. none_copied c.args.nodes.now.entries c.new-copy.result.entries _ q c.new-copy.ensures.empty c.into_iter-path-iterator.ensures.into_iter_gives.0

pub loop-path-preserved : goal.loop-path-preserved
loop-path-preserved c =
    let all = c.args.nodes.now in
    let gives = c.into_iter-path-iterator.ensures.into_iter_gives in
    let turn = btree_map_turn deref_pair _ _ _ _ _ _ c.loop-path.yielded_by c.in-Some.is c.next.ensures.steps path_order all gives.0 gives.5 in
    let t = tree_of_entries c.loop-path.copy.entries in
    one_copied (tree_of_entries all.entries) t (tree_of_entries c.put.new.nodes.entries) c.in-Some.path.now c.in-Some.node.now c.loop-path.path-iterator c.next.new.self
    (node_at-entries all.entries _ ∙ turn.1) c.in-Some.ensures.steps
    (c.in_ok-put.ensures.made ∙ ap (λ path. with_node t path c.in_ok-try_clone-2.field-0) c.in_ok-try_clone.ensures.copy ∙ ap (with_node t c.in-Some.path.now) c.in_ok-try_clone-2.ensures.copy)
    c.loop-path.invariant

pub returns : goal.returns
returns c = record { copy = all_copied (tree_of_entries c.args.nodes.now.entries) (tree_of_entries c.loop-path.copy.entries) c.loop-path.path-iterator c.in-None.ensures.steps.0 c.loop-path.invariant }
