use Rattle.std.proofs.Common.{◌≡◌}
use Rattle.std.specs.Option.{option_or}
use Rattle.std.specs.Map.{lookup}
use Rattle.std.specs.BTreeMap.{is_at}
use Rattle.odb_base.specs.Path.{Path, path_cmp}
use Rattle.odb_disk.specs.Tree.{node_at, tree_of_entries}
use Rattle.odb_mem_disk.proofs.node_map.copied.Given as goal

-- each node is copied already, or is still to come
abbrev pub invariant-loop-path : goal.invariant-loop-path
invariant-loop-path l =
    (q : Path) → node_at (tree_of_entries l.nodes.entries) q ≡ option_or (node_at (tree_of_entries l.copy.entries) q) (lookup (is_at (path_cmp q)) l.path-iterator)
