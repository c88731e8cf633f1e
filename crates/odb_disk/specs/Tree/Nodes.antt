-- The laws of what is at a path: trees are the same if each path has the same node.
use Rattle.std.specs.Prelude.{◌≡◌, List, Some, None, map, refl, cond}
use Rattle.std.proofs.Common.{ap, T}
use Rattle.std.specs.FinMap as finite
use Rattle.std.specs.FinMap.{get-insert, get-remove, get-from_entries, same_map, entries_sorted, get-entries, find, is_sorted}
use Rattle.std.specs.Ordering.{eq_by_cmp}
use Rattle.std.specs.List.{filter_map}
use Rattle.odb_base.specs.Path.{Path, path_cmp}
use Rattle.odb_base.specs.PathLaws.{path_order, one_place}
use Rattle.odb_disk.specs.Tree.{Tree, node_at, with_node, without, tree_of_entries, names_in, name_in, inode_numbers}
use Rattle.odb_disk.specs.declared.node.Node.{Node}

pub same_tree : (t u : Tree) → ((q : Path) → node_at t q ≡ node_at u q) → t ≡ u
unfolding node_at
same_tree t u same = ap (λ (m : finite.FinMap path_cmp Node). record { nodes = m }) (same_map path_order one_place t.nodes u.nodes same)

pub node_at-with_node : (t : Tree) (p : Path) (n : Node) (q : Path) → node_at (with_node t p n) q ≡ cond (eq_by_cmp path_cmp q p) (Some n) (node_at t q)
unfolding node_at with_node
node_at-with_node t p n q = get-insert path_order t.nodes p n q

pub node_at-without : (t : Tree) (p q : Path) → node_at (without t p) q ≡ cond (eq_by_cmp path_cmp q p) None (node_at t q)
unfolding node_at without
node_at-without t p q = get-remove path_order t.nodes p q

pub node_at-tree_of_entries : (es : List (Path × Node)) (q : Path) → node_at (tree_of_entries es) q ≡ find path_cmp q es
unfolding node_at tree_of_entries
node_at-tree_of_entries es q = get-from_entries path_order es q

-- the nodes with their paths, in the order of the paths
pub entries_of : Tree → List (Path × Node)
entries_of t = finite.entries t.nodes

pub entries_of-sorted : (t : Tree) → T (is_sorted path_cmp (entries_of t))
unfolding entries_of
entries_of-sorted t = entries_sorted t.nodes

pub node_at-entries_of : (t : Tree) (q : Path) → node_at t q ≡ find path_cmp q (entries_of t)
unfolding node_at entries_of
node_at-entries_of t q = get-entries t.nodes q

pub names_in-entries_of : (t : Tree) (directory : Path) → names_in t directory ≡ filter_map (name_in directory) (map (λ e. e.0) (entries_of t))
unfolding names_in entries_of
names_in-entries_of t directory = refl

pub inode_numbers-entries_of : (t : Tree) → inode_numbers t ≡ map (λ node. node.ino) (map (λ e. e.1) (entries_of t))
unfolding inode_numbers entries_of
inode_numbers-entries_of t = refl
