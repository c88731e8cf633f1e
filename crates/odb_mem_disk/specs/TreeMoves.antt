-- The steps of a directory's move. No public clause cites this.
use Rattle.std.specs.Prelude.{◌≡◌, ◌++◌, Bool, true, false, List, [], ◌∷◌, length, drop, Option, Some, None, IsSome}
use Rattle.std.specs.Ordering.{eq_by_cmp, is_gt}
use Rattle.std.specs.declared.cmp.Ordering.TheVariants.{Less}
use Rattle.std.specs.List.{list_any, starts_with}
use Rattle.odb_base.specs.Path.{Path, path_cmp, same_name}
use Rattle.odb_disk.specs.Tree.{Tree, node_at, with_node, without}
use Rattle.odb_disk.specs.declared.node.Node.{Node}

-- the first node after a path is below a directory
pub record IsNextBelow (tree : Tree) (base last path : Path) : Type 0 where
  pub below : starts_with same_name path base ≡ true
  pub behind : path_cmp last path ≡ Less
  pub stands : IsSome (node_at tree path)
  pub least : (q : Path) → path_cmp last q ≡ Less → IsSome (node_at tree q) → is_gt (path_cmp path q) ≡ false

-- no node after a path is below a directory
abbrev pub NoneBehind : Tree → Path → Path → Type 0
NoneBehind tree base last = (q : Path) → starts_with same_name q base ≡ true → path_cmp last q ≡ Less → node_at tree q ≡ None

abbrev pub is_among : Path → List Path → Bool
is_among q paths = list_any (eq_by_cmp path_cmp q) paths

-- the paths of the nodes at and below a directory, and no others
pub record ArePathsBelow (tree : Tree) (base : Path) (paths : List Path) : Type 0 where
  pub below : (q : Path) → is_among q paths ≡ true → starts_with same_name q base ≡ true
  pub stand : (q : Path) → is_among q paths ≡ true → IsSome (node_at tree q)
  pub all : (q : Path) → starts_with same_name q base ≡ true → IsSome (node_at tree q) → is_among q paths ≡ true

-- the path to which a path moves
abbrev pub moved_path : Path → Path → Path → Path
moved_path from to path = to ++ drop (length from) path

abbrev pub put_copied : Tree → Path → Option Node → Tree
put_copied tree target None = tree
put_copied tree target (Some node) = with_node tree target node

-- the tree with a copy of the node at a path
unfoldable pub with_copy : Tree → Path → Path → Tree
with_copy tree source target = put_copied tree target (node_at tree source)

abbrev pub with_copies : Tree → List Path → List Path → Tree
with_copies tree [] targets = tree
with_copies tree (source ∷ sources) [] = tree
with_copies tree (source ∷ sources) (target ∷ targets) = with_copies (with_copy tree source target) sources targets

-- the tree without what is at these paths
abbrev pub without_all : Tree → List Path → Tree
without_all tree [] = tree
without_all tree (path ∷ paths) = without_all (without tree path) paths
