-- A disk at one moment: what is at each path. A state is what a disk remembers; a tree is what it shows.
pub mod Nodes
pub mod Follow
pub mod Change
pub mod Write
pub mod Way
use Rattle.std.specs.Prelude.{◌≡◌, ◌⊎◌, ℕ, ◌+◌, Bool, true, false, List, [], ◌∷◌, ◌++◌, map, max, fold, refl, Option, Some, None, if◌then◌else◌}
use Rattle.std.specs.List.{filter_map}
use Rattle.std.specs.FinMap as finite
use Rattle.std.specs.Coded.{Coded, code_by, coded×, coded_ℕ, coded_list}
use Rattle.odb_base.specs.Path.{Name, Path, path_cmp, same_name}
use Rattle.odb_disk.specs.Node.{coded_node}
use Rattle.odb_disk.specs.declared.node.Node.{Node}
use Rattle.odb_disk.specs.declared.node.Content.{Content}
use Rattle.odb_disk.specs.declared.node.Content.TheVariants.{File, Dir, Link}

-- what is at each path
pub record Tree : Type 0 where
  nodes : finite.FinMap path_cmp Node

abbrev pub coded_tree : Coded Tree
coded_tree =
    code_by (finite.FinMap path_cmp Node) (finite.code (coded_list (coded_list coded_ℕ)) coded_node) (λ t. t.nodes) (λ m. record { nodes = m }) (λ _. refl)

-- what a disk remembers. It shows one tree
pub record State : Type 0 where
  tree : Tree

abbrev pub coded_state : Coded State
coded_state = code_by Tree coded_tree (λ s. s.tree) (λ t. record { tree = t }) (λ _. refl)

-- the tree that a state shows
unfoldable pub tree_of : State → Tree
tree_of state = state.tree

-- the state that remembers a tree and nothing else
unfoldable pub state_of : Tree → State
state_of tree = record { tree = tree }

-- the node at a path, by its names alone
unfoldable pub node_at : Tree → Path → Option Node
node_at tree path = finite.get tree.nodes path

-- the tree with a node put at a path
unfoldable pub with_node : Tree → Path → Node → Tree
with_node tree path node = record { nodes = finite.insert tree.nodes path node }

-- the tree without the node at a path
unfoldable pub without : Tree → Path → Tree
without tree path = record { nodes = finite.remove tree.nodes path }

-- the tree of a list of nodes, each at its path
unfoldable pub tree_of_entries : List (Path × Node) → Tree
tree_of_entries entries = record { nodes = finite.from_entries entries }

-- the root alone, on device 0, with inode number 1
unfoldable pub bare_tree : Tree
bare_tree = tree_of_entries (([], record { dev = 0; ino = 1; content = Dir }) ∷ [])

abbrev pub is_directory_content : Content → Bool
is_directory_content (File bytes time) = false
is_directory_content Dir = true
is_directory_content (Link target) = false

abbrev pub is_directory : Option Node → Bool
is_directory None = false
is_directory (Some node) = is_directory_content node.content

-- the name of a path in a directory, if it is directly in it
unfoldable pub name_in : Path → Path → Option Name
name_in [] [] = None
name_in [] (name ∷ []) = Some name
name_in [] (name ∷ other ∷ names) = None
name_in (step ∷ steps) [] = None
name_in (step ∷ steps) (name ∷ names) = if same_name step name then name_in steps names else None

-- the names in a directory, in the order of their bytes
unfoldable pub names_in : Tree → Path → List Name
names_in tree directory = filter_map (name_in directory) (finite.keys tree.nodes)

-- the inode numbers of all nodes, and the greatest of them
unfoldable pub inode_numbers : Tree → List ℕ
inode_numbers tree = map (λ node. node.ino) (finite.values tree.nodes)

-- What holds of each tree of a disk: the root is a directory, each other node is in a directory, and no two nodes have one
-- inode number.
pub record IsTree (tree : Tree) : Type 0 where
  pub root : is_directory (node_at tree []) ≡ true
  pub ways : (directory : Path) (name : Name) (node : Node) → node_at tree (directory ++ name ∷ []) ≡ Some node → is_directory (node_at tree directory) ≡ true
  pub apart : (path other : Path) (node twin : Node) → node_at tree path ≡ Some node → node_at tree other ≡ Some twin → node.ino ≡ twin.ino → path ≡ other
