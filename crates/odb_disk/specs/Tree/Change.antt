-- What a change may do to a tree, and which changes are possible.
use Rattle.std.specs.Prelude.{ℕ, ◌+◌, ◌==◌, ◌&&◌, ◌++◌, Bool, true, false, not, max, fold, find, List, [], ◌∷◌, length, drop, Option}
use Rattle.std.specs.Prelude.{Some, None, is_some, is_none, unwrap_or, option_and_then, Result, Ok, Err, if◌then◌else◌}
use Rattle.std.specs.List.{list_any, range_with_len, starts_with, filter_map}
use Rattle.odb_base.specs.Path.{Path, Name, parent_of, same_name}
use Rattle.odb_disk.specs.Tree.{Tree, State, tree_of, state_of, tree_of_entries, node_at, with_node, without, names_in, inode_numbers, is_directory, is_directory_content}
use Rattle.odb_disk.specs.Tree.Nodes.{entries_of}
use Rattle.odb_disk.specs.Tree.Follow.{Place, Refusal, followed}
use Rattle.odb_disk.specs.declared.node.Node.{Node}
use Rattle.odb_disk.specs.declared.node.Content.{Content}
use Rattle.odb_disk.specs.declared.node.Content.TheVariants.{File, Dir, Link}
use Rattle.odb_disk.specs.declared.change.Change.{Change}
use Rattle.odb_disk.specs.declared.change.Change.TheVariants.{PutFile, MakeDir, PutLink, Rename, Append, Remove, SetTime}

-- the node of the directory that a path is in
abbrev pub parent_node : Tree → Path → Option Node
parent_node tree path = option_and_then (node_at tree) (parent_of path)

-- The path is in a directory, without a link on its way: each node of a tree is below directories alone. The root is in none,
-- so it is never put and never removed.
abbrev pub lies_in_directory : Tree → Path → Bool
lies_in_directory tree path = is_directory (parent_node tree path)

abbrev pub is_nil : List Name → Bool
is_nil [] = true
is_nil (name ∷ names) = false

-- Whether the node at `from` can be moved to `to`: a directory to where nothing is, and not into itself; a file or a link,
-- which has nothing below it, to where no directory is.
abbrev pub can_move : Tree → Path → Path → Option Node → Bool
can_move tree from to None = false
can_move tree from to (Some node) = if is_directory_content node.content then is_none (node_at tree to) && not (starts_with same_name to from) else not (is_directory (node_at tree to))

abbrev pub is_file_content : Content → Bool
is_file_content (File bytes time) = true
is_file_content Dir = false
is_file_content (Link target) = false

abbrev pub is_file_place : Result Place Refusal → Bool
is_file_place (Ok place) = is_file_content place.node.content
is_file_place (Err refusal) = false

abbrev pub is_file : Option Node → Bool
is_file None = false
is_file (Some node) = is_file_content node.content

-- Whether a change is possible. A file or a link is put where no directory is, a directory is made where nothing is, what is
-- renamed can be moved, bytes are appended to the file that the path leads to, following links, what is removed exists and
-- has no names in it, and a time is set on a file.
unfoldable pub is_possible_in : Tree → Change → Bool
is_possible_in tree (PutFile path time bytes) = lies_in_directory tree path && not (is_directory (node_at tree path))
is_possible_in tree (MakeDir path dev) = lies_in_directory tree path && is_none (node_at tree path)
is_possible_in tree (PutLink path target) = lies_in_directory tree path && not (is_directory (node_at tree path))
is_possible_in tree (Rename from to) = lies_in_directory tree to && can_move tree from to (node_at tree from)
is_possible_in tree (Append path bytes) = is_file_place (followed tree true path)
is_possible_in tree (Remove path) = lies_in_directory tree path && is_some (node_at tree path) && is_nil (names_in tree path)
is_possible_in tree (SetTime path time) = is_file (node_at tree path)

-- whether some node has an inode number
abbrev pub is_taken : Tree → ℕ → Bool
is_taken tree ino = list_any (λ taken. taken == ino) (inode_numbers tree)

abbrev pub greatest_number : Tree → ℕ
greatest_number tree = fold max 0 (inode_numbers tree)

-- the least inode number above 0 that no node has: one up to the greatest that is taken, or the next
unfoldable pub least_free : Tree → ℕ
least_free tree = unwrap_or (find (λ ino. not (is_taken tree ino)) (range_with_len 1 (greatest_number tree))) (greatest_number tree + 1)

abbrev pub device_of : Option Node → ℕ
device_of None = 0
device_of (Some node) = node.dev

-- a new node, on the device of its directory
abbrev pub new_node : Tree → Path → Content → Node
new_node tree path content = record { dev = device_of (parent_node tree path); ino = least_free tree; content = content }

abbrev pub put_over : Tree → Path → Content → Node → Content → Node
put_over tree path content node (File bytes time) = record node { content = content }
put_over tree path content node old = new_node tree path content

-- the node of a file that is put at a path: a file that is already there keeps its node, else it is a new one
abbrev pub put_node : Tree → Path → Content → Option Node → Node
put_node tree path content None = new_node tree path content
put_node tree path content (Some node) = put_over tree path content node node.content

abbrev pub link_over : Tree → Path → Path → Node → Content → Node
link_over tree path target node (Link old) = record node { content = Link target }
link_over tree path target node old = new_node tree path (Link target)

-- the node of a link that is put at a path: a link that is already there keeps its node, else it is a new one
abbrev pub link_node : Tree → Path → Path → Option Node → Node
link_node tree path target None = new_node tree path (Link target)
link_node tree path target (Some node) = link_over tree path target node node.content

-- Where a node is after a move of what is at `from` and below it: that part is at `to` then, and what else was there is gone.
abbrev pub moved_entry : Path → Path → Path × Node → Option (Path × Node)
moved_entry from to entry =
    if starts_with same_name entry.0 from then Some (to ++ drop (length from) entry.0, entry.1) else (if starts_with same_name entry.0 to then None else Some entry)

-- the tree after what is at `from` and below it moved to `to`, each node as it was
unfoldable pub with_moved : Tree → Path → Path → Tree
with_moved tree from to = tree_of_entries (filter_map (moved_entry from to) (entries_of tree))

-- a file with more bytes at its end, and its time as it was
abbrev pub longer : Content → List ℕ → Content
longer (File bytes time) more = File (bytes ++ more) time
longer Dir more = Dir
longer (Link target) more = Link target

-- the tree with more bytes at the end of the file at a place
abbrev pub with_longer : Tree → List ℕ → Result Place Refusal → Tree
with_longer tree more (Ok place) = with_node tree place.path (record place.node { content = longer place.node.content more })
with_longer tree more (Err refusal) = tree

-- a file with another time
abbrev pub timed : ℕ → Content → Content
timed time (File bytes old) = File bytes time
timed time Dir = Dir
timed time (Link target) = Link target

-- the tree with another time at the file at a path
abbrev pub with_time : Tree → Path → ℕ → Option Node → Tree
with_time tree path time None = tree
with_time tree path time (Some node) = with_node tree path (record node { content = timed time node.content })

-- the tree after a possible change
unfoldable pub changed : Tree → Change → Tree
changed tree (PutFile path time bytes) = with_node tree path (put_node tree path (File bytes time) (node_at tree path))
changed tree (MakeDir path dev) = with_node tree path (record { dev = dev; ino = least_free tree; content = Dir })
changed tree (PutLink path target) = with_node tree path (link_node tree path target (node_at tree path))
changed tree (Rename from to) = with_moved tree from to
changed tree (Append path bytes) = with_longer tree bytes (followed tree true path)
changed tree (Remove path) = without tree path
changed tree (SetTime path time) = with_time tree path time (node_at tree path)

-- the state after a change that another program made, and whether it may be made
unfoldable pub after_change : State → Change → State
after_change state change = state_of (changed (tree_of state) change)

unfoldable pub is_possible : State → Change → Bool
is_possible state change = is_possible_in (tree_of state) change
