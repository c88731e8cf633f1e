-- What a call that writes does to a tree: its change, or why it is refused.
use Rattle.std.specs.Prelude.{ℕ, ◌++◌, true, List, [], length, drop, Option, Some, None, Result, Ok, Err, if◌then◌else◌}
use Rattle.std.specs.Result.{result_ok}
use Rattle.odb_base.specs.Path.{Path, parent_of}
use Rattle.odb_disk.specs.Tree.{Tree, State, tree_of, state_of, node_at, names_in, is_directory, is_directory_content}
use Rattle.odb_disk.specs.Tree.Follow as following
use Rattle.odb_disk.specs.Tree.Follow.{Place, followed}
use Rattle.odb_disk.specs.Tree.Change.{changed, is_nil, is_file_content, parent_node, device_of}
use Rattle.odb_disk.specs.declared.node.Node.{Node}
use Rattle.odb_disk.specs.declared.change.Change.{Change}
use Rattle.odb_disk.specs.declared.change.Change.TheVariants.{PutFile, MakeDir, Rename, Append, Remove}

-- Why a tree refuses a call that writes: as a path is refused, or because something is there already, or because
-- a directory that is to be removed has names in it.
pub data Refusal : Type 0 where
  Absent : Refusal
  WrongKind : Refusal
  LinkLoop : Refusal
  Exists : Refusal
  NotEmpty : Refusal

abbrev pub refusal_from : following.Refusal → Refusal
refusal_from following.Absent = Absent
refusal_from following.WrongKind = WrongKind
refusal_from following.LinkLoop = LinkLoop

-- where a path leads, for a call that writes
abbrev pub from_followed : {A : Type 0} → Result A following.Refusal → Result A Refusal
from_followed (Ok found) = Ok found
from_followed (Err refusal) = Err (refusal_from refusal)

-- the next step, unless the first is refused
abbrev pub and_then : {A B : Type 0} → (A → Result B Refusal) → Result A Refusal → Result B Refusal
and_then next (Ok found) = next found
and_then next (Err refusal) = Err refusal

-- a name in the directory at a place
abbrev pub in_directory : Path → Place → Result Path Refusal
in_directory last place = if is_directory_content place.node.content then Ok (place.path ++ last) else Err WrongKind

abbrev pub spot_below : Tree → Path → Option Path → Result Path Refusal
spot_below tree path None = Ok []
spot_below tree path (Some front) = and_then (in_directory (drop (length front) path)) (from_followed (followed tree true front))

-- Where the last name of a path is: links on its way are followed, but not one in the last place. The root is at the root.
unfoldable pub spot : Tree → Path → Result Path Refusal
spot tree path = spot_below tree path (parent_of path)

abbrev pub vacant_spot : Path → Option Node → Result Path Refusal
vacant_spot place None = Ok place
vacant_spot place (Some node) = Err Exists

-- the spot of a path where nothing is
unfoldable pub vacant : Tree → Path → Result Path Refusal
vacant tree path = and_then (λ place. vacant_spot place (node_at tree place)) (spot tree path)

abbrev pub movable_spot : Path → Option Node → Result Path Refusal
movable_spot place None = Err Absent
movable_spot place (Some node) = if is_directory_content node.content then Err WrongKind else Ok place

-- the spot of a file or a link
unfoldable pub movable : Tree → Path → Result Path Refusal
movable tree path = and_then (λ place. movable_spot place (node_at tree place)) (spot tree path)

-- the spot of a path where no directory is
unfoldable pub replaceable : Tree → Path → Result Path Refusal
replaceable tree path = and_then (λ place. if is_directory (node_at tree place) then Err WrongKind else Ok place) (spot tree path)

-- The root is never removed: it is of the wrong kind.
abbrev pub removable_spot : Tree → Path → Option Node → Result Path Refusal
removable_spot tree place None = Err Absent
removable_spot tree place (Some node) = if is_nil (names_in tree place) then (if is_nil place then Err WrongKind else Ok place) else Err NotEmpty

-- the spot of a file, a link or an empty directory
unfoldable pub removable : Tree → Path → Result Path Refusal
removable tree path = and_then (λ place. removable_spot tree place (node_at tree place)) (spot tree path)

-- the path of a file at a place
abbrev pub file_path : Place → Result Path Refusal
file_path place = if is_file_content place.node.content then Ok place.path else Err WrongKind

-- where the file is that a path leads to, following links
unfoldable pub file_spot : Tree → Path → Result Path Refusal
file_spot tree path = and_then file_path (from_followed (followed tree true path))

-- ---- the change of each call

-- a directory is made on the device of its parent
unfoldable pub change_of_make_dir : Tree → Path → Result Change Refusal
change_of_make_dir tree path = and_then (λ place. Ok (MakeDir place (device_of (parent_node tree place)))) (vacant tree path)

-- a new file is empty, with time 0
unfoldable pub change_of_new_file : Tree → Path → Result Change Refusal
change_of_new_file tree path = and_then (λ place. Ok (PutFile place 0 [])) (vacant tree path)

unfoldable pub change_of_append : Tree → Path → List ℕ → Result Change Refusal
change_of_append tree path bytes = and_then (λ place. Ok (Append place bytes)) (file_spot tree path)

unfoldable pub change_of_rename : Tree → Path → Path → Result Change Refusal
change_of_rename tree from to = and_then (λ source. and_then (λ target. Ok (Rename source target)) (replaceable tree to)) (movable tree from)

unfoldable pub change_of_remove : Tree → Path → Result Change Refusal
change_of_remove tree path = and_then (λ place. Ok (Remove place)) (removable tree path)

-- ---- the state after a call

-- whether a call is done, by its change
abbrev pub done : Result Change Refusal → Result (Unit {0}) Refusal
done (Ok change) = Ok tt
done (Err refusal) = Err refusal

-- the tree after a change, or after none
abbrev pub changed_by : Tree → Option Change → Tree
changed_by tree None = tree
changed_by tree (Some change) = changed tree change

-- the state after a change that a call of the disk made
unfoldable pub after_write : State → Change → State
after_write state change = state_of (changed (tree_of state) change)

-- the state after a call that makes this change, or none
abbrev pub written : State → Option Change → State
written state None = state
written state (Some change) = after_write state change

-- the state after a call on a disk that may not report its state; the call's change depends on its tree
abbrev pub written_as : (Tree → Result Change Refusal) → Option State → Option State
written_as change_in None = None
written_as change_in (Some state) = Some (written state (result_ok (change_in (tree_of state))))
