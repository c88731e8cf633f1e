-- Which paths are in the directories of a stack.
use Rattle.std.specs.Prelude.{◌≡◌, ◌&&◌, ◌==◌, Bool, true, false, List, [], ◌∷◌, ◌++◌, length}
use Rattle.odb_base.specs.Path.{Name, Path, same_name}
use Rattle.walkdir.specs.declared.directory.DirList.{DirList}

-- a path has one more name than a directory's
abbrev pub IsChild : Path → Path → Type 0
IsChild directory path = (name : Name) × (path ≡ directory ++ name ∷ [])

-- a path is in the head of a stack; in none, if the stack is empty
abbrev pub LiesIn : Path → List DirList → Type 0
LiesIn path [] = Unit {0}
LiesIn path (list ∷ outer) = IsChild list.path path

-- ---- as tests

unfoldable pub is_child : Path → Path → Bool
is_child [] path = length path == 1
is_child (name ∷ directory) [] = false
is_child (name ∷ directory) (first ∷ path) = same_name name first && is_child directory path

abbrev pub lies_in : Path → List DirList → Bool
lies_in path [] = true
lies_in path (list ∷ outer) = is_child list.path path
