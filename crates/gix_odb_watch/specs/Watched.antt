-- Which paths are watched: the indices, the packs and the multi-pack index that are in the `pack` directory of a folder.
use Rattle.std.specs.Prelude.{◌≡◌, ◌++◌, ◌||◌, ℕ, List, [], ◌∷◌, codes, nat_eq, Option, Some, None, Ok, if◌then◌else◌}
use Rattle.std.specs.List.{ends_with}
use Rattle.odb_base.specs.Path.{Name, Path, same_name}
use Rattle.odb_disk.specs.Tree.{Tree}
use Rattle.odb_disk.specs.Tree.Follow.{read_of}
use Rattle.gix_odb_watch.specs.declared.watched.WatchedKind.{WatchedKind}
use Rattle.gix_odb_watch.specs.declared.watched.WatchedKind.TheVariants.{PackOrIndex, MultiIndex}

-- the pack directory of a folder
abbrev pub pack_directory : Path → Path
pack_directory folder = folder ++ codes "pack" ∷ []

-- the kind of a name in it that is watched: an index or a pack by its ending, or the multi-pack index
abbrev pub watched_kind : Name → Option WatchedKind
watched_kind name =
    if ends_with nat_eq name (codes ".idx") || ends_with nat_eq name (codes ".pack") then Some PackOrIndex
    else (if same_name name (codes "multi-pack-index") then Some MultiIndex else None)

-- the kind of a path's last name, if it has one
abbrev pub named_kind : Option Name → Option WatchedKind
named_kind None = None
named_kind (Some name) = watched_kind name

-- The time under which a file's bytes count, by the time that the file has. An index or a pack has the same bytes at all times; a
-- multi-pack index at one time.
abbrev pub counted : WatchedKind → ℕ → ℕ
counted PackOrIndex time = 0
counted MultiIndex time = time

-- In a tree a path in the pack directory of a folder shows bytes that count under a time. Links are followed.
pub record Shows (folder : Path) (tree : Tree) (path : Path) (time : ℕ) (bytes : List ℕ) : Type 0 where
  pub name : Name
  pub path_is : path ≡ pack_directory folder ++ name ∷ []
  pub kind : WatchedKind
  pub is_watched : watched_kind name ≡ Some kind
  pub at : ℕ
  pub reads : read_of tree path ≡ Ok (bytes, at)
  pub counts : counted kind at ≡ time
