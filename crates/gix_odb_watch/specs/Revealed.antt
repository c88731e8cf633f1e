-- What a change would make watched paths show, as it is passed from the judging of the change to its noting.
use Rattle.std.specs.Prelude.{◌≡◌, ◌⊎◌, ◌++◌, ◌||◌, Bool, true, false, List, [], ◌∷◌, Some, None, is_some, if◌then◌else◌}
use Rattle.std.specs.List.{flat_map, list_any, starts_with}
use Rattle.std.specs.Ordering.{eq_by_cmp}
use Rattle.std.specs.FinSet as set
use Rattle.odb_base.specs.Path.{Name, Path, path_cmp, same_name}
use Rattle.odb_disk.specs.Tree.{IsTree, Tree}
use Rattle.odb_disk.specs.Tree.Follow.{followed, pass}
use Rattle.odb_disk.specs.Tree.Way.{on_way}
use Rattle.odb_mem_disk.specs.PassCalls.{onward_of}
use Rattle.gix_odb_watch.specs.Files.{KeepsFiles, Reveals, file_at}
use Rattle.gix_odb_watch.specs.Kept.{Folders, IsIn, Kept, Knows}
use Rattle.gix_odb_watch.specs.Sight.{HasName}
use Rattle.gix_odb_watch.specs.Touched.{AddsEach, Spot, is_watched}
use Rattle.gix_odb_watch.specs.Watched.{watched_kind}
use Rattle.gix_odb_watch.specs.declared.revealed.Revealed.{Revealed}
use Rattle.gix_odb_watch.specs.declared.watched.WatchedKind.{WatchedKind}

-- ---- what is kept of it

-- whether a path is one of these
abbrev pub is_in : List Path → Path → Bool
is_in paths path = list_any (eq_by_cmp path_cmp path) paths

-- those that are linked are kept as linked besides the others
abbrev pub Relinks : (old : Folders) → Revealed → (new : Folders) → Type 0
Relinks old revealed new = (folder : Path) → set.contains new folder ≡ (is_in revealed.linked.items folder || set.contains old folder)

-- what is shown is kept besides what was, and which folders are linked
pub record Learns (old : Kept) (revealed : Revealed) (new : Kept) : Type 0 where
  pub folders : new.folders ≡ old.folders
  pub linked : Relinks old.linked revealed new.linked
  pub contents : KeepsFiles old.contents revealed.files.items new.contents

-- It is what the paths of the new folders show in a tree besides what those of the old ones showed in the one before, and in which of them
-- links are followed in it.
pub record RevealsMore (old new : Folders) (before after : Tree) (revealed : Revealed) : Type 0 where
  pub is_tree : IsTree after
  pub stays : (folder : Path) → set.contains old folder ≡ true → set.contains new folder ≡ true
  pub reveals : Reveals old new before after revealed.files.items
  pub linked : (folder : Path) → IsIn revealed.linked.items folder → set.contains new folder ≡ true
  pub knows : (folder : Path) → set.contains new folder ≡ true → (was now : Folders) → (set.contains old folder ≡ true → Knows was before folder)
      → Relinks was revealed now → Knows now after folder

-- it is what the paths of these folders show
abbrev pub IsRevealed : (folders : Folders) → (before after : Tree) → Revealed → Type 0
IsRevealed folders before after revealed = RevealsMore folders folders before after revealed

-- ---- what is read

-- only places that a path begins with lie on its way
abbrev pub IsPlainPath : Tree → (path : Path) → Type 0
IsPlainPath tree path = (place : Path) → on_way tree true path place ≡ true → starts_with same_name path place ≡ true

-- no link leads on from a path
abbrev pub IsLone : Tree → Path → Type 0
IsLone tree path = onward_of (pass tree true [] path) ≡ None

-- the folder of a path from which a link leads on
abbrev pub linked_at : Tree → Spot → List Path
linked_at tree spot = if is_some (onward_of (pass tree true [] spot.1)) then spot.0 ∷ [] else []

-- what is read for a spot: the spot itself, and where its name isn't watched, paths in it
abbrev pub IsUnder : (touched read : Spot) → Type 0
IsUnder touched read = (touched ≡ read) ⊎ ((is_watched touched.1 ≡ false) × ((name : Name) × ((touched.0, touched.1 ++ name ∷ []) ≡ read)))

-- all watched ones at which there is something
abbrev pub HasUnder : Tree → (touched read : Spot) → Type 0
HasUnder tree touched read =
    (touched ≡ read)
    ⊎ ((is_watched touched.1 ≡ false)
    × ((name : Name) × (kind : WatchedKind) × (watched_kind name ≡ Some kind) × HasName tree name (followed tree true touched.1) × ((touched.0, touched.1 ++ name ∷ []) ≡ read)))

-- All that touched spots show was read: it is among the files, and the folders are linked in which a path that was read follows a link.
pub record IsSeen (tree : Tree) (touched : List Spot) (revealed : Revealed) : Type 0 where
  pub spots : List Spot
  pub listed : AddsEach IsUnder (HasUnder tree) touched [] spots
  pub files : revealed.files.items ≡ flat_map (λ (spot : Spot). file_at tree spot.1) spots
  pub linked : revealed.linked.items ≡ flat_map (linked_at tree) spots
