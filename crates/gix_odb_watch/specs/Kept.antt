-- What is kept: the watched folders, what their paths have shown, and in which folders these follow links.
use Rattle.std.specs.Prelude.{◌≡◌, ◌≢◌, ◌⊎◌, ◌++◌, ◌||◌, ℕ, true, List, [], ◌∷◌, Some, IsSome, refl}
use Rattle.std.specs.Coded.{Coded, code_by, coded×, coded_ℕ, coded_list}
use Rattle.std.specs.FinMap as finite
use Rattle.std.specs.FinSet as set
use Rattle.std.specs.List.{starts_with}
use Rattle.std.specs.Ordering.{nat_cmp, ordering_then}
use Rattle.std.specs.declared.cmp.Ordering.{Ordering}
use Rattle.odb_base.specs.Path.{Name, Path, path_cmp, same_name}
use Rattle.odb_disk.specs.Tree.{IsTree, Tree}
use Rattle.odb_disk.specs.Tree.Way.{on_way}
use Rattle.gix_odb_watch.specs.Watched.{Shows, pack_directory, watched_kind}
use Rattle.gix_odb_watch.specs.declared.watched.WatchedKind.{WatchedKind}

-- an element is one of these
abbrev pub IsIn : {X : Type 0} → List X → X → Type 0
IsIn [] x = ⊥
IsIn (y ∷ ys) x = (y ≡ x) ⊎ IsIn ys x

-- a path, and the time under which what it shows counts
abbrev pub Key : Type 0
Key = Path × ℕ

abbrev pub key_cmp : Key → Key → Ordering
key_cmp a b = ordering_then (path_cmp a.0 b.0) (nat_cmp a.1 b.1)

-- the first bytes that were shown, by path and time
abbrev pub Contents : Type 0
Contents = finite.FinMap key_cmp (List ℕ)

abbrev pub coded_contents : Coded Contents
coded_contents = finite.code (coded× (coded_list (coded_list coded_ℕ)) coded_ℕ) (coded_list coded_ℕ)

abbrev pub Folders : Type 0
Folders = set.FinSet path_cmp

abbrev pub coded_folders : Coded Folders
coded_folders = set.code (coded_list (coded_list coded_ℕ))

-- the watched folders, those among them that are linked, and what was shown
pub record Kept : Type 0 where
  pub folders : Folders
  pub linked : Folders
  pub contents : Contents

abbrev pub coded_kept : Coded Kept
coded_kept =
    code_by (Folders × (Folders × Contents)) (coded× coded_folders (coded× coded_folders coded_contents))
    (λ k. (k.folders, (k.linked, k.contents))) (λ p. record { folders = p.0; linked = p.1.0; contents = p.1.1 }) (λ _. refl)

abbrev pub nothing_kept : Kept
nothing_kept = record { folders = set.empty; linked = set.empty; contents = finite.empty }

-- a tree shows bytes at a path of one of the folders
pub record ShowsInOne (folders : Folders) (tree : Tree) (path : Path) (time : ℕ) (bytes : List ℕ) : Type 0 where
  pub folder : Path
  pub among : set.contains folders folder ≡ true
  pub shows : Shows folder tree path time bytes

-- A tree shows a second content: at a watched path other bytes than were shown there, under the same time.
pub record IsSecond (kept : Kept) (tree : Tree) : Type 0 where
  pub path : Path
  pub time : ℕ
  pub first : List ℕ
  pub bytes : List ℕ
  pub known : finite.get kept.contents (path, time) ≡ Some first
  pub shows : ShowsInOne kept.folders tree path time bytes
  pub differs : bytes ≢ first

-- What a tree shows in these folders was added to what is kept: what was kept stays as it is.
pub record Notes (old : Kept) (folders : Folders) (tree : Tree) (new : Kept) : Type 0 where
  pub folders_are : new.folders ≡ folders
  pub stays : (path : Path) (time : ℕ) (bytes : List ℕ) → finite.get old.contents (path, time) ≡ Some bytes → finite.get new.contents (path, time) ≡ Some bytes
  pub whole : (path : Path) (time : ℕ) (bytes : List ℕ) → ShowsInOne folders tree path time bytes → IsSome (finite.get new.contents (path, time))
  pub only : (path : Path) (time : ℕ) (bytes : List ℕ) → finite.get new.contents (path, time) ≡ Some bytes
      → (finite.get old.contents (path, time) ≡ Some bytes) ⊎ ShowsInOne folders tree path time bytes

-- a path lies in the pack directory of one of the folders
pub record LiesInOne (folders : Folders) (path : Path) : Type 0 where
  pub folder : Path
  pub among : set.contains folders folder ≡ true
  pub name : Name
  pub path_is : path ≡ pack_directory folder ++ name ∷ []

-- On the way of each watched path of a folder lie only places that the path begins with, unless the folder is kept as linked.
abbrev pub Knows : (linked : Folders) → Tree → (folder : Path) → Type 0
Knows linked tree folder =
    (name : Name) (kind : WatchedKind) → watched_kind name ≡ Some kind → (place : Path) → on_way tree true (pack_directory folder ++ name ∷ []) place ≡ true
    → (set.contains linked folder || starts_with same_name (pack_directory folder ++ name ∷ []) place) ≡ true

-- What is kept fits a tree: all that the tree shows in the watched folders is kept, and only what such paths showed is, and each folder
-- in which a path follows a link is kept as linked, and watched. The tree is that of a disk, so that nothing is below a place where nothing is.
pub record Fits (kept : Kept) (tree : Tree) : Type 0 where
  pub is_tree : IsTree tree
  pub whole : (path : Path) (time : ℕ) (bytes : List ℕ) → ShowsInOne kept.folders tree path time bytes → finite.get kept.contents (path, time) ≡ Some bytes
  pub only : (path : Path) (time : ℕ) (bytes : List ℕ) → finite.get kept.contents (path, time) ≡ Some bytes → LiesInOne kept.folders path
  pub linked : (folder : Path) → set.contains kept.linked folder ≡ true → set.contains kept.folders folder ≡ true
  pub knows : (folder : Path) → set.contains kept.folders folder ≡ true → Knows kept.linked tree folder
