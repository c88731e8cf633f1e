-- What watched paths have shown, over any family of trees numbered by moments.
use Rattle.std.specs.Prelude.{◌≡◌, ◌≢◌, ◌≤◌, ℕ, List, Option, Some, None, is_some, if◌then◌else◌}
use Rattle.std.specs.Option.{option_or}
use Rattle.std.specs.Ordering.{eq_by_cmp}
use Rattle.std.specs.FinMap as finite
use Rattle.std.specs.FinSet as set
use Rattle.odb_base.specs.Path.{Path, path_cmp}
use Rattle.odb_disk.specs.Tree.{Tree}
use Rattle.gix_odb_watch.specs.Watched.{Shows}
use Rattle.gix_odb_watch.specs.Kept.{Kept, Fits}

-- the moment since which a folder is watched, if it is
abbrev pub Since : Type 0
Since = Path → Option ℕ

-- no folder is watched since a later moment than this
abbrev pub AreBegun : Since → ℕ → Type 0
AreBegun since now = (folder : Path) (begun : ℕ) → since folder ≡ Some begun → begun ≤ now

-- the moments with one more folder, which is watched since now, unless it is watched already
abbrev pub with_since : Since → (now : ℕ) → Path → Since
with_since since now folder other = option_or (since other) (if eq_by_cmp path_cmp other folder then Some now else None)

-- a path showed bytes that count under a time, at a moment since its folder was watched
pub record HasShown (trees : ℕ → Tree) (since : Since) (now : ℕ) (path : Path) (time : ℕ) (bytes : List ℕ) : Type 0 where
  pub folder : Path
  pub begun : ℕ
  pub watched : since folder ≡ Some begun
  pub moment : ℕ
  pub from : begun ≤ moment
  pub to : moment ≤ now
  pub shows : Shows folder (trees moment) path time bytes

-- a tree shows a second content: at a path of a watched folder other bytes than were shown there before, under the same time
pub record ShowsSecond (trees : ℕ → Tree) (since : Since) (now : ℕ) (tree : Tree) : Type 0 where
  pub path : Path
  pub time : ℕ
  pub first : List ℕ
  pub bytes : List ℕ
  pub known : HasShown trees since now path time first
  pub folder : Path
  pub begun : ℕ
  pub watched : since folder ≡ Some begun
  pub shows : Shows folder tree path time bytes
  pub differs : bytes ≢ first

-- What is kept is what watched paths have shown up to now.
pub record Keeps (trees : ℕ → Tree) (since : Since) (now : ℕ) (kept : Kept) : Type 0 where
  pub folders : (folder : Path) → set.contains kept.folders folder ≡ is_some (since folder)
  pub only : (path : Path) (time : ℕ) (bytes : List ℕ) → finite.get kept.contents (path, time) ≡ Some bytes → HasShown trees since now path time bytes
  pub whole : (path : Path) (time : ℕ) (bytes : List ℕ) → HasShown trees since now path time bytes → finite.get kept.contents (path, time) ≡ Some bytes
  pub fits : Fits kept (trees now)
