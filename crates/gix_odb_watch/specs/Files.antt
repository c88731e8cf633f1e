-- The files that a tree shows in pack directories, as lists. No public clause cites this.
use Rattle.std.specs.Prelude.{◌≡◌, ◌⊎◌, ◌++◌, ℕ, Bool, false, not, List, [], ◌∷◌, map, Option, Some, None, IsSome, Result, Ok, Err, unwrap_or}
use Rattle.std.specs.Result.{result_ok}
use Rattle.std.specs.FinMap as finite
use Rattle.odb_base.specs.Path.{Path, last_name, same_name}
use Rattle.odb_disk.specs.Tree.{Tree}
use Rattle.odb_disk.specs.Tree.Follow.{Refusal, read_of}
use Rattle.odb_disk.specs.Entries.{opened}
use Rattle.odb_disk.specs.declared.entry.Entry.{Entry}
use Rattle.gix_odb_watch.specs.Watched.{counted, named_kind}
use Rattle.gix_odb_watch.specs.Kept.{Contents, Folders, IsIn, Key, ShowsInOne}
use Rattle.gix_odb_watch.specs.declared.watched.WatchedKind.{WatchedKind}
use Rattle.gix_odb_watch.specs.declared.shown_file.ShownFile.{ShownFile}

-- what a read of a path gives, if it is that of a watched kind
abbrev pub file_read : Path → Option WatchedKind → Result (List ℕ × ℕ) Refusal → List ShownFile
file_read path None told = []
file_read path (Some kind) (Err refusal) = []
file_read path (Some kind) (Ok file) = record { key = (path, counted kind file.1); bytes = file.0 } ∷ []

-- what a tree shows at a path, if its name is watched
abbrev pub file_at : Tree → Path → List ShownFile
file_at tree path = file_read path (named_kind (last_name path)) (read_of tree path)

-- the entries of a directory, or none where there is no directory
abbrev pub listed : Tree → Path → List Entry
listed tree directory = unwrap_or (result_ok (opened tree directory)) []

-- their paths, by another path that leads to the directory
abbrev pub listed_paths : Tree → (like directory : Path) → List Path
listed_paths tree like directory = map (λ (entry : Entry). directory ++ entry.name ∷ []) (listed tree like)

-- whether other bytes than a file's are kept under its key
abbrev pub is_other : Option (List ℕ) → List ℕ → Bool
is_other None bytes = false
is_other (Some first) bytes = not (same_name first bytes)

abbrev pub differs : Contents → ShownFile → Bool
differs contents file = is_other (finite.get contents file.key) file.bytes

-- Files were kept: what was kept stays, something is kept under the key of each, and nothing else was added.
pub record KeepsFiles (old : Contents) (files : List ShownFile) (new : Contents) : Type 0 where
  pub stays : (key : Key) (bytes : List ℕ) → finite.get old key ≡ Some bytes → finite.get new key ≡ Some bytes
  pub there : (file : ShownFile) → IsIn files file → IsSome (finite.get new file.key)
  pub only : (key : Key) (bytes : List ℕ) → finite.get new key ≡ Some bytes
      → (finite.get old key ≡ Some bytes) ⊎ ((file : ShownFile) × IsIn files file × (file.key ≡ key) × (file.bytes ≡ bytes))

-- The files are what paths of the new folders show in a tree that comes after another one: all that those of the old ones didn't show before.
pub record Reveals (old new : Folders) (before after : Tree) (files : List ShownFile) : Type 0 where
  pub shown : (file : ShownFile) → IsIn files file → ShowsInOne new after file.key.0 file.key.1 file.bytes
  pub whole : (path : Path) (time : ℕ) (bytes : List ℕ) → ShowsInOne new after path time bytes
      → ShowsInOne old before path time bytes ⊎ IsIn files (record { key = (path, time); bytes = bytes })
