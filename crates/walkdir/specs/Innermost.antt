-- Which directory is innermost on the stack of a walk after an item, whatever the disk reports.
use Rattle.std.specs.Prelude.{◌≡◌, ◌⊎◌, ℕ, ◌+◌, ◌==◌, ◌&&◌, ◌||◌, Bool, true, false, List, [], ◌∷◌, length, Option, Some, None, Ok, Err}
use Rattle.odb_base.specs.Path.{Path}
use Rattle.walkdir.specs.Entry.{is_dir}
use Rattle.walkdir.specs.Directory.{IsAt, is_skipped}
use Rattle.walkdir.specs.Walk.{Item}
use Rattle.walkdir.specs.Walk.Entries.{knows_places, is_root_link}
use Rattle.walkdir.specs.Within.{LiesIn}
use Rattle.walkdir.specs.declared.builder.Options.{Options}
use Rattle.walkdir.specs.declared.dent.DirEntry.{DirEntry}
use Rattle.walkdir.specs.declared.error.Error.{Error}
use Rattle.walkdir.specs.declared.error.ErrorInner.{ErrorInner}
use Rattle.walkdir.specs.declared.error.ErrorInner.TheVariants.{Io, Loop, NoMemory}
use Rattle.walkdir.specs.declared.directory.DirList.{DirList}

-- whether the innermost directory is skipped
abbrev pub is_head_skipped : List DirList → Bool
is_head_skipped [] = false
is_head_skipped (list ∷ outer) = is_skipped list.items

-- the innermost directory is at this path and depth
abbrev pub IsHead : Path → ℕ → List DirList → Type 0
IsHead path depth [] = ⊥
IsHead path depth (list ∷ outer) = (depth ≡ length outer) × (list.path ≡ path)

-- The innermost directory is the one that contains this path, and the stack is as long as the path's depth. At depth 0
-- there is none.
pub record IsBeside (path : Path) (depth : ℕ) (stack : List DirList) : Type 0 where
  pub long : length stack ≡ depth
  pub parent : LiesIn path stack

-- an entry that was entered is innermost: a directory that is given before its contents, or a link at the root
pub record IsInnermost (options : Options) (entry : DirEntry) (stack : List DirList) : Type 0 where
  pub head : IsHead entry.path entry.depth stack
  pub unskipped : is_head_skipped stack ≡ false
  pub kind : (is_dir entry || is_root_link entry) ≡ true
  pub first : (options.contents_first && is_dir entry) ≡ false

-- Any other entry is in the innermost directory, which isn't skipped. For a directory that is given after its contents,
-- the one above it may have been skipped before.
pub record IsBehind (options : Options) (entry : DirEntry) (stack : List DirList) : Type 0 where
  pub beside : IsBeside entry.path entry.depth stack
  pub unskipped : (options.contents_first && is_dir entry) ≡ false → is_head_skipped stack ≡ false

abbrev pub IsAfterEntry : Options → DirEntry → List DirList → Type 0
IsAfterEntry options entry stack = IsInnermost options entry stack ⊎ IsBehind options entry stack

-- whether something at this depth may be statted: the root, or anything, if links are followed or devices matter
abbrev pub may_look : Options → ℕ → Bool
may_look options depth = (depth == 0) || knows_places options

-- a stream fails in the innermost directory, whose entries have this depth
abbrev pub IsStreaming : ℕ → List DirList → Type 0
IsStreaming depth [] = ⊥
IsStreaming depth (list ∷ outer) = (depth ≡ length outer + 1) × (is_skipped list.items ≡ false)

-- A directory that couldn't be opened is innermost. A path that couldn't be statted is in the innermost directory.
abbrev pub IsAfterCall : Options → Path → ℕ → List DirList → Type 0
IsAfterCall options path depth stack =
    (is_head_skipped stack ≡ false) × (IsHead path depth stack ⊎ (IsBeside path depth stack × (may_look options depth ≡ true)))

-- nothing is left when memory ran out
abbrev pub IsAfterErrorIn : Options → ℕ → ErrorInner → List DirList → Type 0
IsAfterErrorIn options depth (Io (Some path) error) stack = IsAfterCall options path depth stack
IsAfterErrorIn options depth (Io None error) stack = IsStreaming depth stack
IsAfterErrorIn options depth (Loop ancestor child) stack = IsBeside child depth stack × (is_head_skipped stack ≡ false)
IsAfterErrorIn options depth NoMemory stack = Unit {0}

abbrev pub IsAfterError : Options → Error → List DirList → Type 0
IsAfterError options error stack = IsAfterErrorIn options error.depth error.inner stack

-- which directory is innermost after an item
abbrev pub IsAfter : Options → Option Item → List DirList → Type 0
IsAfter options None stack = Unit {0}
IsAfter options (Some (Ok entry)) stack = IsAfterEntry options entry stack
IsAfter options (Some (Err error)) stack = IsAfterError options error stack

-- ---- what is skipped

-- a directory at this path and depth is skipped
unfoldable pub IsSkippedAt : Path → ℕ → List DirList → Type 0
IsSkippedAt path depth [] = ⊥
IsSkippedAt path depth (list ∷ outer) = ((depth ≡ length outer) × (list.path ≡ path) × (is_skipped list.items ≡ true)) ⊎ IsSkippedAt path depth outer

-- whatever is skipped now was skipped before
abbrev pub SkipsNone : List DirList → List DirList → Type 0
SkipsNone old new = (path : Path) (depth : ℕ) → IsSkippedAt path depth new → IsSkippedAt path depth old

-- ---- a child that is drawn

-- an item comes from the innermost directory, which isn't skipped. No public clause cites this
abbrev pub IsFromHead : List DirList → Item → Type 0
IsFromHead [] item = ⊥
IsFromHead (list ∷ outer) item = (is_skipped list.items ≡ false) × IsAt list.path (length outer + 1) item
