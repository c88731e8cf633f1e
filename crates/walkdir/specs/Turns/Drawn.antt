-- What the calls of one stream give, and what is read of it. No public clause cites this module.
use Rattle.std.specs.Prelude.{◌≡◌, ◌⊎◌, ℕ, ◌+◌, ◌<◌, ◌≤◌, true, max, List, [], ◌∷◌, length, map, Option, Some, None, Result, Ok, Err, IfOk, IfSome, unwrap_or}
use Rattle.std.specs.FinMap as finite
use Rattle.odb_base.specs.Path.{Path}
use Rattle.odb_disk.specs.Streams.{Streams, left, still_gives, is_open, open_count, with_stream}
use Rattle.odb_disk.specs.Tree.{State, tree_of}
use Rattle.odb_disk.specs.declared.entry.Entry.{Entry}
use Rattle.odb_disk.specs.declared.disk_error.DiskError.{DiskError}
use Rattle.odb_disk.specs.declared.disk_error.DiskError.TheVariants as refusals
use Rattle.walkdir.specs.Error.{failures, io_error, no_memory, stream_error}
use Rattle.walkdir.specs.Failures.{failures_left}
use Rattle.walkdir.specs.OwnStreams.{OpenDirs}
use Rattle.walkdir.specs.Directory.{most_entries, HasLeft, held, stream_in}
use Rattle.walkdir.specs.Walk.{Walking, Ancestor, Item, Order, ContentsOf, WalksOf}
use Rattle.walkdir.specs.Walk.Children.{IsInOrder, IsStreamed, child_of}
use Rattle.walkdir.specs.declared.builder.Options.{Options}
use Rattle.walkdir.specs.declared.dent.DirEntry.{DirEntry}
use Rattle.walkdir.specs.declared.error.Error.{Error}
use Rattle.walkdir.specs.declared.directory.Items.{Items}

-- ---- calls of one stream

-- the first entry of a stream is drawn from it
pub record DrawsEntry (depth : ℕ) (path : Path) (old : Streams) (dir : ℕ) (child : DirEntry) (new : Streams) : Type 0 where
  pub entry : Entry
  pub rest : List Entry
  pub gave : still_gives old dir ≡ Some (entry ∷ rest)
  pub child_is : child ≡ child_of path depth entry
  pub streams : new ≡ with_stream old dir rest

-- how many entries a stream still has
abbrev pub left_of : Streams → ℕ → ℕ
left_of streams dir = unwrap_or (left streams dir) 0

-- the same streams, except that one may have less left
abbrev pub IsDrawn : Streams → ℕ → Streams → Type 0
IsDrawn old dir new =
    (new ≡ old) ⊎ ((rest : List Entry) × (is_open old dir ≡ true) × (length rest ≤ left_of old dir) × (new ≡ with_stream old dir rest))

-- why a stream gives an error: memory ran out, the disk failed, or it isn't open
abbrev pub BreaksOff : ℕ → Streams → ℕ → Error → Type 0
BreaksOff depth old dir error = (error ≡ no_memory) ⊎ ((error ≡ stream_error depth refusals.Failed) ⊎ (still_gives old dir ≡ None))

-- what a stream gives next
abbrev pub Draws : ℕ → Path → Streams → ℕ → Option Item → Streams → Type 0
Draws depth path old dir None new = (still_gives old dir ≡ Some []) × (new ≡ old)
Draws depth path old dir (Some (Ok child)) new = DrawsEntry depth path old dir child new
Draws depth path old dir (Some (Err error)) new = BreaksOff depth old dir error × IsDrawn old dir new

-- the result of opening a directory: a new stream, or what it gave, and then none more is open than before
abbrev pub HasOpened : OpenDirs → Option ℕ → OpenDirs → Type 0
HasOpened old None new = new ≡ old
HasOpened old (Some dir) new =
    (entries : List Entry) × (finite.get old dir ≡ None) × (length entries < most_entries) × (new ≡ finite.insert old dir entries)

pub record OpensAtMost (old : Streams) (dir : Option ℕ) (new : Streams) : Type 0 where
  pub dirs : HasOpened old.open_dirs dir new.open_dirs
  pub peak : new.peak ≤ max old.peak (open_count old + 1)

abbrev pub stream_of : Result Items Error → Option ℕ
stream_of (Ok items) = stream_in items
stream_of (Err error) = None

-- the contents of a directory that couldn't be opened: the error
abbrev pub HasOnly : Error → Items → Type 0
HasOnly error items = (stream_in items ≡ None) × (held items ≡ Err error ∷ []) × (failures_left items ≡ failures error)

abbrev pub OnlyFailure : ℕ → Path → DiskError → Items → Type 0
OnlyFailure depth path error items = HasOnly (io_error depth path error) items

-- ---- what is read of it

-- what a stream gives to its end, or up to the error that ends it
abbrev pub StreamsAll : ℕ → Path → Streams → ℕ → List Item → Type 0
StreamsAll depth path old dir items =
    (entries : List Entry) → still_gives old dir ≡ Some entries → IsStreamed depth (map (child_of path depth) entries) items

-- what a directory has left are the contents of the directory at this path and depth
abbrev pub HasContentsLeft : Walking → Streams → Path → ℕ → Items → Type 0
HasContentsLeft walk streams path depth items =
    (above : List Ancestor) (directory : DirEntry) (children here : List Item) → directory.path ≡ path → directory.depth ≡ depth
    → HasLeft streams (depth + 1) path items children
    → WalksOf walk above children here → ContentsOf walk above directory here

-- ---- a directory that is opened

-- what was read of a stream to its end, in order
pub record ReadInOrder (order : Order) (depth : ℕ) (path : Path) (old : Streams) (dir : ℕ) (items : Items) : Type 0 where
  pub given : List Item
  pub streamed : StreamsAll depth path old dir given
  pub sorted : IsInOrder order given (held items)

-- if the tree is known, this holds of contents that were read, for each walk of the tree with this order
abbrev pub ForContentsRead : Option State → Option Order → Result Items Error → (Walking → Items → Type 0) → Type 0
ForContentsRead state order result Holds =
    IfSome state (λ s. IfOk result (λ items. (walk : Walking) → walk.tree ≡ tree_of s → walk.order ≡ order → Holds walk items))

-- a directory at less than the greatest depth is opened to its contents
abbrev pub OpensContents : Option State → Option Order → Path → ℕ → Result Items Error → Streams → Type 0
OpensContents state order path depth result new =
    ForContentsRead state order result (λ walk items. depth < walk.options.max_depth → HasContentsLeft walk new path depth items)

-- a directory at any depth is opened to its contents
abbrev pub HasContents : Option State → Option Order → Options → Path → ℕ → Result Items Error → Streams → Type 0
HasContents state order options path depth result new =
    ForContentsRead state order result (λ walk items. walk.options ≡ options → HasContentsLeft walk new path depth items)
