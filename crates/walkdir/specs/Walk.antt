-- What a walk of a tree gives: entries and errors, by a path, its depth and the directories entered above it. Each call
-- of the disk may fail: then one error is in the place of what the call would have given.
pub mod Given
pub mod Answers
pub mod Entries
pub mod Children
pub use Rattle.walkdir.specs.Walk.Given.{Order, Walking, Item, Ancestor}
pub use Rattle.walkdir.specs.Walk.Answers.{Tells, told_at}
use Rattle.std.specs.Prelude.{◌≡◌, true, false, List, [], ◌∷◌, ◌++◌, Option, Ok, Err}
use Rattle.odb_disk.specs.Tree.Follow.{looked}
use Rattle.odb_disk.specs.Entries.{opened}
use Rattle.odb_disk.specs.declared.meta.Meta.{Meta}
use Rattle.odb_disk.specs.declared.entry.Entry.{Entry}
use Rattle.odb_disk.specs.declared.disk_error.DiskError.{DiskError}
use Rattle.odb_disk.specs.declared.disk_error.DiskError.TheVariants as refusals
use Rattle.walkdir.specs.Error.{io_error}
use Rattle.walkdir.specs.declared.dent.DirEntry.{DirEntry}
use Rattle.walkdir.specs.declared.error.Error.{Error}
use Rattle.walkdir.specs.declared.directory.Place.{Place}
use Rattle.walkdir.specs.declared.directory.Entering.TheVariants.{Stays, Enters}
use Rattle.walkdir.specs.Walk.Entries.{around, below_greatest, enter, entering, entry_by, is_looked_at, shown, taken_for}
use Rattle.walkdir.specs.Walk.Answers.{IsRefused}
use Rattle.walkdir.specs.Walk.Children.{ChildrenOf}

-- ---- the walk

mutual
  -- the walk of an entry, below the directories entered above it
  pub data WalkOf (walk : Walking) : List Ancestor → DirEntry → List Item → Type 0 where
    -- a stat failed: an error in place of the entry with its contents
    Failed : {above : List Ancestor} {entry : DirEntry} → is_looked_at walk.options entry ≡ true
        → WalkOf walk above entry (Err (io_error entry.depth entry.path refusals.Failed) ∷ [])
    -- an error in place of what the entry would be taken for
    Wrong : {above : List Ancestor} {entry : DirEntry} {error : Error} → taken_for walk above entry ≡ Err error
        → WalkOf walk above entry (Err error ∷ [])
    -- an error in place of what would be entered
    Closed : {above : List Ancestor} {entry : DirEntry} {error : Error} (taken : DirEntry) → taken_for walk above entry ≡ Ok taken
        → entering walk taken ≡ Err error → WalkOf walk above entry (Err error ∷ [])
    -- what has no contents
    Alone : {above : List Ancestor} {entry : DirEntry} {items : List Item} (taken : DirEntry) → taken_for walk above entry ≡ Ok taken
        → entering walk taken ≡ Ok Stays
        → items ≡ shown walk.options taken → WalkOf walk above entry items
    -- a directory with its contents
    Entered : {above : List Ancestor} {entry : DirEntry} {items : List Item} (taken : DirEntry) (place : Option Place) (contents : List Item)
        → taken_for walk above entry ≡ Ok taken
        → entering walk taken ≡ Ok (Enters place) → ContentsOf walk (enter taken place above) taken contents
        → items ≡ around walk.options taken contents → WalkOf walk above entry items

  -- what an entered directory contains
  pub data ContentsOf (walk : Walking) : List Ancestor → DirEntry → List Item → Type 0 where
    -- nothing, at the greatest depth
    Deepest : {above : List Ancestor} {directory : DirEntry} → below_greatest walk directory ≡ false → ContentsOf walk above directory []
    -- one error, at its own depth, if it can't be opened
    Unopened : {above : List Ancestor} {directory : DirEntry} (error : DiskError) → below_greatest walk directory ≡ true
        → IsRefused error (opened walk.tree directory.path)
        → ContentsOf walk above directory (Err (io_error directory.depth directory.path error) ∷ [])
    -- the walks of its children
    Opened : {above : List Ancestor} {directory : DirEntry} {items : List Item} (entries : List Entry) (children : List Item)
        → below_greatest walk directory ≡ true
        → opened walk.tree directory.path ≡ Ok entries → ChildrenOf walk directory entries children → WalksOf walk above children items
        → ContentsOf walk above directory items

  -- the walks of the children of a directory, one after the other; an error is given as it is
  pub data WalksOf (walk : Walking) : List Ancestor → List Item → List Item → Type 0 where
    Nothing : {above : List Ancestor} → WalksOf walk above [] []
    Lost : {above : List Ancestor} {error : Error} {children items : List Item} → WalksOf walk above children items
        → WalksOf walk above (Err error ∷ children) (Err error ∷ items)
    Child : {above : List Ancestor} {entry : DirEntry} {children items : List Item} (first others : List Item) → WalkOf walk above entry first
        → WalksOf walk above children others
        → items ≡ first ++ others → WalksOf walk above (Ok entry ∷ children) items

-- ---- the walk from its root

-- if the walk stays on the root's device, that is looked up first, following links
abbrev pub HasDevice : Walking → Type 0
HasDevice walk = walk.options.same_file_system ≡ true → (meta : Meta) × (looked walk.tree walk.root true ≡ Ok meta)

pub data IsWalk (walk : Walking) : List Item → Type 0 where
  NoDevice : (error : DiskError) → walk.options.same_file_system ≡ true → IsRefused error (looked walk.tree walk.root true)
      → IsWalk walk (Err (io_error 0 walk.root error) ∷ [])
  NoRoot : (error : DiskError) → HasDevice walk → IsRefused error (looked walk.tree walk.root false)
      → IsWalk walk (Err (io_error 0 walk.root error) ∷ [])
  Root : {items : List Item} (meta : Meta) → HasDevice walk → looked walk.tree walk.root false ≡ Ok meta
      → WalkOf walk [] (entry_by walk.root false 0 meta) items → IsWalk walk items
