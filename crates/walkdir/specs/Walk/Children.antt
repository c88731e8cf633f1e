-- The children of a directory, as its stream gives them or sorted.
use Rattle.std.specs.Prelude.{◌≡◌, ℕ, ◌+◌, false, List, [], ◌∷◌, ◌++◌, map, Option, Some, None, Ok, Err}
use Rattle.std.specs.List.{filter_map}
use Rattle.std.specs.Result.{result_ok}
use Rattle.odb_base.specs.Path.{Path}
use Rattle.odb_disk.specs.declared.entry.Entry.{Entry}
use Rattle.odb_disk.specs.declared.disk_error.DiskError.TheVariants as refusals
use Rattle.walkdir.specs.Entry.{entry_at}
use Rattle.walkdir.specs.Error.{stream_error}
use Rattle.walkdir.specs.Sorted.{IsSortedFrom}
use Rattle.walkdir.specs.declared.dent.DirEntry.{DirEntry}
use Rattle.walkdir.specs.Walk.Given.{Item, Order, Walking}

abbrev pub child_of : Path → ℕ → Entry → DirEntry
child_of directory depth entry = entry_at (directory ++ entry.name ∷ []) entry.kind false depth entry.ino

-- what a stream gives of these entries: all of them, or some and then an error that ends it
pub data IsStreamed (depth : ℕ) : List DirEntry → List Item → Type 0 where
  Ended : IsStreamed depth [] []
  Broken : {entries : List DirEntry} → IsStreamed depth entries (Err (stream_error depth refusals.Failed) ∷ [])
  Next : {entry : DirEntry} {entries : List DirEntry} {items : List Item} → IsStreamed depth entries items → IsStreamed depth (entry ∷ entries)
      (Ok entry ∷ items)

abbrev pub error_in : Item → Option Item
error_in (Ok entry) = None
error_in (Err error) = Some (Err error)

-- children in order: the error first that ended the stream, and then the entries, stably sorted
pub record IsInOrder (order : Order) (given children : List Item) : Type 0 where
  pub entries : List DirEntry
  pub sorted : IsSortedFrom order (filter_map result_ok given) entries
  pub is : children ≡ filter_map error_in given ++ map Ok entries

abbrev pub AreChildren : Option Order → List Item → List Item → Type 0
AreChildren None given children = children ≡ given
AreChildren (Some order) given children = IsInOrder order given children

-- the children of a directory with these entries, in the order of its stream or sorted
pub record ChildrenOf (walk : Walking) (directory : DirEntry) (entries : List Entry) (children : List Item) : Type 0 where
  pub given : List Item
  pub streamed : IsStreamed (directory.depth + 1) (map (child_of directory.path (directory.depth + 1)) entries) given
  pub are : AreChildren walk.order given children
