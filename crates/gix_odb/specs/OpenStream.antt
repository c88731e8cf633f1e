-- A stream of a disk between the calls on it: what it still gives, and of which directory it is.
use Rattle.std.specs.Prelude.{◌≡◌, ℕ, List, [], ◌∷◌, ◌++◌, Contains, Some, None, Ok}
use Rattle.odb_base.specs.Path.{Name, Path}
use Rattle.odb_disk.specs.Entries.{opened}
use Rattle.odb_disk.specs.Tree.{Tree, tree_of}
use Rattle.odb_disk.specs.declared.disk_error.DiskError.TheVariants as errors
use Rattle.odb_disk.specs.declared.entry.Entry.{Entry}
use Rattle.odb_disk.specs.declared.meta.Kind.TheVariants as kinds
use Rattle.odb_disk.specs.declared.meta.Meta.{Meta}
use Rattle.odb_disk.specs.Ask.{after_ask, answer_now}
use Rattle.odb_disk.specs.MemDisk.{Volume}
use Rattle.odb_disk.specs.Streams.{still_gives}
use Rattle.odb_disk.specs.declared.ask.DiskAnswer.{DiskAnswer}
use Rattle.odb_disk.specs.declared.ask.DiskAnswer.TheVariants as answers
use Rattle.odb_disk.specs.declared.ask.DiskAsk.{DiskAsk}
use Rattle.odb_disk.specs.declared.ask.DiskAsk.TheVariants as asks

-- ---- a stream by its number

-- a call takes from a stream or closes it
abbrev pub IsOnStream : (dir : ℕ) → DiskAsk → Type 0
IsOnStream dir (asks.NextEntry other) = other ≡ dir
IsOnStream dir (asks.CloseDir other) = other ≡ dir
IsOnStream dir ask = ⊥

-- a stream is open, and these entries are still to come from it
pub record IsOpenStream (disk : Volume) (dir : ℕ) (coming : List Entry) : Type 0 where
  pub gives : still_gives disk.streams dir ≡ Some coming

-- What a stream answers to a call for its next entry, and what is left to come afterwards: the first entry, which is taken; the
-- end, where none is left; or the call fails, and takes none.
abbrev pub GivesNext : (coming : List Entry) → DiskAnswer → (left : List Entry) → Type 0
GivesNext coming (answers.Entry entry) left = coming ≡ entry ∷ left
GivesNext coming answers.End left = (coming ≡ []) × (left ≡ [])
GivesNext coming (answers.Refused errors.Failed) left = left ≡ coming
GivesNext coming answer left = ⊥

-- the next call on a stream
pub record IsRead (disk : Volume) (dir : ℕ) (coming : List Entry) : Type 0 where
  pub left : List Entry
  pub next : GivesNext coming (answer_now disk (asks.NextEntry dir)) left
  pub after : IsOpenStream (after_ask disk (asks.NextEntry dir)) dir left

-- ---- a stream of a directory

-- a stream is opened on a folder: under a number that no open stream has, and to give what the folder's directory lists then
pub record IsOpened (disk : Volume) (folder : Path) (dir : ℕ) : Type 0 where
  pub entries : List Entry
  pub fixed : opened (tree_of disk.state) folder ≡ Ok entries
  pub was_free : still_gives disk.streams dir ≡ None
  pub after : IsOpenStream (after_ask disk (asks.OpenDir folder)) dir entries

-- A stream was opened on a folder of a tree. What it gave since, and then what is still to come from it, is what the folder's
-- directory listed in that tree, in that order.
pub record IsStreamOf (tree : Tree) (folder : Path) (disk : Volume) (dir : ℕ) (given coming : List Entry) : Type 0 where
  pub fixed : opened tree folder ≡ Ok (given ++ coming)
  pub now : IsOpenStream disk dir coming

-- the entries that a stream has given, after an answer to a call for its next one
abbrev pub given_by : List Entry → DiskAnswer → List Entry
given_by given (answers.Entry entry) = given ++ entry ∷ []
given_by given answer = given

-- the next call on a stream of a directory
pub record IsReadOf (tree : Tree) (folder : Path) (disk : Volume) (dir : ℕ) (given coming : List Entry) : Type 0 where
  pub left : List Entry
  pub next : GivesNext coming (answer_now disk (asks.NextEntry dir)) left
  pub after : IsStreamOf tree folder (after_ask disk (asks.NextEntry dir)) dir (given_by given (answer_now disk (asks.NextEntry dir))) left

-- the directory that a folder leads to lists an entry
pub record IsListed (tree : Tree) (folder : Path) (entry : Entry) : Type 0 where
  pub entries : List Entry
  pub opens : opened tree folder ≡ Ok entries
  pub among : Contains entries entry

-- the directory that a folder leads to lists a file of this name
pub record ListsFile (tree : Tree) (folder : Path) (name : Name) : Type 0 where
  pub entry : Entry
  pub among : IsListed tree folder entry
  pub named : entry.name ≡ name
  pub file : entry.kind ≡ kinds.File

-- the entry by the stat of a name
abbrev pub entry_from : Name → Meta → Entry
entry_from name meta = record { name = name; kind = meta.kind; ino = meta.ino }
