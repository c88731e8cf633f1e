-- A line for each item that a walk gives.
use Rattle.std.specs.Prelude.{◌≡◌, ℕ, Bool, true, false, List, [], ◌∷◌, ◌++◌, take, codes, Option, Some, None, Result, Ok, Err, is_err, if◌then◌else◌}
use Rattle.std.specs.Iterator.{Yields}
use Rattle.std.specs.List.{flat_map, list_any}
use Rattle.odb_base.specs.Path.{text_of}
use Rattle.odb_mem_disk.specs.Source.{Adds}
use Rattle.odb_disk.specs.Streams.{Streams}
use Rattle.odb_disk.specs.Tree.{State}
use Rattle.odb_disk.specs.declared.disk_error.DiskError.{DiskError}
use Rattle.odb_disk.specs.declared.disk_error.DiskError.TheVariants as refusals
use Rattle.walkdir.specs.Error.{disk_error_of, text_of_error}
use Rattle.walkdir.specs.Failures.{failures_among}
use Rattle.walkdir.specs.Progress.{FailsByFault, Keeps, Progress, Steps, is_lost}
use Rattle.walkdir.specs.Walk.{Item}
use Rattle.list_walk.specs.declared.line.LineError.{LineError}
use Rattle.list_walk.specs.declared.status.Status.{Status}
use Rattle.list_walk.specs.declared.status.Status.TheVariants as statuses

-- ---- the items

-- A walk gave these items one after the other, and is at this point. Its disk has this state.
abbrev pub Gave : Option State → Progress → List Item → Progress → Type 0
Gave state first items at = Yields (Steps state) first items at

-- a walk gave these items, and then its end
pub record GaveAll (state : Option State) (first : Progress) (items : List Item) : Type 0 where
  pub at : Progress
  pub gave : Gave state first items at
  pub now : Progress
  pub ended : Steps state at None now

-- a walk gave these items, and more may come
pub record GaveSome (state : Option State) (first : Progress) (items : List Item) : Type 0 where
  pub at : Progress
  pub gave : Gave state first items at

-- an item is out of memory
abbrev pub is_want : Item → Bool
is_want item = is_lost (Some item)

-- what a walk leaves as it was while it gives items
pub record Leaves (first now : Progress) : Type 0 where
  pub options : now.options ≡ first.options
  pub keeps : (before : Streams) → Keeps before first → Keeps before now

-- ---- their lines

-- an entry ends with a line feed, or with NUL if that is asked for
abbrev pub end_of : Bool → List ℕ
end_of true = 0 ∷ []
end_of false = codes "\n"

-- what is written of an item on standard output: the path of an entry, and nothing of an error
unfoldable pub line_of : Bool → Item → List ℕ
line_of nul (Ok entry) = text_of entry.path ++ end_of nul
line_of nul (Err error) = []

-- the system's words for a disk's error; a disk that failed doesn't keep them, so others are used
abbrev pub system_words : Option DiskError → List ℕ
system_words None = []
system_words (Some refusals.Absent) = codes " (No such file or directory)"
system_words (Some refusals.WrongKind) = codes " (Not a directory)"
system_words (Some refusals.LinkLoop) = codes " (Too many levels of symbolic links)"
system_words (Some refusals.Exists) = codes " (File exists)"
system_words (Some refusals.NotEmpty) = codes " (Directory not empty)"
system_words (Some refusals.Failed) = codes " (refused by the system, or an entry that can't be listed)"
system_words (Some refusals.NoMemory) = codes " (Cannot allocate memory)"

-- What is written of an item on standard error: the text of an error after the program's name, and the system's words.
-- Nothing is written of an entry.
unfoldable pub error_of : Item → List ℕ
error_of (Ok entry) = []
error_of (Err error) = codes "list_walk: " ++ (text_of_error error ++ (system_words (disk_error_of error) ++ codes "\n"))

-- the lines of items, one after the other
abbrev pub lines_of : Bool → List Item → List ℕ
lines_of nul items = flat_map (line_of nul) items

abbrev pub errors_of : List Item → List ℕ
errors_of items = flat_map error_of items

-- the sink took a prefix of some bytes, and these are left
abbrev pub TakesFront : Option (List ℕ) → Option (List ℕ) → List ℕ → List ℕ → Type 0
TakesFront held held' bytes left = (front : List ℕ) × (bytes ≡ front ++ left) × Adds held held' front

-- ---- their status

abbrev pub is_error : Item → Bool
is_error item = is_err item

-- the status of a walk that gave these items
abbrev pub status_of : List Item → Status
status_of items = if list_any is_error items then statuses.SomeErrors else statuses.Done

-- ---- what is written of a walk

-- What is written of a walk: the state of the disk, the walk, how entries end, and before and after the bytes held by the
-- two sinks, of entries and of errors, and the disk's count of faults.
pub record Listing : Type 0 where
  pub state : Option State
  pub first : Progress
  pub nul : Bool
  pub held : Option (List ℕ)
  pub held' : Option (List ℕ)
  pub told : Option (List ℕ)
  pub told' : Option (List ℕ)
  pub disk_faults : ℕ
  pub disk_faults' : ℕ

-- The lines of all items of the walk, none of them out of memory, were written, and the status is theirs. Except failures
-- that waited before, there are no more among them than the disk's count of faults rose by.
pub record IsWhole (o : Listing) (status : Status) : Type 0 where
  pub items : List Item
  pub gave : GaveAll o.state o.first items
  pub memory : list_any is_want items ≡ false
  pub status_is : status ≡ status_of items
  pub added : Adds o.held o.held' (lines_of o.nul items)
  pub errors : Adds o.told o.told' (errors_of items)
  pub fails : FailsByFault o.first o.disk_faults (failures_among items) gave.now o.disk_faults'

-- Prefixes of the lines of items of the walk were written. Except failures that waited before, there are no more among
-- these items than the disk's count of faults rose by.
pub record IsFront (o : Listing) : Type 0 where
  pub items : List Item
  pub gave : GaveSome o.state o.first items
  pub count : ℕ
  pub added : Adds o.held o.held' (take count (lines_of o.nul items))
  pub error_count : ℕ
  pub errors : Adds o.told o.told' (take error_count (errors_of items))
  pub fails : FailsByFault o.first o.disk_faults (failures_among items) gave.at o.disk_faults'

-- the walk reached its end, or it was cut off
abbrev pub EndsWritten : Listing → Result Status LineError → Type 0
EndsWritten o (Ok statuses.Done) = IsWhole o statuses.Done
EndsWritten o (Ok statuses.SomeErrors) = IsWhole o statuses.SomeErrors
EndsWritten o (Ok statuses.NoMemory) = IsFront o
EndsWritten o (Ok statuses.HelpSought) = ⊥
EndsWritten o (Ok (statuses.NotUnderstood told)) = ⊥
EndsWritten o (Ok statuses.WriteFault) = ⊥
EndsWritten o (Ok statuses.ErrorFault) = ⊥
EndsWritten o (Err error) = IsFront o
