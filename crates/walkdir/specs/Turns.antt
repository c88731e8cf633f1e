-- What the parts of a walk do in one turn. No public clause cites this module.
pub mod Drawn
pub mod AtIndex
pub mod Taken
pub mod Stands
use Rattle.std.specs.Prelude.{◌≡◌, ℕ, ◌+◌, ◌*◌, ◌<◌, ◌≤◌, Bool, true, false, [], Option, Some, None, Result, Ok, Err}
use Rattle.odb_disk.specs.Streams.{Streams}
use Rattle.walkdir.specs.Innermost.{IsAfter, SkipsNone}
use Rattle.walkdir.specs.Directory.{most_entries}
use Rattle.walkdir.specs.Progress.{work_at, Progress, Keeps, FailsByFault, CausedWithin, is_innermost, work_left}
use Rattle.walkdir.specs.Stack.{weight}
use Rattle.walkdir.specs.Walk.{Item}
use Rattle.walkdir.specs.declared.dent.DirEntry.{DirEntry}
use Rattle.walkdir.specs.declared.error.Error.{Error}
use Rattle.walkdir.specs.declared.stack.Turn.{Turn}
use Rattle.walkdir.specs.declared.stack.Turn.TheVariants as turns

-- ---- a step

-- A step of a walk: its options stay, its streams remain its own, so many failures are given, no directory is skipped, and
-- so much more is left to do at most.
pub record GoesOn (old : Progress) (before given more : ℕ) (new : Progress) (now : ℕ) : Type 0 where
  pub options : new.options ≡ old.options
  pub order : new.order ≡ old.order
  pub start : new.start ≡ old.start
  pub keeps : (streams : Streams) → Keeps streams old → Keeps streams new
  pub faults : FailsByFault old before given new now
  pub skips : SkipsNone old.stack new.stack
  pub work : (streams : Streams) → Keeps streams old → work_at new ≤ work_at old + more

-- the greatest weight of a directory of this depth, when it is put on the stack
abbrev pub fresh : ℕ → ℕ → ℕ
fresh max_depth depth = (most_entries + 1) * weight max_depth depth

-- what is given of an entry that was handled
abbrev pub handed : Result (Option DirEntry) Error → Option Item
handed (Ok None) = None
handed (Ok (Some entry)) = Some (Ok entry)
handed (Err error) = Some (Err error)

abbrev pub given_if : Bool → DirEntry → Option DirEntry
given_if true entry = Some entry
given_if false entry = None

-- ---- one turn of the walk: an item, nothing yet, or the end

abbrev pub turn_given : Option DirEntry → Turn
turn_given None = turns.Passed
turn_given (Some entry) = turns.Item (Ok entry)

abbrev pub turn_of : Result (Option DirEntry) Error → Turn
turn_of (Ok item) = turn_given item
turn_of (Err error) = turns.Item (Err error)

abbrev pub item_of : Turn → Option Item
item_of (turns.Item item) = Some item
item_of turns.Passed = None
item_of turns.Ended = None

-- the end is reached when nothing is left, and each other turn leaves less to do
abbrev pub EndsWell : Progress → Turn → Progress → Type 0
EndsWell old turns.Ended new = (new ≡ old) × (old.stack ≡ []) × (old.start ≡ None)
EndsWell old turns.Passed new = work_left new < work_left old
EndsWell old (turns.Item item) new = work_left new < work_left old

pub record Turns (old : Progress) (turn : Turn) (new : Progress) : Type 0 where
  pub options : new.options ≡ old.options
  pub keeps : (before : Streams) → Keeps before old → Keeps before new
  pub entered : old.entered ≡ false → new.entered ≡ is_innermost new.stack (item_of turn)
  pub ends : EndsWell old turn new
  pub causes : CausedWithin new (item_of turn)
  pub innermost : IsAfter new.options (item_of turn) new.stack
  pub skips : SkipsNone old.stack new.stack

-- a child that is taken from the directory at an index weighs as much as one of its own
abbrev pub TakesWork : Progress → Progress → ℕ → Type 0
TakesWork old new index = work_at new + weight old.options.max_depth index ≤ work_at old

abbrev pub LeavesLess : Progress → Progress → Type 0
LeavesLess old new = work_at new < work_at old
