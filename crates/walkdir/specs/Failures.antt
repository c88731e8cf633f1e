-- Failures among what a walk gives, and how often the disk's count of faults rose for them.
use Rattle.std.specs.Prelude.{ℕ, ◌+◌, ◌≤◌, min, List, [], ◌∷◌, Option, Some, None, Result, Ok, Err}
use Rattle.odb_base.specs.Faults.{greatest_count}
use Rattle.walkdir.specs.Error.{failures}
use Rattle.walkdir.specs.Walk.{Item}
use Rattle.walkdir.specs.declared.error.Error.{Error}
use Rattle.walkdir.specs.declared.directory.DirList.{DirList}
use Rattle.walkdir.specs.declared.directory.Items.{Items}
use Rattle.walkdir.specs.declared.directory.Items.TheVariants.{Opened, Closed, Skipped}

-- the count of faults rose so often in between, or is at its greatest value
abbrev pub RoseBy : ℕ → ℕ → ℕ → Type 0
RoseBy count before now = min (before + count) greatest_count ≤ now

-- a call gave so many failures, no more than the count of faults rose by. The count never falls
pub record Costs (count before now : ℕ) : Type 0 where
  pub later : before ≤ now
  pub rose : RoseBy count before now

abbrev pub failures_of : {A : Type 0} → Result A Error → ℕ
failures_of (Ok found) = 0
failures_of (Err error) = failures error

abbrev pub failures_given : Option Item → ℕ
failures_given None = 0
failures_given (Some item) = failures_of item

abbrev pub failures_among : List Item → ℕ
failures_among [] = 0
failures_among (item ∷ items) = failures_of item + failures_among items

-- the failures that a directory still has: those among what was read of it
abbrev pub failures_left : Items → ℕ
failures_left (Opened dir) = 0
failures_left (Closed items) = failures_among items.items
failures_left Skipped = 0

-- the failures that a stack still has
abbrev pub waiting : List DirList → ℕ
waiting [] = 0
waiting (list ∷ outer) = failures_left list.items + waiting outer

-- the failures in what a call gives, by those of its answer
abbrev pub failures_by : {A : Type 0} → (A → ℕ) → Result A Error → ℕ
failures_by count (Ok found) = count found
failures_by count (Err error) = failures error
