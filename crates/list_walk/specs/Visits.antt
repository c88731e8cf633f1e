-- What is promised of walks from folders, one after the other.
use Rattle.std.specs.Prelude.{◌≡◌, ℕ, List, [], ◌∷◌, ◌++◌, Option, Result, Ok, Err, IfSome}
use Rattle.odb_base.specs.Path.{Path}
use Rattle.odb_disk.specs.Streams.{Streams}
use Rattle.odb_disk.specs.Tree.{State, tree_of}
use Rattle.walkdir.specs.Failures.{Costs, failures_among}
use Rattle.walkdir.specs.Progress.{Progress}
use Rattle.walkdir.specs.Walk.{IsWalk}
use Rattle.list_walk.specs.Asked.{walk_of, walking_of}
use Rattle.list_walk.specs.Lines.{IsFront, IsWhole, Listing}
use Rattle.list_walk.specs.declared.line.LineError.{LineError}
use Rattle.list_walk.specs.declared.line.LineError.TheVariants as errors
use Rattle.list_walk.specs.declared.words.Choices.{Choices}
use Rattle.list_walk.specs.declared.status.Status.{Status}
use Rattle.list_walk.specs.declared.status.Status.TheVariants as statuses

-- ---- one walk

-- a moment of a session: the disk's streams and its count of faults, and what the sinks of entries and of errors hold
pub record Moment : Type 0 where
  pub streams : Streams
  pub disk_faults : ℕ
  pub held : Option (List ℕ)
  pub told : Option (List ℕ)

-- a walk from a folder: how it is walked, the disk, if it reports its tree, and the moments before and after
pub record Visit : Type 0 where
  pub choices : Choices
  pub state : Option State
  pub folder : Path
  pub before : Moment
  pub after : Moment

-- what is written of it, if it begins so
abbrev pub listing_at : Visit → Progress → Listing
listing_at v first = record {
  state = v.state;
  first = first;
  nul = v.choices.nul;
  held = v.before.held;
  held' = v.after.held;
  told = v.before.told;
  told' = v.after.told;
  disk_faults = v.before.disk_faults;
  disk_faults' = v.after.disk_faults;
}

abbrev pub listing_of : Visit → Listing
listing_of v = listing_at v (walk_of v.folder v.choices v.before.streams)

-- The lines of all items of the walk were written, and the status is theirs. If the disk's tree is known, they are the
-- items of that tree's walk. On every disk the failures among them are no more than its count of faults rose by.
pub record Listed (v : Visit) (status : Status) : Type 0 where
  pub wrote : IsWhole (listing_of v) status
  pub walks : IfSome v.state (λ state. IsWalk (walking_of v.folder v.choices (tree_of state)) wrote.items)
  pub costs : Costs (failures_among wrote.items) v.before.disk_faults v.after.disk_faults

-- Prefixes of the lines of items of the walk were written. The failures among these items are no more than the disk's count
-- of faults rose by.
pub record CutOff (v : Visit) : Type 0 where
  pub wrote : IsFront (listing_of v)
  pub costs : Costs (failures_among wrote.items) v.before.disk_faults v.after.disk_faults

-- the walk reached its end, or it was cut off
abbrev pub EndsVisit : Visit → Result Status LineError → Type 0
EndsVisit v (Ok status) = Listed v status
EndsVisit v (Err error) = CutOff v

-- ---- walks one after the other

-- some errors are worse than none
abbrev pub worse : Status → Status → Status
worse statuses.Done status = status
worse other status = other

-- Folders were walked one after the other, and the lines of each were written after those before it. The status says
-- whether there are errors among their items.
pub data Visits (choices : Choices) (state : Option State) (first : Moment) : List Path → Moment → Status → Type 0 where
  none : Visits choices state first [] first statuses.Done
  more : (folders : List Path) (before after : Moment) (status own : Status) (folder : Path) → Visits choices state first folders before status
      → Listed (record { choices = choices; state = state; folder = folder; before = before; after = after }) own
      → Visits choices state first (folders ++ folder ∷ []) after (worse status own)

-- the first of some folders were walked so, and the walk from the next one was cut off
pub record VisitsCut (choices : Choices) (state : Option State) (folders : List Path) (first last : Moment) : Type 0 where
  pub front : List Path
  pub folder : Path
  pub behind : List Path
  pub folders_are : folders ≡ front ++ folder ∷ behind
  pub before : Moment
  pub status : Status
  pub visits : Visits choices state first front before status
  pub cut : CutOff (record { choices = choices; state = state; folder = folder; before = before; after = last })

-- walks from folders: how they are walked, the disk, if it reports its tree, and the moments before and after
pub record Journey : Type 0 where
  pub choices : Choices
  pub state : Option State
  pub folders : List Path
  pub first : Moment
  pub last : Moment

-- all were made, or one of them was cut off
abbrev pub EndsAll : Journey → Result Status LineError → Type 0
EndsAll j (Ok status) = Visits j.choices j.state j.first j.folders j.last status
EndsAll j (Err error) = VisitsCut j.choices j.state j.folders j.first j.last

-- the result of a walk that ended with a status: one that ran out of memory was cut off
abbrev pub settled : Result Status LineError → Result Status LineError
settled (Ok statuses.Done) = Ok statuses.Done
settled (Ok statuses.SomeErrors) = Ok statuses.SomeErrors
settled (Ok statuses.HelpSought) = Err errors.NoMemory
settled (Ok (statuses.NotUnderstood told)) = Err errors.NoMemory
settled (Ok statuses.WriteFault) = Err errors.NoMemory
settled (Ok statuses.ErrorFault) = Err errors.NoMemory
settled (Ok statuses.NoMemory) = Err errors.NoMemory
settled (Err error) = Err error
