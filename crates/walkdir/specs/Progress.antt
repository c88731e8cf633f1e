-- A walk in progress on a disk, and what one call of `next` gives and leaves.
use Rattle.std.specs.Prelude.{◌≡◌, ◌≢◌, ℕ, ◌+◌, ◌*◌, ◌<◌, ◌==◌, ◌&&◌, ◌≤◌, Bool, true, false, List, [], ◌++◌, length, Option, Some, None, Ok, Err, IfSome, MatchBool, nat_le}
use Rattle.std.specs.Option.{option_map, option_to_list}
use Rattle.odb_base.specs.Path.{Path}
use Rattle.odb_disk.specs.Tree.{State, tree_of}
use Rattle.odb_disk.specs.Streams.{Streams}
use Rattle.walkdir.specs.Above.{AreEntered}
use Rattle.walkdir.specs.Entered.{IsEntered, StaysOut}
use Rattle.walkdir.specs.Entry.{is_dir}
use Rattle.walkdir.specs.Error.{is_no_memory}
use Rattle.walkdir.specs.Failures.{RoseBy, waiting}
use Rattle.walkdir.specs.Innermost.{IsAfter, SkipsNone}
use Rattle.walkdir.specs.Options.{Built}
use Rattle.walkdir.specs.OwnStreams.{Owns, are_apart}
use Rattle.walkdir.specs.Stack.{StandsFor, ancestors, own_streams, weight, work_in}
use Rattle.walkdir.specs.Directory.{many}
use Rattle.walkdir.specs.Walk.{Walking, Order, Item, IsWalk}
use Rattle.walkdir.specs.Walk.Entries.{root_device}
use Rattle.walkdir.specs.declared.builder.Options.{Options}
use Rattle.walkdir.specs.declared.directory.DirList.{DirList}
use Rattle.walkdir.specs.Causes.{IsCausedAmong}

-- a walk at one moment. The stack has the innermost directory first
pub record Progress : Type 0 where
  pub options : Options
  pub order : Option Order
  -- the root, until the walk begins
  pub start : Option Path
  pub device : ℕ
  pub stack : List DirList
  -- whether the item given last is a directory that was entered
  pub entered : Bool
  -- the streams of its disk
  pub streams : Streams

-- a walk that hasn't begun, on a disk with these streams
abbrev pub begun : {S : Type 0} → (S → Order) → Built S → Streams → Progress
begun order walk streams = record {
  options = walk.options;
  order = option_map order walk.sorter;
  start = Some walk.root;
  device = 0;
  stack = [];
  entered = false;
  streams = streams;
}

-- the items that a walk still gives: all of it before it begins, and then what its stack stands for
abbrev pub still_to_come : Walking → Progress → Option Path → List Item → Type 0
still_to_come walk at (Some root) items = IsWalk walk items
still_to_come walk at None items = StandsFor walk at.streams at.stack items

abbrev pub StillGives : Walking → Progress → List Item → Type 0
StillGives walk at items = still_to_come walk at at.start items

-- a walk in progress is this walk's
pub record IsOf (walk : Walking) (at : Progress) : Type 0 where
  pub options : at.options ≡ walk.options
  pub order : at.order ≡ walk.order
  pub start : IfSome at.start (λ root. root ≡ walk.root)
  pub device : at.stack ≢ [] → walk.options.same_file_system ≡ true → root_device walk ≡ Some at.device

-- A walk that began on a disk with these streams has at most `max_open` of its own, and leaves all others as they are.
abbrev pub Keeps : Streams → Progress → Type 0
Keeps before at = Owns before at.options.max_open (own_streams at.stack) at.streams

-- whether a walk's own streams are open, each under a number of its own, and no more than `max_open`
unfoldable pub has_its_streams : Progress → Bool
has_its_streams at = nat_le (length (own_streams at.stack)) at.options.max_open && are_apart (own_streams at.stack) at.streams.open_dirs

-- ---- how much there is to do at most

-- what its stack has
abbrev pub work_at : Progress → ℕ
work_at at = work_in at.options.max_depth at.streams at.stack

abbrev pub work_of : Progress → Option Path → ℕ
work_of at (Some root) = many * weight at.options.max_depth 0
work_of at None = work_at at

unfoldable pub work_left : Progress → ℕ
work_left at = work_of at at.start

-- ---- one call of `next`

abbrev pub is_lost : Option Item → Bool
is_lost (Some (Err error)) = is_no_memory error
is_lost (Some (Ok entry)) = false
is_lost None = false

-- if the tree is known, this holds of each walk of it that is at this point, with streams of its own
abbrev pub ForEachWalkAt : Option State → Progress → (Walking → Type 0) → Type 0
ForEachWalkAt state at Holds =
    IfSome state (λ s. (walk : Walking) (before : Streams) → walk.tree ≡ tree_of s → IsOf walk at → Keeps before at → Holds walk)

-- If the tree is known, the item is the first of what the walk still gives, and the others are still to come. Running out
-- of memory ends the walk at any place.
abbrev pub GivesNext : Option State → Progress → Option Item → Progress → Type 0
GivesNext state old item new =
    ForEachWalkAt state old (λ walk. is_lost item ≡ false
    → IsOf walk new × ((rest : List Item) → StillGives walk new rest → StillGives walk old (option_to_list item ++ rest)))

-- The failures given so far and still to be given are no more than the disk's count of faults rose by since the walk
-- began; so many are given now.
pub record FailsByFault (old : Progress) (before : ℕ) (given : ℕ) (new : Progress) (now : ℕ) : Type 0 where
  pub later : before ≤ now
  pub rose : (begun count : ℕ) → RoseBy (count + waiting old.stack) begun before → RoseBy (count + given + waiting new.stack) begun now

-- whether an item is the directory that is innermost on a stack
abbrev pub is_innermost : List DirList → Option Item → Bool
is_innermost stack (Some (Ok entry)) = is_dir entry && (entry.depth + 1 == length stack)
is_innermost stack item = false

-- an item that is an error is caused so, by the directories that the walk is in
abbrev pub CausedWithin : Progress → Option Item → Type 0
CausedWithin at (Some (Err error)) = IsCausedAmong at.options (ancestors at.stack) error
CausedWithin at (Some (Ok entry)) = Unit {0}
CausedWithin at None = Unit {0}

-- An entry that is given was entered and is given before its contents, which are all that the innermost directory has
-- left; or it isn't a directory that is given before its contents and entered.
abbrev pub TellsEntered : Walking → Option Item → Progress → Type 0
TellsEntered walk (Some (Ok entry)) at = MatchBool at.entered (IsEntered walk entry at.start at.streams at.stack) (StaysOut walk entry)
TellsEntered walk (Some (Err error)) at = Unit {0}
TellsEntered walk None at = Unit {0}

-- if the tree is known, this holds of the item
abbrev pub GivesDirectory : Option State → Progress → Option Item → Progress → Type 0
GivesDirectory state old item new = ForEachWalkAt state old (λ walk. TellsEntered walk item new)

-- if the tree is known, the directories that the walk is in are those that it entered
abbrev pub GivesEntered : Option State → Progress → Option Item → Progress → Type 0
GivesEntered state old item new =
    ForEachWalkAt state old (λ walk. is_lost item ≡ false → AreEntered walk (ancestors old.stack) → AreEntered walk (ancestors new.stack))

-- what a call of `next` gives and leaves
pub record Steps (state : Option State) (old : Progress) (item : Option Item) (new : Progress) : Type 0 where
  pub gives : GivesNext state old item new
  pub keeps : (before : Streams) → Keeps before old → Keeps before new
  pub options : new.options ≡ old.options
  pub entered : new.entered ≡ is_innermost new.stack item
  pub ended : item ≡ None → (new.stack ≡ []) × (new.start ≡ None)
  pub over : old.stack ≡ [] → old.start ≡ None → item ≡ None
  pub lost : is_lost item ≡ true → (new.stack ≡ []) × (new.start ≡ None)
  pub less : IfSome item (λ _. work_left new < work_left old)
  pub causes : CausedWithin new item
  pub innermost : IsAfter new.options item new.stack
  pub skips : SkipsNone old.stack new.stack
  pub directory : GivesDirectory state old item new
  pub above : GivesEntered state old item new
