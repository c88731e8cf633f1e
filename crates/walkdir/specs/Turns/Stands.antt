-- What is still to come, turn by turn. No public clause cites this module.
use Rattle.std.specs.Prelude.{◌≡◌, ◌≢◌, ℕ, ◌+◌, ◌||◌, true, false, List, [], ◌∷◌, ◌++◌, length, map, Option, Some, None, Ok, Err, IfSome}
use Rattle.std.specs.Option.{option_to_list}
use Rattle.odb_base.specs.Path.{Path}
use Rattle.odb_disk.specs.Streams.{Streams}
use Rattle.odb_disk.specs.Tree.{State, tree_of}
use Rattle.walkdir.specs.Entry.{is_dir, is_link}
use Rattle.walkdir.specs.Progress.{Progress, Keeps, is_lost}
use Rattle.walkdir.specs.Directory.{HasLeft}
use Rattle.walkdir.specs.Stack.{StandsFor, ancestors, own_entry}
use Rattle.walkdir.specs.Walk.{Walking, Item, IsWalk, ContentsOf, WalkOf}
use Rattle.walkdir.specs.Walk.Entries.{around, enter, root_device}
use Rattle.walkdir.specs.declared.dent.DirEntry.{DirEntry}
use Rattle.walkdir.specs.declared.directory.DirList.{DirList}
use Rattle.walkdir.specs.declared.directory.Place.{Place}

-- ---- if the tree is known

-- a walk's stack is one of this walk, and the root's device is known where it matters
pub record IsIn (walk : Walking) (at : Progress) : Type 0 where
  pub options : at.options ≡ walk.options
  pub order : at.order ≡ walk.order
  pub device : walk.options.same_file_system ≡ true → root_device walk ≡ Some at.device

-- the stack of a walk in progress stands for these items
abbrev pub StandsAt : Walking → Progress → List Item → Type 0
StandsAt walk at items = StandsFor walk at.streams at.stack items

-- what the stack stands for now, it stood for before
abbrev pub StandsBack : Walking → Progress → Progress → Type 0
StandsBack walk old new = (rest : List Item) → StandsAt walk new rest → StandsAt walk old rest

-- the directories stay the same, except for what they have left
abbrev pub StandsAsBefore : Progress → Progress → Type 0
StandsAsBefore old new =
    (ancestors new.stack ≡ ancestors old.stack) × ((walk : Walking) (before : Streams) → Keeps before old → StandsBack walk old new)

-- if the tree is known, this holds of each walk of it whose stack this is
abbrev pub ForEachWalkOnStack : Option State → Progress → (Walking → Type 0) → Type 0
ForEachWalkOnStack state at Holds = IfSome state (λ s. (walk : Walking) → walk.tree ≡ tree_of s → IsIn walk at → Holds walk)

-- if the tree is known, this holds of each walk of it that was made with these options and this order
abbrev pub ForEachWalkMadeSo : Option State → Progress → (Walking → Type 0) → Type 0
ForEachWalkMadeSo state at Holds =
    IfSome state (λ s. (walk : Walking) → walk.tree ≡ tree_of s → walk.options ≡ at.options → walk.order ≡ at.order → Holds walk)

-- these items are the walk of an entry, and then what was to come before
abbrev pub JoinsWalk : Walking → Progress → DirEntry → List Item → Type 0
JoinsWalk walk old entry items =
    (first : List Item) × ((others : List Item) × WalkOf walk (ancestors old.stack) entry first × StandsAt walk old others
    × (items ≡ first ++ others))

-- What is given for an entry, and then what is still to come, are the walk of the entry and then what was to come before.
abbrev pub HandlesEntry : Option State → Progress → DirEntry → Option Item → Progress → Type 0
HandlesEntry state old entry item new =
    ForEachWalkOnStack state old (λ walk. (before : Streams) → Keeps before old → is_lost item ≡ false
    → (rest : List Item) → StandsAt walk new rest → JoinsWalk walk old entry (option_to_list item ++ rest))

-- What is given first, and then what is still to come, is the walk from its root.
abbrev pub BeginsWalk : Option State → Progress → Path → Option Item → Progress → Type 0
BeginsWalk state old root item new =
    ForEachWalkMadeSo state old (λ walk. walk.root ≡ root → (before : Streams) → Keeps before old → is_lost item ≡ false
    → (new.stack ≢ [] → walk.options.same_file_system ≡ true → root_device walk ≡ Some new.device)
    × ((rest : List Item) → StandsAt walk new rest → IsWalk walk (option_to_list item ++ rest)))

-- the innermost directory has nothing left
abbrev pub IsOver : Streams → List DirList → Type 0
IsOver streams [] = ⊥
IsOver streams (list ∷ outer) = HasLeft streams (length outer + 1) list.path list.items []

-- What is drawn from the innermost directory, or its walk, and then what is still to come, was to come before.
abbrev pub DrawsChild : Progress → Option Item → Progress → Type 0
DrawsChild old None new = (before : Streams) → Keeps before old → IsOver new.streams new.stack × ((walk : Walking) → StandsBack walk old new)
DrawsChild old (Some (Ok entry)) new =
    (walk : Walking) (before : Streams) → Keeps before old → (first rest : List Item) → WalkOf walk (ancestors new.stack) entry first
    → StandsAt walk new rest → StandsAt walk old (first ++ rest)
DrawsChild old (Some (Err error)) new =
    (walk : Walking) (before : Streams) → Keeps before old → is_lost (Some (Err error)) ≡ false → (rest : List Item) → StandsAt walk new rest
    → StandsAt walk old (Err error ∷ rest)

-- a directory that is over gives its own entry, if that is given now
abbrev pub LeavesIt : Progress → Option DirEntry → Progress → Type 0
LeavesIt old entry new =
    (walk : Walking) (before : Streams) → walk.options ≡ old.options → Keeps before old → IsOver old.streams old.stack
    → (rest : List Item) → StandsAt walk new rest → StandsAt walk old (map Ok (option_to_list entry) ++ rest)

-- ---- how an entry is handled

-- what a stack with one more directory stands for: the contents of that directory, its entry if that is given after them,
-- and what was to come before
pub record StandsPushed (walk : Walking) (old : Progress) (path : Path) (depth : ℕ) (place : Option Place) (after : Option DirEntry)
    (items : List Item) : Type 0 where
  pub contents : List Item
  pub others : List Item
  pub contains : (directory : DirEntry) → directory.path ≡ path → directory.depth ≡ depth
      → ContentsOf walk ((record { path = path; place = place }) ∷ ancestors old.stack) directory contents
  pub behind : StandsAt walk old others
  pub is : items ≡ contents ++ own_entry walk.options after ++ others

abbrev pub PushesDirectory : Option State → Progress → Path → ℕ → Option Place → Option DirEntry → Progress → Type 0
PushesDirectory state old path depth place after new =
    ForEachWalkMadeSo state old (λ walk. (before : Streams) → Keeps before old
    → (rest : List Item) → StandsAt walk new rest → StandsPushed walk old path depth place after rest)

-- these items are an entered directory with its contents, and then what was to come before
pub record StandsEntered (walk : Walking) (old : Progress) (entry : DirEntry) (place : Option Place) (items : List Item) : Type 0 where
  pub contents : List Item
  pub others : List Item
  pub contains : ContentsOf walk (enter entry place (ancestors old.stack)) entry contents
  pub behind : StandsAt walk old others
  pub is : items ≡ around walk.options entry contents ++ others

-- What is given for an entered directory, or a link at the root, and then what is still to come.
abbrev pub EntersDirectory : Option State → Progress → DirEntry → Option Place → Option Item → Progress → Type 0
EntersDirectory state old entry place item new =
    ForEachWalkMadeSo state old (λ walk. (before : Streams) → Keeps before old → (is_dir entry || is_link entry) ≡ true → is_lost item ≡ false
    → (rest : List Item) → StandsAt walk new rest
    → StandsEntered walk old entry place (option_to_list item ++ rest))
