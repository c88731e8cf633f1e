-- What a skip drops of what was still to come.
use Rattle.std.specs.Prelude.{◌≡◌, ◌+◌, MatchBool, List, [], ◌∷◌, ◌++◌, length, if◌then◌else◌}
use Rattle.odb_disk.specs.Streams.{Streams}
use Rattle.walkdir.specs.Progress.{Progress}
use Rattle.walkdir.specs.Directory.{HasLeft, is_skipped}
use Rattle.walkdir.specs.Stack.{StandsFor, ancestors, own_entry}
use Rattle.walkdir.specs.Walk.{Walking, Item, WalksOf}
use Rattle.walkdir.specs.declared.builder.Options.{Options}
use Rattle.walkdir.specs.declared.directory.DirList.{DirList}

-- the entries of the directories that are skipped already, further in than the one that a skip finds
abbrev pub own_first : Options → List DirList → List Item
own_first options [] = []
own_first options (list ∷ outer) = if is_skipped list.items then own_entry options list.after ++ own_first options outer else []

-- the walks of the children that a directory still has
pub record AreLeft (walk : Walking) (streams : Streams) (list : DirList) (outer : List DirList) (items : List Item) : Type 0 where
  pub children : List Item
  pub left : HasLeft streams (length outer + 1) list.path list.items children
  pub walks : WalksOf walk (ancestors (list ∷ outer)) children items

-- what a skip drops: the walks of the children that are left in the innermost directory that isn't skipped yet
abbrev pub IsDropped : Walking → Streams → List DirList → List Item → Type 0
IsDropped walk streams [] dropped = dropped ≡ []
IsDropped walk streams (list ∷ outer) dropped =
    MatchBool (is_skipped list.items) (IsDropped walk streams outer dropped) (AreLeft walk streams list outer dropped)

-- What is still to come after a skip was to come before: something was dropped, and whatever may be dropped was in
-- between.
pub record StoodFor (first : List Item) (Drops Stood : List Item → Type 0) (items : List Item) : Type 0 where
  pub behind : List Item
  pub is : items ≡ first ++ behind
  pub some : (dropped : List Item) × Drops dropped
  pub stood : (dropped : List Item) → Drops dropped → Stood (first ++ dropped ++ behind)

-- What was to come before a skip is still to come after it, except what is dropped.
pub record LeavesAll (first : List Item) (Drops Stands : List Item → Type 0) (items : List Item) : Type 0 where
  pub dropped : List Item
  pub behind : List Item
  pub is : items ≡ first ++ dropped ++ behind
  pub drops : Drops dropped
  pub stands : Stands (first ++ behind)

-- what a walk stands for after a skip, it stood for before, with what was dropped
abbrev pub SkipDrops : Walking → Progress → Progress → Type 0
SkipDrops walk old new =
    (rest : List Item) → StandsFor walk new.streams new.stack rest
    → StoodFor (own_first walk.options old.stack) (IsDropped walk old.streams old.stack) (StandsFor walk old.streams old.stack) rest

-- what a walk stood for before a skip, it stands for after it, without what was dropped
abbrev pub SkipLeaves : Walking → Progress → Progress → Type 0
SkipLeaves walk old new =
    (items : List Item) → StandsFor walk old.streams old.stack items
    → LeavesAll (own_first walk.options old.stack) (IsDropped walk old.streams old.stack) (StandsFor walk new.streams new.stack) items
