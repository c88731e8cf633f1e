-- The stack of a walk, its innermost directory first: the streams that it has open, what it stands for, and how much of
-- it is left.
use Rattle.std.specs.Prelude.{◌≡◌, ℕ, ◌+◌, ◌-◌, ◌*◌, ◌^◌, List, [], ◌∷◌, ◌++◌, length, map, Option, Some, None}
use Rattle.std.specs.List.{filter_map}
use Rattle.odb_disk.specs.Streams.{Streams}
use Rattle.walkdir.specs.Walk.{Walking, Item, Ancestor, WalksOf}
use Rattle.walkdir.specs.Walk.Entries.{shown}
use Rattle.walkdir.specs.declared.builder.Options.{Options}
use Rattle.walkdir.specs.declared.dent.DirEntry.{DirEntry}
use Rattle.walkdir.specs.declared.directory.DirList.{DirList}
use Rattle.walkdir.specs.Directory.{HasLeft, left_in, many, stream_in}

-- ---- the streams of a stack

abbrev pub own_streams : List DirList → List ℕ
own_streams stack = filter_map (λ list. stream_in list.items) stack

-- ---- what is still to come

abbrev pub ancestors : List DirList → List Ancestor
ancestors stack = map (λ list. record { path = list.path; place = list.place }) stack

-- a directory's own entry, if it is given after its contents
abbrev pub own_entry : Options → Option DirEntry → List Item
own_entry options None = []
own_entry options (Some entry) = shown options entry

-- What a stack stands for: the walks of the children that the innermost directory still has, its own entry if that is
-- given after them, and then what the directories above it stand for.
pub data StandsFor (walk : Walking) (streams : Streams) : List DirList → List Item → Type 0 where
  Nothing : StandsFor walk streams [] []
  Within : {list : DirList} {outer : List DirList} {items : List Item} (children here others : List Item)
      → HasLeft streams (length outer + 1) list.path list.items children
      → WalksOf walk (ancestors (list ∷ outer)) children here → StandsFor walk streams outer others
      → items ≡ here ++ own_entry walk.options list.after ++ others
      → StandsFor walk streams (list ∷ outer) items

-- ---- how much is left

-- the weight of a directory of this depth: that of one further in, times more than its greatest number of children, so
-- that a child that is taken outweighs the directory that it may be
unfoldable pub weight : ℕ → ℕ → ℕ
weight max_depth depth = many ^ (max_depth - depth)

unfoldable pub work_in : ℕ → Streams → List DirList → ℕ
work_in max_depth streams [] = 0
work_in max_depth streams (list ∷ outer) = (left_in streams list.items + 1) * weight max_depth (length outer) + work_in max_depth streams outer
