-- What is known of a directory that a walk gives before its contents: whether it was entered, and what it contains then.
use Rattle.std.specs.Prelude.{◌≡◌, ◌+◌, true, false, List, [], ◌∷◌, length, Option, None, Ok}
use Rattle.odb_base.specs.Path.{Path}
use Rattle.odb_disk.specs.Streams.{Streams}
use Rattle.walkdir.specs.Entry.{is_dir}
use Rattle.walkdir.specs.Directory.{HasLeft, is_skipped}
use Rattle.walkdir.specs.Stack.{ancestors}
use Rattle.walkdir.specs.Walk.{Walking, ContentsOf, Item, WalksOf}
use Rattle.walkdir.specs.Walk.Entries.{enter, entering}
use Rattle.walkdir.specs.declared.dent.DirEntry.{DirEntry}
use Rattle.walkdir.specs.declared.directory.DirList.{DirList}
use Rattle.walkdir.specs.declared.directory.Entering.TheVariants.{Stays, Enters}
use Rattle.walkdir.specs.declared.directory.Place.{Place}

-- a directory that would be given before its contents isn't entered
abbrev pub StaysOut : Walking → DirEntry → Type 0
StaysOut walk entry = is_dir entry ≡ true → walk.options.contents_first ≡ false → entering walk entry ≡ Ok Stays

-- The innermost directory isn't skipped, and the walks of the children that it has left are what this entry contains.
abbrev pub HoldsContents : Walking → DirEntry → Option Place → Streams → List DirList → Type 0
HoldsContents walk entry place streams [] = ⊥
HoldsContents walk entry place streams (list ∷ outer) =
    (is_skipped list.items ≡ false)
    × ((children here : List Item) → HasLeft streams (length outer + 1) list.path list.items children
    → WalksOf walk (ancestors (list ∷ outer)) children here → ContentsOf walk (enter entry place (ancestors outer)) entry here)

-- An entry was entered and is given before its contents, which are still to come in full.
pub record IsEntered (walk : Walking) (entry : DirEntry) (start : Option Path) (streams : Streams) (stack : List DirList) : Type 0 where
  pub place : Option Place
  pub enters : entering walk entry ≡ Ok (Enters place)
  pub first : walk.options.contents_first ≡ false
  pub begun : start ≡ None
  pub holds : HoldsContents walk entry place streams stack
