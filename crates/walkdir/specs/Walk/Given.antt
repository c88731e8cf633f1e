-- What a walk is made of, and what it gives at one place.
use Rattle.std.specs.Prelude.{Option, Result}
use Rattle.std.specs.declared.cmp.Ordering.{Ordering}
use Rattle.odb_base.specs.Path.{Path}
use Rattle.odb_disk.specs.Tree.{Tree}
use Rattle.walkdir.specs.declared.builder.Options.{Options}
use Rattle.walkdir.specs.declared.dent.DirEntry.{DirEntry}
use Rattle.walkdir.specs.declared.error.Error.{Error}
use Rattle.walkdir.specs.declared.directory.Place.{Place}

-- an order of the entries of a directory
abbrev pub Order : Type 0
Order = DirEntry → DirEntry → Ordering

-- a walk: its tree, its root, its options, and the order of entries if they are sorted
pub record Walking : Type 0 where
  pub tree : Tree
  pub root : Path
  pub options : Options
  pub order : Option Order

-- what a walk gives at one place
abbrev pub Item : Type 0
Item = Result DirEntry Error

-- a directory that was entered, and its place, if the walk has to know it
pub record Ancestor : Type 0 where
  pub path : Path
  pub place : Option Place
