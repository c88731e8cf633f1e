-- The directories that a walk entered above a place, which follow from the tree, the root and the place.
use Rattle.std.specs.Prelude.{◌≡◌, ℕ, ◌+◌, false, List, [], ◌∷◌, length, Option, Ok}
use Rattle.odb_base.specs.Path.{Path}
use Rattle.odb_disk.specs.Tree.Follow.{looked}
use Rattle.odb_disk.specs.declared.meta.Meta.{Meta}
use Rattle.walkdir.specs.Walk.{Walking, Ancestor}
use Rattle.walkdir.specs.Walk.Entries.{enter, entering, entry_by, taken_for}
use Rattle.walkdir.specs.Within.{IsChild}
use Rattle.walkdir.specs.declared.dent.DirEntry.{DirEntry}
use Rattle.walkdir.specs.declared.directory.Entering.TheVariants.{Enters}
use Rattle.walkdir.specs.declared.directory.Place.{Place}

-- an entry is what the walk's root is taken for
pub record IsRoot (walk : Walking) (entry : DirEntry) : Type 0 where
  pub meta : Meta
  pub looks : looked walk.tree walk.root false ≡ Ok meta
  pub taken : taken_for walk [] (entry_by walk.root false 0 meta) ≡ Ok entry

-- A walk enters a directory at this place, which is None if the walk needn't know it. At depth 0 it is the root.
pub record IsDirectory (walk : Walking) (directory : DirEntry) (place : Option Place) : Type 0 where
  pub root : directory.depth ≡ 0 → IsRoot walk directory
  pub enters : entering walk directory ≡ Ok (Enters place)

-- The directories above a path at a depth, the innermost first: none above the root, and else the directory that contains the
-- path, and those above that.
pub data AreAbove (walk : Walking) : Path → ℕ → List Ancestor → Type 0 where
  AtRoot : AreAbove walk walk.root 0 []
  Below : {path : Path} {above : List Ancestor} (directory : DirEntry) (place : Option Place) → IsDirectory walk directory place
      → IsChild directory.path path
      → AreAbove walk directory.path directory.depth above → AreAbove walk path (directory.depth + 1) (enter directory place above)

-- one of them, with those above it
pub record IsEnteredAt (walk : Walking) (ancestor : Ancestor) (above : List Ancestor) : Type 0 where
  pub directory : DirEntry
  pub path : directory.path ≡ ancestor.path
  pub depth : directory.depth ≡ length above
  pub is : IsDirectory walk directory ancestor.place
  pub rest : AreAbove walk directory.path directory.depth above

-- directories that a walk is in, the innermost first
abbrev pub AreEntered : Walking → List Ancestor → Type 0
AreEntered walk [] = Unit {0}
AreEntered walk (ancestor ∷ above) = IsEnteredAt walk ancestor above
