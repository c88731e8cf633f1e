-- What the parts of a turn say of a directory that is given before its contents. No public clause cites this module.
use Rattle.std.specs.Prelude.{◌≡◌, ℕ, false, [], Option, Ok}
use Rattle.odb_base.specs.Path.{Path}
use Rattle.odb_disk.specs.Tree.{State}
use Rattle.odb_disk.specs.Tree.Follow.{looked}
use Rattle.odb_disk.specs.declared.meta.Meta.{Meta}
use Rattle.walkdir.specs.Above.{AreEntered}
use Rattle.walkdir.specs.Entered.{HoldsContents}
use Rattle.walkdir.specs.Progress.{Progress, TellsEntered, is_lost}
use Rattle.walkdir.specs.Stack.{ancestors}
use Rattle.walkdir.specs.Turns.Stands.{ForEachWalkMadeSo, ForEachWalkOnStack}
use Rattle.walkdir.specs.Walk.{Walking, Item}
use Rattle.walkdir.specs.Walk.Entries.{entering, entry_by}
use Rattle.walkdir.specs.declared.dent.DirEntry.{DirEntry}
use Rattle.walkdir.specs.declared.directory.Entering.TheVariants.{Enters}
use Rattle.walkdir.specs.declared.directory.Place.{Place}

-- an entry is the root, by a stat of it
abbrev pub IsRootEntry : Walking → DirEntry → Type 0
IsRootEntry walk entry = (meta : Meta) × (looked walk.tree walk.root false ≡ Ok meta) × (entry ≡ entry_by walk.root false 0 meta)

-- a directory at this path and depth is put on the stack with all that it contains
abbrev pub PushesContents : Option State → Progress → Path → ℕ → Option Place → Progress → Type 0
PushesContents state old path depth place new =
    ForEachWalkMadeSo state old (λ walk. (entry : DirEntry) → entry.path ≡ path → entry.depth ≡ depth
    → HoldsContents walk entry place new.streams new.stack)

-- an entry that is entered, as the walk's rules say
abbrev pub EntersTelling : Option State → Progress → DirEntry → Option Place → Option Item → Progress → Type 0
EntersTelling state old entry place item new =
    ForEachWalkMadeSo state old (λ walk. entering walk entry ≡ Ok (Enters place) → TellsEntered walk item new)

-- an entry that is handled
abbrev pub HandlesTelling : Option State → Progress → Option Item → Progress → Type 0
HandlesTelling state old item new = ForEachWalkOnStack state old (λ walk. TellsEntered walk item new)

-- the directories that the walk is in after an entry was handled, or the root, if nothing is above it
abbrev pub HandlesAbove : Option State → Progress → DirEntry → Option Item → Progress → Type 0
HandlesAbove state old entry item new =
    ForEachWalkOnStack state old (λ walk. is_lost item ≡ false → (old.stack ≡ [] → IsRootEntry walk entry) → AreEntered walk (ancestors old.stack)
    → AreEntered walk (ancestors new.stack))

-- the directories that the walk is in after the root was handled
abbrev pub BeginsAbove : Option State → Progress → Path → Option Item → Progress → Type 0
BeginsAbove state old root item new =
    ForEachWalkMadeSo state old (λ walk. walk.root ≡ root → is_lost item ≡ false → AreEntered walk (ancestors new.stack))

-- a walk begins at its root
abbrev pub BeginsTelling : Option State → Progress → Path → Option Item → Progress → Type 0
BeginsTelling state old root item new =
    ForEachWalkMadeSo state old (λ walk. walk.root ≡ root → TellsEntered walk item new)
