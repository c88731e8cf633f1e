-- How an entry is handled: what it is taken for, and whether it is entered. No public clause cites this module.
use Rattle.std.specs.Prelude.{◌≡◌, ℕ, ◌==◌, ◌&&◌, ◌||◌, Bool, true, false, not, List, find, Option, Some, None, Result, Ok, Err, IfSome, if◌then◌else◌}
use Rattle.odb_base.specs.Path.{Path}
use Rattle.odb_disk.specs.Tree.{State, tree_of}
use Rattle.odb_disk.specs.Tree.Follow.{Refusal, looked}
use Rattle.odb_disk.specs.Ask.{error_of}
use Rattle.odb_disk.specs.declared.meta.Meta.{Meta}
use Rattle.walkdir.specs.Entry.{is_dir}
use Rattle.walkdir.specs.Error.{io_error, IsFromLoop}
use Rattle.walkdir.specs.Walk.{Walking, Ancestor, Tells, told_at}
use Rattle.walkdir.specs.Walk.Entries.{knows_places, is_root_link, place_of, root_device, same_place, taken_for}
use Rattle.walkdir.specs.declared.builder.Options.{Options}
use Rattle.walkdir.specs.declared.dent.DirEntry.{DirEntry}
use Rattle.walkdir.specs.declared.error.Error.{Error}
use Rattle.walkdir.specs.declared.directory.Entering.{Entering}
use Rattle.walkdir.specs.declared.directory.Entering.TheVariants.{Stays, Enters}
use Rattle.walkdir.specs.declared.directory.Place.{Place}
use Rattle.walkdir.specs.declared.stack.follow.Found.{Found}

-- only a directory is entered, or the target of a link at the root
abbrev pub OnlyEnters : DirEntry → Result Entering Error → Type 0
OnlyEnters entry (Ok (Enters place)) = (is_dir entry || is_root_link entry) ≡ true
OnlyEnters entry (Ok Stays) = Unit {0}
OnlyEnters entry (Err error) = Unit {0}

-- the place of an entry that was found through a link
pub record IsPlaceOf (walk : Walking) (entry : DirEntry) (place : Place) : Type 0 where
  pub meta : Meta
  pub follows : walk.options.follow_links ≡ true
  pub told : looked walk.tree entry.path true ≡ Ok meta
  pub is : place ≡ place_of meta

abbrev pub IsFound : Walking → Found → Type 0
IsFound walk found = IfSome found.place (λ place. IsPlaceOf walk found.entry place)

-- if the tree is known, this holds of each walk of it with these options
abbrev pub ForEachWalkWithOptions : Option State → Options → (Walking → Type 0) → Type 0
ForEachWalkWithOptions state options Holds = IfSome state (λ s. (walk : Walking) → walk.tree ≡ tree_of s → walk.options ≡ options → Holds walk)

-- what an entry is taken for
abbrev pub FollowsEntry : Walking → List Ancestor → DirEntry → Result Found Error → Type 0
FollowsEntry walk above entry (Ok found) = (taken_for walk above entry ≡ Ok found.entry) × IsFound walk found
FollowsEntry walk above entry (Err error) = Tells {A = DirEntry} entry.depth entry.path (Err error) (taken_for walk above entry)

abbrev pub Follows : Option State → Options → List Ancestor → DirEntry → Result Found Error → Type 0
Follows state options above entry result = ForEachWalkWithOptions state options (λ walk. FollowsEntry walk above entry result)

-- the nearest of the directories above that is at a place
abbrev pub standing_at : List Ancestor → Place → Option Ancestor
standing_at above place = find (λ ancestor. same_place place ancestor.place) above

abbrev pub ChecksLoop : ℕ → Path → Option Ancestor → Result (Unit {0}) Error → Type 0
ChecksLoop depth child found (Ok done) = found ≡ None
ChecksLoop depth child found (Err error) = (ancestor : Ancestor) × (found ≡ Some ancestor) × IsFromLoop depth ancestor.path child error

-- the place of a directory, if devices or loops matter
abbrev pub told_place : DirEntry → Result Meta Refusal → Result (Option Place) Error
told_place entry (Ok meta) = Ok (Some (place_of meta))
told_place entry (Err refusal) = Err (io_error entry.depth entry.path (error_of refusal))

abbrev pub wanted_place : Walking → DirEntry → Result (Option Place) Error
wanted_place walk entry =
    if knows_places walk.options then told_place entry (looked walk.tree entry.path true) else Ok None

abbrev pub FindsPlace : Option State → Options → Found → Result (Option Place) Error → Type 0
FindsPlace state options found result =
    ForEachWalkWithOptions state options (λ walk. IsFound walk found
    → Tells found.entry.depth found.entry.path result (wanted_place walk found.entry))

-- whether a directory at this place may be entered, by the device of the root
abbrev pub is_at_device : ℕ → Option Place → Bool
is_at_device device None = false
is_at_device device (Some place) = place.dev == device

abbrev pub may_enter : Options → ℕ → DirEntry → Option Place → Bool
may_enter options device entry place = not (options.same_file_system && not (entry.depth == 0)) || is_at_device device place

abbrev pub KnowsDevice : Walking → ℕ → Type 0
KnowsDevice walk device = walk.options.same_file_system ≡ true → root_device walk ≡ Some device

-- whether an entry is entered, by this rule of the walk
abbrev pub EntersBy : (Walking → DirEntry → Result Entering Error) → Option State → Options → ℕ → Found → Result Entering Error → Type 0
EntersBy rule state options device found result =
    ForEachWalkWithOptions state options (λ walk. KnowsDevice walk device → IsFound walk found
    → Tells found.entry.depth found.entry.path result (rule walk found.entry))

-- the device of the root, if the walk stays on it
abbrev pub FoundDevice : Option State → Options → Path → ℕ → Type 0
FoundDevice state options root device =
    IfSome state (λ s. options.same_file_system ≡ true → (meta : Meta) × (looked (tree_of s) root true ≡ Ok meta) × (meta.dev ≡ device))

-- the device of the root, or why it couldn't be looked up
abbrev pub FindsDevice : Option State → Options → Path → Result ℕ Error → Type 0
FindsDevice state options root (Ok device) = FoundDevice state options root device
FindsDevice state options root (Err error) =
    (options.same_file_system ≡ true) × IfSome state (λ s. Tells {A = Meta} 0 root (Err error) (told_at 0 root (looked (tree_of s) root true)))
