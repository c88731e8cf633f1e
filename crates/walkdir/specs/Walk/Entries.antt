-- The rules for one entry: what it is taken for, whether it is entered, and whether it is given.
use Rattle.std.specs.Prelude.{ℕ, ◌==◌, ◌&&◌, ◌||◌, Bool, true, false, not, nat_lt, List, [], ◌∷◌, ◌++◌, find, Option, Some, None, Result, Ok, Err, if◌then◌else◌}
use Rattle.std.specs.Option.{option_map}
use Rattle.std.specs.Result.{result_ok}
use Rattle.odb_base.specs.Path.{Path}
use Rattle.odb_disk.specs.Tree.Follow.{Refusal, looked}
use Rattle.odb_disk.specs.Ask.{error_of}
use Rattle.odb_disk.specs.declared.meta.Meta.{Meta}
use Rattle.walkdir.specs.Entry.{entry_at, is_dir, is_dir_kind, is_link}
use Rattle.walkdir.specs.Error.{io_error, loop_error}
use Rattle.walkdir.specs.Options.{is_given}
use Rattle.walkdir.specs.declared.builder.Options.{Options}
use Rattle.walkdir.specs.declared.dent.DirEntry.{DirEntry}
use Rattle.walkdir.specs.declared.error.Error.{Error}
use Rattle.walkdir.specs.declared.directory.Place.{Place}
use Rattle.walkdir.specs.declared.directory.Entering.{Entering}
use Rattle.walkdir.specs.declared.directory.Entering.TheVariants.{Stays, Enters}
use Rattle.walkdir.specs.Walk.Given.{Ancestor, Item, Walking}

-- ---- rule: what an entry is taken for

abbrev pub place_of : Meta → Place
place_of meta = record { dev = meta.dev; ino = meta.ino }

-- an entry from the result of a stat
abbrev pub entry_by : Path → Bool → ℕ → Meta → DirEntry
entry_by path followed depth meta = entry_at path meta.kind followed depth meta.ino

abbrev pub same_place : Place → Option Place → Bool
same_place place None = false
same_place place (Some other) = (place.dev == other.dev) && (place.ino == other.ino)

-- the nearest of the directories above that is at a place, if a directory is found there
abbrev pub loop_at : List Ancestor → Meta → Option Ancestor
loop_at above meta = if is_dir_kind meta.kind then find (λ ancestor. same_place (place_of meta) ancestor.place) above else None

abbrev pub unless_loop : DirEntry → Meta → Option Ancestor → Result DirEntry Error
unless_loop entry meta None = Ok (entry_by entry.path true entry.depth meta)
unless_loop entry meta (Some ancestor) = Err (loop_error entry.depth ancestor.path entry.path)

abbrev pub through_link : List Ancestor → DirEntry → Result Meta Refusal → Result DirEntry Error
through_link above entry (Err refusal) = Err (io_error entry.depth entry.path (error_of refusal))
through_link above entry (Ok meta) = unless_loop entry meta (loop_at above meta)

-- If links are followed, the target of a link is statted: a failure is an error in its place, and so is a directory that
-- the walk is in.
unfoldable pub taken_for : Walking → List Ancestor → DirEntry → Result DirEntry Error
taken_for walk above entry =
    if walk.options.follow_links && is_link entry then through_link above entry (looked walk.tree entry.path true) else Ok entry

-- ---- rule: which directories are entered

abbrev pub device_at : Result Meta Refusal → Option ℕ
device_at told = option_map (λ meta. meta.dev) (result_ok told)

-- the device of the root, following links
abbrev pub root_device : Walking → Option ℕ
root_device walk = device_at (looked walk.tree walk.root true)

abbrev pub is_device : Option ℕ → ℕ → Bool
is_device None dev = false
is_device (Some root) dev = root == dev

-- A directory is entered, unless the walk stays on the root's device and this is another one.
abbrev pub on_device : Walking → DirEntry → Meta → Entering
on_device walk entry meta =
    if walk.options.same_file_system && not (entry.depth == 0) && not (is_device (root_device walk) meta.dev) then Stays
    else Enters (Some (place_of meta))

abbrev pub enters_at : Walking → DirEntry → Result Meta Refusal → Result Entering Error
enters_at walk entry (Err refusal) = Err (io_error entry.depth entry.path (error_of refusal))
enters_at walk entry (Ok meta) = Ok (on_device walk entry meta)

-- whether the places of directories matter: for loops, or for devices
abbrev pub knows_places : Options → Bool
knows_places options = options.follow_links || options.same_file_system

-- if places matter, it is statted first
abbrev pub enters_directory : Walking → DirEntry → Result Entering Error
enters_directory walk entry =
    if knows_places walk.options then enters_at walk entry (looked walk.tree entry.path true) else Ok (Enters None)

-- The target of a root link that isn't followed is statted: a directory is entered.
abbrev pub enters_root_link : DirEntry → Result Meta Refusal → Result Entering Error
enters_root_link entry (Err refusal) = Err (io_error entry.depth entry.path (error_of refusal))
enters_root_link entry (Ok meta) = Ok (if is_dir_kind meta.kind then Enters (Some (place_of meta)) else Stays)

abbrev pub is_root_link : DirEntry → Bool
is_root_link entry = is_link entry && (entry.depth == 0)

-- what is no directory is entered if it is a link at the root that the walk goes through
abbrev pub enters_leaf : Walking → DirEntry → Result Entering Error
enters_leaf walk entry =
    if is_root_link entry && walk.options.follow_root_links then enters_root_link entry (looked walk.tree entry.path true) else Ok Stays

unfoldable pub entering : Walking → DirEntry → Result Entering Error
entering walk entry =
    if is_dir entry then enters_directory walk entry else enters_leaf walk entry

-- ---- rule: which entries are statted

-- A stat may fail. What is statted: a link that is followed, a directory if devices or loops matter, and a link at the root
-- that the walk goes through.
abbrev pub is_looked_at : Options → DirEntry → Bool
is_looked_at options entry =
    (options.follow_links && is_link entry) || ((knows_places options && is_dir entry) || (is_root_link entry && options.follow_root_links))

-- ---- rule: which entries are given, and where

abbrev pub shown : Options → DirEntry → List Item
shown options entry = if is_given options entry.depth then Ok entry ∷ [] else []

-- a root link that isn't followed is given before its contents in any case
abbrev pub comes_after : Options → DirEntry → Bool
comes_after options entry = options.contents_first && not (is_link entry)

-- an entry before its contents or after them
abbrev pub around : Options → DirEntry → List Item → List Item
around options entry contents = if comes_after options entry then contents ++ shown options entry else shown options entry ++ contents

-- ---- the walk

abbrev pub below_greatest : Walking → DirEntry → Bool
below_greatest walk entry = nat_lt entry.depth walk.options.max_depth

abbrev pub enter : DirEntry → Option Place → List Ancestor → List Ancestor
enter entry place above = record { path = entry.path; place = place } ∷ above
