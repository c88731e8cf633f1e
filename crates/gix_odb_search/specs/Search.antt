-- The search for an object in indices that are loaded.
use Rattle.std.specs.Prelude.{ℕ, ◌++◌, ◌==◌, ◌&&◌, Bool, List, [], ◌∷◌, slice_get, Option, Some, None, Result, Ok, Err, if◌then◌else◌}
use Rattle.std.specs.List.{list_any}
use Rattle.odb_base.specs.Path.{Path}
use Rattle.gix_pack_read.specs.FileBytes.{FileBytes}
use Rattle.gix_odb_events.specs.OnDiskFile.{loaded}
use Rattle.gix_odb_events.specs.PackFiles.{PackFile, same_path}
use Rattle.gix_odb_events.specs.declared.loaded.LoadedIndex.{LoadedIndex}
use Rattle.gix_odb_events.specs.declared.loaded.LoadedIndex.TheVariants.{Single, Multi}
use Rattle.gix_odb_events.specs.declared.loaded.SnapshotIndex.{SnapshotIndex}
use Rattle.gix_odb_search.specs.Goal.{given_by}
use Rattle.gix_odb_search.specs.Spot.{spot_in}
use Rattle.gix_odb_search.specs.declared.goal.Error.{Error}
use Rattle.gix_odb_search.specs.declared.goal.Found.{Found}
use Rattle.gix_odb_search.specs.declared.goal.Found.TheVariants as found
use Rattle.gix_odb_search.specs.declared.goal.Goal.{Goal}
use Rattle.gix_object.specs.declared.want.Want.{Want}
use Rattle.gix_object.specs.declared.want.Want.TheVariants.{Object, Header, Presence}
use Rattle.gix_odb_search.specs.declared.search.AbsentFile.{AbsentFile}
use Rattle.gix_odb_search.specs.declared.search.Notes.{Notes}
use Rattle.gix_odb_search.specs.declared.search.Sought.{Sought}
use Rattle.gix_odb_search.specs.declared.search.Sought.TheVariants.{Nowhere, Finds, Fails, Wants}
use Rattle.gix_odb_search.specs.declared.spot.Spot.{Spot}

-- a pack of a slot was absent when it was read
abbrev pub was_absent : List AbsentFile → (slot : ℕ) → Path → Bool
was_absent absent slot path = list_any (λ file. file.slot == slot && same_path file.path path) absent

abbrev pub with_absent : Notes → (slot : ℕ) → Path → Notes
with_absent notes slot path = record notes { absent = notes.absent ++ (record { slot = slot; path = path }) ∷ [] }

-- ---- one index

abbrev pub given_or_not : Result Found Error → Sought
given_or_not (Ok found) = Finds found
given_or_not (Err error) = Fails error

-- only a multi-pack index has several packs, and says which one
abbrev pub place_in : LoadedIndex → Spot → Option ℕ
place_in (Single file) spot = None
place_in (Multi bytes) spot = Some spot.place

-- a pack that is loaded gives the object or an error. Another one is to be read, unless it was absent
abbrev pub in_file : Goal → List AbsentFile → SnapshotIndex → Spot → Path → Option FileBytes → Sought
in_file goal absent index spot path (Some file) = given_or_not (given_by goal.want goal.limit file spot.offset)
in_file goal absent index spot path None =
    if was_absent absent index.slot path then Nowhere
    else Wants (record { slot = index.slot; place = place_in index.index spot; path = path; offset = spot.offset })

abbrev pub in_pack : Goal → List AbsentFile → SnapshotIndex → Spot → PackFile → Sought
in_pack goal absent index spot pack = in_file goal absent index spot pack.path (loaded pack.state)

abbrev pub in_packs : Goal → List AbsentFile → SnapshotIndex → Spot → Option PackFile → Sought
in_packs goal absent index spot None = Nowhere
in_packs goal absent index spot (Some pack) = in_pack goal absent index spot pack

-- for presence the row of an index is enough
abbrev pub at_spot : Want → Goal → List AbsentFile → SnapshotIndex → Option Spot → Sought
at_spot wanted goal absent index None = Nowhere
at_spot Presence goal absent index (Some spot) = Finds found.Presence
at_spot Object goal absent index (Some spot) = in_packs goal absent index spot (slice_get index.packs spot.place)
at_spot Header goal absent index (Some spot) = in_packs goal absent index spot (slice_get index.packs spot.place)

abbrev pub tried : Goal → List AbsentFile → SnapshotIndex → Sought
tried goal absent index = at_spot goal.want goal absent index (spot_in index.index goal.id)

-- ---- indices, one after another

-- the first search that finds something
abbrev pub first_of : Sought → Sought → Sought
first_of Nowhere further = further
first_of search further = search

abbrev pub search : Goal → List AbsentFile → List SnapshotIndex → Sought
search goal absent [] = Nowhere
search goal absent (index ∷ rest) = first_of (tried goal absent index) (search goal absent rest)

-- what is left after a search that found something, or after the other one
abbrev pub left_by : Sought → (rest further : List SnapshotIndex) → List SnapshotIndex
left_by Nowhere rest further = further
left_by search rest further = rest

-- what is left of the indices after the one at which the search ends
abbrev pub rest_behind : Goal → List AbsentFile → List SnapshotIndex → List SnapshotIndex
rest_behind goal absent [] = []
rest_behind goal absent (index ∷ rest) = left_by (tried goal absent index) rest (rest_behind goal absent rest)
