-- What trying loaded indices results in, where the result of each of them is known.
use Rattle.std.proofs.Common.{Bool, true, false, cond, List, [], ◌∷◌, All, None}
use Rattle.std.proofs.lemmas.List.Elements.{All-head, All-tail}
use Rattle.odb_base.specs.Path.{Path}
use Rattle.gix_odb_events.specs.declared.loaded.SnapshotIndex.{SnapshotIndex}
use Rattle.gix_odb_search.specs.Search.{first_of, in_file, left_by, place_in, rest_behind, search, tried, was_absent}
use Rattle.gix_odb_search.specs.TryOrder.{at, at_search, at_todo}
use Rattle.gix_odb_search.specs.declared.goal.Error.{Error}
use Rattle.gix_odb_search.specs.declared.goal.Found.{Found}
use Rattle.gix_odb_search.specs.declared.goal.Goal.{Goal}
use Rattle.gix_odb_search.specs.declared.search.AbsentFile.{AbsentFile}
use Rattle.gix_odb_search.specs.declared.search.Sought.{Sought}
use Rattle.gix_odb_search.specs.declared.search.Sought.TheVariants.{Nowhere, Finds, Fails, Wants}
use Rattle.gix_odb_search.specs.declared.search.WantedPack.{WantedPack}
use Rattle.gix_odb_search.specs.declared.spot.Spot.{Spot}
use Rattle.gix_odb_search.specs.declared.trier.Ahead.{Ahead}
use Rattle.gix_odb_search.specs.declared.trier.Stage.TheVariants as stages
use Rattle.gix_odb_search.specs.declared.trier.Tried.{Tried}
use Rattle.gix_odb_search.specs.declared.trier.Tried.TheVariants as ends

-- Here `IsHit`, `IsBad` and `IsWanted` say what holds of an object that is found, of an error, and of a pack that is to be read.
module _ (IsHit : Found → Type 0) (IsBad : Error → Type 0) (IsWanted : WantedPack → Type 0) where
  -- what holds of the result of a search
  abbrev pub Comes : Sought → Type 0
  Comes Nowhere = Unit {0}
  Comes (Finds found) = IsHit found
  Comes (Fails error) = IsBad error
  Comes (Wants pack) = IsWanted pack

  skipped_comes : (pack : WantedPack) → IsWanted pack → (skipped : Bool) → Comes (cond skipped Nowhere (Wants pack))
  skipped_comes pack wanted true = tt
  skipped_comes pack wanted false = wanted

  -- a pack that isn't loaded is wanted, unless it was absent
  pub unloaded_comes : (goal : Goal) (absent : List AbsentFile) (index : SnapshotIndex) (spot : Spot) (path : Path)
      → IsWanted (record { slot = index.slot; place = place_in index.index spot; path = path; offset = spot.offset })
      → Comes (in_file goal absent index spot path None)
  unloaded_comes goal absent index spot path wanted =
      skipped_comes (record { slot = index.slot; place = place_in index.index spot; path = path; offset = spot.offset }) wanted
      (was_absent absent index.slot path)

  -- the work goes on after a search that found nothing, and ends or reads a pack after another
  pub search_ends : (P : Tried → Type 0) (goal : Goal) (ahead : Ahead) (sought : Sought) → Comes sought → P (at_todo goal ahead ahead.todo)
      → ((found : Found) → IsHit found → P (ends.Hit found))
      → ((error : Error) → IsBad error → P (ends.Bad error))
      → ((pack : WantedPack) → IsWanted pack → P (at goal ahead (stages.ReadingPack pack)))
      → P (at_search goal ahead sought)
  search_ends P goal ahead Nowhere here further hit bad wanted = further
  search_ends P goal ahead (Finds found) here further hit bad wanted = hit found here
  search_ends P goal ahead (Fails error) here further hit bad wanted = bad error here
  search_ends P goal ahead (Wants pack) here further hit bad wanted = wanted pack here

  first_comes : (one other : Sought) → Comes one → Comes other → Comes (first_of one other)
  first_comes Nowhere other first further = further
  first_comes (Finds found) other first further = first
  first_comes (Fails error) other first further = first
  first_comes (Wants pack) other first further = first

  -- the result of a search is that of one of the indices
  pub search_comes : (goal : Goal) (absent : List AbsentFile) (P : SnapshotIndex → Type 0)
      → ((index : SnapshotIndex) → P index → Comes (tried goal absent index))
      → (indices : List SnapshotIndex)
      → All P indices
      → Comes (search goal absent indices)
  search_comes goal absent P each [] all = tt
  search_comes goal absent P each (index ∷ rest) all =
      first_comes (tried goal absent index) (search goal absent rest) (each index (All-head P index rest all))
      (search_comes goal absent P each rest (All-tail P index rest all))

all_left : (P : SnapshotIndex → Type 0) (sought : Sought) (rest further : List SnapshotIndex) → All P rest → All P further → All P (left_by sought rest further)
all_left P Nowhere rest further first other = other
all_left P (Finds found) rest further first other = first
all_left P (Fails error) rest further first other = first
all_left P (Wants pack) rest further first other = first

-- what holds of each index holds of those that a search leaves
pub all_rest_behind : (goal : Goal) (absent : List AbsentFile) (P : SnapshotIndex → Type 0) (indices : List SnapshotIndex) → All P indices
    → All P (rest_behind goal absent indices)
all_rest_behind goal absent P [] all = all
all_rest_behind goal absent P (index ∷ rest) all =
    let more = All-tail P index rest all in
    all_left P (tried goal absent index) rest (rest_behind goal absent rest) more (all_rest_behind goal absent P rest more)
