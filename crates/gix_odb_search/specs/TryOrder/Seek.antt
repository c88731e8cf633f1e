-- How the search for an object goes on among the indices of a list.
use Rattle.std.specs.Prelude.{List, [], ◌∷◌}
use Rattle.gix_odb_events.specs.declared.loaded.Todo.{Todo}
use Rattle.gix_odb_search.specs.LoadOrder.{place_of}
use Rattle.gix_odb_search.specs.Search.{rest_behind, search}
use Rattle.gix_odb_search.specs.declared.goal.Goal.{Goal}
use Rattle.gix_odb_search.specs.declared.index_loader.IndexLoader.TheVariants.{Reading}
use Rattle.gix_odb_search.specs.declared.search.Sought.{Sought}
use Rattle.gix_odb_search.specs.declared.search.Sought.TheVariants as searches
use Rattle.gix_odb_search.specs.declared.trier.Ahead.{Ahead}
use Rattle.gix_odb_search.specs.declared.trier.Stage.{Stage}
use Rattle.gix_odb_search.specs.declared.trier.Stage.TheVariants as stages
use Rattle.gix_odb_search.specs.declared.trier.Tried.{Tried}
use Rattle.gix_odb_search.specs.declared.trier.Tried.TheVariants as ends

abbrev pub at : Goal → Ahead → Stage → Tried
at goal ahead stage = ends.More (record { goal = goal; ahead = ahead; stage = stage })

-- the next index that is still to be loaded is loaded; where there is none, no index led to the object
abbrev pub at_todo : Goal → Ahead → List Todo → Tried
at_todo goal ahead [] = ends.Missed ahead.notes
at_todo goal ahead (todo ∷ rest) = at goal (record ahead { todo = rest }) (stages.Loading (Reading (place_of todo)))

abbrev pub at_search : Goal → Ahead → Sought → Tried
at_search goal ahead searches.Nowhere = at_todo goal ahead ahead.todo
at_search goal ahead (searches.Finds found) = ends.Hit found
at_search goal ahead (searches.Fails error) = ends.Bad error
at_search goal ahead (searches.Wants pack) = at goal ahead (stages.ReadingPack pack)

-- the loaded indices that are left are searched first, and then those that are still to be loaded
abbrev pub seek : Goal → Ahead → Tried
seek goal ahead =
    at_search goal (record ahead { indices = rest_behind goal ahead.notes.absent ahead.indices }) (search goal ahead.notes.absent ahead.indices)
