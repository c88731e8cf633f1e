-- What comes next among the indices that are still to be loaded, by the first of them.
use Rattle.std.proofs.Common.{◌≡◌, List, [], ◌∷◌, drop, Some, None, refl, ap}
use Rattle.std.proofs.lemmas.Option.{same_Some}
use Rattle.gix_odb_events.specs.Shown.{first_of}
use Rattle.gix_odb_events.specs.declared.loaded.Todo.{Todo}
use Rattle.gix_odb_search.specs.LoadOrder.{place_of}
use Rattle.gix_odb_search.specs.TryOrder.Seek.{at, at_todo}
use Rattle.gix_odb_search.specs.declared.goal.Goal.{Goal}
use Rattle.gix_odb_search.specs.declared.index_loader.IndexLoader.TheVariants.{Reading}
use Rattle.gix_odb_search.specs.declared.trier.Ahead.{Ahead}
use Rattle.gix_odb_search.specs.declared.trier.Stage.TheVariants as stages
use Rattle.gix_odb_search.specs.declared.trier.Tried.TheVariants as ends

module _ (goal : Goal) (ahead : Ahead) where
  pub first_read : (todo : Todo) (items : List Todo) → Some todo ≡ first_of items
      → at goal (record ahead { todo = drop 1 items }) (stages.Loading (Reading (place_of todo))) ≡ at_todo goal ahead items
  first_read todo [] is = cc is
  first_read todo (first ∷ items) is =
      ap (λ (own : Todo). at goal (record ahead { todo = items }) (stages.Loading (Reading (place_of own))))
      (same_Some todo first is)

  pub none_read : (items : List Todo) → None ≡ first_of items → ends.Missed ahead.notes ≡ at_todo goal ahead items
  none_read [] is = refl
  none_read (first ∷ items) is = cc is
