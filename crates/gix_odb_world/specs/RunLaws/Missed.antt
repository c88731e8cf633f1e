-- How a query ends that found nothing: with a read of the core's state, whose list is the one that was published or confirmed last for it.
use Rattle.std.specs.Prelude.{◌≡◌, ℕ, List, [], ◌∷◌, ◌++◌, Option, Some, None, Ok}
use Rattle.gix_odb_events.specs.Answers.{view_in}
use Rattle.gix_odb_events.specs.declared.event.Effect.{Effect}
use Rattle.gix_odb_events.specs.declared.event.Effect.TheVariants as effects
use Rattle.gix_odb_events.specs.declared.event.Event.TheVariants as events
use Rattle.gix_odb_events.specs.declared.view.View.{View}
use Rattle.gix_odb_events.specs.declared.answer.Answer.{Answer}
use Rattle.gix_odb_events.specs.declared.answer.Answer.TheVariants as told
use Rattle.gix_odb_events.specs.declared.answer.Ask.{Ask}
use Rattle.gix_odb_events.specs.declared.answer.Ask.TheVariants as asks
use Rattle.gix_odb.specs.LookExchanges.{Exchange}

-- the number of the list that the core answered last to a listing that it got, by publishing it or by confirming it
abbrev pub list_by : (before : Option ℕ) → Ask → Answer → Option ℕ
list_by before (asks.Core (events.Publish listing)) (told.Core (Ok (effects.Published view))) = Some view.list_no
list_by before (asks.Core (events.Publish listing)) (told.Core (Ok (effects.Unchanged view))) = Some view.list_no
list_by before ask answer = before

abbrev pub last_list : (before : Option ℕ) → List Exchange → Option ℕ
last_list before [] = before
last_list before (exchange ∷ exchanges) = last_list (list_by before exchange.ask exchange.answer) exchanges

-- The last of these exchanges is a read of the core's state, and the list of the view that it gave is the one that was published or confirmed last
-- in those before it, of which there is one.
pub record EndAtLastList (exchanges : List Exchange) : Type 0 where
  pub before : List Exchange
  pub last : Exchange
  pub are : exchanges ≡ before ++ last ∷ []
  pub asked : last.ask ≡ asks.Core events.Look
  pub effect : Effect
  pub answered : last.answer ≡ told.Core (Ok effect)
  pub view : View
  pub shown : view_in (Ok effect) ≡ Some view
  pub newest : last_list None before ≡ Some view.list_no
