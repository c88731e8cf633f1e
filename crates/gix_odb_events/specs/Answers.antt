-- The answers to events, and their views.
use Rattle.std.specs.Prelude.{◌≡◌, ◌⊎◌, Option, Some, None, Result, Ok}
use Rattle.gix_odb_events.specs.declared.event.Effect.{Effect}
use Rattle.gix_odb_events.specs.declared.event.Effect.TheVariants as effects
use Rattle.gix_odb_events.specs.declared.event.Refusal.{Refusal}
use Rattle.gix_odb_events.specs.declared.view.View.{View}

abbrev pub Answer : Type 0
Answer = Result Effect Refusal

-- the view of an effect
abbrev pub view_in : Answer → Option View
view_in (Ok (effects.Seen view)) = Some view
view_in (Ok (effects.Reported view report)) = Some view
view_in (Ok (effects.Put view stored)) = Some view
view_in (Ok (effects.Published view)) = Some view
view_in (Ok (effects.Unchanged view)) = Some view
view_in answer = None

-- an answer reports that a listing was published, or that it confirmed the list
abbrev pub Refreshes : Answer → View → Type 0
Refreshes answer view = (answer ≡ Ok (effects.Published view)) ⊎ (answer ≡ Ok (effects.Unchanged view))
