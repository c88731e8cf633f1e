-- Why a refresh is refused, at each of its stages.
use Rattle.std.proofs.Common.{◌≡◌, ℕ, Bool, true, false, List, [], ◌∷◌, ◌++◌, Option, Some, None, Ok, Err, refl, subst}
use Rattle.std.specs.Prelude.{if◌then◌else◌}
use Rattle.std.proofs.lemmas.List.Elements.{Contains-push}
use Rattle.std.proofs.lemmas.Option.{same_Some}
use Rattle.gix_odb_events.specs.declared.listing.Listing.{Listing}
use Rattle.gix_odb_events.specs.declared.event.Effect.{Effect}
use Rattle.gix_odb_events.specs.declared.event.Effect.TheVariants as effects
use Rattle.gix_odb_events.specs.declared.event.Event.{Event}
use Rattle.gix_odb_events.specs.declared.event.Event.TheVariants as events
use Rattle.gix_odb_events.specs.declared.event.Refusal.{Refusal}
use Rattle.gix_odb_events.specs.declared.event.Refusal.TheVariants as refusals
use Rattle.gix_odb_events.specs.declared.view.View.{View}
use Rattle.gix_odb_search.specs.ListOrder as lists
use Rattle.gix_odb_events.specs.declared.answer.Answer.{Answer}
use Rattle.gix_odb_events.specs.declared.answer.Answer.TheVariants as told
use Rattle.gix_odb_events.specs.declared.answer.Ask.{Ask}
use Rattle.gix_odb_events.specs.declared.answer.Ask.TheVariants as asks
use Rattle.gix_odb_search.specs.declared.lister.ListStage.{ListStage}
use Rattle.gix_odb_search.specs.declared.lister.ListStage.TheVariants as list_stages
use Rattle.gix_odb_search.specs.declared.lister.ListStep.{ListStep}
use Rattle.gix_odb_search.specs.declared.lister.ListStep.TheVariants as listed
use Rattle.gix_odb_search.specs.declared.lister.Lister.{Lister}
use Rattle.gix_odb.specs.Exchange.{Exchange}
use Rattle.gix_odb.specs.LoadIndex.{of_refusal}
use Rattle.gix_odb.specs.Store.{Setting, listed_for}
use Rattle.gix_odb.proofs.ListerLaws.Folders.{GoesToFolder, IsAtFolder, fed-goes, first_folder}
use Rattle.gix_odb.proofs.ListerLaws.Tells.{Breaks, ListedTells, fed-tells}
use Rattle.gix_odb.proofs.ListerLaws.Tells.{HasFailed-more}
use Rattle.gix_odb.specs.Asked.{AreSuited, IsSuited}
use Rattle.gix_odb.specs.RefreshOrder.{ask_of, asked_of, by_listed, by_look, by_published, by_view, fed, listing_from, started, step_fed, view_shown}
use Rattle.gix_odb.specs.Refreshed.{AreAsked, IsCaused, behind}
use Rattle.gix_odb.specs.declared.refresh.Refresh.{Refresh}
use Rattle.gix_odb.specs.declared.refresh.Refresh.TheVariants as stages
use Rattle.gix_odb.specs.declared.refresh.RefreshStep.{RefreshStep}
use Rattle.gix_odb.specs.declared.refresh.RefreshStep.TheVariants as steps
use Rattle.gix_odb.proofs.AskedLemmas.{holds_behind}

-- a failure that broke a listing off is also in more exchanges
pub Breaks-more : (past more : List Exchange) (stage : ListStage) → Breaks past stage → Breaks (past ++ more) stage
Breaks-more past more (list_stages.Breaking dir) breaks = HasFailed-more past more breaks
Breaks-more past more list_stages.Opening breaks = tt
Breaks-more past more (list_stages.Reading dir entries) breaks = tt
Breaks-more past more (list_stages.Closing dir entries) breaks = tt
Breaks-more past more (list_stages.Index path left) breaks = tt
Breaks-more past more (list_stages.Pack row left) breaks = tt
Breaks-more past more (list_stages.Multi left) breaks = tt

module _ (setting : Setting) where
  -- a listing is at one of the folders, and closes a stream early only after a failure
  abbrev pub IsSound : List Exchange → Lister → Type 0
  IsSound past lister = IsAtFolder setting lister.head × Breaks past lister.stage

  abbrev pub CausedAt : List Exchange → Refresh → Type 0
  CausedAt past stages.Reading = Unit {0}
  CausedAt past (stages.Listing lister) = IsSound past lister
  CausedAt past (stages.Publishing listing) = Unit {0}

  abbrev pub StepCaused : List Exchange → RefreshStep → Type 0
  StepCaused past (steps.More refresh) = CausedAt past refresh
  StepCaused past (steps.Refused error) = IsCaused setting past error
  StepCaused past step = Unit {0}

  refusal_caused : (past : List Exchange) (event : Event) (refusal : Refusal)
      → IsCaused setting (past ++ record { ask = asks.Core event; answer = told.Core (Err refusal) } ∷ []) (of_refusal refusal)
  refusal_caused past event (refusals.InsufficientSlots current needed) = record { event = event; told = Contains-push past _ }
  refusal_caused past event refusals.GenerationOverflow = record { event = event; told = Contains-push past _ }
  refusal_caused past event refusals.NoMemory = record { event = event; told = Contains-push past _ }

  start_sound : (past : List Exchange) (base : ℕ) → IsSound past (lists.started setting.parts.objects base)
  start_sound past base = ((setting.parts.objects, first_folder setting, refl), tt)

  module _ (past : List Exchange) where
    abbrev with_one : Ask → Answer → List Exchange
    with_one ask answer = past ++ record { ask = ask; answer = answer } ∷ []

    abbrev pub Goes : Refresh → Ask → Answer → Type 0
    Goes refresh ask answer = IsSuited ask answer → StepCaused (with_one ask answer) (fed setting.parts.objects (listed_for setting.parts) refresh answer)

    view_goes : (more : List Exchange) (view : View) → StepCaused more (by_view setting.parts.objects view)
    view_goes more view = by view.read
      where
        by : (read : Bool) → StepCaused more (if read then steps.Read view else steps.More (listing_from setting.parts.objects view.list_no))
        by true = tt
        by false = start_sound more view.list_no

    shown_goes : (more : List Exchange) (shown : Option View) → StepCaused more (by_look setting.parts.objects shown)
    shown_goes more None = tt
    shown_goes more (Some view) = view_goes more view

    look_goes : (answer : Answer) → Goes stages.Reading (asks.Core events.Look) answer
    look_goes (told.Disk answer) suits = tt
    look_goes (told.Core (Ok effect)) suits = shown_goes (with_one (asks.Core events.Look) (told.Core (Ok effect))) (view_shown effect)
    look_goes (told.Core (Err refusal)) suits = refusal_caused past events.Look refusal

    listed_goes : (more : List Exchange) (step : ListStep) → GoesToFolder setting step → ListedTells setting more step → StepCaused more (by_listed step)
    listed_goes more (listed.More lister) at tells = (at, tells)
    listed_goes more (listed.Listed listing) at tells = tt
    listed_goes more listed.Broken at tells = tells
    listed_goes more (listed.TooManyPacks actual path) at tells = tells

    listing_goes : (lister : Lister) → IsSound past lister → (answer : Answer) → Goes (stages.Listing lister) (asks.Disk (lists.ask_of lister)) answer
    listing_goes lister (at, breaks) (told.Disk answer) suits =
        let more : List Exchange = with_one (asks.Disk (lists.ask_of lister)) (told.Disk answer) in
        listed_goes more (lists.fed (listed_for setting.parts) lister answer) (fed-goes setting lister at answer)
        (fed-tells setting more lister at (Breaks-more past _ lister.stage breaks) answer suits (Contains-push past _))
    listing_goes lister (at, breaks) (told.Core answer) suits = absurd suits

    published_goes : (listing : Listing) (more : List Exchange) (effect : Effect) → StepCaused more (by_published listing effect)
    published_goes listing more (effects.Published view) = tt
    published_goes listing more (effects.Unchanged view) = tt
    published_goes listing more (effects.Outdated number) = tt
    published_goes listing more (effects.Seen view) = tt
    published_goes listing more (effects.Reported view report) = tt
    published_goes listing more (effects.Put view stored) = tt
    published_goes listing more effects.Removed = tt

    publish_goes : (listing : Listing) (answer : Answer) → Goes (stages.Publishing listing) (asks.Core (events.Publish listing)) answer
    publish_goes listing (told.Disk answer) suits = tt
    publish_goes listing (told.Core (Ok effect)) suits =
        published_goes listing (with_one (asks.Core (events.Publish listing)) (told.Core (Ok effect))) effect
    publish_goes listing (told.Core (Err refusal)) suits = refusal_caused past (events.Publish listing) refusal

    pub goes_caused : (refresh : Refresh) → CausedAt past refresh → (answer : Answer) → Goes refresh (ask_of refresh) answer
    goes_caused stages.Reading sound answer = look_goes answer
    goes_caused (stages.Listing lister) sound answer = listing_goes lister sound answer
    goes_caused (stages.Publishing listing) sound answer = publish_goes listing answer

  kept : (past : List Exchange) (step : RefreshStep) (exchange : Exchange) → StepCaused past step → asked_of step ≡ Some exchange.ask
      → IsSuited exchange.ask exchange.answer
      → StepCaused (past ++ exchange ∷ []) (step_fed setting.parts.objects (listed_for setting.parts) step exchange.answer)
  kept past (steps.More refresh) exchange sound asked suits =
      subst (λ (own : Ask). Goes past refresh own exchange.answer) (same_Some (ask_of refresh) exchange.ask asked)
      (goes_caused past refresh sound exchange.answer) suits
  kept past (steps.Read view) exchange sound asked suits = absurd (cc asked)
  kept past (steps.Current view own) exchange sound asked suits = absurd (cc asked)
  kept past (steps.Outdated list_no) exchange sound asked suits = absurd (cc asked)
  kept past (steps.Refused error) exchange sound asked suits = absurd (cc asked)

  start_caused : (view : View) (read : Bool) → StepCaused [] (if read then steps.Read view else steps.More stages.Reading)
  start_caused view true = tt
  start_caused view false = tt

  pub refresh_caused : (snapshot : View) (exchanges : List Exchange) → AreAsked setting (started snapshot) exchanges → AreSuited exchanges
      → StepCaused exchanges (behind setting (started snapshot) exchanges)
  refresh_caused snapshot exchanges asked suited =
      holds_behind asked_of (step_fed setting.parts.objects (listed_for setting.parts)) StepCaused (λ exchange. IsSuited exchange.ask exchange.answer) kept (started snapshot)
      exchanges (start_caused snapshot snapshot.read) asked suited
