-- The rows of a listing that a refresh makes were seen by it: what it read of multi-pack indices was shown.
use Rattle.std.proofs.Common.{◌≡◌, ℕ, Bool, true, false, List, Contains, Option, Some, None, Ok, Err, sym, subst}
use Rattle.std.specs.Prelude.{if◌then◌else◌}
use Rattle.std.proofs.lemmas.Option.{same_Some}
use Rattle.odb_base.specs.Path.{Path}
use Rattle.gix_odb_events.specs.declared.answer.Answer.{Answer}
use Rattle.gix_odb_events.specs.declared.answer.Answer.TheVariants as told
use Rattle.gix_odb_events.specs.declared.answer.Ask.{Ask}
use Rattle.gix_odb_events.specs.declared.event.Effect.{Effect}
use Rattle.gix_odb_events.specs.declared.event.Effect.TheVariants as effects
use Rattle.gix_odb_events.specs.declared.listing.Listing.{Listing}
use Rattle.gix_odb_events.specs.declared.view.View.{View}
use Rattle.gix_odb_search.specs.ListOrder as lists
use Rattle.gix_odb_search.specs.ListedStore.{ListedStore}
use Rattle.gix_odb_search.specs.declared.lister.ListStep.{ListStep}
use Rattle.gix_odb_search.specs.declared.lister.ListStep.TheVariants as listed
use Rattle.gix_odb.specs.Exchange.{Exchange}
use Rattle.gix_odb.specs.RefreshOrder.{ask_of, asked_of, by_listed, by_look, by_published, by_view, fed, listing_from, started, step_fed, view_shown}
use Rattle.gix_odb.specs.Refreshed.{AreAsked, behind}
use Rattle.gix_odb.specs.Store.{Setting, listed_for}
use Rattle.gix_odb.specs.True.{IsReadShown, ShowsRead}
use Rattle.gix_odb.specs.declared.refresh.Refresh.{Refresh}
use Rattle.gix_odb.specs.declared.refresh.Refresh.TheVariants as stages
use Rattle.gix_odb.specs.declared.refresh.RefreshStep.{RefreshStep}
use Rattle.gix_odb.specs.declared.refresh.RefreshStep.TheVariants as steps
use Rattle.gix_odb.proofs.AskedLemmas.{holds_behind}
use Rattle.gix_odb.proofs.ListingLaws.Seen.{AreSeen, SeesLister, SeesStep, listing_sees, starts_seeing}

module _ (Shown : Path → ℕ → List ℕ → Type 0) (setting : Setting) where
  abbrev store : ListedStore
  store = listed_for setting.parts

  abbrev pub Sees : Refresh → Type 0
  Sees stages.Reading = Unit {0}
  Sees (stages.Listing lister) = SeesLister (ShowsRead Shown) store lister
  Sees (stages.Publishing listing) = AreSeen (ShowsRead Shown) store listing.rows

  abbrev pub GoesSeeing : RefreshStep → Type 0
  GoesSeeing (steps.More refresh) = Sees refresh
  GoesSeeing step = Unit {0}

  view_sees : (view : View) → GoesSeeing (by_view setting.parts.objects view)
  view_sees view = by view.read
    where
      by : (read : Bool) → GoesSeeing (if read then steps.Read view else steps.More (listing_from setting.parts.objects view.list_no))
      by true = tt
      by false = starts_seeing (ShowsRead Shown) store setting.parts.objects view.list_no

  shown_sees : (shown : Option View) → GoesSeeing (by_look setting.parts.objects shown)
  shown_sees None = tt
  shown_sees (Some view) = view_sees view

  listed_sees : (step : ListStep) → SeesStep (ShowsRead Shown) store step → GoesSeeing (by_listed step)
  listed_sees (listed.More lister) here = here
  listed_sees (listed.Listed listing) here = here
  listed_sees listed.Broken here = tt
  listed_sees (listed.TooManyPacks actual path) here = tt

  published_sees : (listing : Listing) → AreSeen (ShowsRead Shown) store listing.rows → (effect : Effect) → GoesSeeing (by_published listing effect)
  published_sees listing here (effects.Published view) = tt
  published_sees listing here (effects.Unchanged view) = tt
  published_sees listing here (effects.Outdated number) = tt
  published_sees listing here (effects.Seen view) = here
  published_sees listing here (effects.Reported view report) = here
  published_sees listing here (effects.Put view stored) = here
  published_sees listing here effects.Removed = here

  fed_sees : (refresh : Refresh) → Sees refresh → (ask : Ask) (answer : Answer) → ask_of refresh ≡ ask → IsReadShown Shown ask answer
      → GoesSeeing (fed setting.parts.objects store refresh answer)
  fed_sees stages.Reading here ask (told.Disk answer) is was = tt
  fed_sees stages.Reading here ask (told.Core (Ok effect)) is was = shown_sees (view_shown effect)
  fed_sees stages.Reading here ask (told.Core (Err refusal)) is was = tt
  fed_sees (stages.Listing lister) here ask (told.Disk answer) is was =
      listed_sees (lists.fed store lister answer)
      (listing_sees (ShowsRead Shown) store lister.head here.rows lister.stage here.stage answer
      (subst (λ (a : Ask). IsReadShown Shown a (told.Disk answer)) (sym is) was))
  fed_sees (stages.Listing lister) here ask (told.Core answer) is was = here
  fed_sees (stages.Publishing listing) here ask (told.Disk answer) is was = here
  fed_sees (stages.Publishing listing) here ask (told.Core (Ok effect)) is was = published_sees listing here effect
  fed_sees (stages.Publishing listing) here ask (told.Core (Err refusal)) is was = tt

  step_sees : (step : RefreshStep) → GoesSeeing step → (ask : Ask) (answer : Answer) → asked_of step ≡ Some ask → IsReadShown Shown ask answer
      → GoesSeeing (step_fed setting.parts.objects store step answer)
  step_sees (steps.More refresh) here ask answer is was = fed_sees refresh here ask answer (same_Some (ask_of refresh) ask is) was
  step_sees (steps.Read view) here ask answer is was = tt
  step_sees (steps.Current view own) here ask answer is was = tt
  step_sees (steps.Outdated list_no) here ask answer is was = tt
  step_sees (steps.Refused error) here ask answer is was = tt

  start_sees : (view : View) (read : Bool) → GoesSeeing (if read then steps.Read view else steps.More stages.Reading)
  start_sees view true = tt
  start_sees view false = tt

  pub refresh_sees : (snapshot : View) (exchanges : List Exchange) → AreAsked setting (started snapshot) exchanges
      → ((exchange : Exchange) → Contains exchanges exchange → IsReadShown Shown exchange.ask exchange.answer)
      → GoesSeeing (behind setting (started snapshot) exchanges)
  refresh_sees snapshot exchanges asked shown =
      holds_behind asked_of (step_fed setting.parts.objects store) (λ past step. GoesSeeing step) (λ exchange. IsReadShown Shown exchange.ask exchange.answer)
      (λ past step exchange here asked_so was. step_sees step here exchange.ask exchange.answer asked_so was) (started snapshot) exchanges
      (start_sees snapshot snapshot.read) asked shown
