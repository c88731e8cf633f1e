-- The rows that a refresh passes to the core have different paths, where the folders of the store are different.
use Rattle.std.proofs.Common.{Bool, true, false, List, Option, Some, None, Ok, Err}
use Rattle.std.specs.List.{IsDistinct}
use Rattle.std.specs.Prelude.{if◌then◌else◌}
use Rattle.gix_odb_events.specs.PackFiles.{same_path, HasDifferentPaths}
use Rattle.gix_odb_events.specs.declared.listing.Listing.{Listing}
use Rattle.gix_odb_events.specs.declared.event.Effect.{Effect}
use Rattle.gix_odb_events.specs.declared.event.Effect.TheVariants as effects
use Rattle.gix_odb_events.specs.declared.view.View.{View}
use Rattle.gix_odb_search.specs.ListOrder as lists
use Rattle.gix_odb_events.specs.declared.answer.Answer.{Answer}
use Rattle.gix_odb_events.specs.declared.answer.Answer.TheVariants as told
use Rattle.gix_odb_search.specs.declared.lister.ListStep.{ListStep}
use Rattle.gix_odb_search.specs.declared.lister.ListStep.TheVariants as listed
use Rattle.gix_odb.specs.Exchange.{Exchange}
use Rattle.gix_odb.specs.Store.{Setting, listed_for}
use Rattle.gix_odb.specs.Shown.{folders_of}
use Rattle.gix_odb.proofs.ListerLaws.Apart.{ListerDiffers, StepDiffers, listing_differs, starts_apart}
use Rattle.gix_odb.specs.RefreshOrder.{asked_of, by_listed, by_look, by_published, by_view, fed, listing_from, started, step_fed, view_shown}
use Rattle.gix_odb.specs.Refreshed.{AreAsked, behind}
use Rattle.gix_odb.specs.declared.refresh.Refresh.{Refresh}
use Rattle.gix_odb.specs.declared.refresh.Refresh.TheVariants as stages
use Rattle.gix_odb.specs.declared.refresh.RefreshStep.{RefreshStep}
use Rattle.gix_odb.specs.declared.refresh.RefreshStep.TheVariants as steps
use Rattle.gix_odb.proofs.AskedLemmas.{holds_behind}

module _ (setting : Setting) (distinct : IsDistinct same_path (folders_of setting)) where
  abbrev pub Differs : Refresh → Type 0
  Differs stages.Reading = Unit {0}
  Differs (stages.Listing lister) = ListerDiffers (listed_for setting.parts) lister
  Differs (stages.Publishing listing) = HasDifferentPaths listing.rows

  abbrev pub GoesDiffering : RefreshStep → Type 0
  GoesDiffering (steps.More refresh) = Differs refresh
  GoesDiffering step = Unit {0}

  view_differs : (view : View) → GoesDiffering (by_view setting.parts.objects view)
  view_differs view = by view.read
    where
      by : (read : Bool) → GoesDiffering (if read then steps.Read view else steps.More (listing_from setting.parts.objects view.list_no))
      by true = tt
      by false = starts_apart (listed_for setting.parts) setting.parts.objects distinct view.list_no

  shown_differs : (shown : Option View) → GoesDiffering (by_look setting.parts.objects shown)
  shown_differs None = tt
  shown_differs (Some view) = view_differs view

  listed_differs : (step : ListStep) → StepDiffers (listed_for setting.parts) step → GoesDiffering (by_listed step)
  listed_differs (listed.More lister) here = here
  listed_differs (listed.Listed listing) here = here
  listed_differs listed.Broken here = tt
  listed_differs (listed.TooManyPacks actual path) here = tt

  published_differs : (listing : Listing) → HasDifferentPaths listing.rows → (effect : Effect) → GoesDiffering (by_published listing effect)
  published_differs listing here (effects.Published view) = tt
  published_differs listing here (effects.Unchanged view) = tt
  published_differs listing here (effects.Outdated number) = tt
  published_differs listing here (effects.Seen view) = here
  published_differs listing here (effects.Reported view report) = here
  published_differs listing here (effects.Put view stored) = here
  published_differs listing here effects.Removed = here

  pub fed_differs : (refresh : Refresh) → Differs refresh → (answer : Answer) → GoesDiffering (fed setting.parts.objects (listed_for setting.parts) refresh answer)
  fed_differs stages.Reading here (told.Disk answer) = tt
  fed_differs stages.Reading here (told.Core (Ok effect)) = shown_differs (view_shown effect)
  fed_differs stages.Reading here (told.Core (Err refusal)) = tt
  fed_differs (stages.Listing lister) here (told.Disk answer) =
      listed_differs (lists.fed (listed_for setting.parts) lister answer)
      (listing_differs (listed_for setting.parts) setting.parts.objects distinct lister.head lister.stage here answer)
  fed_differs (stages.Listing lister) here (told.Core answer) = here
  fed_differs (stages.Publishing listing) here (told.Disk answer) = here
  fed_differs (stages.Publishing listing) here (told.Core (Ok effect)) = published_differs listing here effect
  fed_differs (stages.Publishing listing) here (told.Core (Err refusal)) = tt

  step_differs : (step : RefreshStep) → GoesDiffering step → (answer : Answer) → GoesDiffering (step_fed setting.parts.objects (listed_for setting.parts) step answer)
  step_differs (steps.More refresh) here answer = fed_differs refresh here answer
  step_differs (steps.Read view) here answer = tt
  step_differs (steps.Current view own) here answer = tt
  step_differs (steps.Outdated list_no) here answer = tt
  step_differs (steps.Refused error) here answer = tt

  start_differs : (view : View) (read : Bool) → GoesDiffering (if read then steps.Read view else steps.More stages.Reading)
  start_differs view true = tt
  start_differs view false = tt

  pub refresh_differs : (snapshot : View) (exchanges : List Exchange) → AreAsked setting (started snapshot) exchanges
      → GoesDiffering (behind setting (started snapshot) exchanges)
  refresh_differs snapshot exchanges asked =
      holds_behind asked_of (step_fed setting.parts.objects (listed_for setting.parts)) (λ past step. GoesDiffering step) (λ exchange. Unit {0})
      (λ past step exchange here asked meets. step_differs step here exchange.answer) (started snapshot) exchanges
      (start_differs snapshot snapshot.read) asked
      (λ exchange among. tt)
