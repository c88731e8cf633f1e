-- What a refresh passes to the core of its store can happen there.
use Rattle.std.proofs.Common.{◌≡◌, ℕ, List, Some}
use Rattle.std.specs.List.{IsDistinct}
use Rattle.gix_odb_events.specs.PackFiles.{same_path}
use Rattle.gix_odb_core.specs.Replay.{CanHappen}
use Rattle.gix_odb_events.specs.declared.event.Event.{Event}
use Rattle.gix_odb_core.specs.declared.shape.Shape.{Shape}
use Rattle.gix_odb_events.specs.declared.view.View.{View}
use Rattle.gix_odb_events.specs.declared.answer.Ask.TheVariants as asks
use Rattle.gix_odb.specs.LookExchanges.{Exchange}
use Rattle.gix_odb.specs.LookUpOrder.{Setting}
use Rattle.gix_odb.specs.Shown.{folders_of}
use Rattle.gix_odb.specs.RefreshOrder.{asked_of, started}
use Rattle.gix_odb.specs.Refreshed.{AreAsked, behind}
use Rattle.gix_odb.specs.declared.refresh.Refresh.TheVariants as stages
use Rattle.gix_odb.specs.declared.refresh.RefreshStep.{RefreshStep}
use Rattle.gix_odb.specs.declared.refresh.RefreshStep.TheVariants as steps
use Rattle.gix_odb.proofs.RefreshLaws.Differ.{GoesDiffering, refresh_differs}
use Rattle.gix_odb.proofs.RefreshLaws.{HandsOn, handed_on}

module _ (setting : Setting) (snapshot : View) (exchanges : List Exchange) (asked : AreAsked setting (started snapshot) exchanges) where
  abbrev refresh : RefreshStep
  refresh = behind setting (started snapshot) exchanges

  -- what is passed to the core can happen there: the rows of a listing have different paths
  pub what_a_refresh_hands_on_can_happen : IsDistinct same_path (folders_of setting) → (event : Event) → asked_of refresh ≡ Some (asks.Core event)
      → (shape : Shape) (seat : ℕ) → CanHappen shape seat event
  what_a_refresh_hands_on_can_happen distinct event is shape seat =
      handed_on (CanHappen shape seat) refresh event (by refresh (refresh_differs setting distinct snapshot exchanges asked)) is
    where
      by : (now : RefreshStep) → GoesDiffering setting distinct now → HandsOn (CanHappen shape seat) now
      by (steps.More stages.Reading) here = tt
      by (steps.More (stages.Listing lister)) here = tt
      by (steps.More (stages.Publishing listing)) here = here
      by (steps.Read view) here = tt
      by (steps.Current view own) here = tt
      by (steps.Outdated list_no) here = tt
      by (steps.Refused error) here = tt
