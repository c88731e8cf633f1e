-- What a look-up passes to the core of its store can happen there.
use Rattle.std.proofs.Common.{◌≡◌, ℕ, List, Some}
use Rattle.std.specs.List.{IsDistinct}
use Rattle.gix_hash.specs.declared.object_id.ObjectId.{ObjectId}
use Rattle.gix_odb_events.specs.PackFiles.{same_path}
use Rattle.gix_odb_core.specs.Replay.{CanHappen}
use Rattle.gix_odb_events.specs.declared.event.Event.{Event}
use Rattle.gix_odb_events.specs.declared.event.Event.TheVariants as events
use Rattle.gix_odb_core.specs.declared.shape.Shape.{Shape}
use Rattle.gix_odb_events.specs.declared.view.View.{View}
use Rattle.gix_odb_events.specs.declared.answer.Ask.TheVariants as asks
use Rattle.gix_object.specs.declared.want.Want.{Want}
use Rattle.gix_odb.specs.LookExchanges.{AreAsked, Exchange, behind}
use Rattle.gix_odb.specs.LookUpOrder.{Setting, ask_of, started}
use Rattle.gix_odb.specs.Shown.{folders_of}
use Rattle.gix_odb.specs.declared.look_up.LookUp.{LookUp}
use Rattle.gix_odb.specs.declared.refresh_mode.RefreshMode.{RefreshMode}
use Rattle.gix_odb.proofs.HandedLaws.{look_ups_ask_these_events_alone, rows_of_a_listing_have_different_paths}

module _ (setting : Setting) (distinct : IsDistinct same_path (folders_of setting)) where
  module _ (mode : RefreshMode) (view : View) (want : Want) (id : ObjectId) (exchanges : List Exchange) (asked : AreAsked setting (started setting mode view want id) exchanges) where
    abbrev listing_look : LookUp
    listing_look = behind setting (started setting mode view want id) exchanges

    by : (shape : Shape) (seat : ℕ) (event : Event) → ask_of listing_look ≡ Some (asks.Core event) → CanHappen shape seat event
    by shape seat (events.Register stable) is = absurd (look_ups_ask_these_events_alone listing_look (events.Register stable) is)
    by shape seat events.Upgrade is = absurd (look_ups_ask_these_events_alone listing_look events.Upgrade is)
    by shape seat events.Remove is = absurd (look_ups_ask_these_events_alone listing_look events.Remove is)
    by shape seat events.Look is = tt
    by shape seat events.Report is = absurd (look_ups_ask_these_events_alone listing_look events.Report is)
    by shape seat (events.PutIndex slot path file) is = tt
    by shape seat (events.PutPack pack path file) is = tt
    by shape seat (events.PassOver slot path why) is = tt
    by shape seat (events.Publish listing) is = rows_of_a_listing_have_different_paths setting distinct mode view want id exchanges asked listing is

    -- what a look-up passes to the core of its store can happen there: the rows of a listing have different paths
    pub what_is_handed_can_happen : (event : Event) → ask_of listing_look ≡ Some (asks.Core event) → (shape : Shape) (seat : ℕ) → CanHappen shape seat event
    what_is_handed_can_happen event is shape seat = by shape seat event is
