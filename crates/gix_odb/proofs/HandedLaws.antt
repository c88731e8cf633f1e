-- Laws of what a look-up passes to the disk and the core: its events are few, its calls of the disk change nothing, and the streams that it
-- reads are its own.
pub mod Stages
pub mod Reading
use Rattle.std.proofs.Common.{◌≡◌, ◌⊎◌, inl, inr, ℕ, List, [], ◌∷◌, Some, None, Ok}
use Rattle.std.specs.List.{IsDistinct}
use Rattle.odb_base.specs.Path.{Path}
use Rattle.odb_disk.specs.Ask.{change_of_ask}
use Rattle.odb_disk.specs.declared.ask.DiskAsk.{DiskAsk}
use Rattle.odb_disk.specs.declared.ask.DiskAsk.TheVariants as disk_asks
use Rattle.odb_disk.specs.Tree.{Tree}
use Rattle.gix_hash.specs.declared.object_id.ObjectId.{ObjectId}
use Rattle.gix_odb_calls.specs.Verdict.{folder_ask}
use Rattle.gix_odb_calls.specs.declared.verdict.FolderCall.{FolderCall}
use Rattle.gix_odb_events.specs.PackFiles.{same_path, HasDifferentPaths}
use Rattle.gix_odb_events.specs.declared.listing.Listing.{Listing as Handed}
use Rattle.gix_odb_events.specs.declared.listing.ListingRow.{ListingRow}
use Rattle.gix_odb_events.specs.declared.event.Event.{Event}
use Rattle.gix_odb_events.specs.declared.event.Event.TheVariants as events
use Rattle.gix_odb_events.specs.declared.view.View.{View}
use Rattle.gix_odb_search.specs.ListOrder as lists
use Rattle.gix_odb_search.specs.TryOrder as tries
use Rattle.gix_odb_events.specs.declared.answer.Answer.{Answer}
use Rattle.gix_odb_events.specs.declared.answer.Answer.TheVariants as told
use Rattle.gix_odb_events.specs.declared.answer.Ask.{Ask}
use Rattle.gix_odb_events.specs.declared.answer.Ask.TheVariants as asks
use Rattle.gix_odb_search.specs.declared.index_loader.IndexLoader.TheVariants as loaders
use Rattle.gix_odb_search.specs.declared.lister.ListStep.{ListStep}
use Rattle.gix_odb_search.specs.declared.lister.ListStep.TheVariants as listed
use Rattle.gix_odb_search.specs.declared.trier.Stage.TheVariants as tries_stages
use Rattle.gix_odb_search.specs.declared.trier.Stage.{Stage}
use Rattle.gix_odb_calls.specs.declared.call.Reply.{Reply}
use Rattle.gix_object.specs.declared.want.Want.{Want}
use Rattle.gix_odb.specs.LookExchanges.{AreAsked, Exchange, behind}
use Rattle.gix_odb.specs.RefreshOrder as refreshes
use Rattle.gix_odb.specs.declared.refresh.Refresh.TheVariants as fronts
use Rattle.gix_odb.specs.LookUpOrder.{Setting, ask_at, ask_of, fed, result_of, seen, started}
use Rattle.gix_odb.specs.Shown.{folders_of}
use Rattle.gix_odb.specs.declared.look_up.LookStage.TheVariants as stages
use Rattle.gix_odb.specs.declared.look_up.LookStage.{LookStage}
use Rattle.gix_odb.specs.declared.look_up.LookUp.{LookUp}
use Rattle.gix_odb.specs.declared.refresh_mode.RefreshMode.{RefreshMode}
use Rattle.gix_odb.proofs.ListerLaws.Apart.{ListerDiffers, StepDiffers, listing_differs, starts_apart}
use Rattle.gix_odb.proofs.HandedLaws.Stages.{Goes, Stands, Steps, published, same_ask, stage_stands, start_stands}
use Rattle.gix_odb.proofs.ListerLaws.Streams.{IsOpen, Told}
use Rattle.gix_odb.proofs.HandedLaws.Reading.{IsOwn, done_has_none, stage_asks_own, stage_changes_nothing, streams_are_own}
use Rattle.gix_odb.proofs.ListerLaws.Reads.{none_told, told_from}
use Rattle.gix_odb.proofs.RefreshLaws.{AsksOfLooks, refresh_asks_of_looks}
pub use Rattle.gix_odb.proofs.RefreshLaws.{IsOfLooks}
pub use Rattle.gix_odb.proofs.ListerLaws.Streams.{IsOwnStream, Opened, left_open, left_open-push, open_by, opened_by, opened_last, opened_last-push}
use Rattle.gix_odb.specs.Store.{listed_for}

-- ---- which events

trier_asks : (stage : Stage) → AsksOfLooks (tries.ask_at stage)
trier_asks (tries_stages.Loading (loaders.Reading place)) = tt
trier_asks (tries_stages.Loading (loaders.Storing place file)) = tt
trier_asks (tries_stages.Loading (loaders.Passing place why)) = tt
trier_asks (tries_stages.ReadingPack pack) = tt
trier_asks (tries_stages.StoringPack pack file) = tt
trier_asks (tries_stages.PassingPack pack) = tt

stage_asks : (stage : LookStage) (ask : Ask) → ask_at stage ≡ Some ask → AsksOfLooks ask
stage_asks (stages.Trying trier part) ask is = same_ask AsksOfLooks ask (tries.ask_of trier) (trier_asks trier.stage) is
stage_asks (stages.Loose round call) ask is = same_ask AsksOfLooks ask (asks.Disk (folder_ask call)) tt is
stage_asks (stages.Refreshing refresh purpose notes) ask is = same_ask AsksOfLooks ask (refreshes.ask_of refresh) (refresh_asks_of_looks refresh) is
stage_asks (stages.Checking list_no notes) ask is = same_ask AsksOfLooks ask (asks.Core events.Look) tt is
stage_asks (stages.Done reply) ask is = absurd (cc is)

-- a look-up asks the core for its state, to store a file, to pass one over, and to publish a listing
pub look_ups_ask_these_events_alone : (look : LookUp) (event : Event) → ask_of look ≡ Some (asks.Core event) → IsOfLooks event
look_ups_ask_these_events_alone look event is = stage_asks look.stage (asks.Core event) is

-- and it has no core made
pub look_ups_have_no_core_made : (look : LookUp) (slots folders : ℕ) → ¬ (ask_of look ≡ Some (asks.NewCore slots folders))
look_ups_have_no_core_made look slots folders is = stage_asks look.stage (asks.NewCore slots folders) is

-- ---- the rows of a listing have different paths

module _ (setting : Setting) (distinct : IsDistinct same_path (folders_of setting)) where
  abbrev AnyCall : FolderCall → Type 0
  AnyCall call = Unit {0}

  abbrev RowsDiffer : List ListingRow → Type 0
  RowsDiffer rows = HasDifferentPaths rows

  abbrev StageDiffers : LookStage → Type 0
  StageDiffers stage = Stands setting AnyCall (ListerDiffers (listed_for setting.parts)) RowsDiffer (Unit {0}) stage

  step_differs : (step : ListStep) → StepDiffers (listed_for setting.parts) step → Steps setting AnyCall (ListerDiffers (listed_for setting.parts)) RowsDiffer (Unit {0}) step
  step_differs (listed.More lister) here = here
  step_differs (listed.Listed listing) here = (tt, here)
  step_differs listed.Broken here = tt
  step_differs (listed.TooManyPacks actual path) here = tt

  goes_differing : (stage : LookStage) (answer : Answer) → StageDiffers stage
      → Goes setting AnyCall (ListerDiffers (listed_for setting.parts)) RowsDiffer (Unit {0}) stage answer
  goes_differing (stages.Trying trier part) answer here = tt
  goes_differing (stages.Loose round call) (told.Disk answer) here = tt
  goes_differing (stages.Loose round call) (told.Core answer) here = here
  goes_differing (stages.Refreshing fronts.Reading purpose notes) answer here = tt
  goes_differing (stages.Checking list_no notes) answer here = tt
  goes_differing (stages.Refreshing (fronts.Listing lister) purpose notes) (told.Disk answer) here =
      step_differs (lists.fed (listed_for setting.parts) lister answer)
      (listing_differs (listed_for setting.parts) setting.parts.objects distinct lister.head lister.stage here answer)
  goes_differing (stages.Refreshing (fronts.Listing lister) purpose notes) (told.Core answer) here = here
  goes_differing (stages.Refreshing (fronts.Publishing listing) purpose notes) answer here = here
  goes_differing (stages.Done reply) answer here = tt

  starts_listing : (base : ℕ) → Unit {0} → ListerDiffers (listed_for setting.parts) (lists.started setting.parts.objects base)
  starts_listing base here = starts_apart (listed_for setting.parts) setting.parts.objects distinct base

  differs_behind : (look : LookUp) → StageDiffers look.stage → (exchanges : List Exchange) → StageDiffers (behind setting look exchanges).stage
  differs_behind look here [] = here
  differs_behind look here (exchange ∷ exchanges) =
      differs_behind (fed setting look exchange.answer)
      (stage_stands setting AnyCall (ListerDiffers (listed_for setting.parts)) RowsDiffer (Unit {0}) (λ want id folder. tt) starts_listing
      (seen look.head exchange.answer) look.stage exchange.answer (goes_differing look.stage exchange.answer here))
      exchanges

  module _ (mode : RefreshMode) (view : View) (want : Want) (id : ObjectId) (exchanges : List Exchange) (asked : AreAsked setting (started setting mode view want id) exchanges) where
    abbrev listing_look : LookUp
    listing_look = behind setting (started setting mode view want id) exchanges

    differs : StageDiffers listing_look.stage
    differs =
        differs_behind (started setting mode view want id)
        (start_stands setting AnyCall (ListerDiffers (listed_for setting.parts)) RowsDiffer (Unit {0}) (λ want id folder. tt) starts_listing mode view want id tt)
        exchanges

    pub rows_of_a_listing_have_different_paths : (listing : Handed) → ask_of listing_look ≡ Some (asks.Core (events.Publish listing))
        → HasDifferentPaths listing.rows
    rows_of_a_listing_have_different_paths listing is =
        published setting AnyCall (ListerDiffers (listed_for setting.parts)) RowsDiffer (Unit {0}) listing_look.stage differs listing is

-- ---- they change no file, and their streams are their own

module _ (setting : Setting) (mode : RefreshMode) (view : View) (want : Want) (id : ObjectId) (exchanges : List Exchange)
    (asked : AreAsked setting (started setting mode view want id) exchanges) where
  abbrev look : LookUp
  look = behind setting (started setting mode view want id) exchanges

  abbrev now : Told
  now = told_from none_told exchanges

  own : IsOwn setting now look.stage
  own = streams_are_own setting mode view want id exchanges asked

  -- a call of the disk changes nothing in any tree
  pub look_ups_change_no_file : (ask : DiskAsk) → ask_of look ≡ Some (asks.Disk ask) → (tree : Tree) → change_of_ask tree ask ≡ None
  look_ups_change_no_file ask is = stage_changes_nothing setting now look.stage own (asks.Disk ask) is

  is_own_stream : (dir : ℕ) → (folder : Path) × IsOpen now folder dir → IsOwnStream exchanges dir
  is_own_stream dir (folder, here) =
      record { folder = folder; last = here.last; left = here.left; stream = here.stream; told = here.told; of = here.of; number = here.number }

  -- it reads and closes only the stream that it opened last
  pub streams_of_look_ups_are_their_own : (dir : ℕ)
      → (ask_of look ≡ Some (asks.Disk (disk_asks.NextEntry dir))) ⊎ (ask_of look ≡ Some (asks.Disk (disk_asks.CloseDir dir)))
      → IsOwnStream exchanges dir
  streams_of_look_ups_are_their_own dir (inl is) =
      is_own_stream dir (stage_asks_own setting now look.stage own (asks.Disk (disk_asks.NextEntry dir)) is)
  streams_of_look_ups_are_their_own dir (inr is) =
      is_own_stream dir (stage_asks_own setting now look.stage own (asks.Disk (disk_asks.CloseDir dir)) is)

  -- it has none open where it opens one
  pub look_ups_open_one_stream_at_a_time : (path : Path) → ask_of look ≡ Some (asks.Disk (disk_asks.OpenDir path)) → left_open exchanges ≡ None
  look_ups_open_one_stream_at_a_time path is = stage_asks_own setting now look.stage own (asks.Disk (disk_asks.OpenDir path)) is

  -- and leaves none open when it is done
  pub look_ups_leave_no_stream_open : (reply : Reply) → result_of look ≡ Ok reply → left_open exchanges ≡ None
  look_ups_leave_no_stream_open reply is = done_has_none setting now look.head look.stage reply own is
