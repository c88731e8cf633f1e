-- What a call passes to the core of its store as a listing, by the work that it is at.
use Rattle.std.proofs.Common.{◌≡◌, ℕ, List, [], take, Option, Some, None, sym, ap, ◌∙◌, subst, arith}
use Rattle.std.specs.List.{All}
use Rattle.std.proofs.lemmas.List.Elements.{All-weaker}
use Rattle.std.proofs.lemmas.Option.{slice_get_within}
use Rattle.odb_disk.specs.MemDisk.{Volume}
use Rattle.odb_disk.specs.declared.ask.DiskAsk.{DiskAsk}
use Rattle.odb_disk.specs.Tree.{Tree}
use Rattle.gix_odb_events.specs.PackFiles.{HasDifferentPaths}
use Rattle.gix_odb_events.specs.declared.listing.Listing.{Listing}
use Rattle.gix_odb_events.specs.declared.event.Event.TheVariants as events_of
use Rattle.gix_odb_events.specs.declared.view.View.{View}
use Rattle.gix_odb_core.specs.History.{opened, present}
use Rattle.gix_odb_loose.specs.LooseOrder.{disk_ask_of}
use Rattle.gix_odb_search.specs.LongestFirst.{longest_first}
use Rattle.gix_odb_events.specs.declared.answer.Answer.TheVariants as told_by
use Rattle.gix_odb_events.specs.declared.answer.Ask.TheVariants as parts
use Rattle.gix_odb.specs.LookExchanges.{Exchange, WasTold}
use Rattle.gix_odb.specs.LookUpOrder as looks
use Rattle.gix_odb.specs.Shown.{IsIndexRow, IsRowHanded}
use Rattle.gix_odb.specs.Store.{listed_for}
use Rattle.gix_odb.proofs.FoundLaws.{what_is_handed_was_shown}
use Rattle.gix_odb.proofs.HandedLaws.{rows_of_a_listing_have_different_paths}
use Rattle.gix_odb.specs.ListedFiles.{AreOfTree, listed_in}
use Rattle.gix_odb.specs.ListerCalls.{IsRowSeen}
use Rattle.gix_odb.proofs.ListingLaws.{rows_of_a_listing_are_those_of_the_tree, rows_of_a_listing_were_seen}
use Rattle.gix_odb.specs.RefreshOrder as refreshes
use Rattle.gix_odb.proofs.RefreshLaws.{rows_are_of_the_folders}
use Rattle.gix_odb_world.proofs.RefreshHappenLaws.{what_a_refresh_hands_on_can_happen}
use Rattle.gix_odb.specs.Contents.{folder_list, sought}
use Rattle.gix_odb.proofs.OpenLaws.{openings_ask_no_event}
use Rattle.gix_odb.specs.declared.call_state.CallStage.TheVariants.{Looking, Refreshing, Refused, Writing}
use Rattle.gix_odb_world.specs.Work.{Work}
use Rattle.gix_odb_world.specs.Work.{Calling, Opening}
use Rattle.gix_odb_world.specs.AtWork.{Running, Store, setting_in}
use Rattle.gix_odb_history.specs.Event.{CoreEvent, Event}
use Rattle.gix_odb.specs.CallOrder.{loose_ask}
use Rattle.gix_odb_world.specs.Headline.{Works, stand_of}
use Rattle.gix_odb_world.specs.Machines.{ask_in}
use Rattle.gix_odb_history.specs.Run.{disk_after}
use Rattle.gix_odb_world.specs.Running.{Knows, Runs}
use Rattle.gix_odb_world.specs.Status.{Working}
use Rattle.gix_odb_world.specs.Told.{look_now, refresh_now, told_since, view_then}
use Rattle.gix_odb_world.proofs.Stock.OneCore.{ShownSince}
use Rattle.gix_odb_world.specs.RunLaws.Turn.{AsksCore, IsTurnAt}
use Rattle.gix_odb_world.proofs.RunLaws.KnownRun.{IsKnownRun}
use Rattle.gix_odb_world.proofs.RunLaws.QueryTurns.{core_asked}
use Rattle.gix_odb_world.proofs.RunLaws.RefreshListings.{rows_of_a_refresh_are_those_of_the_tree, rows_of_a_refresh_were_seen}

-- ---- what is asked

pub no_event : (ask : Option DiskAsk) (event : CoreEvent) → ¬ (loose_ask ask ≡ Some (parts.Core event))
no_event None event is = cc is
no_event (Some ask) event is = cc is

-- ---- a listing that is passed on

-- The rows of a listing have different paths; each is that of an index, or of the multi-pack index, in the pack directory of one of the store's folders, and was seen in the
-- handle's answers; and where one tree gave all of them, they are the tree's listed files.
pub record IsListed (store : Store) (told : List Exchange) (listing : Listing) : Type 0 where
  pub different : HasDifferentPaths listing.rows
  pub at : All (IsIndexRow (setting_in store)) listing.rows
  pub seen : All (IsRowSeen (λ ask answer. WasTold told (parts.Disk ask) (told_by.Disk answer))) listing.rows
  pub of_tree : (tree : Tree) → AreOfTree tree [] told → listing.rows ≡ longest_first (listed_in tree (listed_for store.parts).multi (folder_list store.parts))

module _ (first : Volume) (events : List Event) (is : IsKnownRun first events) (place : ℕ) (e : Event) (handle : ℕ) (running : Running)
    (turn : IsTurnAt events place e handle running) (listing : Listing) (publishes : AsksCore e (events_of.Publish listing)) where
  abbrev past : List Event
  past = take place events

  abbrev told : List Exchange
  told = told_since past handle running.begun

  abbrev view : View
  view = view_then past handle running.modes.core running.begun

  works : Works first past handle running e
  works = (is.lawful place e turn.there).worked handle running turn.turns

  runs : Runs first past handle (Working running)
  runs = subst (Runs first past handle) turn.turns.status (is.throughout place handle (let lt = slice_get_within events place e turn.there in omega (arith, lt)))

  asks_it : ask_in running.store running.work ≡ Some (parts.Core (events_of.Publish listing))
  asks_it =
      works.asks
      ∙ core_asked (stand_of past handle running) (disk_after first past) works.ask publishes.store publishes.seat (events_of.Publish listing) publishes.answer
      (sym works.told ∙ publishes.asked)

  by : (work : Work) → Knows first past handle running work → ask_in running.store work ≡ Some (parts.Core (events_of.Publish listing)) → IsListed running.store told listing
  by (Opening state) knows asks = absurd (openings_ask_no_event (setting_in running.store) state (events_of.Publish listing) asks)
  by (Calling (Looking look)) knows asks =
      let setting = setting_in running.store in
      let id = sought running.store.parts running.modes.ignoring knows.query in
      let here : looks.ask_of (look_now past handle running.store running.modes running.begun knows.query) ≡ Some (parts.Core (events_of.Publish listing)) =
      ap looks.ask_of (sym knows.is) ∙ asks in
      record {
        different = rows_of_a_listing_have_different_paths setting knows.fits.distinct running.modes.refresh view knows.query.want id told knows.asked listing here;
        at =
            All-weaker (IsRowHanded (ShownSince first past running.store) setting running.store.parts.object_hash) (IsIndexRow setting) (λ row own. own.0) listing.rows
            (what_is_handed_was_shown (ShownSince first past running.store) setting running.store.parts.object_hash knows.query.want id knows.fits.hashed running.modes.refresh view
            knows.well.snapshot told knows.asked knows.well.truth (parts.Core (events_of.Publish listing)) here);
        seen = rows_of_a_listing_were_seen setting running.modes.refresh view knows.query.want id told knows.asked listing here;
        of_tree = rows_of_a_listing_are_those_of_the_tree setting running.modes.refresh view knows.query.want id told knows.asked listing here;
      }
  by (Calling (Refreshing refresh call)) knows asks =
      let setting = setting_in running.store in
      let here : refreshes.asked_of (refresh_now past handle running.store running.modes running.begun) ≡ Some (parts.Core (events_of.Publish listing)) =
      ap refreshes.asked_of (sym knows.refresh_is) ∙ asks in
      record {
        different = what_a_refresh_hands_on_can_happen setting view told knows.asked knows.distinct (events_of.Publish listing) here (present (opened 0 0 0 0)) 0;
        at = rows_are_of_the_folders setting view told knows.asked listing here;
        seen = rows_of_a_refresh_were_seen setting view told knows.asked listing here;
        of_tree = rows_of_a_refresh_are_those_of_the_tree setting view told knows.asked listing here;
      }
  by (Calling (Writing call)) knows asks = absurd (no_event (disk_ask_of call) (events_of.Publish listing) asks)
  by (Calling (Refused error)) knows asks = absurd knows

  -- what a turn of any call passes to the core as a listing
  pub listed_by_turn : IsListed running.store told listing
  listed_by_turn = by running.work runs.1 asks_it
