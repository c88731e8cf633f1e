-- Laws of listings of the folders of packs: of a lister by itself, and of the listings that look-ups pass to the core.
mod TreeNames
pub mod Seen
pub mod HandedRows
pub mod OfTree
use Rattle.std.proofs.Common.{◌≡◌, ℕ, List, [], ◌∷◌, Contains, Some, sym, subst}
use Rattle.std.specs.List.{All, IsDistinct}
use Rattle.std.proofs.lemmas.Option.{same_Some}
use Rattle.odb_base.specs.Path.{Path}
use Rattle.odb_disk.specs.declared.ask.DiskAnswer.{DiskAnswer}
use Rattle.odb_disk.specs.declared.ask.DiskAsk.{DiskAsk}
use Rattle.odb_disk.specs.Tree.{Tree}
use Rattle.odb_disk.specs.declared.entry.Entry.{Entry}
use Rattle.gix_hash.specs.declared.object_id.ObjectId.{ObjectId}
use Rattle.gix_odb_events.specs.PackFiles.{same_path, HasDifferentPaths}
use Rattle.gix_odb_events.specs.declared.listing.Listing.{Listing}
use Rattle.gix_odb_events.specs.declared.listing.ListingRow.{ListingRow}
use Rattle.gix_odb_calls.specs.declared.verdict.FolderCall.{FolderCall}
use Rattle.gix_odb_events.specs.declared.event.Event.TheVariants as events
use Rattle.gix_odb_events.specs.declared.view.View.{View}
use Rattle.gix_odb_search.specs.ListOrder as lists
use Rattle.gix_odb_search.specs.LongestFirst.{longest_first}
use Rattle.gix_odb_search.specs.MultiPack.{unnamed}
use Rattle.gix_odb_events.specs.declared.answer.Answer.{Answer}
use Rattle.gix_odb_events.specs.declared.answer.Answer.TheVariants as told
use Rattle.gix_odb_events.specs.declared.answer.Ask.{Ask}
use Rattle.gix_odb_events.specs.declared.answer.Ask.TheVariants as asks
use Rattle.gix_odb_search.specs.declared.lister.ListStep.{ListStep}
use Rattle.gix_odb_search.specs.declared.lister.ListStep.TheVariants as steps
use Rattle.gix_odb_search.specs.declared.lister.Lister.{Lister}
use Rattle.gix_object.specs.declared.want.Want.{Want}
use Rattle.gix_odb.specs.LookExchanges.{AreAsked, Exchange, WasTold, behind}
use Rattle.gix_odb.specs.LookUpOrder.{Setting, ask_at, ask_of, fed, seen, started}
use Rattle.gix_odb.specs.Shown.{folders_of}
use Rattle.gix_odb.specs.declared.refresh.Refresh.TheVariants as fronts
use Rattle.gix_odb.specs.declared.look_up.LookStage.{LookStage}
use Rattle.gix_odb.specs.declared.look_up.LookStage.TheVariants as stages
use Rattle.gix_odb.specs.declared.look_up.LookUp.{LookUp}
use Rattle.gix_odb.specs.declared.refresh_mode.RefreshMode.{RefreshMode}
use Rattle.gix_odb.proofs.ListerLaws.Lists.{has_first, has_later}
use Rattle.gix_odb.proofs.ListerLaws.Apart.{StepDiffers, listing_differs, starts_apart}
use Rattle.gix_odb.proofs.HandedLaws.Stages.{Goes, Stands, Steps, published, stage_stands, start_stands}
use Rattle.gix_odb.specs.ListedFiles.{AreOfTree, IsOfTree, IsToldOfTree, all_rows, listed_in}
use Rattle.gix_odb.specs.ListerCalls.{AreCalls, AreCallsOfTree, Call, IsRowSeen, WasCalled, behind_calls}
use Rattle.gix_odb.proofs.ListingLaws.OfTree.{ListsStage, ListsStep, listing_lists, starts_listing}
use Rattle.gix_odb.proofs.ListingLaws.Seen.{AreSeen, SeesLister, SeesStep, listing_sees, starts_seeing}
pub use Rattle.gix_odb.proofs.HandedLaws.{rows_of_a_listing_have_different_paths}
use Rattle.gix_odb.specs.Store.{listed_for}
use Rattle.gix_odb_search.specs.ListedStore.{ListedStore}

-- ---- a lister by itself

module _ (store : ListedStore) (objects : Path) (base : ℕ) where
  abbrev start : ListStep
  start = steps.More (lists.started objects base)

  differs_behind : IsDistinct same_path (objects ∷ store.folders) → (step : ListStep) → StepDiffers store step → (calls : List Call)
      → StepDiffers store (behind_calls store step calls)
  differs_behind distinct step here [] = here
  differs_behind distinct (steps.More lister) here (call ∷ calls) =
      differs_behind distinct (lists.fed store lister call.answer)
      (listing_differs store objects distinct lister.head lister.stage here call.answer) calls
  differs_behind distinct (steps.Listed listing) here (call ∷ calls) = here
  differs_behind distinct steps.Broken here (call ∷ calls) = tt
  differs_behind distinct (steps.TooManyPacks actual path) here (call ∷ calls) = tt

  sees_behind : (Told : DiskAsk → DiskAnswer → Type 0) (step : ListStep) → SeesStep Told store step → (calls : List Call)
      → AreCalls store step calls → ((call : Call) → Contains calls call → Told call.ask call.answer) → SeesStep Told store (behind_calls store step calls)
  sees_behind Told step here [] are was = here
  sees_behind Told (steps.More lister) here (call ∷ calls) are was =
      sees_behind Told (lists.fed store lister call.answer)
      (listing_sees Told store lister.head here.rows lister.stage here.stage call.answer
      (subst (λ (ask : DiskAsk). Told ask call.answer) (sym are.0) (was call (has_first call calls))))
      calls are.1 (λ other among. was other (has_later call calls other among))
  sees_behind Told (steps.Listed listing) here (call ∷ calls) are was = here
  sees_behind Told steps.Broken here (call ∷ calls) are was = tt
  sees_behind Told (steps.TooManyPacks actual path) here (call ∷ calls) are was = tt

  lists_behind : (tree : Tree) (total : List ListingRow) (coming : List Entry) (step : ListStep) → ListsStep tree store total coming step → (calls : List Call)
      → AreCalls store step calls → AreCallsOfTree tree coming calls
      → (left : List Entry) × ListsStep tree store total left (behind_calls store step calls)
  lists_behind tree total coming step here [] are of = (coming, here)
  lists_behind tree total coming (steps.More lister) here (call ∷ calls) are of =
      lists_behind tree total of.0 (lists.fed store lister call.answer)
      (listing_lists tree store total lister.head coming lister.stage here call.answer of.0
      (subst (λ (ask : DiskAsk). IsOfTree tree coming ask call.answer of.0) (sym are.0) of.1))
      calls are.1 of.2
  lists_behind tree total coming (steps.Listed listing) here (call ∷ calls) are of = absurd are
  lists_behind tree total coming steps.Broken here (call ∷ calls) are of = absurd are
  lists_behind tree total coming (steps.TooManyPacks actual path) here (call ∷ calls) are of = absurd are

  module _ (calls : List Call) (listing : Listing) (are : AreCalls store start calls) (ends : behind_calls store start calls ≡ steps.Listed listing) where
    -- No two rows of a listing have the same path.
    pub listed_rows_have_different_paths : IsDistinct same_path (objects ∷ store.folders) → HasDifferentPaths listing.rows
    listed_rows_have_different_paths distinct =
        subst (StepDiffers store) ends (differs_behind distinct start (starts_apart store objects distinct base) calls)

    -- Each row's index was itself a file in one of its calls, and its pack's path showed a file in one; and a multi-pack index was read in one, with the
    -- row's content and time.
    pub listed_rows_were_seen : All (IsRowSeen (WasCalled calls)) listing.rows
    listed_rows_were_seen =
        subst (SeesStep (WasCalled calls) store) ends
        (sees_behind (WasCalled calls) start (starts_seeing (WasCalled calls) store objects base) calls are (λ call among. among))

    -- Where one tree answers all its calls, the rows are the tree's listed files, in the order in which they are tried.
    pub listed_rows_are_those_of_the_tree : (tree : Tree) → AreCallsOfTree tree [] calls → listing.rows ≡ longest_first (listed_in tree store.multi (objects ∷ store.folders))
    listed_rows_are_those_of_the_tree tree of =
        let total = all_rows tree store.multi (objects ∷ store.folders) in
        let lists_so = lists_behind tree total [] start (starts_listing tree store objects base []) calls are of in
        subst (ListsStep tree store total lists_so.0) ends lists_so.1

-- ---- listings of look-ups

module _ (setting : Setting) where
  abbrev AnyCall : FolderCall → Type 0
  AnyCall call = Unit {0}

  -- ---- what was seen

  module _ (all : List Exchange) where
    abbrev Told : DiskAsk → DiskAnswer → Type 0
    Told ask answer = WasTold all (asks.Disk ask) (told.Disk answer)

    abbrev OfLister : Lister → Type 0
    OfLister lister = SeesLister Told (listed_for setting.parts) lister

    abbrev OfRows : List ListingRow → Type 0
    OfRows rows = AreSeen Told (listed_for setting.parts) rows

    abbrev Sees : LookStage → Type 0
    Sees stage = Stands setting AnyCall OfLister OfRows (Unit {0}) stage

    step_seen : (step : ListStep) → SeesStep Told (listed_for setting.parts) step → Steps setting AnyCall OfLister OfRows (Unit {0}) step
    step_seen (steps.More lister) here = here
    step_seen (steps.Listed listing) here = (tt, here)
    step_seen steps.Broken here = tt
    step_seen (steps.TooManyPacks actual path) here = tt

    goes_seeing : (stage : LookStage) → Sees stage → (ask : Ask) (answer : Answer) → ask_at stage ≡ Some ask → WasTold all ask answer
        → Goes setting AnyCall OfLister OfRows (Unit {0}) stage answer
    goes_seeing (stages.Trying trier part) here ask answer is was = tt
    goes_seeing (stages.Loose round call) here ask (told.Disk answer) is was = tt
    goes_seeing (stages.Loose round call) here ask (told.Core answer) is was = here
    goes_seeing (stages.Refreshing fronts.Reading purpose notes) here ask answer is was = tt
    goes_seeing (stages.Checking list_no notes) here ask answer is was = tt
    goes_seeing (stages.Refreshing (fronts.Listing lister) purpose notes) here ask (told.Disk answer) is was =
        step_seen (lists.fed (listed_for setting.parts) lister answer)
        (listing_sees Told (listed_for setting.parts) lister.head here.rows lister.stage here.stage answer
        (subst (λ (a : Ask). WasTold all a (told.Disk answer)) (sym (same_Some _ ask is)) was))
    goes_seeing (stages.Refreshing (fronts.Listing lister) purpose notes) here ask (told.Core answer) is was = here
    goes_seeing (stages.Refreshing (fronts.Publishing listing) purpose notes) here ask answer is was = here
    goes_seeing (stages.Done reply) here ask answer is was = tt

    seen_behind : (look : LookUp) → Sees look.stage → (exchanges : List Exchange) → AreAsked setting look exchanges
        → ((exchange : Exchange) → Contains exchanges exchange → Contains all exchange) → Sees (behind setting look exchanges).stage
    seen_behind look here [] asked among = here
    seen_behind look here (exchange ∷ exchanges) asked among =
        seen_behind (fed setting look exchange.answer)
        (stage_stands setting AnyCall OfLister OfRows (Unit {0}) (λ want id folder. tt) (λ base here. starts_seeing Told (listed_for setting.parts) setting.parts.objects base)
        (seen look.head exchange.answer) look.stage exchange.answer
        (goes_seeing look.stage here exchange.ask exchange.answer asked.0 (among exchange (has_first exchange exchanges))))
        exchanges asked.1 (λ other is. among other (has_later exchange exchanges other is))

  -- ---- what one tree lists

  module _ (tree : Tree) where
    abbrev total : List ListingRow
    total = all_rows tree (listed_for setting.parts).multi (folders_of setting)

    abbrev IsAtLister : List Entry → Lister → Type 0
    IsAtLister coming lister = ListsStage tree (listed_for setting.parts) total coming lister.head lister.stage

    abbrev AreAll : List ListingRow → Type 0
    AreAll rows = rows ≡ longest_first (unnamed total)

    abbrev Lists : List Entry → LookStage → Type 0
    Lists coming stage = Stands setting AnyCall (IsAtLister coming) AreAll (Unit {0}) stage

    step_listed : (coming : List Entry) (step : ListStep) → ListsStep tree (listed_for setting.parts) total coming step
        → Steps setting AnyCall (IsAtLister coming) AreAll (Unit {0}) step
    step_listed coming (steps.More lister) here = here
    step_listed coming (steps.Listed listing) here = (tt, here)
    step_listed coming steps.Broken here = tt
    step_listed coming (steps.TooManyPacks actual path) here = tt

    goes_listing : (coming : List Entry) (stage : LookStage) → Lists coming stage → (ask : Ask) (answer : Answer) (left : List Entry)
        → ask_at stage ≡ Some ask → IsToldOfTree tree coming ask answer left → Goes setting AnyCall (IsAtLister left) AreAll (Unit {0}) stage answer
    goes_listing coming (stages.Trying trier part) here ask answer left is of = tt
    goes_listing coming (stages.Loose round call) here ask (told.Disk answer) left is of = tt
    goes_listing coming (stages.Loose round call) here ask (told.Core answer) left is of = here
    goes_listing coming (stages.Refreshing fronts.Reading purpose notes) here ask answer left is of = tt
    goes_listing coming (stages.Checking list_no notes) here ask answer left is of = tt
    goes_listing coming (stages.Refreshing (fronts.Listing lister) purpose notes) here ask (told.Disk answer) left is of =
        step_listed left (lists.fed (listed_for setting.parts) lister answer)
        (listing_lists tree (listed_for setting.parts) total lister.head coming lister.stage here answer left
        (subst (λ (a : Ask). IsToldOfTree tree coming a (told.Disk answer) left) (sym (same_Some _ ask is)) of))
    goes_listing coming (stages.Refreshing (fronts.Listing lister) purpose notes) here ask (told.Core answer) left is of =
        absurd (subst (λ (a : Ask). IsToldOfTree tree coming a (told.Core answer) left) (sym (same_Some _ ask is)) of)
    goes_listing coming (stages.Refreshing (fronts.Publishing listing) purpose notes) here ask answer left is of = here
    goes_listing coming (stages.Done reply) here ask answer left is of = tt

    listed_behind : (coming : List Entry) (look : LookUp) → Lists coming look.stage → (exchanges : List Exchange) → AreAsked setting look exchanges
        → AreOfTree tree coming exchanges → (left : List Entry) × Lists left (behind setting look exchanges).stage
    listed_behind coming look here [] asked of = (coming, here)
    listed_behind coming look here (exchange ∷ exchanges) asked of =
        listed_behind of.0 (fed setting look exchange.answer)
        (stage_stands setting AnyCall (IsAtLister of.0) AreAll (Unit {0}) (λ want id folder. tt)
        (λ base here. starts_listing tree (listed_for setting.parts) setting.parts.objects base of.0) (seen look.head exchange.answer) look.stage exchange.answer
        (goes_listing coming look.stage here exchange.ask exchange.answer of.0 asked.0 of.1))
        exchanges asked.1 of.2

  -- ---- the laws

  module _ (mode : RefreshMode) (view : View) (want : Want) (id : ObjectId) (exchanges : List Exchange) (asked : AreAsked setting (started setting mode view want id) exchanges)
      (listing : Listing) (is : ask_of (behind setting (started setting mode view want id) exchanges) ≡ Some (asks.Core (events.Publish listing))) where
    abbrev begun : LookUp
    begun = started setting mode view want id

    -- Each row of a listing that is passed to the core has an index that was itself a file in one of the exchanges, and a pack path that
    -- showed a file in one; or it is that of a multi-pack index, which was read in one, with the row's content and time.
    pub rows_of_a_listing_were_seen : All (IsRowSeen (λ ask answer. WasTold exchanges (asks.Disk ask) (told.Disk answer))) listing.rows
    rows_of_a_listing_were_seen =
        published setting AnyCall (OfLister exchanges) (OfRows exchanges) (Unit {0}) (behind setting begun exchanges).stage
        (seen_behind exchanges begun
        (start_stands setting AnyCall (OfLister exchanges) (OfRows exchanges) (Unit {0}) (λ want id folder. tt)
        (λ base here. starts_seeing (Told exchanges) (listed_for setting.parts) setting.parts.objects base) mode view want id tt)
        exchanges asked (λ exchange among. among))
        listing is

    -- Where one tree answered all calls of the disk, the rows are the tree's listed files, in the order in which they are tried.
    pub rows_of_a_listing_are_those_of_the_tree : (tree : Tree) → AreOfTree tree [] exchanges → listing.rows ≡ longest_first (listed_in tree (listed_for setting.parts).multi (folders_of setting))
    rows_of_a_listing_are_those_of_the_tree tree of =
        let lists_so =
        listed_behind tree [] begun
        (start_stands setting AnyCall (IsAtLister tree []) (AreAll tree) (Unit {0}) (λ want id folder. tt)
        (λ base here. starts_listing tree (listed_for setting.parts) setting.parts.objects base []) mode view want id tt)
        exchanges asked of in
        published setting AnyCall (IsAtLister tree lists_so.0) (AreAll tree) (Unit {0}) (behind setting begun exchanges).stage lists_so.1 listing is
