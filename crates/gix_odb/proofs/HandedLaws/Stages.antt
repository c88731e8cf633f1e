-- What is kept from stage to stage of a look-up: of the loose objects that it asks, of its listing, and of the rows that it publishes.
use Rattle.std.proofs.Common.{◌≡◌, ℕ, ◌==◌, Bool, true, false, cond, List, [], slice_get, Option, Some, None, Ok, Err, subst}
use Rattle.std.proofs.lemmas.Option.{same_Some}
use Rattle.odb_base.specs.Path.{Path}
use Rattle.gix_hash.specs.declared.object_id.ObjectId.{ObjectId}
use Rattle.gix_odb_events.specs.declared.event.Effect.{Effect}
use Rattle.gix_odb_events.specs.declared.event.Effect.TheVariants as effects
use Rattle.gix_odb_events.specs.declared.event.Event.TheVariants as events
use Rattle.gix_odb_events.specs.declared.view.View.{View}
use Rattle.gix_odb_events.specs.declared.listing.Listing.{Listing}
use Rattle.gix_odb_events.specs.declared.listing.ListingRow.{ListingRow}
use Rattle.gix_odb_events.specs.declared.loaded.Todo.{Todo}
use Rattle.gix_odb_search.specs.ListOrder as lists
use Rattle.gix_odb_search.specs.TryOrder.{seek}
use Rattle.gix_odb_search.specs.TryOrder as tries
use Rattle.gix_odb_events.specs.declared.answer.Answer.{Answer}
use Rattle.gix_odb_events.specs.declared.answer.Answer.TheVariants as told
use Rattle.gix_odb_events.specs.declared.answer.Ask.{Ask}
use Rattle.gix_odb_events.specs.declared.answer.Ask.TheVariants as asks
use Rattle.gix_odb_search.specs.declared.index_loader.IndexLoader.TheVariants as loaders
use Rattle.gix_odb_search.specs.declared.lister.ListStep.{ListStep}
use Rattle.gix_odb_search.specs.declared.lister.ListStep.TheVariants as listed
use Rattle.gix_odb_search.specs.declared.lister.Lister.{Lister}
use Rattle.gix_odb_search.specs.declared.search.Notes.{Notes}
use Rattle.gix_odb_search.specs.declared.trier.Stage.{Stage}
use Rattle.gix_odb_search.specs.declared.trier.Stage.TheVariants as tries_stages
use Rattle.gix_odb_search.specs.declared.trier.Tried.{Tried}
use Rattle.gix_odb_search.specs.declared.trier.Tried.TheVariants as tried
use Rattle.gix_odb_calls.specs.Verdict.{asking, folder_ask, folder_verdict}
use Rattle.gix_odb_calls.specs.declared.load_index.Error.TheVariants as load_errors
use Rattle.gix_object.specs.declared.want.Want.{Want}
use Rattle.gix_odb_calls.specs.declared.verdict.FolderCall.{FolderCall}
use Rattle.gix_odb_calls.specs.declared.verdict.Verdict.{Verdict}
use Rattle.gix_odb_calls.specs.declared.verdict.Verdict.TheVariants as verdicts
use Rattle.gix_odb.specs.declared.refresh.Refresh.{Refresh}
use Rattle.gix_odb.specs.declared.refresh.Refresh.TheVariants as fronts
use Rattle.gix_odb.specs.declared.refresh.RefreshStep.{RefreshStep}
use Rattle.gix_odb.specs.declared.refresh.RefreshStep.TheVariants as steps
use Rattle.gix_odb.specs.RefreshOrder.{by_listed, by_look, by_published}
use Rattle.gix_odb.specs.RefreshOrder as refreshes
use Rattle.gix_odb.specs.LookUpOrder.{Setting, after_core_list, after_list, after_loose, ask_at, at_folder, by_checked, by_read, by_refresh, by_tried}
use Rattle.gix_odb.specs.LookUpOrder.{by_verdict, counted, ended, fed_at, goal_of, is_unsettled}
use Rattle.gix_odb.specs.LookUpOrder.{listing_from, load_refused, own_by}
use Rattle.gix_odb.specs.LookUpOrder.{new_head, not_found, started, trier_fed, try_view, unsettled, view_shown, without_absent, without_notes}
use Rattle.gix_odb.specs.declared.look_up.LookHead.{LookHead}
use Rattle.gix_odb.specs.declared.look_up.LookStage.{LookStage}
use Rattle.gix_odb.specs.declared.look_up.LookStage.TheVariants as stages
use Rattle.gix_odb.specs.declared.look_up.LooseRound.{LooseRound}
use Rattle.gix_odb.specs.declared.look_up.Part.{Part}
use Rattle.gix_odb.specs.declared.look_up.Part.TheVariants as parts
use Rattle.gix_odb.specs.declared.look_up.Purpose.{Purpose}
use Rattle.gix_odb.specs.declared.look_up.Purpose.TheVariants as purposes
use Rattle.gix_odb.specs.declared.refresh_mode.RefreshMode.{RefreshMode}
use Rattle.gix_odb.proofs.ModeLemmas.{by_mode-all}
use Rattle.gix_odb.specs.Store.{listed_for}

-- ---- what a stage asks

-- what holds of each ask that it may have holds of its ask
module _ (P : Ask → Type 0) (ask : Ask) where
  pub same_ask : (own : Ask) → P own → Some own ≡ Some ask → P ask
  same_ask own here is = subst P (same_Some own ask is) here

-- ---- what is kept

-- Here `OfCall`, `OfLister` and `OfRows` say what holds of the call on loose objects, of the listing and of the rows to be published, where
-- the look-up is at one, and `Else` what holds wherever it isn't at a listing.
module _ (setting : Setting) (OfCall : FolderCall → Type 0) (OfLister : Lister → Type 0) (OfRows : List ListingRow → Type 0) (Else : Type 0) where
  abbrev pub Stands : LookStage → Type 0
  Stands (stages.Loose round call) = Else × OfCall call
  Stands (stages.Refreshing (fronts.Listing lister) purpose notes) = OfLister lister
  Stands (stages.Refreshing (fronts.Publishing listing) purpose notes) = Else × OfRows listing.rows
  Stands stage = Else

  abbrev pub Steps : ListStep → Type 0
  Steps (listed.More lister) = OfLister lister
  Steps (listed.Listed listing) = Else × OfRows listing.rows
  Steps listed.Broken = Else
  Steps (listed.TooManyPacks actual path) = Else

  -- a step of a refresh
  abbrev Refreshes : RefreshStep → Type 0
  Refreshes (steps.More (fronts.Listing lister)) = OfLister lister
  Refreshes (steps.More (fronts.Publishing listing)) = Else × OfRows listing.rows
  Refreshes step = Else

  abbrev OfAsk : Ask → Type 0
  OfAsk (asks.Core (events.Publish listing)) = OfRows listing.rows
  OfAsk ask = Unit {0}

  trier_asks_so : (stage : Stage) → OfAsk (tries.ask_at stage)
  trier_asks_so (tries_stages.Loading (loaders.Reading place)) = tt
  trier_asks_so (tries_stages.Loading (loaders.Storing place file)) = tt
  trier_asks_so (tries_stages.Loading (loaders.Passing place why)) = tt
  trier_asks_so (tries_stages.ReadingPack pack) = tt
  trier_asks_so (tries_stages.StoringPack pack file) = tt
  trier_asks_so (tries_stages.PassingPack pack) = tt

  stage_asks_so : (stage : LookStage) → Stands stage → (ask : Ask) → ask_at stage ≡ Some ask → OfAsk ask
  stage_asks_so (stages.Trying trier part) here ask is = same_ask OfAsk ask (tries.ask_of trier) (trier_asks_so trier.stage) is
  stage_asks_so (stages.Loose round call) here ask is = same_ask OfAsk ask (asks.Disk (folder_ask call)) tt is
  stage_asks_so (stages.Refreshing fronts.Reading purpose notes) here ask is = same_ask OfAsk ask (asks.Core events.Look) tt is
  stage_asks_so (stages.Refreshing (fronts.Listing lister) purpose notes) here ask is = same_ask OfAsk ask (asks.Disk (lists.ask_of lister)) tt is
  stage_asks_so (stages.Refreshing (fronts.Publishing listing) purpose notes) here ask is = same_ask OfAsk ask (asks.Core (events.Publish listing)) here.1 is
  stage_asks_so (stages.Checking list_no notes) here ask is = same_ask OfAsk ask (asks.Core events.Look) tt is
  stage_asks_so (stages.Done reply) here ask is = absurd (cc is)

  -- what holds of the rows that are passed to the core
  pub published : (stage : LookStage) → Stands stage → (listing : Listing) → ask_at stage ≡ Some (asks.Core (events.Publish listing)) → OfRows listing.rows
  published stage here listing is = stage_asks_so stage here (asks.Core (events.Publish listing)) is

  -- what is to hold after an answer, for the next stage to keep it
  abbrev pub Goes : LookStage → Answer → Type 0
  Goes (stages.Loose round call) (told.Disk answer) = Else
  Goes (stages.Refreshing (fronts.Listing lister) purpose notes) (told.Disk answer) = Steps (lists.fed (listed_for setting.parts) lister answer)
  Goes stage answer = Stands stage

  module _ (calls : (want : Want) (id : ObjectId) (folder : Path) → OfCall (asking setting.parts.alloc_limit_bytes want id folder))
      (begins : (base : ℕ) → Else → OfLister (lists.started setting.parts.objects base)) where
    -- ---- the parts begin

    chosen : (b : Bool) (one other : LookStage) → Stands one → Stands other → Stands (cond b one other)
    chosen true one other first further = first
    chosen false one other first further = further

    ended_stands : (want : Want) (notes : Notes) → Else → Stands (ended want notes)
    ended_stands want notes here =
        chosen notes.failed (stages.Done (load_refused load_errors.Io)) (stages.Done (not_found want)) here here

    -- a list of the core was tried, and the loose folders
    core_list_stands : (head : LookHead) (list_no : ℕ) (notes : Notes) → Else → Stands (after_core_list setting head list_no notes)
    core_list_stands head list_no notes here =
        by_mode-all Stands (ended head.want notes) (listing_from setting list_no notes) head.mode (ended_stands head.want notes here) (begins list_no here)

    list_stands : (head : LookHead) (part : Part) (notes : Notes) → Else → Stands (after_list setting head part notes)
    list_stands head parts.Snapshot notes here = (here, calls head.want head.id setting.parts.objects)
    list_stands head (parts.List list_no true) notes here = (here, calls head.want head.id setting.parts.objects)
    list_stands head (parts.List list_no false) notes here = core_list_stands head list_no notes here
    list_stands head (parts.Published list_no) notes here = (here, calls head.want head.id setting.parts.objects)

    loose_stands : (head : LookHead) (part : Part) (notes : Notes) → Else → Stands (after_loose setting head part notes)
    loose_stands head parts.Snapshot notes here = here
    loose_stands head (parts.List list_no loose) notes here = core_list_stands head list_no notes here
    loose_stands head (parts.Published list_no) notes here =
        by_mode-all Stands (ended head.want notes) (stages.Checking list_no notes) head.mode (ended_stands head.want notes here) here

    -- ---- a list is tried

    tried_stands : (head : LookHead) (part : Part) (end : Tried) → Else → Stands (by_tried setting head part end)
    tried_stands head part (tried.More trier) here = here
    tried_stands head part (tried.Hit found) here = here
    tried_stands head part (tried.Missed notes) here = list_stands head part notes here
    tried_stands head part (tried.Bad error) here = here
    tried_stands head part (tried.Broken refusal) here = here

    try_stands : (head : LookHead) (part : Part) (view : View) (todo : List Todo) (notes : Notes) → Else
        → Stands (try_view setting head part view todo notes)
    try_stands head part view todo notes here =
        tried_stands head part (seek (goal_of setting head) (record { indices = view.snapshot.indices; todo = todo; notes = notes })) here

    -- a new look-up has what is to hold
    pub start_stands : (mode : RefreshMode) (view : View) (want : Want) (id : ObjectId) → Else → Stands (started setting mode view want id).stage
    start_stands mode view want id here =
        chosen view.read (try_view setting (new_head mode want id) parts.Snapshot view [] without_notes)
        (stages.Refreshing fronts.Reading (purposes.First true) without_notes)
        (try_stands (new_head mode want id) parts.Snapshot view [] without_notes here) here

    -- ---- a folder has replied

    folder_stands : (head : LookHead) (round : LooseRound) (next : Option Path) → Else → Stands (at_folder setting head round next)
    folder_stands head round None here = loose_stands head round.part round.notes here
    folder_stands head round (Some folder) here = (here, calls head.want head.id folder)

    verdict_stands : (head : LookHead) (round : LooseRound) (verdict : Verdict) → Else → Stands (by_verdict setting head round verdict)
    verdict_stands head round (verdicts.Ends reply) here = here
    verdict_stands head round verdicts.Misses here = folder_stands head round (slice_get setting.parts.folders round.next) here
    verdict_stands head round (verdicts.Notes error) here =
        folder_stands head (record round { notes = record round.notes { failed = true } }) (slice_get setting.parts.folders round.next) here

    -- ---- the core has answered

    counted_stands : (head : LookHead) (now : ℕ) (next : LookStage) → Else → Stands next → Stands (counted setting head now next)
    counted_stands head now next here own = chosen (is_unsettled setting head now) (unsettled head now) next here own

    check_stands : (head : LookHead) (list_no : ℕ) (notes : Notes) (view : Option View) → Else → Stands (by_checked setting head list_no notes view)
    check_stands head list_no notes None here = here
    check_stands head list_no notes (Some view) here =
        chosen (view.list_no == list_no) (ended head.want notes) (counted setting head view.list_no (listing_from setting view.list_no notes))
        (ended_stands head.want notes here)
        (counted_stands head view.list_no (listing_from setting view.list_no notes) here (begins view.list_no here))

    -- ---- the list of the core is read, or brought up to date

    view_refreshes : (view : View) (read : Bool) → Else → Refreshes (cond read (steps.Read view) (steps.More (refreshes.listing_from setting.parts.objects view.list_no)))
    view_refreshes view true here = here
    view_refreshes view false here = begins view.list_no here

    look_refreshes : (view : Option View) → Else → Refreshes (by_look setting.parts.objects view)
    look_refreshes None here = here
    look_refreshes (Some view) here = view_refreshes view view.read here

    listed_refreshes : (step : ListStep) → Steps step → Refreshes (by_listed step)
    listed_refreshes (listed.More lister) here = here
    listed_refreshes (listed.Listed listing) here = here
    listed_refreshes listed.Broken here = here
    listed_refreshes (listed.TooManyPacks actual path) here = here

    published_refreshes : (listing : Listing) (effect : Effect) → Else → OfRows listing.rows → Refreshes (by_published listing effect)
    published_refreshes listing (effects.Published view) here own = here
    published_refreshes listing (effects.Unchanged view) here own = here
    published_refreshes listing (effects.Outdated list_no) here own = here
    published_refreshes listing effect here own = (here, own)

    read_stands : (head : LookHead) (purpose : Purpose) (view : View) (notes : Notes) → Else → Stands (by_read setting head purpose view notes)
    read_stands head (purposes.First loose) view notes here = try_stands head (parts.List view.list_no loose) view view.todo notes here
    read_stands head purposes.Again view notes here =
        by_mode-all Stands (stages.Refreshing fronts.Reading (purposes.First true) notes) (listing_from setting view.list_no notes) head.mode here
        (begins view.list_no here)

    refresh_stands : (head : LookHead) (purpose : Purpose) (notes : Notes) (step : RefreshStep) → Refreshes step
        → Stands (by_refresh setting head purpose notes step).stage
    refresh_stands head purpose notes (steps.More fronts.Reading) here = here
    refresh_stands head purpose notes (steps.More (fronts.Listing lister)) here = here
    refresh_stands head purpose notes (steps.More (fronts.Publishing listing)) here = here
    refresh_stands head purpose notes (steps.Read view) here = read_stands head purpose view notes here
    refresh_stands head purpose notes (steps.Current view own) here =
        try_stands (own_by head own) (parts.Published view.list_no) view view.todo (without_absent notes) here
    refresh_stands head purpose notes (steps.Outdated list_no) here =
        counted_stands head list_no (stages.Refreshing fronts.Reading purposes.Again notes) here here
    refresh_stands head purpose notes (steps.Refused error) here = here

    refreshed : (refresh : Refresh) (purpose : Purpose) (notes : Notes) (answer : Answer) → Goes (stages.Refreshing refresh purpose notes) answer
        → Refreshes (refreshes.fed setting.parts.objects (listed_for setting.parts) refresh answer)
    refreshed fronts.Reading purpose notes (told.Disk answer) here = here
    refreshed fronts.Reading purpose notes (told.Core (Ok effect)) here = look_refreshes (view_shown effect) here
    refreshed fronts.Reading purpose notes (told.Core (Err refusal)) here = here
    refreshed (fronts.Listing lister) purpose notes (told.Disk answer) here = listed_refreshes (lists.fed (listed_for setting.parts) lister answer) here
    refreshed (fronts.Listing lister) purpose notes (told.Core answer) here = here
    refreshed (fronts.Publishing listing) purpose notes (told.Disk answer) here = here
    refreshed (fronts.Publishing listing) purpose notes (told.Core (Ok effect)) here = published_refreshes listing effect here.0 here.1
    refreshed (fronts.Publishing listing) purpose notes (told.Core (Err refusal)) here = here.0

    -- ---- an answer

    pub stage_stands : (head : LookHead) (stage : LookStage) (answer : Answer) → Goes stage answer → Stands (fed_at setting head stage answer).stage
    stage_stands head (stages.Trying trier part) answer here = tried_stands head part (trier_fed trier answer) here
    stage_stands head (stages.Loose round call) (told.Disk answer) here =
        verdict_stands head round (folder_verdict call answer) here
    stage_stands head (stages.Loose round call) (told.Core answer) here = here
    stage_stands head (stages.Refreshing refresh purpose notes) answer here =
        refresh_stands head purpose notes (refreshes.fed setting.parts.objects (listed_for setting.parts) refresh answer) (refreshed refresh purpose notes answer here)
    stage_stands head (stages.Checking list_no notes) (told.Disk answer) here = here
    stage_stands head (stages.Checking list_no notes) (told.Core (Ok effect)) here = check_stands head list_no notes (view_shown effect) here
    stage_stands head (stages.Checking list_no notes) (told.Core (Err refusal)) here = here
    stage_stands head (stages.Done reply) answer here = here
