-- Each listing that is published while an object stays unchanged in a pack has a row of a carrier of it. Calls may have failed before: a listing in
-- which one fails is given up.
use Rattle.std.proofs.Common.{◌≡◌, ℕ, Bool, true, false, List, [], ◌∷◌, ◌++◌, Contains, Option, Some, None, Ok, Err, inl, inr, sym, subst}
use Rattle.std.specs.Prelude.{if◌then◌else◌}
use Rattle.std.proofs.lemmas.Option.{same_Some}
use Rattle.odb_base.specs.Path.{Path}
use Rattle.odb_disk.specs.declared.ask.DiskAnswer.{DiskAnswer}
use Rattle.odb_disk.specs.declared.ask.DiskAnswer.TheVariants as disk_answers
use Rattle.odb_disk.specs.declared.disk_error.DiskError.TheVariants as disk_errors
use Rattle.gix_hash.specs.declared.kind.Kind.{Kind}
use Rattle.gix_hash.specs.declared.object_id.ObjectId.{ObjectId}
use Rattle.gix_object.specs.declared.want.Want.{Want}
use Rattle.gix_odb_calls.specs.declared.verdict.FolderCall.{FolderCall}
use Rattle.gix_odb_events.specs.declared.answer.Answer.{Answer}
use Rattle.gix_odb_events.specs.declared.answer.Answer.TheVariants as told
use Rattle.gix_odb_events.specs.declared.answer.Ask.{Ask}
use Rattle.gix_odb_events.specs.declared.answer.Ask.TheVariants as asks
use Rattle.gix_odb_events.specs.declared.event.Effect.{Effect}
use Rattle.gix_odb_events.specs.declared.event.Effect.TheVariants as effects
use Rattle.gix_odb_events.specs.declared.event.Event.{Event}
use Rattle.gix_odb_events.specs.declared.event.Event.TheVariants as events
use Rattle.gix_odb_events.specs.declared.listing.Listing.{Listing}
use Rattle.gix_odb_events.specs.declared.listing.ListingRow.{ListingRow}
use Rattle.gix_odb_events.specs.declared.view.View.{View}
use Rattle.gix_odb_search.specs.ListOrder as lists
use Rattle.gix_odb_search.specs.ListedStore.{ListedStore}
use Rattle.gix_odb_search.specs.declared.lister.ListHead.{ListHead}
use Rattle.gix_odb_search.specs.declared.lister.ListStage.{ListStage}
use Rattle.gix_odb_search.specs.declared.lister.ListStage.TheVariants as list_stages
use Rattle.gix_odb_search.specs.declared.lister.ListStep.{ListStep}
use Rattle.gix_odb_search.specs.declared.lister.ListStep.TheVariants as listed
use Rattle.gix_odb_search.specs.declared.lister.Lister.{Lister}
use Rattle.gix_odb.specs.Fair.{IsCarried, PackedPlace}
use Rattle.gix_odb.specs.LookExchanges as looks
use Rattle.gix_odb.specs.LookExchanges.{Exchange}
use Rattle.gix_odb.specs.LookUpOrder as look_ups
use Rattle.gix_odb.specs.LookUpOrder.{Setting, ask_at, seen}
use Rattle.gix_odb.specs.RefreshOrder.{asked_of, by_listed, by_look, by_published, by_view, listing_from, step_fed, view_shown}
use Rattle.gix_odb.specs.RefreshOrder as refreshes
use Rattle.gix_odb.specs.Refreshed as refreshed
use Rattle.gix_odb.specs.Shown.{folders_of}
use Rattle.gix_odb.specs.StillListed.{AreFairOrFailed, HasRow, IsFairOrFailed}
use Rattle.gix_odb.specs.Store.{listed_for}
use Rattle.gix_odb.specs.Stream.{Stream, stream_by, stream_in}
use Rattle.gix_odb.specs.declared.look_up.LookStage.{LookStage}
use Rattle.gix_odb.specs.declared.look_up.LookStage.TheVariants as stages
use Rattle.gix_odb.specs.declared.look_up.LookUp.{LookUp}
use Rattle.gix_odb.specs.declared.refresh.Refresh.{Refresh}
use Rattle.gix_odb.specs.declared.refresh.Refresh.TheVariants as fronts
use Rattle.gix_odb.specs.declared.refresh.RefreshStep.{RefreshStep}
use Rattle.gix_odb.specs.declared.refresh.RefreshStep.TheVariants as steps
use Rattle.gix_odb.specs.declared.refresh_mode.RefreshMode.{RefreshMode}
use Rattle.gix_odb.proofs.HandedLaws.Stages.{Goes, Stands, Steps, published, stage_stands, start_stands}
use Rattle.gix_odb.proofs.ListerLaws.Streams.{stream_in-push}
use Rattle.gix_odb.proofs.MissLaws.Listing.{IsOnWay, Stays, StepsOn, Way, begins, listing_goes}
use Rattle.gix_odb.proofs.RefreshLaws.{HandsOn, handed_on}

module _ (setting : Setting) (hash : Kind) (id : ObjectId) (place : PackedPlace) (carried : IsCarried (listed_for setting.parts).multi place)
    (among : Contains (folders_of setting) place.folder) where
  abbrev store : ListedStore
  store = listed_for setting.parts

  abbrev RowThere : List ListingRow → Type 0
  RowThere rows = HasRow store.multi hash id place rows

  abbrev IsOnItsWay : Option Stream → Lister → Type 0
  IsOnItsWay stream lister = IsOnWay store hash id place carried stream lister.head lister.stage

  abbrev GoesOn : Option Stream → ListStep → Type 0
  GoesOn stream step = StepsOn store hash id place carried stream step

  -- each listing that begins
  starts : (stream : Option Stream) (base : ℕ) → IsOnItsWay stream (lists.started setting.parts.objects base)
  starts stream base = begins store hash id place carried setting.parts.objects base stream among

  -- ---- a call of a listing

  module _ (past : List Exchange) where
    abbrev IsMet : Ask → Answer → Type 0
    IsMet ask answer = IsFairOrFailed store.multi hash id place past ask answer

    abbrev fails : DiskAnswer
    fails = disk_answers.Refused disk_errors.Failed

    -- a listing in which a call failed is given up
    failed_goes : (head : ListHead) → Stays store hash id place carried head → (stage : ListStage) → Way store hash id place carried (stream_in past) head stage
        → GoesOn (stream_by (stream_in past) (asks.Disk (lists.ask_at head.folder stage)) (told.Disk fails)) (lists.fed_at store head stage fails)
    failed_goes head stays list_stages.Opening way = tt
    failed_goes head stays (list_stages.Reading dir entries) way = (stays, tt)
    failed_goes head stays (list_stages.Closing dir entries) way =
        listing_goes store hash id place carried past head stays (list_stages.Closing dir entries) way fails tt
    failed_goes head stays (list_stages.Breaking dir) way = tt
    failed_goes head stays (list_stages.Index path left) way = tt
    failed_goes head stays (list_stages.Pack row left) way = tt
    failed_goes head stays (list_stages.Multi left) way = tt

    call_goes : (lister : Lister) → IsOnItsWay (stream_in past) lister → (answer : DiskAnswer) → IsMet (asks.Disk (lists.ask_of lister)) (told.Disk answer)
        → GoesOn (stream_by (stream_in past) (asks.Disk (lists.ask_of lister)) (told.Disk answer)) (lists.fed store lister answer)
    call_goes lister on answer (inl fair) = listing_goes store hash id place carried past lister.head on.0 lister.stage on.1 answer fair
    call_goes lister on answer (inr failed) =
        subst (λ (a : DiskAnswer). GoesOn (stream_by (stream_in past) (asks.Disk (lists.ask_of lister)) (told.Disk a)) (lists.fed store lister a)) (sym failed)
        (failed_goes lister.head on.0 lister.stage on.1)

  -- ---- look-ups

  abbrev AnyCall : FolderCall → Type 0
  AnyCall call = Unit {0}

  abbrev StandsOn : Option Stream → LookStage → Type 0
  StandsOn stream stage = Stands setting AnyCall (IsOnItsWay stream) RowThere (Unit {0}) stage

  step_stands : (stream : Option Stream) (step : ListStep) → GoesOn stream step → Steps setting AnyCall (IsOnItsWay stream) RowThere (Unit {0}) step
  step_stands stream (listed.More lister) on = on
  step_stands stream (listed.Listed listing) on = (tt, on)
  step_stands stream listed.Broken on = tt
  step_stands stream (listed.TooManyPacks actual path) on = tt

  stage_goes : (past : List Exchange) (stage : LookStage) → StandsOn (stream_in past) stage → (ask : Ask) (answer : Answer) → ask_at stage ≡ Some ask
      → IsMet past ask answer → Goes setting AnyCall (IsOnItsWay (stream_by (stream_in past) ask answer)) RowThere (Unit {0}) stage answer
  stage_goes past (stages.Trying trier part) on ask answer is met = tt
  stage_goes past (stages.Loose round call) on ask (told.Disk answer) is met = tt
  stage_goes past (stages.Loose round call) on ask (told.Core answer) is met = on
  stage_goes past (stages.Refreshing fronts.Reading purpose notes) on ask answer is met = tt
  stage_goes past (stages.Refreshing (fronts.Listing lister) purpose notes) on ask (told.Disk answer) is met =
      let own = same_Some _ ask is in
      subst (λ (a : Ask). Steps setting AnyCall (IsOnItsWay (stream_by (stream_in past) a (told.Disk answer))) RowThere (Unit {0}) (lists.fed store lister answer)) own
      (step_stands (stream_by (stream_in past) (asks.Disk (lists.ask_of lister)) (told.Disk answer)) (lists.fed store lister answer)
      (call_goes past lister on answer (subst (λ (a : Ask). IsMet past a (told.Disk answer)) (sym own) met)))
  stage_goes past (stages.Refreshing (fronts.Listing lister) purpose notes) on ask (told.Core answer) is met =
      absurd (subst (λ (a : Ask). IsMet past a (told.Core answer)) (sym (same_Some _ ask is)) met)
  stage_goes past (stages.Refreshing (fronts.Publishing listing) purpose notes) on ask answer is met = on
  stage_goes past (stages.Checking list_no notes) on ask answer is met = tt
  stage_goes past (stages.Done reply) on ask answer is met = tt

  stands_behind : (past : List Exchange) (look : LookUp) → StandsOn (stream_in past) look.stage → (exchanges : List Exchange)
      → looks.AreAsked setting look exchanges → AreFairOrFailed store.multi hash id place past exchanges
      → (stream : Option Stream) × StandsOn stream (looks.behind setting look exchanges).stage
  stands_behind past look on [] asked met = (stream_in past, on)
  stands_behind past look on (exchange ∷ exchanges) asked met =
      let next : Option Stream = stream_by (stream_in past) exchange.ask exchange.answer in
      stands_behind (past ++ exchange ∷ []) (look_ups.fed setting look exchange.answer)
      (subst (λ (s : Option Stream). StandsOn s (look_ups.fed setting look exchange.answer).stage) (sym (stream_in-push past exchange))
      (stage_stands setting AnyCall (IsOnItsWay next) RowThere (Unit {0}) (λ want id folder. tt) (λ base here. starts next base)
      (seen look.head exchange.answer) look.stage exchange.answer
      (stage_goes past look.stage on exchange.ask exchange.answer asked.0 met.0)))
      exchanges asked.1 met.1

  -- each listing that a look-up publishes, of a handle of either mode, and whatever it seeks
  pub look_ups_publish_what_stayed : (mode : RefreshMode) (view : View) (want : Want) (sought : ObjectId) (exchanges : List Exchange)
      → looks.AreAsked setting (look_ups.started setting mode view want sought) exchanges → AreFairOrFailed store.multi hash id place [] exchanges
      → (listing : Listing)
      → look_ups.ask_of (looks.behind setting (look_ups.started setting mode view want sought) exchanges) ≡ Some (asks.Core (events.Publish listing))
      → HasRow store.multi hash id place listing.rows
  look_ups_publish_what_stayed mode view want sought exchanges asked met listing is =
      let start : LookUp = look_ups.started setting mode view want sought in
      let on =
      stands_behind [] start
      (start_stands setting AnyCall (IsOnItsWay None) RowThere (Unit {0}) (λ want id folder. tt) (λ base here. starts None base) mode view want sought tt)
      exchanges asked met in
      published setting AnyCall (IsOnItsWay on.0) RowThere (Unit {0}) (looks.behind setting start exchanges).stage on.1 listing is

  -- ---- refreshes before writes

  abbrev IsAt : Option Stream → Refresh → Type 0
  IsAt stream fronts.Reading = Unit {0}
  IsAt stream (fronts.Listing lister) = IsOnItsWay stream lister
  IsAt stream (fronts.Publishing listing) = RowThere listing.rows

  abbrev StepIsAt : Option Stream → RefreshStep → Type 0
  StepIsAt stream (steps.More refresh) = IsAt stream refresh
  StepIsAt stream step = Unit {0}

  module _ (stream : Option Stream) where
    view_goes : (view : View) → StepIsAt stream (by_view setting.parts.objects view)
    view_goes view = by view.read
      where
        by : (read : Bool) → StepIsAt stream (if read then steps.Read view else steps.More (listing_from setting.parts.objects view.list_no))
        by true = tt
        by false = starts stream view.list_no

    shown_goes : (shown : Option View) → StepIsAt stream (by_look setting.parts.objects shown)
    shown_goes None = tt
    shown_goes (Some view) = view_goes view

    listed_goes : (step : ListStep) → GoesOn stream step → StepIsAt stream (by_listed step)
    listed_goes (listed.More lister) on = on
    listed_goes (listed.Listed listing) on = on
    listed_goes listed.Broken on = tt
    listed_goes (listed.TooManyPacks actual path) on = tt

    published_goes : (listing : Listing) → RowThere listing.rows → (effect : Effect) → StepIsAt stream (by_published listing effect)
    published_goes listing has (effects.Published view) = tt
    published_goes listing has (effects.Unchanged view) = tt
    published_goes listing has (effects.Outdated number) = tt
    published_goes listing has (effects.Seen view) = has
    published_goes listing has (effects.Reported view report) = has
    published_goes listing has (effects.Put view stored) = has
    published_goes listing has effects.Removed = has

    start_goes : (view : View) (read : Bool) → StepIsAt stream (if read then steps.Read view else steps.More fronts.Reading)
    start_goes view true = tt
    start_goes view false = tt

  fed_goes : (past : List Exchange) (refresh : Refresh) → IsAt (stream_in past) refresh → (ask : Ask) (answer : Answer) → refreshes.ask_of refresh ≡ ask
      → IsMet past ask answer → StepIsAt (stream_by (stream_in past) ask answer) (refreshes.fed setting.parts.objects store refresh answer)
  fed_goes past fronts.Reading on ask (told.Disk answer) is met = tt
  fed_goes past fronts.Reading on ask (told.Core (Ok effect)) is met = shown_goes (stream_by (stream_in past) ask (told.Core (Ok effect))) (view_shown effect)
  fed_goes past fronts.Reading on ask (told.Core (Err refusal)) is met = tt
  fed_goes past (fronts.Listing lister) on ask (told.Disk answer) is met =
      subst (λ (a : Ask). StepIsAt (stream_by (stream_in past) a (told.Disk answer)) (by_listed (lists.fed store lister answer))) is
      (listed_goes (stream_by (stream_in past) (asks.Disk (lists.ask_of lister)) (told.Disk answer)) (lists.fed store lister answer)
      (call_goes past lister on answer (subst (λ (a : Ask). IsMet past a (told.Disk answer)) (sym is) met)))
  fed_goes past (fronts.Listing lister) on ask (told.Core answer) is met =
      absurd (subst (λ (a : Ask). IsMet past a (told.Core answer)) (sym is) met)
  fed_goes past (fronts.Publishing listing) on ask (told.Disk answer) is met = on
  fed_goes past (fronts.Publishing listing) on ask (told.Core (Ok effect)) is met =
      published_goes (stream_by (stream_in past) ask (told.Core (Ok effect))) listing on effect
  fed_goes past (fronts.Publishing listing) on ask (told.Core (Err refusal)) is met = tt

  step_goes : (past : List Exchange) (step : RefreshStep) → StepIsAt (stream_in past) step → (ask : Ask) (answer : Answer) → asked_of step ≡ Some ask
      → IsMet past ask answer → StepIsAt (stream_by (stream_in past) ask answer) (step_fed setting.parts.objects store step answer)
  step_goes past (steps.More refresh) on ask answer is met = fed_goes past refresh on ask answer (same_Some (refreshes.ask_of refresh) ask is) met
  step_goes past (steps.Read view) on ask answer is met = tt
  step_goes past (steps.Current view own) on ask answer is met = tt
  step_goes past (steps.Outdated list_no) on ask answer is met = tt
  step_goes past (steps.Refused error) on ask answer is met = tt

  steps_behind : (past : List Exchange) (step : RefreshStep) → StepIsAt (stream_in past) step → (exchanges : List Exchange)
      → refreshed.AreAsked setting step exchanges → AreFairOrFailed store.multi hash id place past exchanges
      → (stream : Option Stream) × StepIsAt stream (refreshed.behind setting step exchanges)
  steps_behind past step on [] asked met = (stream_in past, on)
  steps_behind past step on (exchange ∷ exchanges) asked met =
      let next : RefreshStep = step_fed setting.parts.objects store step exchange.answer in
      steps_behind (past ++ exchange ∷ []) next
      (subst (λ (s : Option Stream). StepIsAt s next) (sym (stream_in-push past exchange)) (step_goes past step on exchange.ask exchange.answer asked.0 met.0))
      exchanges asked.1 met.1

  abbrev HasRowIn : Event → Type 0
  HasRowIn (events.Publish listing) = RowThere listing.rows
  HasRowIn event = Unit {0}

  hands_on : (stream : Option Stream) (step : RefreshStep) → StepIsAt stream step → HandsOn HasRowIn step
  hands_on stream (steps.More fronts.Reading) on = tt
  hands_on stream (steps.More (fronts.Listing lister)) on = tt
  hands_on stream (steps.More (fronts.Publishing listing)) on = on
  hands_on stream (steps.Read view) on = tt
  hands_on stream (steps.Current view own) on = tt
  hands_on stream (steps.Outdated list_no) on = tt
  hands_on stream (steps.Refused error) on = tt

  -- each listing that the refresh before a write publishes
  pub refreshes_publish_what_stayed : (snapshot : View) (exchanges : List Exchange) → refreshed.AreAsked setting (refreshes.started snapshot) exchanges
      → AreFairOrFailed store.multi hash id place [] exchanges → (listing : Listing)
      → asked_of (refreshed.behind setting (refreshes.started snapshot) exchanges) ≡ Some (asks.Core (events.Publish listing))
      → HasRow store.multi hash id place listing.rows
  refreshes_publish_what_stayed snapshot exchanges asked met listing is =
      let on = steps_behind [] (refreshes.started snapshot) (start_goes None snapshot snapshot.read) exchanges asked met in
      handed_on HasRowIn (refreshed.behind setting (refreshes.started snapshot) exchanges) (events.Publish listing)
      (hands_on on.0 (refreshed.behind setting (refreshes.started snapshot) exchanges) on.1) is
