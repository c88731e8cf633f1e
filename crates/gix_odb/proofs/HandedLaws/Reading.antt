-- A look-up only reads: its calls on loose objects do, and so do those of the trier and the lister. The streams that it reads are those that it opened.
use Rattle.std.proofs.Common.{◌≡◌, Bool, true, List, [], ◌∷◌, Some, Ok, refl, subst}
use Rattle.std.proofs.lemmas.Option.{same_Some}
use Rattle.odb_base.specs.Path.{Path}
use Rattle.odb_disk.specs.Ask.{change_of_ask}
use Rattle.odb_disk.specs.declared.ask.DiskAsk.TheVariants as disk_asks
use Rattle.gix_hash.specs.declared.object_id.ObjectId.{ObjectId}
use Rattle.gix_odb_loose.specs.LooseOrder.{want_ask}
use Rattle.gix_odb_events.specs.declared.listing.ListingRow.{ListingRow}
use Rattle.gix_odb_events.specs.declared.event.Event.TheVariants as events
use Rattle.gix_odb_events.specs.declared.view.View.{View}
use Rattle.gix_odb_search.specs.ListOrder as lists
use Rattle.gix_odb_search.specs.TryOrder as tries
use Rattle.gix_odb_events.specs.declared.answer.Answer.{Answer}
use Rattle.gix_odb_events.specs.declared.answer.Answer.TheVariants as told
use Rattle.gix_odb_events.specs.declared.answer.Ask.{Ask}
use Rattle.gix_odb_events.specs.declared.answer.Ask.TheVariants as asks
use Rattle.gix_odb_search.specs.declared.index_loader.IndexLoader.TheVariants as loaders
use Rattle.gix_odb_search.specs.declared.lister.ListStep.{ListStep}
use Rattle.gix_odb_search.specs.declared.lister.ListStep.TheVariants as listed
use Rattle.gix_odb_search.specs.declared.trier.Stage.{Stage}
use Rattle.gix_odb_search.specs.declared.trier.Stage.TheVariants as tries_stages
use Rattle.gix_odb_calls.specs.Verdict.{folder_ask}
use Rattle.gix_odb_calls.specs.declared.verdict.FolderCall.{FolderCall}
use Rattle.gix_odb_calls.specs.declared.call.Reply.{Reply}
use Rattle.gix_object.specs.declared.want.Want.{Want}
use Rattle.gix_object.specs.declared.want.Want.TheVariants.{Object, Header, Presence}
use Rattle.gix_odb.specs.LookExchanges.{AreAsked, Exchange, behind}
use Rattle.gix_odb.specs.LookUpOrder.{Setting, ask_at, fed, result_at, seen, started}
use Rattle.gix_odb.specs.declared.refresh.Refresh.TheVariants as fronts
use Rattle.gix_odb.proofs.ListerLaws.Reads.{AsksOwn, ChangesNothing, lister_own, lister_reads, none_told, told_from}
use Rattle.gix_odb.specs.declared.look_up.LookHead.{LookHead}
use Rattle.gix_odb.specs.declared.look_up.LookStage.{LookStage}
use Rattle.gix_odb.specs.declared.look_up.LookStage.TheVariants as stages
use Rattle.gix_odb.specs.declared.look_up.LookUp.{LookUp}
use Rattle.gix_odb.specs.declared.refresh_mode.RefreshMode.{RefreshMode}
use Rattle.gix_odb.proofs.HandedLaws.Stages.{Goes, Stands, Steps, same_ask, stage_stands, start_stands}
use Rattle.gix_odb.proofs.ListerLaws.Streams.{HasNone, OpensNone, StreamBehind, StreamOf, Told, core_leaves_streams, listing_streams}
use Rattle.gix_odb.proofs.ListerLaws.Streams.{none_stays_open, told_by}
use Rattle.gix_odb.specs.Store.{listed_for}

-- ---- a call of the disk that changes nothing

path_is_read : (path : Path) → ChangesNothing (asks.Disk (disk_asks.Read path))
unfolding change_of_ask
path_is_read path tree = refl

pub path_is_looked_at : (path : Path) (follow : Bool) → ChangesNothing (asks.Disk (disk_asks.Look path follow))
unfolding change_of_ask
path_is_looked_at path follow tree = refl

-- a call that changes nothing and opens no stream
record IsPlain (ask : Ask) : Type 0 where
  changes : ChangesNothing ask
  opens : OpensNone ask

trier_plain : (stage : Stage) → IsPlain (tries.ask_at stage)
trier_plain (tries_stages.Loading (loaders.Reading place)) = record { changes = path_is_read place.path; opens = tt }
trier_plain (tries_stages.Loading (loaders.Storing place file)) = record { changes = tt; opens = tt }
trier_plain (tries_stages.Loading (loaders.Passing place why)) = record { changes = tt; opens = tt }
trier_plain (tries_stages.ReadingPack pack) = record { changes = path_is_read pack.path; opens = tt }
trier_plain (tries_stages.StoringPack pack file) = record { changes = tt; opens = tt }
trier_plain (tries_stages.PassingPack pack) = record { changes = tt; opens = tt }

-- ---- a call on loose objects

want_plain : (want : Want) (path : Path) → IsPlain (asks.Disk (want_ask want path))
want_plain Object path = record { changes = path_is_read path; opens = tt }
want_plain Header path = record { changes = path_is_read path; opens = tt }
want_plain Presence path = record { changes = path_is_looked_at path true; opens = tt }

-- ---- a stage

module _ (setting : Setting) where
  abbrev AnyCall : FolderCall → Type 0
  AnyCall call = Unit {0}

  abbrev AnyRows : List ListingRow → Type 0
  AnyRows rows = Unit {0}

  -- what is known of streams is of the present listing, and none is open elsewhere
  abbrev pub IsOwn : Told → LookStage → Type 0
  IsOwn now stage = Stands setting AnyCall (StreamOf now) AnyRows (HasNone now) stage

  pub stage_changes_nothing : (now : Told) (stage : LookStage) → IsOwn now stage → (ask : Ask) → ask_at stage ≡ Some ask → ChangesNothing ask
  stage_changes_nothing now (stages.Trying trier part) own ask is = same_ask ChangesNothing ask (tries.ask_of trier) (trier_plain trier.stage).changes is
  stage_changes_nothing now (stages.Loose round call) own ask is =
      same_ask ChangesNothing ask (asks.Disk (folder_ask call)) (want_plain call.want call.path).changes is
  stage_changes_nothing now (stages.Refreshing fronts.Reading purpose notes) own ask is = same_ask ChangesNothing ask (asks.Core events.Look) tt is
  stage_changes_nothing now (stages.Checking list_no notes) own ask is = same_ask ChangesNothing ask (asks.Core events.Look) tt is
  stage_changes_nothing now (stages.Refreshing (fronts.Listing lister) purpose notes) own ask is =
      same_ask ChangesNothing ask (asks.Disk (lists.ask_of lister)) (lister_reads lister.head.folder lister.stage) is
  stage_changes_nothing now (stages.Refreshing (fronts.Publishing listing) purpose notes) own ask is = same_ask ChangesNothing ask (asks.Core (events.Publish listing)) tt is
  stage_changes_nothing now (stages.Done reply) own ask is = absurd (cc is)

  -- ---- an exchange

  module _ (now : Told) (ask : Ask) (answer : Answer) where
    abbrev next : Told
    next = told_by now ask answer

    abbrev GoesOn : LookStage → Type 0
    GoesOn stage = Goes setting AnyCall (StreamOf next) AnyRows (HasNone next) stage answer

    none_by : (own : Ask) → IsPlain own → HasNone now → Some own ≡ Some ask → HasNone next
    none_by own plain none is = none_stays_open now ask answer (same_ask OpensNone ask own plain.opens is) none

  step_on : (now : Told) (step : ListStep) → StreamBehind now step → Steps setting AnyCall (StreamOf now) AnyRows (HasNone now) step
  step_on now (listed.More lister) here = here
  step_on now (listed.Listed listing) here = (here, tt)
  step_on now listed.Broken here = here
  step_on now (listed.TooManyPacks actual path) here = here

  looking : IsPlain (asks.Core events.Look)
  looking = record { changes = tt; opens = tt }

  goes_on : (now : Told) (stage : LookStage) → IsOwn now stage → (ask : Ask) (answer : Answer) → ask_at stage ≡ Some ask → GoesOn now ask answer stage
  goes_on now (stages.Trying trier part) own ask answer is = none_by now ask answer (tries.ask_of trier) (trier_plain trier.stage) own is
  goes_on now (stages.Loose round call) own ask (told.Disk answer) is =
      none_by now ask (told.Disk answer) (asks.Disk (folder_ask call)) (want_plain call.want call.path) own.0 is
  goes_on now (stages.Loose round call) own ask (told.Core answer) is =
      (none_by now ask (told.Core answer) (asks.Disk (folder_ask call)) (want_plain call.want call.path) own.0 is, own.1)
  goes_on now (stages.Refreshing fronts.Reading purpose notes) own ask answer is = none_by now ask answer (asks.Core events.Look) looking own is
  goes_on now (stages.Checking list_no notes) own ask answer is = none_by now ask answer (asks.Core events.Look) looking own is
  goes_on now (stages.Refreshing (fronts.Listing lister) purpose notes) own ask (told.Disk answer) is =
      subst (λ (a : Ask). GoesOn now a (told.Disk answer) (stages.Refreshing (fronts.Listing lister) purpose notes)) (same_Some _ ask is)
      (step_on (told_by now (asks.Disk (lists.ask_of lister)) (told.Disk answer)) (lists.fed (listed_for setting.parts) lister answer)
      (listing_streams (listed_for setting.parts) lister.head now lister.stage own answer))
  goes_on now (stages.Refreshing (fronts.Listing lister) purpose notes) own ask (told.Core answer) is =
      subst (λ (a : Ask). GoesOn now a (told.Core answer) (stages.Refreshing (fronts.Listing lister) purpose notes)) (same_Some _ ask is)
      (core_leaves_streams now lister.head.folder lister.stage answer own)
  goes_on now (stages.Refreshing (fronts.Publishing listing) purpose notes) own ask answer is =
      (none_by now ask answer (asks.Core (events.Publish listing)) (record { changes = tt; opens = tt }) own.0 is, tt)
  goes_on now (stages.Done reply) own ask answer is = absurd (cc is)

  -- ---- exchanges

  own_behind : (now : Told) (look : LookUp) → IsOwn now look.stage → (exchanges : List Exchange) → AreAsked setting look exchanges
      → IsOwn (told_from now exchanges) (behind setting look exchanges).stage
  own_behind now look own [] asked = own
  own_behind now look own (exchange ∷ exchanges) asked =
      let then : Told = told_by now exchange.ask exchange.answer in
      own_behind then (fed setting look exchange.answer)
      (stage_stands setting AnyCall (StreamOf then) AnyRows (HasNone then) (λ want id folder. tt) (λ base none. none)
      (seen look.head exchange.answer) look.stage exchange.answer (goes_on now look.stage own exchange.ask exchange.answer asked.0))
      exchanges asked.1

  pub streams_are_own : (mode : RefreshMode) (view : View) (want : Want) (id : ObjectId) (exchanges : List Exchange) → AreAsked setting (started setting mode view want id) exchanges
      → IsOwn (told_from none_told exchanges) (behind setting (started setting mode view want id) exchanges).stage
  streams_are_own mode view want id exchanges asked =
      own_behind none_told (started setting mode view want id)
      (start_stands setting AnyCall (StreamOf none_told) AnyRows (HasNone none_told) (λ want id folder. tt) (λ base none. none) mode view want id refl)
      exchanges asked

  -- ---- which stream is asked

  trier_own : (now : Told) (stage : Stage) → AsksOwn now (tries.ask_at stage)
  trier_own now (tries_stages.Loading (loaders.Reading place)) = tt
  trier_own now (tries_stages.Loading (loaders.Storing place file)) = tt
  trier_own now (tries_stages.Loading (loaders.Passing place why)) = tt
  trier_own now (tries_stages.ReadingPack pack) = tt
  trier_own now (tries_stages.StoringPack pack file) = tt
  trier_own now (tries_stages.PassingPack pack) = tt

  want_own : (now : Told) (want : Want) (path : Path) → AsksOwn now (asks.Disk (want_ask want path))
  want_own now Object path = tt
  want_own now Header path = tt
  want_own now Presence path = tt

  pub stage_asks_own : (now : Told) (stage : LookStage) → IsOwn now stage → (ask : Ask) → ask_at stage ≡ Some ask → AsksOwn now ask
  stage_asks_own now (stages.Trying trier part) own ask is = same_ask (AsksOwn now) ask (tries.ask_of trier) (trier_own now trier.stage) is
  stage_asks_own now (stages.Loose round call) own ask is =
      same_ask (AsksOwn now) ask (asks.Disk (folder_ask call)) (want_own now call.want call.path) is
  stage_asks_own now (stages.Refreshing fronts.Reading purpose notes) own ask is = same_ask (AsksOwn now) ask (asks.Core events.Look) tt is
  stage_asks_own now (stages.Checking list_no notes) own ask is = same_ask (AsksOwn now) ask (asks.Core events.Look) tt is
  stage_asks_own now (stages.Refreshing (fronts.Listing lister) purpose notes) own ask is =
      same_ask (AsksOwn now) ask (asks.Disk (lists.ask_of lister)) (lister_own now lister.head.folder lister.stage own) is
  stage_asks_own now (stages.Refreshing (fronts.Publishing listing) purpose notes) own ask is = same_ask (AsksOwn now) ask (asks.Core (events.Publish listing)) tt is
  stage_asks_own now (stages.Done reply) own ask is = absurd (cc is)

  -- none is open after a look-up that is done
  pub done_has_none : (now : Told) (head : LookHead) (stage : LookStage) (reply : Reply) → IsOwn now stage → result_at head stage ≡ Ok reply → HasNone now
  done_has_none now head (stages.Done other) reply own is = own
  done_has_none now head stage reply own is = absurd (cc is)
