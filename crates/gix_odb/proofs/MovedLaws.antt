-- Laws of look-ups for an object that moves from a loose file into a pack: it isn't missed, since the loose folders are asked before the first
-- listing.
use Rattle.std.proofs.Common.{◌≡◌, ◌⊎◌, inl, inr, Bool, true, false, cond, List, [], ◌∷◌, ◌++◌, slice_get, drop, Contains, Option, Some, None, Ok, Err}
use Rattle.std.proofs.Common.{refl, sym, ap, ◌∙◌, subst, append_assoc, append-nil}
use Rattle.odb_base.specs.Path.{Path}
use Rattle.odb_disk.specs.declared.ask.DiskAnswer.{DiskAnswer}
use Rattle.odb_disk.specs.declared.ask.DiskAsk.TheVariants as disk_asks
use Rattle.gix_hash.specs.ObjectId.{kind_of}
use Rattle.gix_hash.specs.declared.kind.Kind.{Kind}
use Rattle.gix_hash.specs.declared.object_id.ObjectId.{ObjectId}
use Rattle.gix_odb_loose.specs.LooseOrder.{want_ask}
use Rattle.gix_odb_events.specs.declared.view.View.{View}
use Rattle.gix_odb_events.specs.declared.loaded.Todo.{Todo}
use Rattle.gix_odb_search.specs.TryOrder.{seek}
use Rattle.gix_odb_search.specs.TryOrder as tries
use Rattle.gix_odb_events.specs.declared.answer.Answer.{Answer}
use Rattle.gix_odb_events.specs.declared.answer.Answer.TheVariants as told
use Rattle.gix_odb_events.specs.declared.answer.Ask.{Ask}
use Rattle.gix_odb_events.specs.declared.answer.Ask.TheVariants as asks
use Rattle.gix_odb_search.specs.declared.index_loader.IndexLoader.TheVariants as loaders
use Rattle.gix_odb_search.specs.declared.search.Notes.{Notes}
use Rattle.gix_odb_search.specs.declared.trier.Stage.{Stage}
use Rattle.gix_odb_search.specs.declared.trier.Stage.TheVariants as tries_stages
use Rattle.gix_odb_search.specs.declared.trier.Tried.{Tried}
use Rattle.gix_odb_search.specs.declared.trier.Tried.TheVariants as tried
use Rattle.gix_odb_search.proofs.ReachLemmas.{first_or_later}
use Rattle.gix_odb_calls.specs.Verdict.{asking, folder_ask, folder_verdict}
use Rattle.gix_odb_calls.specs.declared.call.CallError.TheVariants as call_errors
use Rattle.gix_odb_calls.specs.declared.call.Reply.{Reply}
use Rattle.gix_odb_calls.specs.declared.find.Error.TheVariants as find_errors
use Rattle.gix_object.specs.declared.want.Want.{Want}
use Rattle.gix_object.specs.declared.want.Want.TheVariants.{Object, Header, Presence}
use Rattle.gix_odb_calls.specs.declared.verdict.FolderCall.{FolderCall}
use Rattle.gix_odb_calls.specs.declared.verdict.Verdict.{Verdict}
use Rattle.gix_odb_calls.specs.declared.verdict.Verdict.TheVariants as verdicts
use Rattle.gix_odb.specs.LookExchanges.{AreAsked, Exchange, behind}
use Rattle.gix_odb.specs.Fair.{AreFair, IsCarried, PackedPlace}
use Rattle.gix_odb.specs.LoadIndex.{of_refusal}
use Rattle.gix_odb.specs.LookUpOrder.{Setting, after_list, ask_at, at_folder, by_read, by_refresh, by_tried, by_verdict, fed, fed_at, find_error, goal_of}
use Rattle.gix_odb.specs.LookUpOrder.{loose_from, new_head, not_found, result_of, seen, started, trier_fed, try_view}
use Rattle.gix_odb.specs.LookUpOrder.{view_of, view_shown, without_notes}
use Rattle.gix_odb.specs.Reply.{IsAnswer}
use Rattle.gix_odb.specs.Shown.{folders_of}
use Rattle.gix_odb.specs.Stream.{Stream, stream_by, stream_from, stream_in}
use Rattle.gix_odb.specs.RefreshOrder.{by_look}
use Rattle.gix_odb.specs.RefreshOrder as refreshes
use Rattle.gix_odb.specs.declared.refresh.Refresh.TheVariants as fronts
use Rattle.gix_odb.specs.declared.refresh.RefreshStep.{RefreshStep}
use Rattle.gix_odb.specs.declared.refresh.RefreshStep.TheVariants as steps
use Rattle.gix_odb.specs.declared.refresh_mode.RefreshMode.TheVariants.{AfterAllIndicesLoaded}
use Rattle.gix_odb.specs.declared.look_up.LookHead.{LookHead}
use Rattle.gix_odb.specs.declared.look_up.LookStage.{LookStage}
use Rattle.gix_odb.specs.declared.look_up.LookStage.TheVariants as stages
use Rattle.gix_odb.specs.declared.look_up.LookUp.{LookUp}
use Rattle.gix_odb.specs.declared.look_up.LooseRound.{LooseRound}
use Rattle.gix_odb.specs.declared.look_up.Part.{Part}
use Rattle.gix_odb.specs.declared.look_up.Part.TheVariants as parts
use Rattle.gix_odb.specs.declared.look_up.Purpose.{Purpose}
use Rattle.gix_odb.specs.declared.look_up.Purpose.TheVariants as purposes
use Rattle.gix_odb.proofs.ListerLaws.Lists.{has_first, has_later}
use Rattle.gix_odb.proofs.HandedLaws.Stages.{same_ask}
use Rattle.gix_odb.proofs.MissLaws.Lists.{drop_none, here_or_behind, nothing_ahead}
use Rattle.gix_odb.proofs.MissLaws.Replies.{EndsNoMiss, IsMiss, found_is_no_miss, refused_is_no_miss, verdict_is_no_miss}
use Rattle.gix_odb.proofs.MissLaws.Track.{IsEarly, IsOn, never_missed}
use Rattle.gix_odb.specs.Moved.{AreLooseFair, ArePublished, HasLoose, IsLooseFair}
use Rattle.gix_odb.specs.Store.{listed_for}

-- an answer that says that the object is there is no miss
answer_is_no_miss : (want : Want) (reply : Reply) → IsAnswer reply → ¬ (IsMiss want reply)
answer_is_no_miss want reply answer is = by want (subst IsAnswer is answer)
  where
    by : (q : Want) → ¬ (IsAnswer (not_found q))
    by Object wrong = wrong
    by Header wrong = wrong
    by Presence wrong = wrong

-- a list after which the loose folders are asked for the first time
abbrev IsFirst : Part → Type 0
IsFirst parts.Snapshot = Unit {0}
IsFirst (parts.List list_no true) = Unit {0}
IsFirst (parts.List list_no false) = ⊥
IsFirst (parts.Published list_no) = ⊥

-- a read of the core's state before any loose folder was asked
abbrev IsBeforeLoose : Purpose → Type 0
IsBeforeLoose (purposes.First true) = Unit {0}
IsBeforeLoose (purposes.First false) = ⊥
IsBeforeLoose purposes.Again = ⊥

-- ---- what opens no folder

trier_opens_none : (stage : Stage) (path : Path) → ¬ (Some (tries.ask_at stage) ≡ Some (asks.Disk (disk_asks.OpenDir path)))
trier_opens_none (tries_stages.Loading (loaders.Reading place)) path is = cc is
trier_opens_none (tries_stages.Loading (loaders.Storing place own)) path is = cc is
trier_opens_none (tries_stages.Loading (loaders.Passing place why)) path is = cc is
trier_opens_none (tries_stages.ReadingPack pack) path is = cc is
trier_opens_none (tries_stages.StoringPack pack own) path is = cc is
trier_opens_none (tries_stages.PassingPack pack) path is = cc is

folder_opens_none : (want : Want) (at path : Path) → ¬ (want_ask want at ≡ disk_asks.OpenDir path)
folder_opens_none Object at path is = cc is
folder_opens_none Header at path is = cc is
folder_opens_none Presence at path is = cc is

-- no stream is open after an exchange that opens none
stays_closed : (ask : Ask) (answer : Answer) → ((path : Path) → ¬ (ask ≡ asks.Disk (disk_asks.OpenDir path))) → stream_by None ask answer ≡ None
stays_closed (asks.Disk (disk_asks.OpenDir path)) (told.Disk answer) none = absurd (none path refl)
stays_closed (asks.Disk (disk_asks.OpenDir path)) (told.Core answer) none = refl
stays_closed (asks.Disk (disk_asks.NextEntry dir)) (told.Disk answer) none = refl
stays_closed (asks.Disk (disk_asks.NextEntry dir)) (told.Core answer) none = refl
stays_closed (asks.Disk (disk_asks.CloseDir dir)) (told.Disk answer) none = refl
stays_closed (asks.Disk (disk_asks.CloseDir dir)) (told.Core answer) none = refl
stays_closed (asks.Disk ask) answer none = refl
stays_closed (asks.Core event) answer none = refl
stays_closed (asks.NewCore slots folders) answer none = refl

module _ (setting : Setting) (want : Want) (id : ObjectId) (folder : Path) (among : Contains (folders_of setting) folder) where
  -- the folder is asked now, or is ahead
  pub record IsComing (round : LooseRound) (call : FolderCall) : Type 0 where
    pub first : IsFirst round.part
    pub asked : Path
    pub call_is : call ≡ asking setting.parts.alloc_limit_bytes want id asked
    pub ahead : (asked ≡ folder) ⊎ Contains (drop round.next setting.parts.folders) folder

  -- the loose objects of the folder are still to be asked, or the look-up is done with a reply that isn't "not found"
  abbrev IsWaiting : LookStage → Type 0
  IsWaiting (stages.Trying trier part) = IsFirst part
  IsWaiting (stages.Loose round call) = IsComing round call
  IsWaiting (stages.Refreshing fronts.Reading purpose notes) = IsBeforeLoose purpose
  IsWaiting (stages.Refreshing refresh purpose notes) = ⊥
  IsWaiting (stages.Checking list_no notes) = ⊥
  IsWaiting (stages.Done reply) = ¬ (IsMiss want reply)

  -- the look-up wants this of this id, and refreshes its list
  pub record IsFor (head : LookHead) : Type 0 where
    pub want_is : head.want ≡ want
    pub id_is : head.id ≡ id
    pub refreshes : head.mode ≡ AfterAllIndicesLoaded

  module _ (head : LookHead) (own : IsFor head) where
    same_call : (asked : Path) → asking setting.parts.alloc_limit_bytes head.want head.id asked ≡ asking setting.parts.alloc_limit_bytes want id asked
    same_call asked =
        ap (λ (q : Want). asking setting.parts.alloc_limit_bytes q head.id asked) own.want_is ∙ ap (λ (i : ObjectId). asking setting.parts.alloc_limit_bytes want i asked) own.id_is

    loose_begins : (part : Part) → IsFirst part → (notes : Notes) → IsWaiting (loose_from setting head part notes)
    loose_begins part first notes =
        record {
          first = first;
          asked = setting.parts.objects;
          call_is = same_call setting.parts.objects;
          ahead = by (first_or_later setting.parts.objects setting.parts.folders folder among);
        }
      where
        by : (setting.parts.objects ≡ folder) ⊎ Contains setting.parts.folders folder → (setting.parts.objects ≡ folder) ⊎ Contains (drop 0 setting.parts.folders) folder
        by (inl is) = inl is
        by (inr later) = inr (subst (λ (rest : List Path). Contains rest folder) (sym (drop_none setting.parts.folders)) later)

    list_waits : (part : Part) → IsFirst part → (notes : Notes) → IsWaiting (after_list setting head part notes)
    list_waits parts.Snapshot first notes = loose_begins parts.Snapshot tt notes
    list_waits (parts.List list_no true) first notes = loose_begins (parts.List list_no true) tt notes
    list_waits (parts.List list_no false) first notes = absurd first
    list_waits (parts.Published list_no) first notes = absurd first

    tried_waits : (part : Part) → IsFirst part → (end : Tried) → IsWaiting (by_tried setting head part end)
    tried_waits part first (tried.More trier) = first
    tried_waits part first (tried.Hit what) = found_is_no_miss want what
    tried_waits part first (tried.Missed notes) = list_waits part first notes
    tried_waits part first (tried.Bad error) = refused_is_no_miss want (call_errors.Find (find_error error))
    tried_waits part first (tried.Broken refusal) = refused_is_no_miss want (call_errors.Find (find_errors.LoadIndex (of_refusal refusal)))

    view_waits : (part : Part) → IsFirst part → (view : View) (todo : List Todo) (notes : Notes) → IsWaiting (try_view setting head part view todo notes)
    view_waits part first view todo notes =
        tried_waits part first (seek (goal_of setting head) (record { indices = view.snapshot.indices; todo = todo; notes = notes }))

    -- ---- the loose folders

    folder_waits : (round : LooseRound) → IsFirst round.part → Contains (drop round.next setting.parts.folders) folder → (next : Option Path)
        → slice_get setting.parts.folders round.next ≡ next → IsWaiting (at_folder setting head round next)
    folder_waits round first ahead None is = absurd (nothing_ahead setting.parts.folders round.next folder is ahead)
    folder_waits round first ahead (Some asked) is =
        record { first = first; asked = asked; call_is = same_call asked; ahead = here_or_behind setting.parts.folders round.next asked folder is ahead }

    verdict_waits : (round : LooseRound) → IsFirst round.part → Contains (drop round.next setting.parts.folders) folder → (verdict : Verdict)
        → EndsNoMiss want verdict → IsWaiting (by_verdict setting head round verdict)
    verdict_waits round first ahead (verdicts.Ends reply) ends = ends
    verdict_waits round first ahead verdicts.Misses ends = folder_waits round first ahead (slice_get setting.parts.folders round.next) refl
    verdict_waits round first ahead (verdicts.Notes error) ends =
        folder_waits (record round { notes = record round.notes { failed = true } }) first ahead (slice_get setting.parts.folders round.next) refl

    -- the verdict on the folder that is asked
    module _ (round : LooseRound) (call : FolderCall) (coming : IsComing round call) (answer : DiskAnswer) where
      verdict_so : IsWaiting (by_verdict setting head round (folder_verdict (asking setting.parts.alloc_limit_bytes want id coming.asked) answer))
          → IsWaiting (by_verdict setting head round (folder_verdict call answer))
      verdict_so waits = subst (λ (c : FolderCall). IsWaiting (by_verdict setting head round (folder_verdict c answer))) (sym coming.call_is) waits

      here_waits : HasLoose setting want id coming.asked answer → IsWaiting (by_verdict setting head round (folder_verdict call answer))
      here_waits has =
          verdict_so (subst (λ (verdict : Verdict). IsWaiting (by_verdict setting head round verdict)) (sym has.says) (answer_is_no_miss want has.told has.found))

      ahead_waits : Contains (drop round.next setting.parts.folders) folder → IsWaiting (by_verdict setting head round (folder_verdict call answer))
      ahead_waits ahead =
          verdict_waits round coming.first ahead (folder_verdict call answer) (verdict_is_no_miss want call answer)

      loose_waits : (ask : Ask) → Some (asks.Disk (folder_ask call)) ≡ Some ask → IsLooseFair setting want id folder ask (told.Disk answer)
          → IsWaiting (by_verdict setting head round (folder_verdict call answer))
      loose_waits ask is fair =
          elim coming.ahead [
            | inl same ↦
                here_waits
                (subst (λ (f : Path). HasLoose setting want id f answer) (sym same)
                (same_ask (λ (a : Ask). IsLooseFair setting want id folder a (told.Disk answer) → HasLoose setting want id folder answer) ask
                (asks.Disk (folder_ask call))
                (λ fair_to_it. fair_to_it (ap (λ (f : Path). folder_ask (asking setting.parts.alloc_limit_bytes want id f)) (sym same) ∙ ap folder_ask (sym coming.call_is)))
                is fair))
            | inr ahead ↦ ahead_waits ahead
          ]

    -- ---- reads of the core's state

    read_waits : (purpose : Purpose) → IsBeforeLoose purpose → (view : View) (notes : Notes) → IsWaiting (by_read setting head purpose view notes)
    read_waits (purposes.First true) before view notes = view_waits (parts.List view.list_no true) tt view view.todo notes
    read_waits (purposes.First false) before view notes = absurd before
    read_waits purposes.Again before view notes = absurd before

    look_waits : (purpose : Purpose) → IsBeforeLoose purpose → (notes : Notes) (view : Option View) → ((own : View) → view ≡ Some own → own.read ≡ true)
        → IsWaiting (by_refresh setting head purpose notes (by_look setting.parts.objects view)).stage
    look_waits purpose before notes None published = before
    look_waits purpose before notes (Some view) published = by view.read (published view refl)
      where
        by : (b : Bool) → b ≡ true
            → IsWaiting (by_refresh setting head purpose notes (cond b (steps.Read view) (steps.More (refreshes.listing_from setting.parts.objects view.list_no)))).stage
        by true is = read_waits purpose before view notes
        by false is = absurd (cc is)

    -- ---- an exchange

    stage_waits : (stage : LookStage) → IsWaiting stage → (ask : Ask) (answer : Answer) → ask_at stage ≡ Some ask
        → ((view : View) → view_of answer ≡ Some view → view.read ≡ true) → IsLooseFair setting want id folder ask answer
        → IsWaiting (fed_at setting head stage answer).stage
    stage_waits (stages.Trying trier part) waits ask answer is published fair = tried_waits part waits (trier_fed trier answer)
    stage_waits (stages.Loose round call) waits ask (told.Disk answer) is published fair = loose_waits round call waits answer ask is fair
    stage_waits (stages.Loose round call) waits ask (told.Core answer) is published fair = waits
    stage_waits (stages.Refreshing fronts.Reading purpose notes) waits ask (told.Disk answer) is published fair = waits
    stage_waits (stages.Refreshing fronts.Reading purpose notes) waits ask (told.Core (Ok effect)) is published fair =
        look_waits purpose waits notes (view_shown effect) published
    stage_waits (stages.Refreshing fronts.Reading purpose notes) waits ask (told.Core (Err refusal)) is published fair =
        refused_is_no_miss want (call_errors.Find (find_errors.LoadIndex (of_refusal refusal)))
    stage_waits (stages.Refreshing (fronts.Listing lister) purpose notes) waits ask answer is published fair = absurd waits
    stage_waits (stages.Refreshing (fronts.Publishing listing) purpose notes) waits ask answer is published fair = absurd waits
    stage_waits (stages.Checking list_no notes) waits ask answer is published fair = absurd waits
    stage_waits (stages.Done reply) waits ask answer is published fair = waits

  pub record IsLookWaiting (look : LookUp) : Type 0 where
    pub own : IsFor look.head
    pub stage : IsWaiting look.stage

  own_step : (head : LookHead) → IsFor head → (purpose : Purpose) (notes : Notes) (step : RefreshStep) → IsFor (by_refresh setting head purpose notes step).head
  own_step head own purpose notes (steps.More refresh) = own
  own_step head own purpose notes (steps.Read view) = own
  own_step head own purpose notes (steps.Current view true) = record { want_is = own.want_is; id_is = own.id_is; refreshes = own.refreshes }
  own_step head own purpose notes (steps.Current view false) = own
  own_step head own purpose notes (steps.Outdated list_no) = own
  own_step head own purpose notes (steps.Refused error) = own

  -- the head of a look-up that waits keeps what it wants and the id
  own_behind : (stage : LookStage) → IsWaiting stage → (head : LookHead) → IsFor head → (answer : Answer) → IsFor (fed_at setting head stage answer).head
  own_behind (stages.Trying trier part) waits head own answer = own
  own_behind (stages.Loose round call) waits head own (told.Disk answer) = own
  own_behind (stages.Loose round call) waits head own (told.Core answer) = own
  own_behind (stages.Refreshing refresh purpose notes) waits head own answer =
      own_step head own purpose notes (refreshes.fed setting.parts.objects (listed_for setting.parts) refresh answer)
  own_behind (stages.Checking list_no notes) waits head own answer = absurd waits
  own_behind (stages.Done reply) waits head own answer = own

  look_waits_on : (look : LookUp) → IsLookWaiting look → (exchange : Exchange) → ask_at look.stage ≡ Some exchange.ask
      → ((view : View) → view_of exchange.answer ≡ Some view → view.read ≡ true) → IsLooseFair setting want id folder exchange.ask exchange.answer
      → IsLookWaiting (fed setting look exchange.answer)
  look_waits_on look waiting exchange is published fair =
      let head : LookHead = seen look.head exchange.answer in
      let own : IsFor head = record { want_is = waiting.own.want_is; id_is = waiting.own.id_is; refreshes = waiting.own.refreshes } in
      record {
        own = own_behind look.stage waiting.stage head own exchange.answer;
        stage = stage_waits head own look.stage waiting.stage exchange.ask exchange.answer is published fair;
      }

  starts_waiting : (view : View) → IsLookWaiting (started setting AfterAllIndicesLoaded view want id)
  starts_waiting view = record { own = own; stage = by view.read }
    where
      own : IsFor (new_head AfterAllIndicesLoaded want id)
      own = record { want_is = refl; id_is = refl; refreshes = refl }

      by : (b : Bool)
          → IsWaiting (cond b (try_view setting (new_head AfterAllIndicesLoaded want id) parts.Snapshot view [] without_notes) (stages.Refreshing fronts.Reading (purposes.First true) without_notes))
      by true = view_waits (new_head AfterAllIndicesLoaded want id) own parts.Snapshot tt view [] without_notes
      by false = tt

  -- ---- no folder of packs is opened while it waits

  opens_none : (stage : LookStage) → IsWaiting stage → (path : Path) → ¬ (ask_at stage ≡ Some (asks.Disk (disk_asks.OpenDir path)))
  opens_none (stages.Trying trier part) waits path is = trier_opens_none trier.stage path is
  opens_none (stages.Loose round call) waits path is =
      let same : folder_ask call ≡ disk_asks.OpenDir path = cc is in folder_opens_none call.want call.path path same
  opens_none (stages.Refreshing fronts.Reading purpose notes) waits path is = cc is
  opens_none (stages.Refreshing (fronts.Listing lister) purpose notes) waits path is = waits
  opens_none (stages.Refreshing (fronts.Publishing listing) purpose notes) waits path is = waits
  opens_none (stages.Checking list_no notes) waits path is = waits
  opens_none (stages.Done reply) waits path is = cc is

  none_open : (look : LookUp) → IsLookWaiting look → (before : List Exchange) → AreAsked setting look before → ArePublished before
      → AreLooseFair setting want id folder before → stream_from None before ≡ None
  none_open look waiting [] asked published loose = refl
  none_open look waiting (exchange ∷ before) asked published loose =
      let here = has_first exchange before in
      ap (λ (s : Option Stream). stream_from s before)
      (stays_closed exchange.ask exchange.answer (λ path is. opens_none look.stage waiting.stage path (asked.0 ∙ ap (λ (a : Ask). Some a) is)))
      ∙ none_open (fed setting look exchange.answer)
      (look_waits_on look waiting exchange asked.0 (published exchange here) (loose exchange here)) before asked.1
      (λ other is. published other (has_later exchange before other is)) (λ other is. loose other (has_later exchange before other is))

  -- As long as the loose objects of a folder are fair to the object, a look-up of a core that had published a list has no stream open.
  pub no_stream_is_open_before_the_loose_folder_is_asked : (view : View) (before : List Exchange) → AreAsked setting (started setting AfterAllIndicesLoaded view want id) before
      → ArePublished before → AreLooseFair setting want id folder before → stream_in before ≡ None
  no_stream_is_open_before_the_loose_folder_is_asked view before asked published loose =
      none_open (started setting AfterAllIndicesLoaded view want id) (starts_waiting view) before asked published loose

-- ---- the object moves

module _ (setting : Setting) (hash : Kind) (want : Want) (id : ObjectId) (of_hash : kind_of id ≡ hash) (place : PackedPlace)
    (carried : IsCarried (listed_for setting.parts).multi place) (among : Contains (folders_of setting) place.folder) where
  abbrev Waits : LookUp → Type 0
  Waits look = IsLookWaiting setting want id place.folder among look

  -- before the first listing a look-up is on its track to whatever stays unchanged from now on
  on_track : (stream : Option Stream) (stage : LookStage) → IsWaiting setting want id place.folder among stage
      → IsOn setting hash want id of_hash place carried among stream stage
  on_track stream (stages.Trying trier parts.Snapshot) waits = tt
  on_track stream (stages.Trying trier (parts.List list_no true)) waits = tt
  on_track stream (stages.Trying trier (parts.List list_no false)) waits = tt
  on_track stream (stages.Trying trier (parts.Published list_no)) waits = absurd waits
  on_track stream (stages.Loose round call) waits = by round.part waits.first
    where
      by : (part : Part) → IsFirst part → IsEarly part
      by parts.Snapshot first = tt
      by (parts.List list_no loose) first = tt
      by (parts.Published list_no) first = absurd first
  on_track stream (stages.Refreshing fronts.Reading purpose notes) waits = tt
  on_track stream (stages.Refreshing (fronts.Listing lister) purpose notes) waits = absurd waits
  on_track stream (stages.Refreshing (fronts.Publishing listing) purpose notes) waits = absurd waits
  on_track stream (stages.Checking list_no notes) waits = absurd waits
  on_track stream (stages.Done reply) waits = waits

  not_missed : (past : List Exchange) (look : LookUp) → Waits look → (before after : List Exchange) → AreAsked setting look (before ++ after)
      → ArePublished before → AreLooseFair setting want id place.folder before → AreFair (listed_for setting.parts).multi hash id place (past ++ before) after
      → ¬ (result_of (behind setting look (before ++ after)) ≡ Ok (not_found want))
  not_missed past look waiting [] after asked published loose fair =
      never_missed setting hash want id of_hash place carried among past look
      (record {
        own = record { want_is = waiting.own.want_is; id_is = waiting.own.id_is; refreshes = waiting.own.refreshes };
        stage = on_track (stream_in past) look.stage waiting.stage;
      })
      after asked (subst (λ (es : List Exchange). AreFair (listed_for setting.parts).multi hash id place es after) (append-nil past) fair)
  not_missed past look waiting (exchange ∷ before) after asked published loose fair =
      let here = has_first exchange before in
      not_missed (past ++ exchange ∷ []) (fed setting look exchange.answer)
      (look_waits_on setting want id place.folder among look waiting exchange asked.0 (published exchange here) (loose exchange here))
      before after asked.1 (λ other is. published other (has_later exchange before other is)) (λ other is. loose other (has_later exchange before other is))
      (subst (λ (es : List Exchange). AreFair (listed_for setting.parts).multi hash id place es after) (sym (append_assoc past (exchange ∷ []) before)) fair)

  -- Let an object be loose in a folder up to an exchange, and stay unchanged in a pack of that folder from then on. A look-up of a handle that
  -- refreshes its list isn't ended by "not found", if the core of its store had published a list by then.
  pub objects_that_move_into_packs_are_not_missed : (view : View) (before after : List Exchange)
      → AreAsked setting (started setting AfterAllIndicesLoaded view want id) (before ++ after) → ArePublished before → AreLooseFair setting want id place.folder before
      → AreFair (listed_for setting.parts).multi hash id place before after → ¬ (result_of (behind setting (started setting AfterAllIndicesLoaded view want id) (before ++ after)) ≡ Ok (not_found want))
  objects_that_move_into_packs_are_not_missed view before after asked published loose fair =
      not_missed [] (started setting AfterAllIndicesLoaded view want id) (starts_waiting setting want id place.folder among view) before after asked published loose fair
