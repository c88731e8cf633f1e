-- A look-up for an object that stayed unchanged in a pack since its store was opened, by a handle that never refreshes its list. Each list of the core
-- that it tries leads to the object's index, and so does the list that it publishes where the core's was never read.
use Rattle.std.proofs.Common.{◌≡◌, ◌⊎◌, inl, inr, ℕ, Bool, true, false, cond, List, [], ◌∷◌, ◌++◌, slice_get, unwrap_or, Contains, Option, Some, None, Ok, Err, refl, sym, subst}
use Rattle.std.proofs.lemmas.Option.{same_Some}
use Rattle.odb_base.specs.Path.{Path}
use Rattle.gix_hash.specs.ObjectId.{kind_of}
use Rattle.gix_hash.specs.declared.kind.Kind.{Kind}
use Rattle.gix_hash.specs.declared.object_id.ObjectId.{ObjectId}
use Rattle.gix_odb_events.specs.declared.answer.Answer.{Answer}
use Rattle.gix_odb_events.specs.declared.answer.Answer.TheVariants as told
use Rattle.gix_odb_events.specs.declared.answer.Ask.{Ask}
use Rattle.gix_odb_events.specs.declared.answer.Ask.TheVariants as asks
use Rattle.gix_odb_events.specs.declared.event.Effect.{Effect}
use Rattle.gix_odb_events.specs.declared.event.Effect.TheVariants as effects
use Rattle.gix_odb_events.specs.declared.event.Event.TheVariants as events
use Rattle.gix_odb_events.specs.declared.listing.Listing.{Listing}
use Rattle.gix_odb_events.specs.declared.view.View.{View}
use Rattle.gix_odb_search.specs.ListedStore.{ListedStore}
use Rattle.gix_odb_search.specs.ListOrder as lists
use Rattle.gix_odb_search.specs.MultiPack.{most_packs}
use Rattle.gix_odb_search.specs.TryOrder as tries
use Rattle.gix_odb_search.specs.TryOrder.{seek}
use Rattle.gix_odb_search.specs.declared.lister.ListStep.{ListStep}
use Rattle.gix_odb_search.specs.declared.lister.ListStep.TheVariants as listed
use Rattle.gix_odb_search.specs.declared.search.Notes.{Notes}
use Rattle.gix_odb_search.specs.declared.trier.Ahead.{Ahead}
use Rattle.gix_odb_search.specs.declared.trier.Tried.{Tried}
use Rattle.gix_odb_search.specs.declared.trier.Tried.TheVariants as tried
use Rattle.gix_odb_search.specs.declared.trier.Trier.{Trier}
use Rattle.gix_odb_search.proofs.ReachLaws.{IsNoMiss, IsTracked, seek_goes}
use Rattle.gix_odb_search.proofs.ReachLemmas.{present_at_first}
use Rattle.gix_odb_calls.specs.Verdict.{folder_verdict}
use Rattle.gix_odb_calls.specs.declared.call.CallError.TheVariants as call_errors
use Rattle.gix_odb_calls.specs.declared.find.Error.TheVariants as find_errors
use Rattle.gix_odb_calls.specs.declared.load_index.Error as load_index
use Rattle.gix_odb_calls.specs.declared.load_index.Error.TheVariants as load_errors
use Rattle.gix_odb_calls.specs.declared.verdict.Verdict.{Verdict}
use Rattle.gix_odb_calls.specs.declared.verdict.Verdict.TheVariants as verdicts
use Rattle.gix_object.specs.declared.want.Want.{Want}
use Rattle.gix_odb.specs.Fair.{AreFair, IsCarried, IsFair, IsItsIndex, IsViewFair, PackedPlace, pack_at}
use Rattle.gix_odb.specs.LoadIndex.{of_refusal}
use Rattle.gix_odb.specs.LookExchanges.{AreAsked, Exchange, behind}
use Rattle.gix_odb.specs.LookUpOrder.{Setting, after_loose, again, ask_at, at_folder, by_read, by_refresh, by_tried, by_verdict, fed, fed_at}
use Rattle.gix_odb.specs.LookUpOrder.{find_error, goal_of, is_unsettled, listing_from, load_refused, new_head, not_found, result_at, result_of}
use Rattle.gix_odb.specs.LookUpOrder.{seen, started, trier_fed, try_view, unsettled, view_shown, with_own, without_absent, without_notes}
use Rattle.gix_odb.specs.RefreshMode.{by_mode}
use Rattle.gix_odb.specs.RefreshOrder.{by_listed, by_look, by_published, by_view}
use Rattle.gix_odb.specs.RefreshOrder as refreshes
use Rattle.gix_odb.specs.Shown.{folders_of}
use Rattle.gix_odb.specs.StillListed.{AreListed, HasRow, IsListed, ShowsRow}
use Rattle.gix_odb.specs.Store.{listed_for}
use Rattle.gix_odb.specs.Stream.{Stream, stream_by, stream_in}
use Rattle.gix_odb.specs.declared.look_up.LookHead.{LookHead}
use Rattle.gix_odb.specs.declared.look_up.LookStage.{LookStage}
use Rattle.gix_odb.specs.declared.look_up.LookStage.TheVariants as stages
use Rattle.gix_odb.specs.declared.look_up.LookUp.{LookUp}
use Rattle.gix_odb.specs.declared.look_up.LooseRound.{LooseRound}
use Rattle.gix_odb.specs.declared.look_up.Part.{Part}
use Rattle.gix_odb.specs.declared.look_up.Part.TheVariants as parts
use Rattle.gix_odb.specs.declared.look_up.Purpose.{Purpose}
use Rattle.gix_odb.specs.declared.look_up.Purpose.TheVariants as purposes
use Rattle.gix_odb.specs.declared.refresh.Refresh.TheVariants as fronts
use Rattle.gix_odb.specs.declared.refresh.RefreshStep.{RefreshStep}
use Rattle.gix_odb.specs.declared.refresh.RefreshStep.TheVariants as steps
use Rattle.gix_odb.specs.declared.refresh_mode.RefreshMode.{RefreshMode}
use Rattle.gix_odb.specs.declared.refresh_mode.RefreshMode.TheVariants.{Never}
use Rattle.gix_odb.proofs.ListerLaws.Streams.{stream_in-push}
use Rattle.gix_odb.proofs.MissLaws.Listing.{IsOnWay, StepsOn, begins, listing_goes}
use Rattle.gix_odb.proofs.MissLaws.Lists.{first_in, later_in}
use Rattle.gix_odb.proofs.MissLaws.Present.{IsThere, IsUnnoted, UnnotedIn, stays_there, there_seek}
use Rattle.gix_odb.proofs.MissLaws.Replies.{EndsNoMiss, IsMiss, found_is_no_miss, refused_is_no_miss, verdict_is_no_miss}
use Rattle.gix_odb.proofs.MissLaws.Track.{row_ahead, rows_in}
use Rattle.gix_odb.proofs.MissLaws.Trying.{try_goes}

-- the snapshot is tried first, and the loose folders after it; after any other list that leads to the object none are asked
abbrev IsFirst : Part → Type 0
IsFirst parts.Snapshot = Unit {0}
IsFirst (parts.List list_no loose) = ⊥
IsFirst (parts.Published list_no) = ⊥

module _ (setting : Setting) (hash : Kind) (want : Want) (id : ObjectId) (of_hash : kind_of id ≡ hash) (place : PackedPlace)
    (carried : IsCarried (listed_for setting.parts).multi place) (among : Contains (folders_of setting) place.folder) where
  abbrev store : ListedStore
  store = listed_for setting.parts

  abbrev MissesNot : Tried → Type 0
  MissesNot = IsNoMiss hash id (pack_at place) (IsItsIndex place)

  -- while the snapshot is tried the pack isn't noted as absent; any other list leads to the object
  abbrev TriesOn : Part → Trier → Type 0
  TriesOn parts.Snapshot trier = IsUnnoted place trier
  TriesOn (parts.List list_no loose) trier = IsTracked hash id (pack_at place) (IsItsIndex place) trier
  TriesOn (parts.Published list_no) trier = IsTracked hash id (pack_at place) (IsItsIndex place) trier

  abbrev TriedOn : Part → Tried → Type 0
  TriedOn parts.Snapshot result = UnnotedIn place result
  TriedOn (parts.List list_no loose) result = MissesNot result
  TriedOn (parts.Published list_no) result = MissesNot result

  -- what is known at each stage
  abbrev IsOn : Option Stream → LookStage → Type 0
  IsOn stream (stages.Trying trier part) = TriesOn part trier
  IsOn stream (stages.Loose round call) = IsFirst round.part × IsThere place round.notes
  IsOn stream (stages.Refreshing fronts.Reading purpose notes) = IsThere place notes
  IsOn stream (stages.Refreshing (fronts.Listing lister) purpose notes) = IsThere place notes × IsOnWay store hash id place carried stream lister.head lister.stage
  IsOn stream (stages.Refreshing (fronts.Publishing listing) purpose notes) = IsThere place notes × HasRow store.multi hash id place listing.rows
  IsOn stream (stages.Checking list_no notes) = ⊥
  IsOn stream (stages.Done reply) = ¬ (IsMiss want reply)

  -- the look-up wants this of this id, and never refreshes its list
  pub record IsFor (head : LookHead) : Type 0 where
    pub want_is : head.want ≡ want
    pub id_is : head.id ≡ id
    pub frozen : head.mode ≡ Never

  pub record IsLookOn (stream : Option Stream) (look : LookUp) : Type 0 where
    pub own : IsFor look.head
    pub stage : IsOn stream look.stage

  module _ (stream : Option Stream) (head : LookHead) (own : IsFor head) where
    load_refused_on : (error : load_index.Error) → IsOn stream (stages.Done (load_refused error))
    load_refused_on error = refused_is_no_miss want (call_errors.Find (find_errors.LoadIndex error))

    -- ---- lists

    first_goes : (result : Tried) → UnnotedIn place result → IsOn stream (by_tried setting head parts.Snapshot result)
    first_goes (tried.More trier) on = on
    first_goes (tried.Hit what) on = found_is_no_miss want what
    first_goes (tried.Missed notes) on = (tt, on)
    first_goes (tried.Bad error) on = refused_is_no_miss want (call_errors.Find (find_error error))
    first_goes (tried.Broken refusal) on = load_refused_on (of_refusal refusal)

    core_goes : (list_no : ℕ) (loose : Bool) (result : Tried) → MissesNot result → IsOn stream (by_tried setting head (parts.List list_no loose) result)
    core_goes list_no loose (tried.More trier) on = on
    core_goes list_no loose (tried.Hit what) on = found_is_no_miss want what
    core_goes list_no loose (tried.Missed notes) on = absurd on
    core_goes list_no loose (tried.Bad error) on = refused_is_no_miss want (call_errors.Find (find_error error))
    core_goes list_no loose (tried.Broken refusal) on = load_refused_on (of_refusal refusal)

    published_goes : (list_no : ℕ) (result : Tried) → MissesNot result → IsOn stream (by_tried setting head (parts.Published list_no) result)
    published_goes list_no (tried.More trier) on = on
    published_goes list_no (tried.Hit what) on = found_is_no_miss want what
    published_goes list_no (tried.Missed notes) on = absurd on
    published_goes list_no (tried.Bad error) on = refused_is_no_miss want (call_errors.Find (find_error error))
    published_goes list_no (tried.Broken refusal) on = load_refused_on (of_refusal refusal)

    tried_goes : (part : Part) (result : Tried) → TriedOn part result → IsOn stream (by_tried setting head part result)
    tried_goes parts.Snapshot result on = first_goes result on
    tried_goes (parts.List list_no loose) result on = core_goes list_no loose result on
    tried_goes (parts.Published list_no) result on = published_goes list_no result on

    -- the list of a view that has a carrier's row leads to the object
    view_leads : (view : View) → IsViewFair store.multi hash id place view → ShowsRow store.multi hash id place view → (notes : Notes) → IsThere place notes
        → MissesNot (seek (goal_of setting head) (record { indices = view.snapshot.indices; todo = view.todo; notes = notes }))
    view_leads view fair shows notes there =
        seek_goes hash id (pack_at place) (IsItsIndex place) (goal_of setting head) own.id_is
        (record { indices = view.snapshot.indices; todo = view.todo; notes = notes }) there
        (row_ahead setting hash want id of_hash place carried among shows.0 shows.1 view fair shows.2)

    -- ---- loose folders

    loose_goes : (part : Part) → IsFirst part → (notes : Notes) → IsThere place notes → IsOn stream (after_loose setting head part notes)
    loose_goes parts.Snapshot first notes there = there
    loose_goes (parts.List list_no loose) first notes there = absurd first
    loose_goes (parts.Published list_no) first notes there = absurd first

    folder_goes : (round : LooseRound) → IsFirst round.part → IsThere place round.notes → (folder : Option Path)
        → IsOn stream (at_folder setting head round folder)
    folder_goes round first there None = loose_goes round.part first round.notes there
    folder_goes round first there (Some folder) = (first, there)

    verdict_goes : (round : LooseRound) → IsFirst round.part → IsThere place round.notes → (verdict : Verdict) → EndsNoMiss want verdict
        → IsOn stream (by_verdict setting head round verdict)
    verdict_goes round first there (verdicts.Ends reply) ends = ends
    verdict_goes round first there verdicts.Misses ends = folder_goes round first there (slice_get setting.parts.folders round.next)
    verdict_goes round first there (verdicts.Notes error) ends =
        folder_goes (record round { notes = record round.notes { failed = true } }) first there (slice_get setting.parts.folders round.next)

    -- ---- the list of the core is read, or brought up to date

    again_goes : (list_no : ℕ) (notes : Notes) → IsThere place notes → IsOn stream (again setting head list_no notes)
    again_goes list_no notes there =
        subst (λ (mode : RefreshMode). IsOn stream (by_mode (stages.Refreshing fronts.Reading (purposes.First true) notes) (listing_from setting list_no notes) mode))
        (sym own.frozen) there

    read_goes : (purpose : Purpose) (view : View) → IsViewFair store.multi hash id place view → ShowsRow store.multi hash id place view → (notes : Notes)
        → IsThere place notes → IsOn stream (by_read setting head purpose view notes)
    read_goes (purposes.First loose) view fair shows notes there =
        core_goes view.list_no loose (seek (goal_of setting head) (record { indices = view.snapshot.indices; todo = view.todo; notes = notes }))
        (view_leads view fair shows notes there)
    read_goes purposes.Again view fair shows notes there = again_goes view.list_no notes there

    counted_goes : (b : Bool) (now : ℕ) (notes : Notes) → IsThere place notes
        → IsOn stream (cond b (unsettled head now) (stages.Refreshing fronts.Reading purposes.Again notes))
    counted_goes true now notes there = load_refused_on (load_errors.Unsettled (unwrap_or head.begun now) head.own now)
    counted_goes false now notes there = there

    module _ (purpose : Purpose) (notes : Notes) (there : IsThere place notes) where
      abbrev StepOn : RefreshStep → Type 0
      StepOn step = IsLookOn stream (by_refresh setting head purpose notes step)

      refused_step : (error : load_index.Error) → StepOn (steps.Refused error)
      refused_step error = record { own = own; stage = load_refused_on error }

      view_read_goes : (view : View) → IsViewFair store.multi hash id place view → (view.read ≡ true → ShowsRow store.multi hash id place view)
          → StepOn (by_view setting.parts.objects view)
      view_read_goes view fair shows = by view.read refl
        where
          by : (b : Bool) → view.read ≡ b → StepOn (cond b (steps.Read view) (steps.More (refreshes.listing_from setting.parts.objects view.list_no)))
          by true is = record { own = own; stage = read_goes purpose view fair (shows is) notes there }
          by false is = record { own = own; stage = (there, begins store hash id place carried setting.parts.objects view.list_no stream among) }

      look_goes : (view : Option View) → ((v : View) → view ≡ Some v → IsViewFair store.multi hash id place v)
          → ((v : View) → view ≡ Some v → v.read ≡ true → ShowsRow store.multi hash id place v) → StepOn (by_look setting.parts.objects view)
      look_goes None fair shows = record { own = own; stage = there }
      look_goes (Some view) fair shows = view_read_goes view (fair view refl) (shows view refl)

      listed_goes : (step : ListStep) → StepsOn store hash id place carried stream step → StepOn (by_listed step)
      listed_goes (listed.More lister) on = record { own = own; stage = (there, on) }
      listed_goes (listed.Listed listing) on = record { own = own; stage = (there, on) }
      listed_goes listed.Broken on = refused_step load_errors.Io
      listed_goes (listed.TooManyPacks actual path) on = refused_step (load_errors.TooManyPacksInMultiIndex actual most_packs path)

  with_own_for : (head : LookHead) → IsFor head → IsFor (with_own head)
  with_own_for head own = record { want_is = own.want_is; id_is = own.id_is; frozen = own.frozen }

  publish_goes : (stream : Option Stream) (past : List Exchange) (head : LookHead) → IsFor head → (listing : Listing) (purpose : Purpose) (notes : Notes)
      → IsThere place notes → HasRow store.multi hash id place listing.rows → (effect : Effect)
      → IsFair store.multi hash id place past (asks.Core (events.Publish listing)) (told.Core (Ok effect))
      → IsLookOn stream (by_refresh setting head purpose notes (by_published listing effect))
  publish_goes stream past head own listing purpose notes there has (effects.Published view) fair =
      let rows = rows_in setting hash want id of_hash place carried among listing view (fair.1 view (inl refl)) in
      let own_too = with_own_for head own in
      record {
        own = own_too;
        stage =
            published_goes stream (with_own head) own_too view.list_no
            (seek (goal_of setting (with_own head)) (record { indices = view.snapshot.indices; todo = view.todo; notes = without_absent notes }))
            (view_leads stream (with_own head) own_too view (fair.0 view refl) (has.0, has.2, rows has.0 has.1) (without_absent notes) (present_at_first (pack_at place)));
      }
  publish_goes stream past head own listing purpose notes there has (effects.Unchanged view) fair =
      let rows = rows_in setting hash want id of_hash place carried among listing view (fair.1 view (inr refl)) in
      record {
        own = own;
        stage =
            published_goes stream head own view.list_no
            (seek (goal_of setting head) (record { indices = view.snapshot.indices; todo = view.todo; notes = without_absent notes }))
            (view_leads stream head own view (fair.0 view refl) (has.0, has.2, rows has.0 has.1) (without_absent notes) (present_at_first (pack_at place)));
      }
  publish_goes stream past head own listing purpose notes there has (effects.Outdated list_no) fair =
      record { own = own; stage = counted_goes stream head own (is_unsettled setting head list_no) list_no notes there }
  publish_goes stream past head own listing purpose notes there has effect fair = record { own = own; stage = (there, has) }

  -- ---- an exchange

  trying_goes : (past : List Exchange) (trier : Trier) (part : Part) → TriesOn part trier → (answer : Answer)
      → IsFair store.multi hash id place past (tries.ask_of trier) answer → TriedOn part (trier_fed trier answer)
  trying_goes past trier parts.Snapshot on answer fair = stays_there place store.multi hash id past trier on answer fair
  trying_goes past trier (parts.List list_no loose) on answer fair = try_goes store.multi hash id place past of_hash trier on answer fair
  trying_goes past trier (parts.Published list_no) on answer fair = try_goes store.multi hash id place past of_hash trier on answer fair

  -- an answer to what the stage asks
  stage_goes : (past : List Exchange) (head : LookHead) → IsFor head → (stage : LookStage) → IsOn (stream_in past) stage → (ask : Ask) (answer : Answer)
      → ask_at stage ≡ Some ask → IsFair store.multi hash id place past ask answer → IsListed store.multi hash id place ask answer
      → IsLookOn (stream_by (stream_in past) ask answer) (fed_at setting head stage answer)
  stage_goes past head own (stages.Trying trier part) on ask answer is fair shows =
      let fair_there = subst (λ (a : Ask). IsFair store.multi hash id place past a answer) (sym (same_Some _ ask is)) fair in
      record {
        own = own;
        stage = tried_goes (stream_by (stream_in past) ask answer) head own part (trier_fed trier answer) (trying_goes past trier part on answer fair_there);
      }
  stage_goes past head own (stages.Loose round call) on ask (told.Disk answer) is fair shows =
      record {
        own = own;
        stage =
            verdict_goes (stream_by (stream_in past) ask (told.Disk answer)) head own round on.0 on.1 (folder_verdict call answer)
            (verdict_is_no_miss want call answer);
      }
  stage_goes past head own (stages.Loose round call) on ask (told.Core answer) is fair shows = record { own = own; stage = on }
  stage_goes past head own (stages.Refreshing fronts.Reading purpose notes) on ask (told.Disk answer) is fair shows = record { own = own; stage = on }
  stage_goes past head own (stages.Refreshing fronts.Reading purpose notes) on ask (told.Core (Ok effect)) is fair shows =
      let same = sym (same_Some _ ask is) in
      look_goes (stream_by (stream_in past) ask (told.Core (Ok effect))) head own purpose notes on (view_shown effect)
      (subst (λ (a : Ask). IsFair store.multi hash id place past a (told.Core (Ok effect))) same fair).0
      (subst (λ (a : Ask). IsListed store.multi hash id place a (told.Core (Ok effect))) same shows)
  stage_goes past head own (stages.Refreshing fronts.Reading purpose notes) on ask (told.Core (Err refusal)) is fair shows =
      refused_step (stream_by (stream_in past) ask (told.Core (Err refusal))) head own purpose notes on (of_refusal refusal)
  stage_goes past head own (stages.Refreshing (fronts.Listing lister) purpose notes) on ask (told.Disk answer) is fair shows =
      let own_ask = same_Some _ ask is in
      let then : LookUp = fed_at setting head (stages.Refreshing (fronts.Listing lister) purpose notes) (told.Disk answer) in
      subst (λ (a : Ask). IsLookOn (stream_by (stream_in past) a (told.Disk answer)) then) own_ask
      (listed_goes (stream_by (stream_in past) (asks.Disk (lists.ask_of lister)) (told.Disk answer)) head own purpose notes on.0
      (lists.fed store lister answer)
      (listing_goes store hash id place carried past lister.head on.1.0 lister.stage on.1.1 answer
      (subst (λ (a : Ask). IsFair store.multi hash id place past a (told.Disk answer)) (sym own_ask) fair)))
  stage_goes past head own (stages.Refreshing (fronts.Listing lister) purpose notes) on ask (told.Core answer) is fair shows =
      absurd (subst (λ (a : Ask). IsFair store.multi hash id place past a (told.Core answer)) (sym (same_Some _ ask is)) fair)
  stage_goes past head own (stages.Refreshing (fronts.Publishing listing) purpose notes) on ask (told.Disk answer) is fair shows =
      record { own = own; stage = on }
  stage_goes past head own (stages.Refreshing (fronts.Publishing listing) purpose notes) on ask (told.Core (Ok effect)) is fair shows =
      publish_goes (stream_by (stream_in past) ask (told.Core (Ok effect))) past head own listing purpose notes on.0 on.1 effect
      (subst (λ (a : Ask). IsFair store.multi hash id place past a (told.Core (Ok effect))) (sym (same_Some _ ask is)) fair)
  stage_goes past head own (stages.Refreshing (fronts.Publishing listing) purpose notes) on ask (told.Core (Err refusal)) is fair shows =
      refused_step (stream_by (stream_in past) ask (told.Core (Err refusal))) head own purpose notes on.0 (of_refusal refusal)
  stage_goes past head own (stages.Checking list_no notes) on ask answer is fair shows = absurd on
  stage_goes past head own (stages.Done reply) on ask answer is fair shows = absurd (cc is)

  look_on : (past : List Exchange) (look : LookUp) → IsLookOn (stream_in past) look → (ask : Ask) (answer : Answer) → ask_at look.stage ≡ Some ask
      → IsFair store.multi hash id place past ask answer → IsListed store.multi hash id place ask answer
      → IsLookOn (stream_by (stream_in past) ask answer) (fed setting look answer)
  look_on past look on ask answer is fair shows =
      stage_goes past (seen look.head answer) (record { want_is = on.own.want_is; id_is = on.own.id_is; frozen = on.own.frozen })
      look.stage on.stage ask answer is fair shows

  -- ---- a whole look-up

  no_miss_at : (stream : Option Stream) (head : LookHead) (stage : LookStage) → IsOn stream stage → ¬ (result_at head stage ≡ Ok (not_found want))
  no_miss_at stream head (stages.Done reply) on is = on (cc is)
  no_miss_at stream head stage on is = cc is

  pub frozen_never_missed : (past : List Exchange) (look : LookUp) → IsLookOn (stream_in past) look → (exchanges : List Exchange) → AreAsked setting look exchanges
      → AreFair store.multi hash id place past exchanges → AreListed store.multi hash id place exchanges
      → ¬ (result_of (behind setting look exchanges) ≡ Ok (not_found want))
  frozen_never_missed past look on [] asked fair shows = no_miss_at (stream_in past) look.head look.stage on.stage
  frozen_never_missed past look on (exchange ∷ exchanges) asked fair shows =
      let next = look_on past look on exchange.ask exchange.answer asked.0 fair.0 (shows exchange (first_in exchange exchanges)) in
      frozen_never_missed (past ++ exchange ∷ []) (fed setting look exchange.answer)
      (subst (λ (s : Option Stream). IsLookOn s (fed setting look exchange.answer)) (sym (stream_in-push past exchange)) next) exchanges asked.1 fair.1
      (λ other is. shows other (later_in exchange exchanges other is))

  -- a new look-up
  pub frozen_starts : (view : View) → IsLookOn None (started setting Never view want id)
  frozen_starts view = record { own = own; stage = by view.read }
    where
      head : LookHead
      head = new_head Never want id

      own : IsFor head
      own = record { want_is = refl; id_is = refl; frozen = refl }

      ahead : Ahead
      ahead = record { indices = view.snapshot.indices; todo = []; notes = without_notes }

      by : (b : Bool) → IsOn None (cond b (try_view setting head parts.Snapshot view [] without_notes) (stages.Refreshing fronts.Reading (purposes.First true) without_notes))
      by true = first_goes None head own (seek (goal_of setting head) ahead) (there_seek place (goal_of setting head) ahead (present_at_first (pack_at place)))
      by false = present_at_first (pack_at place)
