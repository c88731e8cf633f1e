-- A look-up for an object that stays unchanged in a pack, by a handle that refreshes its list, stays on its track: what it knows leads to the object's
-- index.
use Rattle.std.proofs.Common.{◌≡◌, ◌⊎◌, inl, inr, ℕ, Bool, true, false, cond, List, [], ◌∷◌, ◌++◌, slice_get, unwrap_or, Contains, Option, Some, None}
use Rattle.std.proofs.Common.{Ok, Err}
use Rattle.std.proofs.Common.{refl, sym, subst}
use Rattle.std.specs.List.{All}
use Rattle.std.proofs.lemmas.List.Elements.{All-contains}
use Rattle.std.proofs.lemmas.Option.{same_Some}
use Rattle.odb_base.specs.Path.{Path}
use Rattle.gix_hash.specs.ObjectId.{kind_of}
use Rattle.gix_hash.specs.declared.kind.Kind.{Kind}
use Rattle.gix_hash.specs.declared.object_id.ObjectId.{ObjectId}
use Rattle.gix_odb_events.specs.declared.listing.Listing.{Listing}
use Rattle.gix_odb_events.specs.declared.listing.ListingRow.{ListingRow}
use Rattle.gix_odb_events.specs.View.{HasRow as IsListed}
use Rattle.gix_odb_events.specs.declared.event.Effect.{Effect}
use Rattle.gix_odb_events.specs.declared.event.Effect.TheVariants as effects
use Rattle.gix_odb_events.specs.declared.event.Event.TheVariants as events
use Rattle.gix_odb_events.specs.declared.view.View.{View}
use Rattle.gix_odb_search.specs.ListedStore.{ListedStore}
use Rattle.gix_odb_search.specs.ListOrder as lists
use Rattle.gix_odb_search.specs.MultiPack.{most_packs}
use Rattle.gix_odb_search.specs.TryOrder as tries
use Rattle.gix_odb_search.specs.TryOrder.{seek}
use Rattle.gix_odb_search.proofs.ReachLaws.{IsAhead, IsNoMiss, IsTracked, LeadsIfThere, seek_goes}
use Rattle.gix_odb_search.proofs.ReachLemmas.{IsPresent, present_at_first}
use Rattle.gix_odb_events.specs.declared.answer.Answer.{Answer}
use Rattle.gix_odb_events.specs.declared.answer.Answer.TheVariants as told
use Rattle.gix_odb_events.specs.declared.answer.Ask.{Ask}
use Rattle.gix_odb_events.specs.declared.answer.Ask.TheVariants as asks
use Rattle.gix_odb_search.specs.declared.lister.ListStep.{ListStep}
use Rattle.gix_odb_search.specs.declared.lister.ListStep.TheVariants as listed
use Rattle.gix_odb_search.specs.declared.search.Notes.{Notes}
use Rattle.gix_odb_search.specs.declared.trier.Tried.{Tried}
use Rattle.gix_odb_search.specs.declared.trier.Tried.TheVariants as tried
use Rattle.gix_odb_search.specs.declared.trier.Trier.{Trier}
use Rattle.gix_odb_calls.specs.Verdict.{folder_verdict}
use Rattle.gix_odb_calls.specs.declared.call.CallError.TheVariants as call_errors
use Rattle.gix_odb_calls.specs.declared.find.Error.TheVariants as find_errors
use Rattle.gix_odb_calls.specs.declared.load_index.Error.TheVariants as load_errors
use Rattle.gix_object.specs.declared.want.Want.{Want}
use Rattle.gix_odb_calls.specs.declared.verdict.Verdict.{Verdict}
use Rattle.gix_odb_calls.specs.declared.verdict.Verdict.TheVariants as verdicts
use Rattle.gix_odb.specs.LookExchanges.{Exchange, AreAsked, behind}
use Rattle.gix_odb.specs.Fair.{AreFair, HasRowOf, IsCarried, IsFair, IsItsIndex, IsViewFair, PackedPlace, pack_at}
use Rattle.gix_odb.specs.Stream.{Stream, stream_by, stream_in}
use Rattle.gix_odb.proofs.ListerLaws.Streams.{stream_in-push}
use Rattle.gix_odb.specs.LoadIndex.{of_refusal}
use Rattle.gix_odb.specs.LookUpOrder.{Setting, again, after_core_list, after_list, after_loose, ask_at, at_folder, by_read, by_refresh, by_tried}
use Rattle.gix_odb.specs.LookUpOrder.{by_verdict}
use Rattle.gix_odb.specs.LookUpOrder.{ended, fed, fed_at, find_error, goal_of, is_unsettled, listing_from, not_found, result_at}
use Rattle.gix_odb.specs.LookUpOrder.{result_of, seen, started, trier_fed, try_view}
use Rattle.gix_odb.specs.LookUpOrder.{unsettled, view_shown, with_own, without_absent, without_notes, new_head}
use Rattle.gix_odb.specs.Shown.{folders_of}
use Rattle.gix_odb.specs.RefreshOrder.{by_listed, by_look, by_published, by_view}
use Rattle.gix_odb.specs.RefreshOrder as refreshes
use Rattle.gix_odb.specs.declared.refresh.Refresh.TheVariants as fronts
use Rattle.gix_odb.specs.declared.refresh.RefreshStep.{RefreshStep}
use Rattle.gix_odb.specs.declared.refresh.RefreshStep.TheVariants as steps
use Rattle.gix_odb.specs.declared.look_up.LookHead.{LookHead}
use Rattle.gix_odb.specs.declared.look_up.LookStage.{LookStage}
use Rattle.gix_odb.specs.declared.look_up.LookStage.TheVariants as stages
use Rattle.gix_odb.specs.declared.look_up.LookUp.{LookUp}
use Rattle.gix_odb.specs.declared.look_up.LooseRound.{LooseRound}
use Rattle.gix_odb.specs.declared.look_up.Part.{Part}
use Rattle.gix_odb.specs.declared.look_up.Part.TheVariants as parts
use Rattle.gix_odb.specs.declared.look_up.Purpose.{Purpose}
use Rattle.gix_odb.specs.declared.look_up.Purpose.TheVariants as purposes
use Rattle.gix_odb.specs.RefreshMode.{by_mode}
use Rattle.gix_odb.specs.declared.refresh_mode.RefreshMode.{RefreshMode}
use Rattle.gix_odb.specs.declared.refresh_mode.RefreshMode.TheVariants.{AfterAllIndicesLoaded}
use Rattle.gix_odb.proofs.MissLaws.Carried.{HasRow, IsCarrierRow}
use Rattle.gix_odb.proofs.MissLaws.Listing.{IsOnWay, StepsOn, begins, listing_goes}
use Rattle.gix_odb.proofs.MissLaws.Replies.{EndsNoMiss, IsMiss, found_is_no_miss, refused_is_no_miss, verdict_is_no_miss}
use Rattle.gix_odb.proofs.MissLaws.Trying.{content_leads, lead_if_fair, try_goes}
use Rattle.gix_odb.specs.Store.{listed_for}

-- a list that was tried before any listing
abbrev pub IsEarly : Part → Type 0
IsEarly parts.Snapshot = Unit {0}
IsEarly (parts.List list_no loose) = Unit {0}
IsEarly (parts.Published list_no) = ⊥

-- the list of a view, as it is tried
abbrev tries_view : Setting → LookHead → View → Notes → Tried
tries_view setting head view notes = seek (goal_of setting head) (record { indices = view.snapshot.indices; todo = view.todo; notes = notes })

module _ (setting : Setting) (hash : Kind) (want : Want) (id : ObjectId) (of_hash : kind_of id ≡ hash) (place : PackedPlace)
    (carried : IsCarried (listed_for setting.parts).multi place) (among : Contains (folders_of setting) place.folder) where
  abbrev store : ListedStore
  store = listed_for setting.parts

  abbrev pub RowThere : List ListingRow → Type 0
  RowThere rows = HasRow store.multi hash id place rows

  abbrev MissesNot : Tried → Type 0
  MissesNot = IsNoMiss hash id (pack_at place) (IsItsIndex place)

  -- a list that the look-up published itself leads to the object
  abbrev pub TriesOn : Part → Trier → Type 0
  TriesOn parts.Snapshot trier = Unit {0}
  TriesOn (parts.List list_no loose) trier = Unit {0}
  TriesOn (parts.Published list_no) trier = IsTracked hash id (pack_at place) (IsItsIndex place) trier

  -- what is known at each stage: before the first listing nothing, and from then on where the index is
  abbrev pub IsOn : Option Stream → LookStage → Type 0
  IsOn stream (stages.Trying trier part) = TriesOn part trier
  IsOn stream (stages.Loose round call) = IsEarly round.part
  IsOn stream (stages.Refreshing fronts.Reading purpose notes) = Unit {0}
  IsOn stream (stages.Refreshing (fronts.Listing lister) purpose notes) = IsOnWay store hash id place carried stream lister.head lister.stage
  IsOn stream (stages.Refreshing (fronts.Publishing listing) purpose notes) = RowThere listing.rows
  IsOn stream (stages.Checking list_no notes) = ⊥
  IsOn stream (stages.Done reply) = ¬ (IsMiss want reply)

  -- the look-up wants this of this id, and refreshes its list
  pub record IsFor (head : LookHead) : Type 0 where
    pub want_is : head.want ≡ want
    pub id_is : head.id ≡ id
    pub refreshes : head.mode ≡ AfterAllIndicesLoaded

  pub record IsLookOn (stream : Option Stream) (look : LookUp) : Type 0 where
    pub own : IsFor look.head
    pub stage : IsOn stream look.stage

  module _ (stream : Option Stream) (head : LookHead) (own : IsFor head) where
    listing_on : (base : ℕ) (notes : Notes) → IsOn stream (listing_from setting base notes)
    listing_on base notes = begins store hash id place carried setting.parts.objects base stream among

    -- the folders are listed after a list of the core
    core_list_on : (list_no : ℕ) (notes : Notes) → IsOn stream (after_core_list setting head list_no notes)
    core_list_on list_no notes =
        subst (λ (mode : RefreshMode). IsOn stream (by_mode (ended head.want notes) (listing_from setting list_no notes) mode)) (sym own.refreshes)
        (listing_on list_no notes)

    again_on : (list_no : ℕ) (notes : Notes) → IsOn stream (again setting head list_no notes)
    again_on list_no notes =
        subst (λ (mode : RefreshMode). IsOn stream (by_mode (stages.Refreshing fronts.Reading (purposes.First true) notes) (listing_from setting list_no notes) mode))
        (sym own.refreshes) (listing_on list_no notes)

    -- ---- lists

    list_goes : (part : Part) → IsEarly part → (notes : Notes) → IsOn stream (after_list setting head part notes)
    list_goes parts.Snapshot early notes = tt
    list_goes (parts.List list_no true) early notes = tt
    list_goes (parts.List list_no false) early notes = core_list_on list_no notes
    list_goes (parts.Published list_no) early notes = absurd early

    early_tries : (part : Part) → IsEarly part → (trier : Trier) → TriesOn part trier
    early_tries parts.Snapshot early trier = tt
    early_tries (parts.List list_no loose) early trier = tt
    early_tries (parts.Published list_no) early trier = absurd early

    early_goes : (part : Part) → IsEarly part → (result : Tried) → IsOn stream (by_tried setting head part result)
    early_goes part early (tried.More trier) = early_tries part early trier
    early_goes part early (tried.Hit what) = found_is_no_miss want what
    early_goes part early (tried.Missed notes) = list_goes part early notes
    early_goes part early (tried.Bad error) = refused_is_no_miss want (call_errors.Find (find_error error))
    early_goes part early (tried.Broken refusal) = refused_is_no_miss want (call_errors.Find (find_errors.LoadIndex (of_refusal refusal)))

    published_goes : (list_no : ℕ) (result : Tried) → MissesNot result
        → IsOn stream (by_tried setting head (parts.Published list_no) result)
    published_goes list_no (tried.More trier) on = on
    published_goes list_no (tried.Hit what) on = found_is_no_miss want what
    published_goes list_no (tried.Missed notes) on = absurd on
    published_goes list_no (tried.Bad error) on = refused_is_no_miss want (call_errors.Find (find_error error))
    published_goes list_no (tried.Broken refusal) on = refused_is_no_miss want (call_errors.Find (find_errors.LoadIndex (of_refusal refusal)))

    tried_goes : (part : Part) (result : Tried) → IsEarly part ⊎ MissesNot result → IsOn stream (by_tried setting head part result)
    tried_goes part result (inl early) = early_goes part early result
    tried_goes parts.Snapshot result (inr on) = early_goes parts.Snapshot tt result
    tried_goes (parts.List list_no loose) result (inr on) = early_goes (parts.List list_no loose) tt result
    tried_goes (parts.Published list_no) result (inr on) = published_goes list_no result on

    -- ---- loose folders

    loose_goes : (part : Part) → IsEarly part → (notes : Notes) → IsOn stream (after_loose setting head part notes)
    loose_goes parts.Snapshot early notes = tt
    loose_goes (parts.List list_no loose) early notes = core_list_on list_no notes
    loose_goes (parts.Published list_no) early notes = absurd early

    folder_goes : (round : LooseRound) → IsEarly round.part → (folder : Option Path) → IsOn stream (at_folder setting head round folder)
    folder_goes round early None = loose_goes round.part early round.notes
    folder_goes round early (Some folder) = early

    verdict_goes : (round : LooseRound) → IsEarly round.part → (verdict : Verdict) → EndsNoMiss want verdict
        → IsOn stream (by_verdict setting head round verdict)
    verdict_goes round early (verdicts.Ends reply) ends = ends
    verdict_goes round early verdicts.Misses ends = folder_goes round early (slice_get setting.parts.folders round.next)
    verdict_goes round early (verdicts.Notes error) ends =
        folder_goes (record round { notes = record round.notes { failed = true } }) early (slice_get setting.parts.folders round.next)

    -- ---- the list of the core is read, or brought up to date

    read_goes : (purpose : Purpose) (view : View) (notes : Notes) → IsOn stream (by_read setting head purpose view notes)
    read_goes (purposes.First loose) view notes = early_goes (parts.List view.list_no loose) tt (tries_view setting head view notes)
    read_goes purposes.Again view notes = again_on view.list_no notes

    counted_goes : (b : Bool) (now : ℕ) (notes : Notes) → IsOn stream (cond b (unsettled head now) (stages.Refreshing fronts.Reading purposes.Again notes))
    counted_goes true now notes =
        refused_is_no_miss want (call_errors.Find (find_errors.LoadIndex (load_errors.Unsettled (unwrap_or head.begun now) head.own now)))
    counted_goes false now notes = tt

    module _ (purpose : Purpose) (notes : Notes) where
      abbrev StepOn : RefreshStep → Type 0
      StepOn step = IsLookOn stream (by_refresh setting head purpose notes step)

      view_read_goes : (view : View) → StepOn (by_view setting.parts.objects view)
      view_read_goes view = by view.read
        where
          by : (b : Bool) → StepOn (cond b (steps.Read view) (steps.More (refreshes.listing_from setting.parts.objects view.list_no)))
          by true = record { own = own; stage = read_goes purpose view notes }
          by false = record { own = own; stage = listing_on view.list_no notes }

      look_goes : (view : Option View) → StepOn (by_look setting.parts.objects view)
      look_goes None = record { own = own; stage = tt }
      look_goes (Some view) = view_read_goes view

      listed_goes : (step : ListStep) → StepsOn store hash id place carried stream step → StepOn (by_listed step)
      listed_goes (listed.More lister) on = record { own = own; stage = on }
      listed_goes (listed.Listed listing) on = record { own = own; stage = on }
      listed_goes listed.Broken on =
          record { own = own; stage = refused_is_no_miss want (call_errors.Find (find_errors.LoadIndex load_errors.Io)) }
      listed_goes (listed.TooManyPacks actual path) on =
          record {
            own = own;
            stage = refused_is_no_miss want (call_errors.Find (find_errors.LoadIndex (load_errors.TooManyPacksInMultiIndex actual most_packs path)));
          }

  abbrev Ahead : View → Type 0
  Ahead view = IsAhead hash id (pack_at place) (IsItsIndex place) view.snapshot.indices view.todo

  -- the row of the pack's own index is that of an index that is shown, or still to be loaded
  index_ahead : (row : ListingRow) → IsItsIndex place row.path → (view : View) → IsViewFair store.multi hash id place view → (slot : ℕ)
      → IsListed view slot row → Ahead view
  index_ahead row at view fair slot (inl shown) =
      inl (
        shown.0,
        shown.1,
        All-contains (LeadsIfThere hash id (pack_at place) (IsItsIndex place)) view.snapshot.indices shown.0
            (lead_if_fair store.multi hash id place view.snapshot.indices fair.indices) shown.1 (subst (IsItsIndex place) (sym shown.3) at),
      )
  index_ahead row at view fair slot (inr listed) = inr (record { slot = slot; path = row.path }, listed, at)

  pub row_ahead : (row : ListingRow) → IsCarrierRow store.multi hash id place row → (view : View) → IsViewFair store.multi hash id place view
      → HasRowOf view row row.multi → Ahead view
  row_ahead row (inl (single, at)) view fair has =
      let listed = subst (HasRowOf view row) single has in index_ahead row at view fair listed.0 listed.1
  row_ahead row (inr own) view fair has =
      let shown = subst (HasRowOf view row) own.content has in
      inl (shown.index, shown.among, content_leads store.multi hash id place view row own.bytes own.path own.sound shown)

  -- the view that a publish passes has the index, loaded or still to be loaded
  view_goes : (stream : Option Stream) (head : LookHead) → IsFor head → (listing : Listing) → RowThere listing.rows → (notes : Notes) → notes.absent ≡ []
      → (view : View) → IsViewFair store.multi hash id place view
      → ((row : ListingRow) → Contains listing.rows row → HasRowOf view row row.multi)
      → IsOn stream (try_view setting head (parts.Published view.list_no) view view.todo notes)
  view_goes stream head own listing has notes none view fair rows =
      published_goes stream head own view.list_no (tries_view setting head view notes)
      (seek_goes hash id (pack_at place) (IsItsIndex place) (goal_of setting head) own.id_is
      (record { indices = view.snapshot.indices; todo = view.todo; notes = notes })
      (subst (IsPresent (pack_at place)) (sym none) (present_at_first (pack_at place)))
      (row_ahead has.0 has.2 view fair (rows has.0 has.1)))

  pub rows_in : (listing : Listing) (view : View) → All (λ (row : ListingRow). HasRowOf view row row.multi) listing.rows
      → (row : ListingRow) → Contains listing.rows row → HasRowOf view row row.multi
  rows_in listing view all row has = All-contains (λ (r : ListingRow). HasRowOf view r r.multi) listing.rows row all has

  publish_goes : (stream : Option Stream) (past : List Exchange) (head : LookHead) → IsFor head → (listing : Listing) (purpose : Purpose) (notes : Notes)
      → RowThere listing.rows → (effect : Effect) → IsFair store.multi hash id place past (asks.Core (events.Publish listing)) (told.Core (Ok effect))
      → IsLookOn stream (by_refresh setting head purpose notes (by_published listing effect))
  publish_goes stream past head own listing purpose notes has (effects.Published view) fair =
      let own_too : IsFor (with_own head) = record { want_is = own.want_is; id_is = own.id_is; refreshes = own.refreshes } in
      record {
        own = own_too;
        stage =
            view_goes stream (with_own head) own_too listing has (without_absent notes) refl view (fair.0 view refl)
            (rows_in listing view (fair.1 view (inl refl)));
      }
  publish_goes stream past head own listing purpose notes has (effects.Unchanged view) fair = record {
    own = own;
    stage = view_goes stream head own listing has (without_absent notes) refl view (fair.0 view refl) (rows_in listing view (fair.1 view (inr refl)));
  }
  publish_goes stream past head own listing purpose notes has (effects.Outdated list_no) fair =
      record { own = own; stage = counted_goes stream head own (is_unsettled setting head list_no) list_no notes }
  publish_goes stream past head own listing purpose notes has effect fair = record { own = own; stage = has }

  -- ---- an exchange

  -- an answer to what the stage asks
  stage_goes : (past : List Exchange) (head : LookHead) → IsFor head → (stage : LookStage) → IsOn (stream_in past) stage → (ask : Ask) (answer : Answer)
      → ask_at stage ≡ Some ask → IsFair store.multi hash id place past ask answer
      → IsLookOn (stream_by (stream_in past) ask answer) (fed_at setting head stage answer)
  stage_goes past head own (stages.Trying trier part) on ask answer is fair =
      let own_ask = same_Some _ ask is in
      let fair_there = subst (λ (a : Ask). IsFair store.multi hash id place past a answer) (sym own_ask) fair in
      record { own = own; stage = tried_goes (stream_by (stream_in past) ask answer) head own part (trier_fed trier answer) (by part on fair_there) }
    where
      by : (p : Part) → TriesOn p trier → IsFair store.multi hash id place past (tries.ask_of trier) answer
          → IsEarly p ⊎ MissesNot (trier_fed trier answer)
      by parts.Snapshot tries_on fair_there = inl tt
      by (parts.List list_no loose) tries_on fair_there = inl tt
      by (parts.Published list_no) tries_on fair_there = inr (try_goes store.multi hash id place past of_hash trier tries_on answer fair_there)
  stage_goes past head own (stages.Loose round call) on ask (told.Disk answer) is fair =
      record {
        own = own;
        stage =
            verdict_goes (stream_by (stream_in past) ask (told.Disk answer)) head own round on (folder_verdict call answer) (verdict_is_no_miss want call answer);
      }
  stage_goes past head own (stages.Loose round call) on ask (told.Core answer) is fair = record { own = own; stage = on }
  stage_goes past head own (stages.Refreshing fronts.Reading purpose notes) on ask (told.Disk answer) is fair = record { own = own; stage = on }
  stage_goes past head own (stages.Refreshing fronts.Reading purpose notes) on ask (told.Core (Ok effect)) is fair =
      look_goes (stream_by (stream_in past) ask (told.Core (Ok effect))) head own purpose notes (view_shown effect)
  stage_goes past head own (stages.Refreshing fronts.Reading purpose notes) on ask (told.Core (Err refusal)) is fair =
      record { own = own; stage = refused_is_no_miss want (call_errors.Find (find_errors.LoadIndex (of_refusal refusal))) }
  stage_goes past head own (stages.Refreshing (fronts.Listing lister) purpose notes) on ask (told.Disk answer) is fair =
      let own_ask = same_Some _ ask is in
      let then : LookUp = fed_at setting head (stages.Refreshing (fronts.Listing lister) purpose notes) (told.Disk answer) in
      subst (λ (a : Ask). IsLookOn (stream_by (stream_in past) a (told.Disk answer)) then) own_ask
      (listed_goes (stream_by (stream_in past) (asks.Disk (lists.ask_of lister)) (told.Disk answer)) head own purpose notes
      (lists.fed store lister answer)
      (listing_goes store hash id place carried past lister.head on.0 lister.stage on.1 answer
      (subst (λ (a : Ask). IsFair store.multi hash id place past a (told.Disk answer)) (sym own_ask) fair)))
  stage_goes past head own (stages.Refreshing (fronts.Listing lister) purpose notes) on ask (told.Core answer) is fair =
      absurd (subst (λ (a : Ask). IsFair store.multi hash id place past a (told.Core answer)) (sym (same_Some _ ask is)) fair)
  stage_goes past head own (stages.Refreshing (fronts.Publishing listing) purpose notes) on ask (told.Disk answer) is fair = record { own = own; stage = on }
  stage_goes past head own (stages.Refreshing (fronts.Publishing listing) purpose notes) on ask (told.Core (Ok effect)) is fair =
      publish_goes (stream_by (stream_in past) ask (told.Core (Ok effect))) past head own listing purpose notes on effect
      (subst (λ (a : Ask). IsFair store.multi hash id place past a (told.Core (Ok effect))) (sym (same_Some _ ask is)) fair)
  stage_goes past head own (stages.Refreshing (fronts.Publishing listing) purpose notes) on ask (told.Core (Err refusal)) is fair =
      record { own = own; stage = refused_is_no_miss want (call_errors.Find (find_errors.LoadIndex (of_refusal refusal))) }
  stage_goes past head own (stages.Checking list_no notes) on ask answer is fair = absurd on
  stage_goes past head own (stages.Done reply) on ask answer is fair = absurd (cc is)

  look_on : (past : List Exchange) (look : LookUp) → IsLookOn (stream_in past) look → (ask : Ask) (answer : Answer) → ask_at look.stage ≡ Some ask
      → IsFair store.multi hash id place past ask answer → IsLookOn (stream_by (stream_in past) ask answer) (fed setting look answer)
  look_on past look on ask answer is fair =
      stage_goes past (seen look.head answer) (record { want_is = on.own.want_is; id_is = on.own.id_is; refreshes = on.own.refreshes }) look.stage on.stage ask answer is fair

  -- ---- a whole look-up

  no_miss_at : (stream : Option Stream) (head : LookHead) (stage : LookStage) → IsOn stream stage → ¬ (result_at head stage ≡ Ok (not_found want))
  no_miss_at stream head (stages.Done reply) on is = on (cc is)
  no_miss_at stream head stage on is = cc is

  pub never_missed : (past : List Exchange) (look : LookUp) → IsLookOn (stream_in past) look → (exchanges : List Exchange) → AreAsked setting look exchanges
      → AreFair store.multi hash id place past exchanges → ¬ (result_of (behind setting look exchanges) ≡ Ok (not_found want))
  never_missed past look on [] asked fair = no_miss_at (stream_in past) look.head look.stage on.stage
  never_missed past look on (exchange ∷ exchanges) asked fair =
      let next = look_on past look on exchange.ask exchange.answer asked.0 fair.0 in
      never_missed (past ++ exchange ∷ []) (fed setting look exchange.answer)
      (subst (λ (s : Option Stream). IsLookOn s (fed setting look exchange.answer)) (sym (stream_in-push past exchange)) next) exchanges asked.1 fair.1

  -- a new look-up is on its track
  pub starts : (view : View) → IsLookOn None (started setting AfterAllIndicesLoaded view want id)
  starts view = record { own = own; stage = by view.read }
    where
      head : LookHead
      head = new_head AfterAllIndicesLoaded want id

      own : IsFor head
      own = record { want_is = refl; id_is = refl; refreshes = refl }

      by : (b : Bool)
          → IsOn None (cond b (try_view setting head parts.Snapshot view [] without_notes) (stages.Refreshing fronts.Reading (purposes.First true) without_notes))
      by true =
          early_goes None head own parts.Snapshot tt
          (seek (goal_of setting head) (record { indices = view.snapshot.indices; todo = []; notes = without_notes }))
      by false = tt
