-- A look-up of a handle that refreshes its list and that found nothing ended with a read of the core's state, whose list is the one that was published or confirmed last for it.
use Rattle.std.proofs.Common.{◌≡◌, ◌⊎◌, inl, inr, ℕ, Bool, true, false, cond, List, [], ◌∷◌, ◌++◌, slice_get, Option, Some, None, Ok, Err, refl, sym, ap, ◌∙◌, subst}
use Rattle.std.specs.Prelude.{◌==◌}
use Rattle.std.proofs.lemmas.Bool.{eqb-true}
use Rattle.std.proofs.lemmas.Option.{same_Some}
use Rattle.odb_base.specs.Path.{Path}
use Rattle.odb_disk.specs.declared.ask.DiskAsk.{DiskAsk}
use Rattle.gix_hash.specs.declared.object_id.ObjectId.{ObjectId}
use Rattle.gix_odb_events.specs.Answers.{view_in}
use Rattle.gix_odb_events.specs.declared.event.Effect.{Effect}
use Rattle.gix_odb_events.specs.declared.event.Effect.TheVariants as effects
use Rattle.gix_odb_events.specs.declared.event.Event.TheVariants as events
use Rattle.gix_odb_events.specs.declared.listing.Listing.{Listing}
use Rattle.gix_odb_events.specs.declared.view.View.{View}
use Rattle.gix_odb_search.specs.TryOrder as tries
use Rattle.gix_odb_search.specs.TryOrder.{seek}
use Rattle.gix_odb_search.specs.declared.index_loader.IndexLoader.TheVariants as loaders
use Rattle.gix_odb_search.specs.declared.lister.ListStep.{ListStep}
use Rattle.gix_odb_search.specs.declared.lister.ListStep.TheVariants as listed
use Rattle.gix_odb_search.specs.declared.search.Notes.{Notes}
use Rattle.gix_odb_search.specs.declared.trier.Stage.{Stage}
use Rattle.gix_odb_search.specs.declared.trier.Stage.TheVariants as tries_stages
use Rattle.gix_odb_search.specs.declared.trier.Tried.{Tried}
use Rattle.gix_odb_search.specs.declared.trier.Tried.TheVariants as tried
use Rattle.gix_odb_events.specs.declared.answer.Answer.{Answer}
use Rattle.gix_odb_events.specs.declared.answer.Answer.TheVariants as told
use Rattle.gix_odb_events.specs.declared.answer.Ask.{Ask}
use Rattle.gix_odb_events.specs.declared.answer.Ask.TheVariants as asks
use Rattle.gix_odb_calls.specs.Verdict.{folder_ask, folder_verdict}
use Rattle.gix_odb_calls.specs.declared.call.CallError.TheVariants as call_errors
use Rattle.gix_odb_calls.specs.declared.find.Error.TheVariants as find_errors
use Rattle.gix_odb_calls.specs.declared.load_index.Error.TheVariants as load_errors
use Rattle.gix_odb_calls.specs.declared.load_index.Error.{Error}
use Rattle.gix_object.specs.declared.want.Want.{Want}
use Rattle.gix_odb_calls.specs.declared.verdict.Verdict.{Verdict}
use Rattle.gix_odb_calls.specs.declared.verdict.Verdict.TheVariants as verdicts
use Rattle.gix_odb.specs.LookExchanges.{AreAsked, Exchange, behind}
use Rattle.gix_odb.specs.LoadIndex.{of_refusal}
use Rattle.gix_odb.specs.RefreshOrder.{by_listed, by_look, by_published}
use Rattle.gix_odb.specs.RefreshOrder as refreshes
use Rattle.gix_odb_search.specs.ListOrder as lists
use Rattle.gix_odb.specs.declared.refresh.Refresh.TheVariants as fronts
use Rattle.gix_odb.specs.declared.refresh.RefreshStep.{RefreshStep}
use Rattle.gix_odb.specs.declared.refresh.RefreshStep.TheVariants as steps
use Rattle.gix_odb.specs.LookUpOrder.{Setting, after_core_list, after_list, after_loose, ask_at, ask_of, at_folder, by_checked, by_read, by_refresh, by_tried}
use Rattle.gix_odb.specs.LookUpOrder.{by_verdict, counted, ended, fed, fed_at, find_error, goal_of, is_unsettled, listing_from, load_refused}
use Rattle.gix_odb.specs.LookUpOrder.{new_head, not_found, result_at, result_of, seen, started, trier_fed, try_view, unsettled, view_shown}
use Rattle.gix_odb.specs.LookUpOrder.{with_own, without_absent, without_notes}
use Rattle.gix_odb.specs.declared.look_up.LookHead.{LookHead}
use Rattle.gix_odb.specs.declared.look_up.LookStage.{LookStage}
use Rattle.gix_odb.specs.declared.look_up.LookStage.TheVariants as stages
use Rattle.gix_odb.specs.declared.look_up.LookUp.{LookUp}
use Rattle.gix_odb.specs.declared.look_up.LooseRound.{LooseRound}
use Rattle.gix_odb.specs.declared.look_up.Part.{Part}
use Rattle.gix_odb.specs.declared.look_up.Part.TheVariants as parts
use Rattle.gix_odb.specs.declared.look_up.Purpose.{Purpose}
use Rattle.gix_odb.specs.declared.look_up.Purpose.TheVariants as purposes
use Rattle.gix_odb.proofs.MissLaws.Replies.{EndsNoMiss, IsMiss, found_is_no_miss, refused_is_no_miss, verdict_is_no_miss}
use Rattle.gix_odb_world.specs.RunLaws.Missed.{EndAtLastList, last_list, list_by}
use Rattle.gix_odb.specs.Store.{listed_for}
use Rattle.gix_odb.specs.RefreshMode.{by_mode}
use Rattle.gix_odb.specs.declared.refresh_mode.RefreshMode.{RefreshMode}
use Rattle.gix_odb.specs.declared.refresh_mode.RefreshMode.TheVariants.{AfterAllIndicesLoaded}

-- ---- what passes on no listing

trying_lists_nothing : (number : Option ℕ) (stage : Stage) (answer : Answer) → number ≡ list_by number (tries.ask_at stage) answer
trying_lists_nothing number (tries_stages.Loading (loaders.Reading place)) answer = refl
trying_lists_nothing number (tries_stages.Loading (loaders.Storing place file)) answer = refl
trying_lists_nothing number (tries_stages.Loading (loaders.Passing place why)) answer = refl
trying_lists_nothing number (tries_stages.ReadingPack pack) answer = refl
trying_lists_nothing number (tries_stages.StoringPack pack file) answer = refl
trying_lists_nothing number (tries_stages.PassingPack pack) answer = refl

loose_lists_nothing : (number : Option ℕ) (own : DiskAsk) (ask : Ask) (answer : Answer) → Some (asks.Disk own) ≡ Some ask → number ≡ list_by number ask answer
loose_lists_nothing number own ask answer is = subst (λ (a : Ask). number ≡ list_by number a answer) (same_Some (asks.Disk own) ask is) refl

-- ---- the list that was published or confirmed last

-- the list is one that the look-up published or confirmed itself
abbrev PartAt : Option ℕ → Part → Type 0
PartAt number parts.Snapshot = Unit {0}
PartAt number (parts.List own loose) = Unit {0}
PartAt number (parts.Published own) = number ≡ Some own

module _ (setting : Setting) (want : Want) where
  abbrev IsAt : Option ℕ → LookStage → Type 0
  IsAt number (stages.Trying trier part) = PartAt number part
  IsAt number (stages.Loose round call) = PartAt number round.part
  IsAt number (stages.Refreshing refresh purpose notes) = Unit {0}
  IsAt number (stages.Checking own notes) = number ≡ Some own
  IsAt number (stages.Done reply) = ¬ (IsMiss want reply)

  -- the look-up wants this, and refreshes its list
  record IsFor (head : LookHead) : Type 0 where
    want_is : head.want ≡ want
    refreshes : head.mode ≡ AfterAllIndicesLoaded

  record IsLookAt (number : Option ℕ) (look : LookUp) : Type 0 where
    own : IsFor look.head
    stage : IsAt number look.stage

  refused_at : (error : Error) → ¬ (IsMiss want (load_refused error))
  refused_at error = refused_is_no_miss want (call_errors.Find (find_errors.LoadIndex error))

  -- a look-up that ended with a read of the core's state whose view has the list
  record IsChecked (number : Option ℕ) (effect : Effect) (next : LookStage) : Type 0 where
    view : View
    shown : view_in (Ok effect) ≡ Some view
    newest : number ≡ Some view.list_no
    done : ask_at next ≡ None

  module _ (number : Option ℕ) (head : LookHead) (own : IsFor head) where
    -- ---- lists

    core_list_at : (list_no : ℕ) (notes : Notes) → IsAt number (after_core_list setting head list_no notes)
    core_list_at list_no notes =
        subst (λ (mode : RefreshMode). IsAt number (by_mode (ended head.want notes) (listing_from setting list_no notes) mode)) (sym own.refreshes) tt

    list_at : (part : Part) → PartAt number part → (notes : Notes) → IsAt number (after_list setting head part notes)
    list_at parts.Snapshot at notes = tt
    list_at (parts.List base true) at notes = tt
    list_at (parts.List base false) at notes = core_list_at base notes
    list_at (parts.Published base) at notes = at

    tried_at : (part : Part) → PartAt number part → (result : Tried) → IsAt number (by_tried setting head part result)
    tried_at part at (tried.More trier) = at
    tried_at part at (tried.Hit what) = found_is_no_miss want what
    tried_at part at (tried.Missed notes) = list_at part at notes
    tried_at part at (tried.Bad error) = refused_is_no_miss want (call_errors.Find (find_error error))
    tried_at part at (tried.Broken refusal) = refused_at (of_refusal refusal)

    -- ---- loose folders

    loose_at : (part : Part) → PartAt number part → (notes : Notes) → IsAt number (after_loose setting head part notes)
    loose_at parts.Snapshot at notes = tt
    loose_at (parts.List base loose) at notes = core_list_at base notes
    loose_at (parts.Published base) at notes =
        subst (λ (mode : RefreshMode). IsAt number (by_mode (ended head.want notes) (stages.Checking base notes) mode)) (sym own.refreshes) at

    folder_at : (round : LooseRound) → PartAt number round.part → (folder : Option Path) → IsAt number (at_folder setting head round folder)
    folder_at round at None = loose_at round.part at round.notes
    folder_at round at (Some folder) = at

    verdict_at : (round : LooseRound) → PartAt number round.part → (verdict : Verdict) → EndsNoMiss want verdict → IsAt number (by_verdict setting head round verdict)
    verdict_at round at (verdicts.Ends reply) ends = ends
    verdict_at round at verdicts.Misses ends = folder_at round at (slice_get setting.parts.folders round.next)
    verdict_at round at (verdicts.Notes error) ends =
        folder_at (record round { notes = record round.notes { failed = true } }) at (slice_get setting.parts.folders round.next)

    -- ---- looks at the core

    counted_at : (now : ℕ) (next : LookStage) → IsAt number next → (b : Bool) → IsAt number (cond b (unsettled head now) next)
    counted_at now next at true = refused_at _
    counted_at now next at false = at

    ended_asks_nothing : (b : Bool) → ask_at (cond b (stages.Done (load_refused load_errors.Io)) (stages.Done (not_found head.want))) ≡ None
    ended_asks_nothing true = refl
    ended_asks_nothing false = refl

    check_at : (effect : Effect) (own : ℕ) → number ≡ Some own → (notes : Notes) (view : View) → view_shown effect ≡ Some view → (b : Bool) → (view.list_no == own) ≡ b
        → let next : LookStage = cond b (ended head.want notes) (counted setting head view.list_no (listing_from setting view.list_no notes)) in
        IsAt number next ⊎ IsChecked number effect next
    check_at effect own at notes view shown true same =
        inr
        (record {
          view = view;
          shown = shown;
          newest = at ∙ ap (λ (n : ℕ). Some n) (sym (eqb-true view.list_no own same));
          done = ended_asks_nothing notes.failed;
        })
    check_at effect own at notes view shown false same =
        inl (counted_at view.list_no (listing_from setting view.list_no notes) tt (is_unsettled setting head view.list_no))

    look_at : (effect : Effect) (own : ℕ) → number ≡ Some own → (notes : Notes) (view : Option View) → view_shown effect ≡ view
        → IsAt number (by_checked setting head own notes view) ⊎ IsChecked number effect (by_checked setting head own notes view)
    look_at effect own at notes None shown = inl at
    look_at effect own at notes (Some view) shown = check_at effect own at notes view shown (view.list_no == own) refl

    -- ---- the list of the core is read, or brought up to date

    read_at : (purpose : Purpose) (view : View) (notes : Notes) → IsAt number (by_read setting head purpose view notes)
    read_at (purposes.First loose) view notes =
        tried_at (parts.List view.list_no loose) tt (seek (goal_of setting head) (record { indices = view.snapshot.indices; todo = view.todo; notes = notes }))
    read_at purposes.Again view notes =
        subst (λ (mode : RefreshMode). IsAt number (by_mode (stages.Refreshing fronts.Reading (purposes.First true) notes) (listing_from setting view.list_no notes) mode))
        (sym own.refreshes) tt

  -- ---- a publish

  viewed_at : (head : LookHead) → IsFor head → (view : View) (notes : Notes) → IsAt (Some view.list_no) (try_view setting head (parts.Published view.list_no) view view.todo notes)
  viewed_at head own view notes =
      tried_at (Some view.list_no) head own (parts.Published view.list_no) refl
      (seek (goal_of setting head) (record { indices = view.snapshot.indices; todo = view.todo; notes = notes }))

  -- a step that passes on no list
  abbrev IsNoList : RefreshStep → Type 0
  IsNoList (steps.Current view own) = ⊥
  IsNoList step = Unit {0}

  step_at : (number : Option ℕ) (head : LookHead) → IsFor head → (purpose : Purpose) (notes : Notes) (step : RefreshStep) → IsNoList step
      → IsLookAt number (by_refresh setting head purpose notes step)
  step_at number head own purpose notes (steps.More refresh) none = record { own = own; stage = tt }
  step_at number head own purpose notes (steps.Read view) none = record { own = own; stage = read_at number head own purpose view notes }
  step_at number head own purpose notes (steps.Current view mine) none = absurd none
  step_at number head own purpose notes (steps.Outdated list_no) none = record {
    own = own;
    stage = counted_at number head own list_no (stages.Refreshing fronts.Reading purposes.Again notes) tt (is_unsettled setting head list_no);
  }
  step_at number head own purpose notes (steps.Refused error) none = record { own = own; stage = refused_at error }

  published_at : (number : Option ℕ) (head : LookHead) → IsFor head → (listing : Listing) (purpose : Purpose) (notes : Notes) (effect : Effect)
      → IsLookAt (list_by number (asks.Core (events.Publish listing)) (told.Core (Ok effect))) (by_refresh setting head purpose notes (by_published listing effect))
  published_at number head own listing purpose notes (effects.Published view) =
      let mine : IsFor (with_own head) = record { want_is = own.want_is; refreshes = own.refreshes } in
      record { own = mine; stage = viewed_at (with_own head) mine view (without_absent notes) }
  published_at number head own listing purpose notes (effects.Unchanged view) = record { own = own; stage = viewed_at head own view (without_absent notes) }
  published_at number head own listing purpose notes (effects.Outdated list_no) = step_at number head own purpose notes (steps.Outdated list_no) tt
  published_at number head own listing purpose notes (effects.Seen view) = record { own = own; stage = tt }
  published_at number head own listing purpose notes (effects.Reported view report) = record { own = own; stage = tt }
  published_at number head own listing purpose notes effects.Removed = record { own = own; stage = tt }
  published_at number head own listing purpose notes (effects.Put view stored) = record { own = own; stage = tt }

  view_is_no_list : (view : View) (b : Bool) → IsNoList (cond b (steps.Read view) (steps.More (refreshes.listing_from setting.parts.objects view.list_no)))
  view_is_no_list view true = tt
  view_is_no_list view false = tt

  look_is_no_list : (view : Option View) → IsNoList (by_look setting.parts.objects view)
  look_is_no_list None = tt
  look_is_no_list (Some view) = view_is_no_list view view.read

  listed_is_no_list : (step : ListStep) → IsNoList (by_listed step)
  listed_is_no_list (listed.More lister) = tt
  listed_is_no_list (listed.Listed listing) = tt
  listed_is_no_list listed.Broken = tt
  listed_is_no_list (listed.TooManyPacks actual path) = tt

  -- ---- an exchange

  -- the look-up ended at this exchange, a read of the core's state whose view has the list
  record EndsHere (number : Option ℕ) (ask : Ask) (answer : Answer) (next : LookUp) : Type 0 where
    asked : ask ≡ asks.Core events.Look
    effect : Effect
    answered : answer ≡ told.Core (Ok effect)
    checked : IsChecked number effect next.stage

  abbrev Goes : Option ℕ → Ask → Answer → LookUp → Type 0
  Goes number ask answer next = IsLookAt (list_by number ask answer) next ⊎ EndsHere number ask answer next

  looked : (number : Option ℕ) (head : LookHead) → IsFor head → (effect : Effect) (stage : LookStage)
      → IsAt number stage ⊎ IsChecked number effect stage → Goes number (asks.Core events.Look) (told.Core (Ok effect)) (record { head = head; stage = stage })
  looked number head own effect stage (inl at) = inl (record { own = own; stage = at })
  looked number head own effect stage (inr checked) = inr (record { asked = refl; effect = effect; answered = refl; checked = checked })

  goes_at : (number : Option ℕ) (head : LookHead) → IsFor head → (stage : LookStage) → IsAt number stage → (ask : Ask) (answer : Answer)
      → ask_at stage ≡ Some ask → Goes number ask answer (fed_at setting head stage answer)
  goes_at number head own (stages.Trying trier part) at ask answer is =
      subst (λ (a : Ask). Goes number a answer (fed_at setting head (stages.Trying trier part) answer)) (same_Some (tries.ask_of trier) ask is)
      (inl
      (record {
        own = own;
        stage =
            subst (λ (n : Option ℕ). IsAt n (by_tried setting head part (trier_fed trier answer))) (trying_lists_nothing number trier.stage answer)
            (tried_at number head own part at (trier_fed trier answer));
      }))
  goes_at number head own (stages.Loose round call) at ask (told.Disk answer) is =
      inl
      (record {
        own = own;
        stage =
            subst (λ (n : Option ℕ). IsAt n (by_verdict setting head round (folder_verdict call answer)))
            (loose_lists_nothing number (folder_ask call) ask (told.Disk answer) is)
            (verdict_at number head own round at (folder_verdict call answer) (verdict_is_no_miss want call answer));
      })
  goes_at number head own (stages.Loose round call) at ask (told.Core answer) is =
      inl
      (record {
        own = own;
        stage = subst (λ (n : Option ℕ). PartAt n round.part) (loose_lists_nothing number (folder_ask call) ask (told.Core answer) is) at;
      })
  goes_at number head own (stages.Refreshing fronts.Reading purpose notes) at ask answer is =
      subst (λ (a : Ask). Goes number a answer (fed_at setting head (stages.Refreshing fronts.Reading purpose notes) answer))
      (same_Some (asks.Core events.Look) ask is) (inl (by answer))
    where
      by : (told_it : Answer)
          → IsLookAt (list_by number (asks.Core events.Look) told_it) (fed_at setting head (stages.Refreshing fronts.Reading purpose notes) told_it)
      by (told.Disk own_answer) = record { own = own; stage = tt }
      by (told.Core (Ok effect)) = step_at number head own purpose notes (by_look setting.parts.objects (view_shown effect)) (look_is_no_list (view_shown effect))
      by (told.Core (Err refusal)) = record { own = own; stage = refused_at (of_refusal refusal) }
  goes_at number head own (stages.Refreshing (fronts.Listing lister) purpose notes) at ask (told.Disk answer) is =
      inl
      (step_at (list_by number ask (told.Disk answer)) head own purpose notes (by_listed (lists.fed (listed_for setting.parts) lister answer))
      (listed_is_no_list (lists.fed (listed_for setting.parts) lister answer)))
  goes_at number head own (stages.Refreshing (fronts.Listing lister) purpose notes) at ask (told.Core answer) is = inl (record { own = own; stage = tt })
  goes_at number head own (stages.Refreshing (fronts.Publishing listing) purpose notes) at ask (told.Disk answer) is = inl (record { own = own; stage = tt })
  goes_at number head own (stages.Refreshing (fronts.Publishing listing) purpose notes) at ask (told.Core (Ok effect)) is =
      subst (λ (a : Ask). Goes number a (told.Core (Ok effect)) (by_refresh setting head purpose notes (by_published listing effect)))
      (same_Some (asks.Core (events.Publish listing)) ask is)
      (inl (published_at number head own listing purpose notes effect))
  goes_at number head own (stages.Refreshing (fronts.Publishing listing) purpose notes) at ask (told.Core (Err refusal)) is =
      inl (record { own = own; stage = refused_at (of_refusal refusal) })
  goes_at number head own (stages.Checking list_no notes) at ask answer is =
      subst (λ (a : Ask). Goes number a answer (fed_at setting head (stages.Checking list_no notes) answer)) (same_Some (asks.Core events.Look) ask is) (by answer)
    where
      by : (told_it : Answer) → Goes number (asks.Core events.Look) told_it (fed_at setting head (stages.Checking list_no notes) told_it)
      by (told.Disk own_answer) = inl (record { own = own; stage = at })
      by (told.Core (Ok effect)) =
          looked number head own effect (by_checked setting head list_no notes (view_shown effect)) (look_at number head own effect list_no at notes (view_shown effect) refl)
      by (told.Core (Err refusal)) = inl (record { own = own; stage = refused_at (of_refusal refusal) })
  goes_at number head own (stages.Done reply) at ask answer is = absurd (cc is)

  -- ---- a whole look-up

  no_miss_at : (number : Option ℕ) (head : LookHead) (stage : LookStage) → IsAt number stage → ¬ (result_at head stage ≡ Ok (not_found want))
  no_miss_at number head (stages.Done reply) at is = at (cc is)
  no_miss_at number head (stages.Trying trier part) at is = cc is
  no_miss_at number head (stages.Loose round call) at is = cc is
  no_miss_at number head (stages.Refreshing refresh purpose notes) at is = cc is
  no_miss_at number head (stages.Checking list_no notes) at is = cc is

  -- how a look-up ends after a list that had this number
  record Ends (number : Option ℕ) (exchanges : List Exchange) : Type 0 where
    before : List Exchange
    last : Exchange
    are : exchanges ≡ before ++ last ∷ []
    asked : last.ask ≡ asks.Core events.Look
    effect : Effect
    answered : last.answer ≡ told.Core (Ok effect)
    view : View
    shown : view_in (Ok effect) ≡ Some view
    newest : last_list number before ≡ Some view.list_no

  later : (number : Option ℕ) (exchange : Exchange) (exchanges : List Exchange) → Ends (list_by number exchange.ask exchange.answer) exchanges
      → Ends number (exchange ∷ exchanges)
  later number exchange exchanges ends = record {
    before = exchange ∷ ends.before;
    last = ends.last;
    are = ap (λ (es : List Exchange). exchange ∷ es) ends.are;
    asked = ends.asked;
    effect = ends.effect;
    answered = ends.answered;
    view = ends.view;
    shown = ends.shown;
    newest = ends.newest;
  }

  nothing_more : (look : LookUp) → ask_of look ≡ None → (exchanges : List Exchange) → AreAsked setting look exchanges → exchanges ≡ []
  nothing_more look done [] asked = refl
  nothing_more look done (exchange ∷ exchanges) asked = let wrong : None ≡ Some exchange.ask = sym done ∙ asked.0 in absurd (cc wrong)

  here : (number : Option ℕ) (exchange : Exchange) (exchanges : List Exchange) (next : LookUp) → EndsHere number exchange.ask exchange.answer next
      → AreAsked setting next exchanges → Ends number (exchange ∷ exchanges)
  here number exchange exchanges next ends asked = record {
    before = [];
    last = exchange;
    are = ap (λ (es : List Exchange). exchange ∷ es) (nothing_more next ends.checked.done exchanges asked);
    asked = ends.asked;
    effect = ends.effect;
    answered = ends.answered;
    view = ends.checked.view;
    shown = ends.checked.shown;
    newest = ends.checked.newest;
  }

  ends_at : (number : Option ℕ) (look : LookUp) → IsLookAt number look → (exchanges : List Exchange) → AreAsked setting look exchanges
      → result_of (behind setting look exchanges) ≡ Ok (not_found want) → Ends number exchanges
  ends_at number look at [] asked misses = absurd (no_miss_at number look.head look.stage at.stage misses)
  ends_at number look at (exchange ∷ exchanges) asked misses =
      elim (goes_at number (seen look.head exchange.answer) (record { want_is = at.own.want_is; refreshes = at.own.refreshes }) look.stage at.stage exchange.ask exchange.answer asked.0) [
        | inl next ↦
            later number exchange exchanges
            (ends_at (list_by number exchange.ask exchange.answer) (fed setting look exchange.answer) next exchanges asked.1 misses)
        | inr ends ↦ here number exchange exchanges (fed setting look exchange.answer) ends asked.1
      ]

  module _ (id : ObjectId) (snapshot : View) where
    own_at_start : IsFor (new_head AfterAllIndicesLoaded want id)
    own_at_start = record { want_is = refl; refreshes = refl }

    starts_at : (b : Bool)
        → IsAt None (cond b (try_view setting (new_head AfterAllIndicesLoaded want id) parts.Snapshot snapshot [] without_notes) (stages.Refreshing fronts.Reading (purposes.First true) without_notes))
    starts_at true =
        tried_at None (new_head AfterAllIndicesLoaded want id) own_at_start parts.Snapshot tt
        (seek (goal_of setting (new_head AfterAllIndicesLoaded want id)) (record { indices = snapshot.snapshot.indices; todo = []; notes = without_notes }))
    starts_at false = tt

    -- A look-up of a handle that refreshes its list and that found nothing ended with a read of the core's state, whose list is the one that was published or confirmed last for it.
    pub misses_end_at_the_last_list : (exchanges : List Exchange) → AreAsked setting (started setting AfterAllIndicesLoaded snapshot want id) exchanges
        → result_of (behind setting (started setting AfterAllIndicesLoaded snapshot want id) exchanges) ≡ Ok (not_found want) → EndAtLastList exchanges
    misses_end_at_the_last_list exchanges asked misses =
        let ends = ends_at None (started setting AfterAllIndicesLoaded snapshot want id) (record { own = own_at_start; stage = starts_at snapshot.read }) exchanges asked misses in
        record {
          before = ends.before;
          last = ends.last;
          are = ends.are;
          asked = ends.asked;
          effect = ends.effect;
          answered = ends.answered;
          view = ends.view;
          shown = ends.shown;
          newest = ends.newest;
        }
