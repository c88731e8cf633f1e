-- A turn of a query: what it asks for, and how it ends.
use Rattle.std.proofs.Common.{◌≡◌, ℕ, ◌+◌, ◌<◌, List, [], ◌∷◌, ◌++◌, length, Option, None, Some, Ok, Err, Result, refl, sym, ◌∙◌, ap, subst, arith}
use Rattle.std.proofs.lemmas.List.{length_push}
use Rattle.std.proofs.Math.Seq.{take-length}
use Rattle.odb_disk.specs.Tree.{tree_of}
use Rattle.odb_disk.specs.MemDisk.{Volume}
use Rattle.odb_disk.specs.Ask.{answer_now}
use Rattle.odb_disk.specs.declared.ask.DiskAsk.{DiskAsk}
use Rattle.gix_hash.specs.declared.object_id.ObjectId.{ObjectId}
use Rattle.gix_odb_core.specs.Replay.{CanHappen}
use Rattle.gix_odb_events.specs.Answers.{view_in}
use Rattle.gix_odb_core.specs.declared.shape.Shape.{Shape}
use Rattle.gix_odb_events.specs.declared.view.View.{View}
use Rattle.gix_odb_events.specs.declared.answer.Answer.TheVariants as told
use Rattle.gix_odb_events.specs.declared.answer.Ask.{Ask}
use Rattle.gix_odb_events.specs.declared.answer.Ask.TheVariants as parts
use Rattle.gix_odb_calls.specs.declared.call.Reply.{Reply}
use Rattle.gix_odb_calls.specs.declared.query.Query.{Query}
use Rattle.gix_odb.specs.LookExchanges.{AreAsked, Exchange, behind}
use Rattle.gix_odb.specs.LookUpOrder as looks
use Rattle.gix_odb.specs.LookUpOrder.{Setting, ask_of, fed, result_at, result_of}
use Rattle.gix_odb.specs.declared.look_up.LookHead.{LookHead}
use Rattle.gix_odb.specs.declared.look_up.LookStage.{LookStage}
use Rattle.gix_odb.specs.declared.look_up.LookStage.TheVariants as stages
use Rattle.gix_odb.specs.declared.look_up.LookUp.{LookUp}
use Rattle.gix_odb.proofs.CauseLaws.{a_done_look_up_asks_nothing}
use Rattle.gix_odb.proofs.HandedLaws.{look_ups_change_no_file, look_ups_have_no_core_made}
use Rattle.gix_odb_world.proofs.HappenLaws.{what_is_handed_can_happen}
use Rattle.gix_odb.proofs.TurnLaws.{a_look_up_ends_in_time}
use Rattle.gix_odb.specs.Contents.{sought}
use Rattle.gix_odb.specs.declared.call_state.CallStage.TheVariants.{Looking}
use Rattle.gix_odb_world.specs.Work.{Calling}
use Rattle.gix_odb_world.specs.Asks.{AsksAsLook, AsksAsRefresh, AsksAsWrite, AsksInOrder}
use Rattle.gix_odb_world.specs.AtWork.{setting_in}
use Rattle.gix_odb_world.specs.Bound.{HasAtMost, bound_of_call}
use Rattle.gix_odb_history.specs.Cores.{answer_behind, history_at, or_before}
use Rattle.gix_odb_history.specs.Event.{CoreEvent, Event, OfCore, OfDisk, OfNothing, answered}
use Rattle.gix_odb_world.specs.Headline.{LeavesDisk, stand_of}
use Rattle.gix_odb_world.specs.Promise.{Promise, QueryPromise}
use Rattle.gix_odb_history.specs.Run.{FailedSince, change_by, disk_after, tree_at}
use Rattle.gix_odb_history.specs.Writing.{to_write}
use Rattle.gix_odb_world.specs.Written.{PromiseOfWrite}
use Rattle.gix_odb_world.specs.Refused.{RefusedSince}
use Rattle.gix_odb_world.specs.Running.PackedStill.{IndicesShowOne}
use Rattle.gix_odb_world.specs.Running.Query.{IsLooking, IsToldWell, call_of, looking}
use Rattle.gix_odb_world.specs.Running.Refused.{AreRefused}
use Rattle.gix_odb_world.specs.Status.{MakeCall, Running, Store}
use Rattle.gix_odb_world.specs.Told.{look_begun, look_now, told_since, view_then}
use Rattle.gix_odb_world.proofs.HistoryLemmas.{failed_before}
use Rattle.gix_odb_world.proofs.LookPromise.{query_promise}
use Rattle.gix_odb_world.proofs.MachineLaws.{IsRunning, IsTurnAsking, MachineComes, TakesTurn, quiet_turn, told_after}
use Rattle.gix_odb_world.proofs.PackedStill.Moments.{indices_show_one_later, kept_without_call}
use Rattle.gix_odb_world.proofs.PackedStill.Rule.{indices_show_one}
use Rattle.gix_odb_world.proofs.QueryCalls.{to_call}
use Rattle.gix_odb_world.proofs.QuietTurn.{shown_now}
use Rattle.gix_odb_world.proofs.RefusedLemmas.{refused_later, refused_on_core, refused_on_disk}
use Rattle.gix_odb_world.proofs.ToldLemmas.{asked-push, behind-push, told_none, told_turn, view_kept}
use Rattle.gix_odb_world.proofs.ToldWell.{no_failure, told_well_later}
use Rattle.gix_odb_world.proofs.ToldWell.Turn.{told_well_on_core, told_well_on_disk}
use Rattle.gix_odb_history.proofs.WriteAsk.Quiet.{change_by-quiet}

-- what is left of a look-up that isn't done is the look-up
left_is : (head : LookHead) (stage : LookStage) (next : LookUp) → result_at head stage ≡ Err next → next ≡ record { head = head; stage = stage }
left_is head (stages.Done reply) next is = absurd (cc is)
left_is head (stages.Trying trier part) next is = cc is
left_is head (stages.Loose round call) next is = cc is
left_is head (stages.Refreshing refresh purpose notes) next is = cc is
left_is head (stages.Checking list_no notes) next is = cc is

module _ (first : Volume) (events : List Event) (handle : ℕ) (running : Running) (look : LookUp) (knows : IsLooking first events handle running look) where
  abbrev store : Store
  store = running.store

  abbrev setting : Setting
  setting = setting_in store

  abbrev query : Query
  query = knows.query

  abbrev id : ObjectId
  id = sought store.parts running.modes.ignoring query

  abbrev view : View
  view = view_then events handle running.modes.core running.begun

  abbrev exchanges : List Exchange
  exchanges = told_since events handle running.begun

  abbrev now_at : LookUp
  now_at = look_now events handle store running.modes running.begun query

  module _ (asked : Option Ask) (is : ask_of look ≡ asked) where
    asked_now : ask_of now_at ≡ asked
    asked_now = ap ask_of (sym knows.is) ∙ is

  pub quiet : (ask : DiskAsk) → ask_of look ≡ Some (parts.Disk ask) → change_by (disk_after first events) ask ≡ None
  quiet ask is =
      change_by-quiet (disk_after first events) ask
      (look_ups_change_no_file setting running.modes.refresh view query.want id exchanges knows.asked ask (asked_now (Some (parts.Disk ask)) is) (tree_of (disk_after first events).state))

  -- the call of the disk comes in the order of the task
  in_order : (ask : DiskAsk) → ask_of now_at ≡ Some (parts.Disk ask)
      → AsksInOrder first events handle store running.modes running.begun running.turns (MakeCall (call_of query)) ask
  in_order ask is =
      to_call (λ q. AsksAsLook events handle store running.modes running.begun q (Some (parts.Disk ask)))
      (λ kind size bytes known. AsksAsWrite first events handle store running.modes running.begun running.turns (to_write store.parts.objects store.parts.object_hash kind size bytes known) ask)
      query is

  takes_part : (asked : Option Ask) → ask_of look ≡ asked → TakesTurn first events handle running (MakeCall (call_of query)) asked
  takes_part (Some (parts.Disk ask)) is =
      quiet_turn first events handle running (MakeCall (call_of query)) ask (in_order ask (asked_now (Some (parts.Disk ask)) is)) (quiet ask is)
  takes_part (Some (parts.NewCore slots folders)) is = absurd (look_ups_have_no_core_made look slots folders is)
  takes_part None is =
      to_call (λ q. AsksAsLook events handle store running.modes running.begun q None) (λ kind size bytes known. ⊥) query (asked_now None is)
  takes_part (Some (parts.Core event)) is =
      to_call (λ q. AsksAsLook events handle store running.modes running.begun q (Some (parts.Core event)))
      (λ kind size bytes known. AsksAsRefresh events handle store running.modes running.begun (parts.Core event))
      query (asked_now (Some (parts.Core event)) is)

  pub takes : TakesTurn first events handle running running.task (ask_of look)
  takes = subst (λ task. TakesTurn first events handle running task (ask_of look)) (sym knows.task) (takes_part (ask_of look) refl)

  pub ends : ask_of look ≡ None → (reply : Reply) × (result_of look ≡ Ok reply)
  ends none =
      let done = (a_done_look_up_asks_nothing setting running.modes.refresh view query.want id exchanges).0 (asked_now None none) in
      (done.0, ap result_of knows.is ∙ done.1)

  pub happens : (event : CoreEvent) → ask_of look ≡ Some (parts.Core event) → (shape : Shape) (seat : ℕ) → CanHappen shape seat event
  happens event is shape seat =
      what_is_handed_can_happen setting knows.fits.distinct running.modes.refresh view query.want id exchanges knows.asked event
      (asked_now (Some (parts.Core event)) is) shape seat

  -- ---- how its turn ends

  module _ (e : Event) (ran : IsRunning first events handle running) where
    abbrev whole : List Event
    whole = events ++ e ∷ []

    -- where a turn leaves the tree as it was, each index still shows one content
    rule_now : tree_at first whole (length events + 1) ≡ tree_of (disk_after first events).state → IndicesShowOne (tree_at first whole) store (length whole)
    rule_now same =
        let early = knows.well.opened in
        let since = knows.since in
        indices_show_one_later first events e store (omega (arith, early, since))
        (same ∙ sym (ap (λ past. tree_of (disk_after first past).state) (take-length events))) (indices_show_one first events handle running ran)

    promised : (reply : Reply)
        → QueryPromise (tree_at first whole) (FailedSince whole handle running.begun) (RefusedSince whole handle running.modes.core running.begun) (told_since whole handle running.begun) store running.modes running.begun (length whole) query reply
        → Promise first whole handle store running.modes running.begun running.task reply
    promised reply keeps = subst (λ task. Promise first whole handle store running.modes running.begun task reply) (sym knows.task)
        (to_call
        (λ q. QueryPromise (tree_at first whole) (FailedSince whole handle running.begun) (RefusedSince whole handle running.modes.core running.begun) (told_since whole handle running.begun) store running.modes running.begun (length whole) q reply)
        (λ kind size bytes known. PromiseOfWrite first whole handle store running.modes running.begun (to_write store.parts.objects store.parts.object_hash kind size bytes known) reply)
        query keeps)

    abbrev begun_now : LookUp
    begun_now = look_begun whole handle store running.modes running.begun query

    -- it begins as it did
    begins_same : look_begun events handle store running.modes running.begun query ≡ begun_now
    begins_same = ap (λ v. looks.started setting running.modes.refresh v query.want id) (sym (view_kept events e handle running.begun knows.since running.modes.core))

    module _ (told_now_is : List Exchange) (told_is : told_since whole handle running.begun ≡ told_now_is)
        (well : IsToldWell first whole handle store running.modes running.begun) (refused : AreRefused whole handle running.modes.core running.begun)
        (rule : IndicesShowOne (tree_at first whole) store (length whole)) where
      -- a reply of the look-up after the answers by then
      replies : (reply : Reply) → AreAsked setting (look_begun events handle store running.modes running.begun query) told_now_is
          → result_of (behind setting (look_begun events handle store running.modes running.begun query) told_now_is) ≡ Ok reply
          → Promise first whole handle store running.modes running.begun running.task reply
      replies reply asked is =
          promised reply
          (query_promise first whole handle store running.modes running.begun query knows.fits
          (subst (λ l. AreAsked setting l (told_since whole handle running.begun)) begins_same
          (subst (AreAsked setting (look_begun events handle store running.modes running.begun query)) (sym told_is) asked))
          well refused rule reply
          (ap (λ l. result_of (behind setting l (told_since whole handle running.begun))) (sym begins_same)
          ∙ (ap (λ xs. result_of (behind setting (look_begun events handle store running.modes running.begun query) xs)) told_is ∙ is)))

    -- its result with another snapshot
    abbrev ComesWith : Option View → Result Reply LookUp → Type 0
    ComesWith view_now (Ok reply) = Promise first whole handle store running.modes running.begun running.task reply
    ComesWith view_now (Err next) =
        IsLooking first whole handle (record running { modes = record running.modes { view = view_now }; turns = running.turns + 1; work = Calling (Looking next) }) next
        × ((entries : ℕ) → HasAtMost (tree_at first whole) store.parts running.begun (length events + 1) entries → running.turns + 1 < bound_of_call store running.modes entries None)

    -- ---- a turn in which it was answered

    module _ (exchange : Exchange) (asked : ask_of look ≡ Some exchange.ask)
        (told_is : told_since whole handle running.begun ≡ exchanges ++ exchange ∷ [])
        (well : IsToldWell first whole handle store running.modes running.begun) (refused : AreRefused whole handle running.modes.core running.begun)
        (rule : IndicesShowOne (tree_at first whole) store (length whole)) where
      abbrev fed_now : LookUp
      fed_now = fed setting look exchange.answer

      stands_on : fed_now ≡ behind setting (look_begun events handle store running.modes running.begun query) (exchanges ++ exchange ∷ [])
      stands_on = ap (λ l. fed setting l exchange.answer) knows.is ∙ sym (behind-push setting (look_begun events handle store running.modes running.begun query) exchanges exchange)

      all_asked : AreAsked setting (look_begun events handle store running.modes running.begun query) (exchanges ++ exchange ∷ [])
      all_asked = asked-push setting (look_begun events handle store running.modes running.begun query) exchanges exchange knows.asked (asked_now (Some exchange.ask) asked)

      longer : length (told_since whole handle running.begun) ≡ running.turns + 1
      longer =
          let had = knows.turns in
          let more = length_push exchanges exchange in
          ap length told_is ∙ omega (arith, had, more)

      -- it is at the state after all answers to its handle by then
      knows_on : (view_now : Option View)
          → IsLooking first whole handle (record running { modes = record running.modes { view = view_now }; turns = running.turns + 1; work = Calling (Looking fed_now) }) fed_now
      knows_on view_now = record {
        query = query;
        task = knows.task;
        since = let begun = knows.since in let more = length_push events e in omega (arith, begun, more);
        fits = record { distinct = knows.fits.distinct; hashed = knows.fits.hashed };
        is =
            stands_on
            ∙ (ap (behind setting (look_begun events handle store running.modes running.begun query)) (sym told_is)
            ∙ ap (λ l. behind setting l (told_since whole handle running.begun)) begins_same);
        asked =
            subst (λ l. AreAsked setting l (told_since whole handle running.begun)) begins_same
            (subst (AreAsked setting (look_begun events handle store running.modes running.begun query)) (sym told_is) all_asked);
        turns = sym longer;
        well = record {
          opened = well.opened;
          snapshot = well.snapshot;
          few = well.few;
          place = well.place;
          truth = well.truth;
          answered = well.answered;
          numbered = well.numbered;
          no_later = well.no_later;
          within = well.within;
          given = well.given;
          failures = well.failures;
          met = well.met;
          listed = well.listed;
          fair = well.fair;
        };
        refused = refused;
      }

      -- and is within its bound where it goes on
      in_time : ((reply : Reply) → ¬ (result_of fed_now ≡ Ok reply)) → (entries : ℕ)
          → HasAtMost (tree_at first whole) store.parts running.begun (length events + 1) entries → running.turns + 1 < bound_of_call store running.modes entries None
      in_time on entries most =
          let long = longer in
          let more = length_push events e in
          let few =
          a_look_up_ends_in_time setting running.modes.refresh (view_then whole handle running.modes.core running.begun) query.want id (told_since whole handle running.begun) running.modes.slots entries well.few
          (subst (λ l. AreAsked setting l (told_since whole handle running.begun)) begins_same
          (subst (AreAsked setting (look_begun events handle store running.modes running.begun query)) (sym told_is) all_asked))
          well.numbered
          (well.within entries (subst (λ n. HasAtMost (tree_at first whole) store.parts running.begun n entries) (sym more) most))
          well.answered
          (λ reply is. on reply
          (ap result_of stands_on
          ∙ (ap (λ xs. result_of (behind setting (look_begun events handle store running.modes running.begun query) xs)) (sym told_is)
          ∙ (ap (λ l. result_of (behind setting l (told_since whole handle running.begun))) begins_same ∙ is)))) in
          omega (arith, long, few)

      goes : (view_now : Option View) (result : Result Reply LookUp) → result_of fed_now ≡ result
          → ComesWith view_now result
      goes view_now (Ok reply) is = replies (exchanges ++ exchange ∷ []) told_is well refused rule reply all_asked (ap result_of (sym stands_on) ∙ is)
      goes view_now (Err next) is =
          let same : next ≡ fed_now = left_is fed_now.head fed_now.stage next is in
          subst (λ l. IsLooking first whole handle (record running { modes = record running.modes { view = view_now }; turns = running.turns + 1; work = Calling (Looking l) }) l
          × ((entries : ℕ) → HasAtMost (tree_at first whole) store.parts running.begun (length events + 1) entries → running.turns + 1 < bound_of_call store running.modes entries None))
          (sym same)
          (knows_on view_now, in_time (λ reply ok. cc (sym ok ∙ is)))

    -- ---- any turn

    pub comes_part : (asked : Option Ask) → ask_of look ≡ asked → IsTurnAsking first events e handle running asked
        → MachineComes first events e handle running looking IsLooking (told_after first events handle running asked)
        (looking.feed store look (answered (told_after first events handle running asked)))
    comes_part None is turn =
        let end = ends is in
        let same = told_none events e handle running.begun knows.since turn.turn OfNothing turn.asked refl in
        let well = told_well_later first events e handle store running.modes running.begun same
        (failed_before events e handle running.begun (λ turn_it failed. no_failure e.entry.did turn.did failed)) knows.since knows.well in
        subst (λ r. MachineComes first events e handle running looking IsLooking OfNothing r) (sym end.1)
        (replies exchanges same well (refused_later events e handle running.modes.core running.begun same knows.refused) (rule_now (kept_without_call first events e (subst LeavesDisk (sym turn.asked) tt) turn.change)) end.0 knows.asked (ap result_of (sym knows.is) ∙ end.1))
    comes_part (Some (parts.Disk ask)) is turn =
        let answer = answer_now (disk_after first events) ask in
        let exchange : Exchange = record { ask = parts.Disk ask; answer = told.Disk answer } in
        let more = told_turn events e handle running.begun knows.since turn.turn (OfDisk ask answer) turn.asked exchange refl in
        goes exchange is more (told_well_on_disk first events e handle running look knows ran ask is turn)
        (refused_on_disk events e handle running.modes.core running.begun knows.refused ask answer more)
        (rule_now (shown_now first events e handle running knows.since ask turn (quiet ask is))) running.modes.view (result_of (fed setting look (told.Disk answer))) refl
    comes_part (Some (parts.NewCore slots folders)) is turn = absurd (look_ups_have_no_core_made look slots folders is)
    comes_part (Some (parts.Core event)) is turn =
        let place = stand_of events handle running in
        let answer = answer_behind (history_at place.cores place.store) place.seat event in
        let exchange : Exchange = record { ask = parts.Core event; answer = told.Core answer } in
        let more = told_turn events e handle running.begun knows.since turn.turn (OfCore place.store place.seat event answer) turn.asked exchange refl in
        goes exchange is more (told_well_on_core first events e handle running look knows ran event is turn)
        (refused_on_core events e handle running.modes.core running.begun knows.refused knows.since event turn.turn turn.asked more)
        (rule_now (kept_without_call first events e (subst LeavesDisk (sym turn.asked) tt) turn.change)) (or_before (view_in answer) running.modes.view)
        (result_of (fed setting look (told.Core answer))) refl
