-- A law of runs about an object that moves from a loose file into a pack while a query works: it isn't missed.
mod LastTurn
mod LooseSound
mod ReadLists
mod Calls
mod PackedStream
mod Fairness
mod Lists
use Rattle.std.proofs.Common.{◌≡◌, ◌⊎◌, inl, inr, ℕ, zero, suc, ◌+◌, ◌<◌, ◌≤◌, true, false, List, [], ◌∷◌, ◌++◌, length, take, Contains, Option, Some, None, Ok, refl, sym, ap, ◌∙◌, subst, append-nil, arith}
use Rattle.std.specs.Prelude.{slice_get}
use Rattle.std.proofs.lemmas.Bool.{cases_lt, false_from_ne_true}
use Rattle.std.proofs.lemmas.Option.{same_Some}
use Rattle.odb_base.specs.Path.{Name, Path}
use Rattle.odb_disk.specs.Ask.{answer_now, fails_now}
use Rattle.odb_disk.specs.MemDisk.{Volume}
use Rattle.odb_disk.specs.declared.ask.DiskAnswer.{DiskAnswer}
use Rattle.odb_disk.specs.declared.ask.DiskAsk.{DiskAsk}
use Rattle.gix_hash.specs.declared.object_id.ObjectId.{ObjectId}
use Rattle.gix_odb_core.specs.History.{History, present}
use Rattle.gix_odb_events.specs.Answers.{view_in}
use Rattle.gix_odb_events.specs.declared.view.View.{View}
use Rattle.gix_odb_search.specs.PackFolder.{is_index_name}
use Rattle.gix_odb_events.specs.declared.answer.Answer.TheVariants as told
use Rattle.gix_odb_events.specs.declared.answer.Ask.{Ask}
use Rattle.gix_odb_events.specs.declared.answer.Ask.TheVariants as parts
use Rattle.gix_odb_calls.specs.declared.call.Reply.{Reply}
use Rattle.gix_odb_calls.specs.declared.query.Query.{Query}
use Rattle.gix_odb_calls.specs.declared.step.Outcome.TheVariants as outcomes
use Rattle.gix_odb.specs.LookExchanges.{AreAsked, Exchange, IsAnswerTo, behind}
use Rattle.gix_odb.specs.Fair.{AreFair, ItsIndex, PackedPlace}
use Rattle.gix_odb.specs.Store.{listed_for}
use Rattle.gix_odb.specs.LookUpOrder.{Setting, ask_of, fed, not_found, result_of, started, view_of}
use Rattle.gix_odb.specs.Stream.{stream_in}
use Rattle.gix_odb.specs.declared.refresh_mode.RefreshMode.{RefreshMode}
use Rattle.gix_odb.specs.declared.refresh_mode.RefreshMode.TheVariants.{AfterAllIndicesLoaded}
use Rattle.gix_odb.specs.declared.look_up.LookUp.{LookUp}
use Rattle.gix_odb.proofs.HandedLaws.{look_ups_have_no_core_made}
use Rattle.gix_odb_world.proofs.CoreLaws.{core_answers_suit_their_events}
use Rattle.gix_odb.specs.Contents.{folder_list, sought}
use Rattle.gix_odb.specs.Held.{InLooseFile, InPackFile, LiesAt}
use Rattle.gix_odb.specs.declared.call_state.CallStage.TheVariants.{Looking}
use Rattle.gix_odb.specs.Moved.{AreLooseFair, ArePublished, HasLoose, IsLooseFair}
use Rattle.gix_odb.proofs.MovedLaws.{no_stream_is_open_before_the_loose_folder_is_asked, objects_that_move_into_packs_are_not_missed}
use Rattle.gix_odb_world.specs.Work.{Work}
use Rattle.gix_odb_world.specs.Work.{Calling}
use Rattle.gix_odb_world.specs.AtWork.{MakeCall, Running, Store, setting_in}
use Rattle.gix_odb_world.specs.Begun.{BegunAs}
use Rattle.gix_odb_history.specs.Cores.{answer_behind, cores_after, history_at}
use Rattle.gix_odb_history.specs.Event.{Asked, CoreAnswer, CoreEvent, Event, OfCore, OfDisk, OfNewCore, OfNothing, answered}
use Rattle.gix_odb_world.specs.Headline.{FailsAsListed, Law, Works, outcome_of, stand_of}
use Rattle.gix_odb_world.specs.Machines.{fed_in}
use Rattle.gix_odb_history.specs.Run.{Fails, FailedSince, Stand, did_of_asked, disk_after, told_now, tree_at}
use Rattle.gix_odb_world.specs.Running.PackedStill.{LiesPacked}
use Rattle.gix_odb_world.specs.Status.{Working, status_of}
use Rattle.gix_odb_world.specs.Told.{call_of, exchange_of, look_begun, told_since, view_then}
use Rattle.gix_odb_world.proofs.HistoryLemmas.{cores_after-push}
use Rattle.gix_odb_world.proofs.PackedStill.Contents.{lies_by_index, packed_at}
use Rattle.gix_odb_world.proofs.RunSteps.Fronts.{event_or_end, length_take, none_beyond, take_next, take_suc, there_in_front}
use Rattle.gix_odb_world.proofs.ToldLemmas.{asked-push, behind-push, told_none, told_turn}
use Rattle.gix_odb_world.specs.RunLaws.Moved.{HadPublished, HasMoved}
use Rattle.gix_odb_world.specs.RunLaws.Turn.{IsQueryTurn}
use Rattle.gix_odb_world.proofs.RunLaws.JustRead.{answered_then}
use Rattle.gix_odb_world.proofs.RunLaws.KnownRun.{IsKnownRun}
use Rattle.gix_odb_world.proofs.RunLaws.QueryTurns.{IsLookTurn, look_turn}
use Rattle.gix_odb_world.proofs.RunLaws.ToldThen.{ToldBy, told_by_turn}
use Rattle.gix_odb_world.proofs.RunLaws.MovedLaws.Calls.{call_before}
use Rattle.gix_odb_world.proofs.RunLaws.MovedLaws.Fairness.{fair_to, goes_on}
use Rattle.gix_odb_world.proofs.RunLaws.MovedLaws.LastTurn.{core_told, no_failure, reply_of_result, same_answer}
use Rattle.gix_odb_world.proofs.RunLaws.MovedLaws.LooseSound.{sound_file_is_had}
use Rattle.gix_odb_world.proofs.RunLaws.MovedLaws.ReadLists.{cores_read, view_read}
use Rattle.gix_odb_world.proofs.RunLaws.MovedLaws.Lists.{asked_first, told_first_part}

module _ (first : Volume) (events : List Event) (is : IsKnownRun first events) (place : ℕ) (e : Event) (handle : ℕ) (running : Running) (query : Query)
    (turn : IsQueryTurn events place e handle running query) (missing : e.outcome ≡ outcomes.Reply (not_found query.want)) where
  at : IsLookTurn first events place e handle running query
  at = look_turn first events is place e handle running query turn

  abbrev past : List Event
  past = take place events

  abbrev whole : List Event
  whole = past ++ e ∷ []

  abbrev begun : ℕ
  begun = running.begun

  abbrev store : Store
  store = running.store

  abbrev setting : Setting
  setting = setting_in store

  abbrev id : ObjectId
  id = sought store.parts running.modes.ignoring query

  abbrev view : View
  view = view_then past handle running.modes.core begun

  abbrev start : LookUp
  start = look_begun past handle store running.modes begun query

  abbrev told_so_far : List Exchange
  told_so_far = told_since past handle begun

  front : take (place + 1) events ≡ whole
  front = take_next events place e turn.there

  begun_early : begun ≤ length past
  begun_early = let a = at.since in let b = at.long in omega (arith, a, b)

  -- ---- what the call asked

  pub record Ended : Type 0 where
    pub asked : AreAsked setting start (told_since whole handle begun)
    pub misses : result_of (behind setting start (told_since whole handle begun)) ≡ Ok (not_found query.want)

  goes : (asked : Asked) → e.asked ≡ asked → outcome_of (fed_in store (Calling (Looking at.look)) (answered asked)) ≡ outcomes.Reply (not_found query.want)
  goes asked same =
      ap (λ (w : Work). outcome_of (fed_in store w (answered asked))) (sym at.work)
      ∙ ap (λ (a : Asked). outcome_of (fed_in store running.work (answered a))) (sym same)
      ∙ sym at.works.goes ∙ missing

  ended_by : (x : Exchange) → told_since whole handle begun ≡ told_so_far ++ x ∷ [] → ask_of at.look ≡ Some x.ask → result_of (fed setting at.look x.answer) ≡ Ok (not_found query.want) → Ended
  ended_by x more asks ends = record {
    asked =
        subst (AreAsked setting start) (sym more) (asked-push setting start told_so_far x at.asked (sym (ap ask_of at.is) ∙ asks));
    misses =
        ap (λ (es : List Exchange). result_of (behind setting start es)) more
        ∙ ap result_of (behind-push setting start told_so_far x)
        ∙ ap (λ (l : LookUp). result_of (fed setting l x.answer)) (sym at.is) ∙ ends;
  }

  by_ask : (ask : Option Ask) → ask_of at.look ≡ ask → Ended
  by_ask None same =
      let asked : e.asked ≡ OfNothing = at.told ∙ ap (λ (a : Option Ask). told_now (stand_of past handle running) (disk_after first past) a) same in
      let nothing : told_since whole handle begun ≡ told_so_far = told_none past e handle begun begun_early turn.turns.turn OfNothing asked refl in
      record {
        asked = subst (AreAsked setting start) (sym nothing) at.asked;
        misses =
            ap (λ (es : List Exchange). result_of (behind setting start es)) nothing ∙ sym (ap result_of at.is)
            ∙ reply_of_result (result_of at.look) (not_found query.want) (goes OfNothing asked);
      }
  by_ask (Some (parts.Disk ask)) same =
      let answer : DiskAnswer = answer_now (disk_after first past) ask in
      let asked : e.asked ≡ OfDisk ask answer = at.told ∙ ap (λ (a : Option Ask). told_now (stand_of past handle running) (disk_after first past) a) same in
      let x : Exchange = record { ask = parts.Disk ask; answer = told.Disk answer } in
      ended_by x (told_turn past e handle begun begun_early turn.turns.turn (OfDisk ask answer) asked x refl) same
      (reply_of_result (result_of (fed setting at.look (told.Disk answer))) (not_found query.want) (goes (OfDisk ask answer) asked))
  by_ask (Some (parts.NewCore slots folders)) same = absurd (look_ups_have_no_core_made at.look slots folders same)
  by_ask (Some (parts.Core event)) same =
      let stands : Stand = stand_of past handle running in
      let answer : CoreAnswer = answer_behind (history_at stands.cores stands.store) stands.seat event in
      let asked : e.asked ≡ OfCore stands.store stands.seat event answer = at.told ∙ ap (λ (a : Option Ask). told_now (stand_of past handle running) (disk_after first past) a) same in
      let x : Exchange = record { ask = parts.Core event; answer = told.Core answer } in
      ended_by x (told_turn past e handle begun begun_early turn.turns.turn (OfCore stands.store stands.seat event answer) asked x refl) same
      (reply_of_result (result_of (fed setting at.look (told.Core answer))) (not_found query.want) (goes (OfCore stands.store stands.seat event answer) asked))

  pub ended : Ended
  ended = by_ask (ask_of at.look) refl

  -- no call of the disk failed
  unfailed : ¬ (FailedSince whole handle begun)
  unfailed =
      no_failure first whole handle store running.modes begun query
      (at.law.promise handle running (MakeCall (call_of query)) (not_found query.want) turn.turns (subst (BegunAs past handle begun store) turn.task at.works.begins) missing)

  -- ---- the handle in the call

  -- it was at the call after each event since it began, in the same store and at the same core
  record IsAtCall (now : ℕ) : Type 0 where
    was : Running
    status : status_of (take now events) handle ≡ Working was
    same : was.begun ≡ begun
    in_store : was.store ≡ store
    task : was.task ≡ MakeCall (call_of query)
    core : was.modes.core ≡ running.modes.core

  at_call : (back now : ℕ) → now + back ≡ place → begun ≤ now → IsAtCall now
  at_call zero now is_place since =
      let here : place ≡ now = omega (arith, is_place) in
      subst IsAtCall here (record { was = running; status = turn.turns.status; same = refl; in_store = refl; task = turn.task; core = refl })
  at_call (suc back) now is_place since =
      let within = at.within in
      elim (event_or_end events now) [
        | inl here ↦
            let later = at_call back (suc now) (omega (arith, is_place)) (omega (arith, since)) in
            let front_is : take (suc now) events ≡ take now events ++ here.0 ∷ [] = take_suc events now here.0 here.1 in
            let count = length_take events now here.0 here.1 in
            let own = later.same in
            let earlier =
            call_before (take now events) here.0 first (is.lawful now here.0 here.1) handle later.was (call_of query) later.task
            (sym (ap (λ (es : List Event). status_of es handle) front_is) ∙ later.status) (omega (arith, own, since, count)) in
            record {
              was = earlier.was;
              status = earlier.status;
              same = earlier.begun ∙ later.same;
              in_store = earlier.store ∙ later.in_store;
              task = earlier.task ∙ later.task;
              core = earlier.core ∙ later.core;
            }
        | inr none ↦ let beyond = none_beyond events now none in absurd (omega (arith, beyond, is_place, within))
      ]

  distance : (n m : ℕ) → n ≤ m → (k : ℕ) × (n + k ≡ m)
  distance zero m within = (m, omega arith)
  distance (suc n) zero within = absurd (omega (arith, within))
  distance (suc n) (suc m) within = let rest = distance n m (omega (arith, within)) in let same = rest.1 in (rest.0, omega (arith, same))

  in_call : (now : ℕ) → begun ≤ now → now ≤ place → IsAtCall now
  in_call now since up = let far = distance now place up in at_call far.0 now far.1 since

  -- ---- the core had published a list

  module _ (refreshes : running.modes.refresh ≡ AfterAllIndicesLoaded) (published : HadPublished events running.modes.core begun) where
    reads_at : (now : ℕ) → begun ≤ now → now ≤ place → HadPublished events running.modes.core now
    reads_at zero since up = let here : begun ≡ zero = omega (arith, since) in subst (HadPublished events running.modes.core) here published
    reads_at (suc now) since up =
        elim (cases_lt now begun) [
          | inl less ↦ let here : begun ≡ suc now = omega (arith, less, since) in subst (HadPublished events running.modes.core) here published
          | inr more ↦
              elim (event_or_end events now) [
                | inl here ↦
                    let before = reads_at now more (omega (arith, up)) in
                    subst (λ (hs : List History). (present (history_at hs running.modes.core)).read ≡ true)
                    (sym (ap cores_after (take_suc events now here.0 here.1) ∙ cores_after-push (take now events) here.0))
                    (cores_read (cores_after (take now events)) here.0.asked running.modes.core before)
                | inr none ↦ let beyond = none_beyond events now none in let within = at.within in absurd (omega (arith, beyond, up, within))
              ]
        ]

    -- ---- the answers while the object was loose

    module _ (folder : Path) (moment : ℕ) (since : begun ≤ moment) (to : moment ≤ place + 1)
        (loose : (now : ℕ) → begun ≤ now → now ≤ moment → LiesAt store.parts query.want (tree_at first events now) folder id InLooseFile) where
      abbrev before : List Exchange
      before = told_since (take moment events) handle begun

      module _ (x : Exchange) (by : ToldBy events begun moment handle x) where
        up_to_place : by.place ≤ place
        up_to_place = let a = by.before in let b = to in omega (arith, a, b)

        law : Law first (take by.place events) by.event
        law = is.lawful by.place by.event by.there

        call : IsAtCall by.place
        call = in_call by.place by.from up_to_place

        works : Works first (take by.place events) handle call.was by.event
        works = law.worked handle call.was (record { turn = by.turn; status = call.status })

        call_works : (ask : DiskAsk) (answer : DiskAnswer) → by.event.asked ≡ OfDisk ask answer → fails_now (disk_after first (take by.place events)) ask ≡ false
        call_works ask answer asked =
            false_from_ne_true (fails_now (disk_after first (take by.place events)) ask)
            (λ fails.
            unfailed
            (record {
              place = by.place;
              later = by.from;
              at = record {
                event = by.event;
                there = subst (λ (es : List Event). slice_get es by.place ≡ Some by.event) front
                    (there_in_front events by.place (place + 1) by.event (let a = up_to_place in omega (arith, a)) by.there);
                turn = by.turn;
                failed = subst Fails (sym (law.did.1 ∙ ap (did_of_asked law.did.0 (cores_after (take by.place events))) asked))
                    (subst (FailsAsListed (disk_after first (take by.place events))) asked law.failed ∙ fails);
              };
            }))

        module _ (seat_store seat : ℕ) (event : CoreEvent) (answer : CoreAnswer) (asked : by.event.asked ≡ OfCore seat_store seat event answer) where
          abbrev history : History
          history = history_at (cores_after (take by.place events)) call.was.modes.core

          own_answer : answer_behind history handle event ≡ answer
          own_answer =
              same_answer call.was.modes.core handle seat_store seat event event (answer_behind history handle event) answer
              (core_told (stand_of (take by.place events) handle call.was) (disk_after first (take by.place events)) works.ask seat_store seat event answer (sym works.told ∙ asked))

          suits : IsAnswerTo (parts.Core event) (told.Core answer)
          suits = core_answers_suit_their_events history.opening history.entries handle event answer (sym own_answer)

          shows_read : (v : View) → view_in answer ≡ Some v → v.read ≡ true
          shows_read v handed =
              view_read history handle event answer (sym own_answer)
              (subst (λ (n : ℕ). (present (history_at (cores_after (take by.place events)) n)).read ≡ true) (sym call.core) (reads_at by.place by.from up_to_place)) v handed

        abbrev IsGood : Exchange → Type 0
        IsGood y = ((v : View) → view_of y.answer ≡ Some v → v.read ≡ true) × IsLooseFair setting query.want id folder y.ask y.answer

        by_asked : (asked : Asked) → by.event.asked ≡ asked → exchange_of asked ≡ Some x → IsGood x
        by_asked OfNothing same gives = absurd (cc gives)
        by_asked (OfNewCore slots folders number seat answer) same gives = absurd (cc gives)
        by_asked (OfDisk ask answer) same gives =
            subst IsGood (same_Some (record { ask = parts.Disk ask; answer = told.Disk answer }) x gives) (
              (λ v none. let wrong : None ≡ Some v = none in absurd (cc wrong)),
              (λ asks_it.
                  subst (HasLoose setting query.want id folder) (answered_then first events is by.place by.event by.there ask answer same)
                  (sound_file_is_had store.parts setting refl query.want id folder (disk_after first (take by.place events))
                  (loose by.place by.from (let lt = by.before in omega (arith, lt))) ask asks_it (call_works ask answer same))),
            )
        by_asked (OfCore number seat event answer) same gives =
            subst IsGood (same_Some (record { ask = parts.Core event; answer = told.Core answer }) x gives)
            ((λ v handed. shows_read number seat event answer same v handed), suits number seat event answer same)

        good : IsGood x
        good = by_asked by.event.asked refl by.gave

      published_before : ArePublished before
      published_before x among v shows = (good x (told_by_turn events begun moment handle x among)).0 v shows

      loose_before : AreLooseFair setting query.want id folder before
      loose_before x among = (good x (told_by_turn events begun moment handle x among)).1

      -- ---- the answers since then

      module _ (among : Contains (folder_list store.parts) folder) (name : Name) (named : is_index_name name ≡ true) (offset : ℕ)
          (packed : (now : ℕ) → moment ≤ now → now ≤ place + 1 → LiesAt store.parts query.want (tree_at first events now) folder id (InPackFile name offset)) where
        abbrev packed_place : PackedPlace
        packed_place = packed_at folder ItsIndex name offset

        lies : (now : ℕ) → moment ≤ now → now ≤ place + 1 → LiesPacked store.parts (tree_at first events now) id packed_place
        lies now later up = lies_by_index store.parts query.want (tree_at first events now) id at.fits.hashed folder name offset (packed now later up)

        first_part : (rest : List Exchange) × (told_since (take (place + 1) events) handle begun ≡ before ++ rest)
        first_part = told_first_part events handle begun moment (place + 1) since to (let lt = at.within in omega (arith, lt))

        asked_before : AreAsked setting start before
        asked_before =
            asked_first setting start before first_part.0
            (subst (AreAsked setting start) (sym (ap (λ (es : List Event). told_since es handle begun) front) ∙ first_part.1) ended.asked)

        closed : stream_in before ≡ None
        closed =
            no_stream_is_open_before_the_loose_folder_is_asked setting query.want id folder among view before
            (subst (λ (mode : RefreshMode). AreAsked setting (started setting mode view query.want id) before) refreshes asked_before) published_before loose_before

        -- all answers, with those that are fair after the moment
        record Parts : Type 0 where
          rest : List Exchange
          all : told_since whole handle begun ≡ before ++ rest
          fair : AreFair (listed_for store.parts).multi store.parts.object_hash id packed_place before rest

        parts_by : (moment < place + 1) ⊎ (place + 1 ≤ moment) → Parts
        parts_by (inl earlier) =
            let until : place + 1 ≤ length events = (let lt = at.within in omega (arith, lt)) in
            let works : ¬ (FailedSince (take (place + 1) events) handle begun) = subst (λ (es : List Event). ¬ (FailedSince es handle begun)) (sym front) unfailed in
            let opened_early : store.opened ≤ begun = at.well.opened in
            let holds = fair_to first events is handle begun store id packed_place named among moment (place + 1) since opened_early until lies works closed place (omega (arith, earlier)) (omega arith) in
            let on =
            goes_on first events is handle begun store id packed_place named among moment (place + 1) since opened_early until lies works place (omega (arith, earlier)) (omega arith) e
            turn.there holds running turn.turns.status refl refl in
            record { rest = on.behind; all = on.told_is; fair = on.fair }
        parts_by (inr last) =
            let here : moment ≡ place + 1 = (let a = to in omega (arith, a, last)) in
            record {
              rest = [];
              all =
                  sym (ap (λ (es : List Event). told_since es handle begun) front) ∙ sym (ap (λ (n : ℕ). told_since (take n events) handle begun) here)
                  ∙ sym (append-nil before);
              fair = tt;
            }

        not_missing : ⊥
        not_missing =
            let all_parts = parts_by (cases_lt moment (place + 1)) in
            objects_that_move_into_packs_are_not_missed setting store.parts.object_hash query.want id at.fits.hashed packed_place named among view before all_parts.rest
            (subst (λ (mode : RefreshMode). AreAsked setting (started setting mode view query.want id) (before ++ all_parts.rest)) refreshes
            (subst (AreAsked setting start) all_parts.all ended.asked))
            published_before loose_before all_parts.fair
            (sym (ap (λ (mode : RefreshMode). result_of (behind setting (started setting mode view query.want id) (before ++ all_parts.rest))) refreshes)
            ∙ (sym (ap (λ (es : List Exchange). result_of (behind setting start es)) all_parts.all) ∙ ended.misses))

-- A query of a handle that refreshes its list doesn't end with "not found", in a store whose list was read before, while its object moves from a
-- loose file of a folder into a pack there.
pub object_that_moves_into_a_pack_is_not_missed : (first : Volume) (events : List Event) → IsKnownRun first events
    → (place : ℕ) (e : Event) (handle : ℕ) (running : Running) (query : Query) → IsQueryTurn events place e handle running query
    → running.modes.refresh ≡ AfterAllIndicesLoaded → HadPublished events running.modes.core running.begun
    → HasMoved (tree_at first events) running.store.parts running.begun (place + 1) query.want (sought running.store.parts running.modes.ignoring query)
    → ¬ (e.outcome ≡ outcomes.Reply (not_found query.want))
object_that_moves_into_a_pack_is_not_missed first events is place e handle running query turn refreshes published moved missing =
    not_missing first events is place e handle running query turn missing refreshes published moved.folder moved.moment moved.from moved.to moved.loose moved.among moved.name
    (moved.packed moved.moment (omega arith) moved.to).named moved.offset moved.packed
