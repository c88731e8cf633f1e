-- The answers to the handle of a query stay true of the run after its own turn: an event of the core of its store, or a call of the disk.
use Rattle.std.proofs.Common.{◌≡◌, ◌⊎◌, ℕ, ◌<◌, ◌≤◌, List, [], ◌∷◌, ◌++◌, length, Contains, Option, Some, None, Ok, inl, inr, refl, sym, ◌∙◌, ap, subst, arith}
use Rattle.std.specs.Prelude.{unwrap_or}
use Rattle.std.proofs.lemmas.List.{length_push}
use Rattle.std.proofs.Math.Seq.{take-length}
use Rattle.odb_disk.specs.Tree.{tree_of}
use Rattle.odb_disk.specs.Tree.Follow.{read_of}
use Rattle.odb_disk.specs.declared.disk_error.DiskError.TheVariants as errors
use Rattle.odb_disk.specs.Ask.{answer_now, fails_now}
use Rattle.odb_disk.specs.MemDisk.{Volume}
use Rattle.odb_disk.specs.declared.ask.DiskAnswer.{DiskAnswer}
use Rattle.odb_disk.specs.declared.ask.DiskAnswer.TheVariants as answers
use Rattle.odb_disk.specs.declared.ask.DiskAsk.{DiskAsk}
use Rattle.odb_disk.specs.declared.ask.DiskAsk.TheVariants as asks
use Rattle.gix_odb_core.specs.History.{History, opened, present}
use Rattle.gix_odb_core.specs.Replay.{CanHappen, replay}
use Rattle.gix_odb_events.specs.View.{last_state}
use Rattle.gix_odb_core.specs.declared.journal.Entry.{Entry}
use Rattle.gix_odb_core.specs.declared.shape.Shape.{Shape}
use Rattle.gix_odb_events.specs.declared.view.View.{View}
use Rattle.gix_hash.specs.declared.object_id.ObjectId.{ObjectId}
use Rattle.odb_base.specs.Path.{Path}
use Rattle.gix_odb_search.specs.declared.multi_pack.MultiUse.{MultiUse}
use Rattle.gix_odb_events.specs.declared.answer.Answer.TheVariants as told
use Rattle.gix_odb_events.specs.declared.answer.Ask.TheVariants as parts
use Rattle.gix_odb.specs.LookExchanges.{AreAnswered, Exchange, HasFailed, IsAnswerTo, WasTold}
use Rattle.gix_odb.specs.Fair.{AreFair, IsFair, PackedPlace, index_at}
use Rattle.gix_odb.specs.Laps as streams
use Rattle.gix_odb.specs.Laps.{AreNumbered, AreWithin, IsNumbered, number_by}
use Rattle.gix_odb.specs.LookUpOrder.{Setting, ask_of}
use Rattle.gix_odb.specs.Shown.{IsHanded, IsShownView}
use Rattle.gix_odb.specs.StillListed.{AreFairOrFailed, IsFairOrFailed, IsListed}
use Rattle.gix_odb.specs.Store.{listed_for}
use Rattle.gix_odb.specs.Stream.{stream_by, stream_in}
use Rattle.gix_odb.specs.True.{IsTrue}
use Rattle.gix_odb.specs.declared.look_up.LookUp.{LookUp}
use Rattle.gix_odb_world.proofs.CoreLaws.{core_answers_are_fair, core_answers_are_numbered, core_answers_are_true, core_answers_suit_their_events, core_answers_tell_no_later_number}
use Rattle.gix_odb_world.proofs.CoreLaws.MultiRows.{MultisHaveOne}
use Rattle.gix_odb_world.proofs.CoreLaws.Wider.{AreTrue-wider, IsHanded-wider, IsShownView-wider}
use Rattle.gix_odb.proofs.FoundLaws.{what_is_handed_was_shown}
use Rattle.gix_odb.proofs.HandedLaws.{IsOwnStream, streams_of_look_ups_are_their_own}
use Rattle.gix_odb_world.proofs.HappenLaws.{what_is_handed_can_happen}
use Rattle.gix_odb.specs.Contents.{folder_list, sought}
use Rattle.gix_odb_world.specs.AtWork.{Running, Store, setting_in}
use Rattle.gix_odb_world.specs.Bound.{HasAtMost}
use Rattle.gix_odb_history.specs.Cores.{answer_behind, cores_after, cores_after_asked, entered, entry_of, history_at}
use Rattle.gix_odb_history.specs.Event.{CoreAnswer, CoreEvent, Event, OfCore, OfDisk}
use Rattle.gix_odb_history.specs.Run.{FailedSince, disk_after, tree_at}
use Rattle.gix_odb_world.specs.Seats.{HasSeat, HasSeatAt, IsSeated}
use Rattle.gix_odb_world.specs.Running.PackedStill.{IsPackedStill}
use Rattle.gix_odb_world.specs.Running.Query.{IsGiven, IsLooking, IsToldWell, number_after}
use Rattle.gix_odb_world.specs.Told.{look_now, told_since, view_then}
use Rattle.gix_odb_world.proofs.DiskTold.{failed_or_told, is_true, suits}
use Rattle.gix_odb_world.proofs.HistoryLemmas.{cores_after-push, failed-kept, failed_before, tree_at-before}
use Rattle.gix_odb_world.proofs.MachineLaws.{IsRunning, IsTurnAsking}
use Rattle.gix_odb_world.proofs.PackedStill.{AreFair-push, AreFairOrFailed-push, told_fairly, told_fairly_or_failed}
use Rattle.gix_odb_world.proofs.PackedStill.Moments.{shown_index_is_sound, still_before}
use Rattle.gix_odb_world.proofs.PackedStill.Rule.{multis_show_one}
use Rattle.gix_odb_world.proofs.QuietTurn.{failed_now}
use Rattle.gix_odb_world.proofs.ReadsShown.{shown_at}
use Rattle.gix_odb_world.proofs.SeatLemmas.{seats_now}
use Rattle.gix_odb_world.proofs.SeatLemmas.Elsewhere.{slice_get-set_same}
use Rattle.gix_odb_world.proofs.Stock.{HasStock, HasStockAt, stocked}
use Rattle.gix_odb_world.proofs.Stock.OneCore.{IsOfStore, IsStocked, ShownSince, shown_later}
use Rattle.gix_odb_world.proofs.Stock.Snapshots.{is_opened, slots_are, slots_of_seat}
use Rattle.gix_odb_world.proofs.Streams.{next_entry_suits, streams_are_short}
use Rattle.gix_odb_world.proofs.ToldLemmas.{told_turn, view_kept}
use Rattle.gix_odb_world.proofs.ToldLists.{AreAnswered-push, AreNumbered-push, AreWithin-push, among_more, last_among, number_after-push, one_of_more, within_last}
use Rattle.gix_odb_world.proofs.ToldWell.{given_later, list_rises, most_before, no_failure}
use Rattle.gix_odb_world.proofs.ToldWell.Listed.{answers_list_what_stayed}

-- the core of a store begins with a state number of 64 bits
low_state : (first : Volume) (events : List Event) (store : Store) (history : History) → IsOfStore first events store history → history.opening.state_id ≤ last_state
low_state first events store history of = let same = ap (λ (s : Shape). s.state_id) of.opening in omega (arith, same)

-- an exchange with the disk is none with a core, and has what was asked and answered
no_event : (ask : DiskAsk) (event : CoreEvent) → ¬ (parts.Disk ask ≡ parts.Core event)
no_event ask event is = cc is

same_asked : (one other : DiskAsk) → parts.Disk one ≡ parts.Disk other → one ≡ other
same_asked one other is = cc is

same_told : (one other : DiskAnswer) → told.Disk one ≡ told.Disk other → one ≡ other
same_told one other is = cc is

module _ (first : Volume) (events : List Event) (e : Event) where
  abbrev whole : List Event
  whole = events ++ e ∷ []

  module _ (handle : ℕ) (running : Running) (look : LookUp) (knows : IsLooking first events handle running look) (ran : IsRunning first events handle running) where
    abbrev store : Store
    store = running.store

    abbrev setting : Setting
    setting = setting_in store

    abbrev multi : Option MultiUse
    multi = (listed_for store.parts).multi

    abbrev core : ℕ
    core = running.modes.core

    abbrev begun : ℕ
    begun = running.begun

    abbrev before : List Exchange
    before = told_since events handle begun

    abbrev well : IsToldWell first events handle store running.modes begun
    well = knows.well

    seen : view_then whole handle core begun ≡ view_then events handle core begun
    seen = view_kept events e handle begun knows.since core

    -- what one more exchange has to show
    record IsToldTruly (exchange : Exchange) : Type 0 where
      truth : IsTrue (ShownSince first whole store) setting store.parts.object_hash exchange.ask exchange.answer
      fitting : IsAnswerTo exchange.ask exchange.answer
      numbered : IsNumbered running.modes.slots (number_after 0 before) exchange.ask exchange.answer
      no_later : number_by (number_after 0 before) exchange.answer ≤ (present (history_at (cores_after whole) core)).list_no
      within : (entries : ℕ) → HasAtMost (tree_at first whole) store.parts begun (length whole) entries
          → streams.HasAtMost entries (stream_by (stream_in before) exchange.ask exchange.answer)
      given : (ask : DiskAsk) (answer : DiskAnswer) → record { ask = parts.Disk ask; answer = told.Disk answer } ≡ exchange → IsGiven first whole handle begun ask answer
      fails : FailedSince whole handle begun → FailedSince events handle begun ⊎ (exchange.answer ≡ told.Disk (answers.Refused errors.Failed))
      fair : (id : ObjectId) (place : PackedPlace) → ¬ (FailedSince whole handle begun)
          → IsPackedStill (tree_at first whole) store begun (length whole) id place → IsFair multi store.parts.object_hash id place before exchange.ask exchange.answer
      met : (id : ObjectId) (place : PackedPlace) → IsPackedStill (tree_at first whole) store begun (length whole) id place
          → IsFairOrFailed multi store.parts.object_hash id place before exchange.ask exchange.answer
      listed : (id : ObjectId) (place : PackedPlace) → Contains (folder_list store.parts) place.folder
          → IsPackedStill (tree_at first whole) store store.opened (length whole) id place
          → IsListed multi store.parts.object_hash id place exchange.ask exchange.answer

    told_more : (exchange : Exchange) → told_since whole handle begun ≡ before ++ exchange ∷ [] → (core < length (cores_after whole)) → IsToldTruly exchange
        → IsToldWell first whole handle store running.modes begun
    told_more exchange same there truly = record {
      opened = well.opened;
      snapshot =
          subst (IsShownView (ShownSince first whole store) setting store.parts.object_hash) (sym seen)
          (IsShownView-wider (ShownSince first events store) (ShownSince first whole store) (shown_later first events e store) setting store.parts.object_hash _ well.snapshot);
      few = subst (λ (v : View). length v.snapshot.indices ≤ running.modes.slots) (sym seen) well.few;
      place = there;
      truth = λ one among.
          elim (one_of_more before exchange one (subst (λ xs. Contains xs one) same among)) [
            | inl old ↦ AreTrue-wider (ShownSince first events store) (ShownSince first whole store) (shown_later first events e store) setting store.parts.object_hash before well.truth one old
            | inr is ↦ subst (λ (x : Exchange). IsTrue (ShownSince first whole store) setting store.parts.object_hash x.ask x.answer) (sym is) truly.truth
          ];
      answered = subst AreAnswered (sym same) (AreAnswered-push before exchange well.answered truly.fitting);
      numbered = subst (AreNumbered running.modes.slots 0) (sym same) (AreNumbered-push running.modes.slots 0 before exchange well.numbered truly.numbered);
      no_later =
          subst (λ xs. number_after 0 xs ≤ (present (history_at (cores_after whole) core)).list_no) (sym same)
          (subst (λ n. n ≤ (present (history_at (cores_after whole) core)).list_no) (sym (number_after-push 0 before exchange)) truly.no_later);
      within = λ entries most.
          subst (AreWithin entries None) (sym same)
          (AreWithin-push entries None before exchange (well.within entries (most_before first events e store begun entries most)) (truly.within entries most));
      given = λ ask answer was.
          elim (one_of_more before exchange (record { ask = parts.Disk ask; answer = told.Disk answer }) (subst (λ xs. WasTold xs (parts.Disk ask) (told.Disk answer)) same was)) [
            | inl old ↦ given_later first events e handle begun ask answer (well.given ask answer old)
            | inr is ↦ truly.given ask answer is
          ];
      failures = λ failed.
          subst HasFailed (sym same)
          (elim (truly.fails failed) [
            | inl old ↦ let has = well.failures old in record { exchange = has.exchange; among = among_more before exchange has.exchange has.among; failed = has.failed }
            | inr last ↦ record { exchange = exchange; among = last_among before exchange; failed = last }
          ]);
      fair = λ id place works still.
          subst (AreFair multi store.parts.object_hash id place []) (sym same)
          (AreFair-push multi store.parts.object_hash id place [] before exchange
          (well.fair id place (λ failed. works (failed-kept events e handle begun failed)) (still_before first events e store begun id place still))
          (truly.fair id place works still));
      met = λ id place still.
          subst (AreFairOrFailed multi store.parts.object_hash id place []) (sym same)
          (AreFairOrFailed-push multi store.parts.object_hash id place [] before exchange
          (well.met id place (still_before first events e store begun id place still)) (truly.met id place still));
      listed = λ id place known still one is.
          elim (one_of_more before exchange one (subst (λ xs. Contains xs one) same is)) [
            | inl old ↦ well.listed id place known (still_before first events e store store.opened id place still) one old
            | inr last ↦
                subst (λ (x : Exchange). IsListed multi store.parts.object_hash id place x.ask x.answer) (sym last) (truly.listed id place known still)
          ];
    }

    -- ---- an event of the core of its store

    stock : IsStocked first events core store
    stock =
        subst (HasStockAt first events store running.modes) knows.task
        (subst (HasStock first events) ran.status (stocked first events ran.lawful ran.throughout handle))

    -- where its handle is seated
    seated : IsSeated (cores_after events) handle running.modes
    seated =
        subst (HasSeatAt (cores_after events) handle running.modes) knows.task
        (subst (HasSeat events handle) ran.status (seats_now first events ran.lawful handle))

    abbrev history : History
    history = stock.history

    there : history_at (cores_after events) core ≡ history
    there = ap (λ o. unwrap_or o (opened 0 0 0 0)) stock.there

    module _ (event : CoreEvent) (asked : ask_of look ≡ Some (parts.Core event)) (turn : IsTurnAsking first events e handle running (Some (parts.Core event))) where
      abbrev answer : CoreAnswer
      answer = answer_behind (history_at (cores_after events) core) handle event

      abbrev exchange : Exchange
      exchange = record { ask = parts.Core event; answer = told.Core answer }

      asked_now : ask_of (look_now events handle store running.modes begun knows.query) ≡ Some (parts.Core event)
      asked_now = ap ask_of (sym knows.is) ∙ asked

      handed : IsHanded (ShownSince first events store) setting store.parts.object_hash event
      handed =
          what_is_handed_was_shown (ShownSince first events store) setting store.parts.object_hash knows.query.want (sought store.parts running.modes.ignoring knows.query) knows.fits.hashed
          running.modes.refresh (view_then events handle core begun) well.snapshot before knows.asked well.truth (parts.Core event) asked_now

      can : CanHappen (present history) handle event
      can =
          what_is_handed_can_happen setting knows.fits.distinct running.modes.refresh (view_then events handle core begun) knows.query.want (sought store.parts running.modes.ignoring knows.query)
          before knows.asked event asked_now (present history) handle

      answer_is : answer ≡ answer_behind history handle event
      answer_is = ap (λ h. answer_behind h handle event) there

      now_is : history_at (cores_after whole) core ≡ entered history handle event answer
      now_is =
          let grown : cores_after whole ≡ cores_after_asked (cores_after events) (OfCore core handle event answer) =
          cores_after-push events e ∙ ap (cores_after_asked (cores_after events)) turn.asked in
          ap (λ cs. history_at cs core) grown
          ∙ (ap (λ o. unwrap_or o (opened 0 0 0 0)) (slice_get-set_same (cores_after events) core (entered (history_at (cores_after events) core) handle event answer) history stock.there)
          ∙ ap (λ h. entered h handle event answer) there)

      behind_is : replay history.opening (history.entries ++ entry_of history handle event answer ∷ []) ≡ present (history_at (cores_after whole) core)
      behind_is = ap present (sym now_is)

      low : number_after 0 before ≤ (present history).list_no
      low = subst (λ h. number_after 0 before ≤ (present h).list_no) there well.no_later

      later : (entry : Entry) → Contains history.entries entry → IsHanded (ShownSince first whole store) setting store.parts.object_hash entry.event
      later entry among =
          IsHanded-wider (ShownSince first events store) (ShownSince first whole store) (shown_later first events e store) setting store.parts.object_hash entry.event (stock.of.handed entry among)

      handed_now : IsHanded (ShownSince first whole store) setting store.parts.object_hash event
      handed_now =
          IsHanded-wider (ShownSince first events store) (ShownSince first whole store) (shown_later first events e store) setting store.parts.object_hash event handed

      -- each multi-pack index has shown one content at one time
      rule : MultisHaveOne (ShownSince first events store) setting
      rule path at time one other was further =
          multis_show_one first events handle running ran at.folder at.among time one other
          (subst (λ (p : Path). ShownSince first events store p time one) at.is was) (subst (λ (p : Path). ShownSince first events store p time other) at.is further)

      truly : IsToldTruly exchange
      truly = record {
        truth =
            core_answers_are_true history.opening history.entries handle event answer answer_is (is_opened first events store history stock.of) stock.of.legal
            stock.of.possible can (ShownSince first whole store) setting store.parts.object_hash later handed_now;
        fitting = core_answers_suit_their_events history.opening history.entries handle event answer answer_is;
        numbered =
            core_answers_are_numbered history.opening history.entries handle event answer answer_is (number_after 0 before) low
            (is_opened first events store history stock.of) (low_state first events store history stock.of) stock.of.possible can
            running.modes.slots (sym (slots_are first events store history stock.of ∙ slots_of_seat first events handle store running.modes seated stock));
        no_later =
            subst (λ (s : Shape). number_by (number_after 0 before) (told.Core answer) ≤ s.list_no) behind_is
            (core_answers_tell_no_later_number history.opening history.entries handle event answer answer_is (number_after 0 before) low);
        within = λ entries most. within_last entries None before (well.within entries (most_before first events e store begun entries most)) tt;
        given = λ ask own is. absurd (no_event ask event (ap (λ (x : Exchange). x.ask) is));
        fails = λ failed. inl (failed_before events e handle begun (λ turn_it fails. no_failure e.entry.did turn.did fails) failed);
        fair = λ id place works still.
            core_answers_are_fair history.opening history.entries handle event answer answer_is (is_opened first events store history stock.of) stock.of.legal
            stock.of.possible can (ShownSince first events store) setting store.parts.object_hash stock.of.handed handed rule id place still.carried
            (λ by_index bytes was.
            shown_index_is_sound (tree_at first events) store begun (length events) id place (still_before first events e store begun id place still) well.opened
            knows.since by_index bytes (shown_at (tree_at first events) store.opened (length events) (index_at place) bytes was))
            before;
        met = λ id place still. core_answers_suit_their_events history.opening history.entries handle event answer answer_is;
        listed = λ id place known still.
            subst (λ (a : CoreAnswer). IsListed multi store.parts.object_hash id place (parts.Core event) (told.Core a)) (sym answer_is)
            (answers_list_what_stayed first events store history stock.of rule id place known
            (still_before first events e store store.opened id place still) handle event);
      }

      pub told_well_on_core : IsToldWell first whole handle store running.modes begun
      told_well_on_core =
          told_more exchange (told_turn events e handle begun knows.since turn.turn (OfCore core handle event answer) turn.asked exchange refl)
          (list_rises first events e (OfCore core handle event answer) core turn.asked well.place).0 truly

    -- ---- a call of the disk

    module _ (ask : DiskAsk) (asked : ask_of look ≡ Some (parts.Disk ask)) (turn : IsTurnAsking first events e handle running (Some (parts.Disk ask))) where
      abbrev disk : Volume
      disk = disk_after first events

      abbrev disk_answer : DiskAnswer
      disk_answer = answer_now disk ask

      abbrev call : Exchange
      call = record { ask = parts.Disk ask; answer = told.Disk disk_answer }

      disk_asked : ask_of (look_now events handle store running.modes begun knows.query) ≡ Some (parts.Disk ask)
      disk_asked = ap ask_of (sym knows.is) ∙ asked

      -- a stream that it reads on is its own
      own_stream : (dir : ℕ) → ask ≡ asks.NextEntry dir → IsOwnStream before dir
      own_stream dir is =
          streams_of_look_ups_are_their_own setting running.modes.refresh (view_then events handle core begun) knows.query.want (sought store.parts running.modes.ignoring knows.query) before
          knows.asked dir (inl (disk_asked ∙ ap (λ a. Some (parts.Disk a)) is))

      -- the tree that answers is that of the moment before
      tree_before : tree_at first events (length events) ≡ tree_of disk.state
      tree_before = ap (λ past. tree_of (disk_after first past).state) (take-length events)

      tree_is : tree_at first whole (length events) ≡ tree_of disk.state
      tree_is = tree_at-before first events e (length events) (omega arith) ∙ tree_before

      disk_truly : IsToldTruly call
      disk_truly = record {
        truth =
            is_true (ShownSince first whole store) setting store.parts.object_hash disk
            (λ path bytes time read. record {
              moment = length events;
              from = let a = well.opened in let b = knows.since in omega (arith, a, b);
              to = let c = length_push events e in omega (arith, c);
              was = subst (λ tree. read_of tree path ≡ Ok (bytes, time)) (sym tree_is) read;
            })
            ask (suits disk ask (λ dir is. next_entry_suits first events e handle running ran dir (own_stream dir is)));
        fitting = tt;
        numbered = tt;
        no_later = let rises = list_rises first events e (OfDisk ask disk_answer) core turn.asked well.place in let low = well.no_later in omega (arith, rises.1, low);
        within = λ entries most.
            streams_are_short first events e handle running ran ask own_stream entries most
            (within_last entries None before (well.within entries (most_before first events e store begun entries most)) tt);
        given = λ own answer is.
            let same : own ≡ ask = same_asked own ask (ap (λ (x : Exchange). x.ask) is) in
            let same_answer : answer ≡ disk_answer = same_told answer disk_answer (ap (λ (x : Exchange). x.answer) is) in
            record {
              moment = length events;
              from = knows.since;
              to = let c = length_push events e in omega (arith, c);
              disk = disk;
              shown = tree_is;
              is = same_answer ∙ ap (answer_now disk) (sym same);
              failed = λ fails. failed_now first events e handle running knows.since ask turn (ap (fails_now disk) (sym same) ∙ fails);
            };
        fails = λ failed. failed_or_told first events e handle running knows.since ask turn failed;
        fair = λ id place works still.
            told_fairly first events e handle running ran knows.since id place still ask own_stream tree_before turn works;
        met = λ id place still. told_fairly_or_failed first events e handle running ran knows.since id place still ask own_stream tree_before;
        listed = λ id place known still. tt;
      }

      pub told_well_on_disk : IsToldWell first whole handle store running.modes begun
      told_well_on_disk =
          told_more call (told_turn events e handle begun knows.since turn.turn (OfDisk ask disk_answer) turn.asked call refl)
          (list_rises first events e (OfDisk ask disk_answer) core turn.asked well.place).0 disk_truly
