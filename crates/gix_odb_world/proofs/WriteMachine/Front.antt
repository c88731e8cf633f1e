-- A turn of the refresh before a write: what it asks for, and how it ends.
use Rattle.std.proofs.Common.{◌≡◌, inl, ℕ, ◌+◌, ◌*◌, ◌<◌, ◌≤◌, List, [], ◌∷◌, ◌++◌, length, Option, Some, None, Err, refl, sym, ◌∙◌, ap, subst, arith}
use Rattle.std.proofs.lemmas.List.{length_push}
use Rattle.odb_disk.specs.MemDisk.{Volume}
use Rattle.odb_disk.specs.Ask.{answer_now}
use Rattle.odb_disk.specs.declared.ask.DiskAsk.{DiskAsk}
use Rattle.odb_disk.specs.declared.ask.DiskAsk.TheVariants as asks
use Rattle.odb_disk.specs.Tree.{tree_of}
use Rattle.gix_odb_core.specs.Replay.{CanHappen}
use Rattle.gix_odb_core.specs.declared.shape.Shape.{Shape}
use Rattle.gix_odb_events.specs.declared.view.View.{View}
use Rattle.gix_odb_loose.specs.declared.call.LooseCall.{LooseCall}
use Rattle.gix_odb_loose.specs.declared.write_order.WriteStage.TheVariants.{Making}
use Rattle.gix_odb_events.specs.declared.answer.Answer.TheVariants as told
use Rattle.gix_odb_events.specs.declared.answer.Ask.{Ask}
use Rattle.gix_odb_events.specs.declared.answer.Ask.TheVariants as parts
use Rattle.gix_odb_calls.specs.declared.load_index.Error as load
use Rattle.gix_odb_calls.specs.declared.load_index.Error.TheVariants as load_errors
use Rattle.gix_odb_events.specs.declared.event.Refusal.TheVariants as refusals
use Rattle.gix_odb.specs.LookExchanges.{Exchange}
use Rattle.gix_odb.specs.LookUpOrder.{Setting}
use Rattle.gix_odb.proofs.HandedLaws.{IsOwnStream}
use Rattle.gix_odb.specs.RefreshOrder.{IsReady}
use Rattle.gix_odb.specs.RefreshOrder as refreshes
use Rattle.gix_odb.specs.Refreshed.{AreAsked, IsCaused}
use Rattle.gix_odb.specs.declared.refresh.Refresh.{Refresh}
use Rattle.gix_odb.specs.declared.refresh.RefreshStep.{RefreshStep}
use Rattle.gix_odb.specs.declared.refresh.RefreshStep.TheVariants as fronts
use Rattle.gix_odb.proofs.AskedLemmas.{asked-push}
use Rattle.gix_odb.proofs.RefreshLaws.{a_refresh_takes_at_most_a_lap, only_unread_stores_are_refused, refreshes_change_no_file, refused_refreshes_have_causes}
use Rattle.gix_odb.proofs.RefreshLaws.{streams_of_refreshes_are_their_own}
use Rattle.gix_odb_world.proofs.RefreshHappenLaws.{what_a_refresh_hands_on_can_happen}
use Rattle.gix_odb.specs.CallOrder.{result_of_write, unlisted}
use Rattle.gix_odb.specs.Contents.{folder_list}
use Rattle.gix_odb_world.specs.AtWork.{MakeCall, Running, Store, setting_in}
use Rattle.gix_odb.specs.Laps.{turns_of_lap}
use Rattle.gix_odb_world.specs.Bound.{HasAtMost, bound_of_task, laps_without_change, turns_beside_pieces}
use Rattle.gix_odb_history.specs.Cores.{answer_behind, cores_after, history_at}
use Rattle.gix_odb_history.specs.Event.{Asked, CoreAnswer, CoreEvent, Event, OfCore, OfDisk}
use Rattle.gix_odb_world.specs.Promise.{Promise}
use Rattle.gix_odb_history.specs.Run.{IsTurnOf, change_by, disk_after, tree_at}
use Rattle.gix_odb_world.specs.Refused.{LoadCause, RefusedSince}
use Rattle.gix_odb_world.specs.Running.Answered.{IsAnsweredWell}
use Rattle.gix_odb_world.specs.Running.Refused.{AreRefused}
use Rattle.gix_odb_world.specs.Running.Write.{InFront, IsInFront, KnowsOfWrite, Own, front_result, own_result, write_at, writing}
use Rattle.gix_odb_world.specs.Status.{modes_after}
use Rattle.gix_odb_world.specs.Told.{refresh_begun, refresh_now, told_since, turns_in_front, view_then}
use Rattle.gix_odb_history.specs.Writing.{ChangedNothing, call_to_write}
use Rattle.gix_odb_loose.specs.WriteJobs.{pieces_of}
use Rattle.gix_odb_world.proofs.AnsweredLemmas.{answered_on_core, answered_on_disk, told_call, told_event}
use Rattle.gix_odb_world.proofs.FrontLemmas.{begun_same, front_asked, now_more}
use Rattle.gix_odb_world.proofs.MachineLaws.{HasTurn, IsRunning, IsTurnAsking, MachineComes, quiet_turn}
use Rattle.gix_odb_world.proofs.RefusedLemmas.{never_for_memory, refused_on_core, refused_on_disk, since_told}
use Rattle.gix_odb_history.proofs.WriteAsk.Quiet.{change_by-quiet}
use Rattle.gix_odb_world.proofs.WriteGoes.{more_laps}
use Rattle.gix_odb_world.proofs.WriteKept.{stands_at_first, unchanged_push}
use Rattle.gix_odb.specs.Store.{listed_for}

-- a lap has room for it, and the bound has more than a lap
within_bound : (turns lap laps pieces : ℕ) → turns ≤ lap → lap ≤ laps → turns < laps + (turns_beside_pieces + pieces)
within_bound turns lap laps pieces few wide = omega arith

module _ (first : Volume) (events : List Event) (handle : ℕ) (running : Running) (refresh : Refresh) (call : LooseCall)
    (knows : IsInFront first events handle running refresh call) where
  abbrev store : Store
  store = running.store

  abbrev setting : Setting
  setting = setting_in store

  abbrev snapshot : View
  snapshot = view_then events handle running.modes.core running.begun

  abbrev exchanges : List Exchange
  exchanges = told_since events handle running.begun

  abbrev begun_at : RefreshStep
  begun_at = refresh_begun events handle running.modes running.begun

  -- ---- what it asks for

  -- it asks this
  abbrev pub Asks : Ask → Type 0
  Asks ask = ◌≡◌ {A = Option Ask} (Some (refreshes.ask_of refresh)) (Some ask)

  module _ (ask : Ask) (is : Asks ask) where
    asks_now : refreshes.asked_of (refresh_now events handle store running.modes running.begun) ≡ Some ask
    asks_now = ap refreshes.asked_of (sym knows.refresh_is) ∙ is

  pub front_quiet : (ask : DiskAsk) → Asks (parts.Disk ask) → change_by (disk_after first events) ask ≡ None
  front_quiet ask is =
      change_by-quiet (disk_after first events) ask
      (refreshes_change_no_file setting snapshot exchanges knows.asked ask (asks_now (parts.Disk ask) is) (tree_of (disk_after first events).state))

  pub front_takes : (ask : DiskAsk) → Asks (parts.Disk ask) → HasTurn first events handle running running.task ask
  front_takes ask is =
      subst (λ task. HasTurn first events handle running task ask) (sym knows.of.task)
      (quiet_turn first events handle running (MakeCall (call_to_write knows.write)) ask (inl (asks_now (parts.Disk ask) is)) (front_quiet ask is))

  pub front_happens : (event : CoreEvent) → Asks (parts.Core event) → (shape : Shape) (seat : ℕ) → CanHappen shape seat event
  front_happens event is shape seat =
      what_a_refresh_hands_on_can_happen setting snapshot exchanges knows.asked knows.distinct event (asks_now (parts.Core event) is) shape seat

  -- a stream that it reads on is its own
  own_stream : (ask : DiskAsk) → Asks (parts.Disk ask) → (dir : ℕ) → ask ≡ asks.NextEntry dir → IsOwnStream exchanges dir
  own_stream ask is dir same =
      streams_of_refreshes_are_their_own setting snapshot exchanges knows.asked dir
      (inl (asks_now (parts.Disk ask) is ∙ ap (λ a. Some (parts.Disk a)) same))

  -- ---- how its turn ends

  module _ (e : Event) where
    abbrev whole : List Event
    whole = events ++ e ∷ []

    abbrev Comes : Asked → RefreshStep → Type 0
    Comes asked next = MachineComes first events e handle running writing KnowsOfWrite asked (front_result call next)

    -- a turn in which it was answered, and which changed nothing
    module _ (exchange : Exchange) (asked_it : Asks exchange.ask)
        (told_is : told_since whole handle running.begun ≡ exchanges ++ exchange ∷ [])
        (well : IsAnsweredWell first whole handle store running.begun) (refused : AreRefused whole handle running.modes.core running.begun)
        (nothing : IsTurnOf handle e → e.entry.change ≡ None) where
      abbrev next : RefreshStep
      next = refreshes.fed store.parts.objects (listed_for store.parts) refresh exchange.answer

      abbrev begun_now : RefreshStep
      begun_now = refresh_begun whole handle running.modes running.begun

      abbrev all : List Exchange
      all = told_since whole handle running.begun

      begins : begun_now ≡ begun_at
      begins = begun_same events e handle store running.modes running.begun knows.since

      stands : next ≡ refresh_now whole handle store running.modes running.begun
      stands =
          ap (λ r. refreshes.step_fed store.parts.objects (listed_for store.parts) r exchange.answer) knows.refresh_is
          ∙ sym (now_more events e handle store running.modes running.begun knows.since exchange told_is)

      all_asked : AreAsked setting begun_now all
      all_asked =
          subst (λ r. AreAsked setting r all) (sym begins)
          (subst (AreAsked setting begun_at) (sym told_is)
          (asked-push refreshes.asked_of (refreshes.step_fed store.parts.objects (listed_for store.parts)) begun_at exchanges exchange knows.asked (asks_now exchange.ask asked_it)))

      longer : length all ≡ running.turns + 1
      longer = let had = knows.turns in let more = length_push exchanges exchange in ap length told_is ∙ omega (arith, had, more)

      unchanged : ChangedNothing whole handle running.begun
      unchanged = unchanged_push events e handle running.begun knows.unchanged nothing

      since : running.begun ≤ length whole
      since = let before = knows.since in let more = length_push events e in omega (arith, before, more)

      abbrev lap : (entries : ℕ) → ℕ
      lap entries = turns_of_lap running.modes.slots (length (folder_list store.parts)) entries

      -- it takes no more turns than a lap
      short : (entries : ℕ) → HasAtMost (tree_at first whole) store.parts running.begun (length whole) entries → length all ≤ lap entries
      short entries most =
          a_refresh_takes_at_most_a_lap setting (view_then whole handle running.modes.core running.begun) all all_asked running.modes.slots entries
          (well.within entries most) well.answered

      in_time : (entries : ℕ) → HasAtMost (tree_at first whole) store.parts running.begun (length events + 1) entries
          → running.turns + 1 < bound_of_task store running.modes running.task entries
      in_time entries most =
          let few = short entries (subst (λ n. HasAtMost (tree_at first whole) store.parts running.begun n entries) (sym (length_push events e)) most) in
          subst (λ task. running.turns + 1 < bound_of_task store running.modes task entries) (sym knows.of.task)
          (subst (λ n. n < (store.max_changes + laps_without_change) * lap entries + (turns_beside_pieces + pieces_of (length knows.write.bytes))) longer
          (within_bound (length all) (lap entries) ((store.max_changes + laps_without_change) * lap entries) (pieces_of (length knows.write.bytes)) few
          (more_laps store.max_changes (lap entries))))

      -- with the modes that the turn left, which have the same core
      module _ (asked : Asked) (core : (modes_after asked running.modes).core ≡ running.modes.core) (slots : (modes_after asked running.modes).slots ≡ running.modes.slots) where
        -- it goes on
        goes_on : (own : Refresh) → next ≡ fronts.More own
            → MachineComes first events e handle running writing KnowsOfWrite asked (Err (InFront own call))
        goes_on own same = (
          record {
            write = knows.write;
            of = record { into = knows.of.into; hashed = knows.of.hashed; fits = knows.of.fits; task = knows.of.task };
            is = knows.is;
            opened = knows.opened;
            since = since;
            distinct = knows.distinct;
            refresh_is =
                subst (λ n. fronts.More own ≡ refresh_now whole handle store (record running.modes { core = n }) running.begun) (sym core) (sym same ∙ stands);
            asked = subst (λ n. AreAsked setting (refresh_begun whole handle (record running.modes { core = n }) running.begun) all) (sym core) all_asked;
            turns = sym longer;
            well = record { suited = well.suited; answered = well.answered; within = well.within; met = well.met };
            refused = subst (λ n. AreRefused whole handle n running.begun) (sym core) refused;
            unchanged = unchanged;
          },
          in_time,
        )

        -- the write begins
        ready : (own : RefreshStep) → IsReady own → next ≡ own → MachineComes first events e handle running writing KnowsOfWrite asked (Err (Own (write_at knows.write (Making 0))))
        ready own is_ready same =
            let front : turns_in_front whole handle store running.modes running.begun ≡ length all = front_asked whole handle store running.modes running.begun all_asked in
            let long = longer in
            let counted : running.turns + 1 ≡ turns_in_front whole handle store running.modes running.begun + 0 = omega (arith, front, long) in (
              record {
                writing = record {
                  write = knows.write;
                  into = knows.of.into;
                  hashed = knows.of.hashed;
                  fits = knows.of.fits;
                  stage = Making 0;
                  is = refl;
                  own = 0;
                  stands = stands_at_first first whole handle running.begun knows.write unchanged;
                };
                task = knows.of.task;
                since = since;
                ready =
                    subst (λ n. IsReady (refresh_now whole handle store (record running.modes { core = n }) running.begun)) (sym core)
                    (subst IsReady (sym same ∙ stands) is_ready);
                turns = subst (λ n. running.turns + 1 ≡ turns_in_front whole handle store (record running.modes { core = n }) running.begun + 0) (sym core) counted;
                short = λ entries most.
                    subst (λ n. turns_in_front whole handle store (record running.modes { core = n }) running.begun
                    ≤ turns_of_lap (modes_after asked running.modes).slots (length (folder_list store.parts)) entries) (sym core)
                    (subst (λ n. turns_in_front whole handle store running.modes running.begun ≤ turns_of_lap n (length (folder_list store.parts)) entries) (sym slots)
                    (subst (λ n. n ≤ lap entries) (sym front) (short entries most)));
              },
              in_time,
            )

        -- what the core refused has its cause in the core
        caused : (error : load.Error) → IsCaused setting all error
            → LoadCause (RefusedSince whole handle running.modes.core running.begun) (IsCaused setting all error) error
        caused load_errors.Io cause = cause
        caused (load_errors.InsufficientSlots current needed) cause =
            since_told whole handle running.modes.core running.begun refused (refusals.InsufficientSlots current needed) cause
        caused (load_errors.TooManyPacksInMultiIndex actual limit path) cause = cause
        caused load_errors.GenerationOverflow cause = since_told whole handle running.modes.core running.begun refused refusals.GenerationOverflow cause
        caused (load_errors.Unsettled first_no own last) cause = cause
        caused load_errors.NoMemory cause = never_for_memory whole handle running.modes.core running.begun refused cause

        -- the store can't be listed
        ends : (error : load.Error) → next ≡ fronts.Refused error
            → Promise first whole handle store running.modes running.begun running.task (unlisted error)
        ends error same =
            let seen = view_then whole handle running.modes.core running.begun in
            subst (λ task. Promise first whole handle store running.modes running.begun task (unlisted error)) (sym knows.of.task)
            (record {
              unchanged = unchanged;
              unread = only_unread_stores_are_refused setting seen all all_asked error (sym stands ∙ same);
              cause = caused error (refused_refreshes_have_causes setting seen all all_asked well.suited error (sym stands ∙ same));
            })

        -- its own turns begin
        begins_own : (own : RefreshStep) → IsReady own → next ≡ own
            → MachineComes first events e handle running writing KnowsOfWrite asked (own_result (result_of_write call))
        begins_own own is_ready same =
            subst (λ (c : LooseCall). MachineComes first events e handle running writing KnowsOfWrite asked (own_result (result_of_write c))) (sym knows.is)
            (ready own is_ready same)

        goes : (own : RefreshStep) → next ≡ own → Comes asked own
        goes (fronts.More more) same = goes_on more same
        goes (fronts.Read view) same = begins_own (fronts.Read view) tt same
        goes (fronts.Current view mine) same = begins_own (fronts.Current view mine) tt same
        goes (fronts.Outdated list_no) same = begins_own (fronts.Outdated list_no) tt same
        goes (fronts.Refused error) same = ends error same

    -- ---- a call of the disk, and an event of the core of its store

    pub front_comes_on_disk : IsRunning first events handle running → (ask : DiskAsk) → Asks (parts.Disk ask)
        → IsTurnAsking first events e handle running (Some (parts.Disk ask))
        → Comes (OfDisk ask (answer_now (disk_after first events) ask))
        (refreshes.fed store.parts.objects (listed_for store.parts) refresh (told.Disk (answer_now (disk_after first events) ask)))
    front_comes_on_disk ran ask is turn =
        let answer = answer_now (disk_after first events) ask in
        let exchange : Exchange = record { ask = parts.Disk ask; answer = told.Disk answer } in
        goes exchange is (told_call first events e handle running knows.since knows.well ran ask (own_stream ask is) turn)
        (answered_on_disk first events e handle running knows.since knows.well ran ask (own_stream ask is) turn)
        (refused_on_disk events e handle running.modes.core running.begun knows.refused ask answer
        (told_call first events e handle running knows.since knows.well ran ask (own_stream ask is) turn))
        (λ turn_it. turn.change ∙ front_quiet ask is) (OfDisk ask answer) refl refl
        (refreshes.fed store.parts.objects (listed_for store.parts) refresh (told.Disk answer)) refl

    pub front_comes_on_core : (event : CoreEvent) → Asks (parts.Core event)
        → IsTurnAsking first events e handle running (Some (parts.Core event))
        → Comes (OfCore running.modes.core handle event (answer_behind (history_at (cores_after events) running.modes.core) handle event))
        (refreshes.fed store.parts.objects (listed_for store.parts) refresh (told.Core (answer_behind (history_at (cores_after events) running.modes.core) handle event)))
    front_comes_on_core event is turn =
        let answer : CoreAnswer = answer_behind (history_at (cores_after events) running.modes.core) handle event in
        let exchange : Exchange = record { ask = parts.Core event; answer = told.Core answer } in
        goes exchange is (told_event first events e handle running knows.since knows.well event turn)
        (answered_on_core first events e handle running knows.since knows.well event turn)
        (refused_on_core events e handle running.modes.core running.begun knows.refused knows.since event turn.turn turn.asked
        (told_event first events e handle running knows.since knows.well event turn))
        (λ turn_it. turn.change) (OfCore running.modes.core handle event answer) refl refl
        (refreshes.fed store.parts.objects (listed_for store.parts) refresh (told.Core answer)) refl
