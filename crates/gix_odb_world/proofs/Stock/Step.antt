-- What one event does to the cores of stores, and to whose cores they are.
pub mod Grown
use Rattle.std.proofs.Common.{◌≡◌, ℕ, ◌+◌, ◌≤◌, Bool, true, false, List, [], ◌∷◌, ◌++◌, length, Option, Some, None, refl, sym, ◌∙◌, ap, subst}
use Rattle.std.specs.Prelude.{◌==◌, slice_get, unwrap_or, if◌then◌else◌}
use Rattle.std.specs.List.{last_or}
use Rattle.odb_disk.specs.MemDisk.{Volume}
use Rattle.gix_hash.specs.declared.object_id.ObjectId.{ObjectId}
use Rattle.gix_odb_core.specs.History.{History, opened, present}
use Rattle.gix_odb_core.specs.Replay.{CanHappen}
use Rattle.gix_odb_events.specs.declared.event.Event.TheVariants as core_events
use Rattle.gix_odb_events.specs.declared.answer.Ask.{Ask}
use Rattle.gix_odb_events.specs.declared.answer.Ask.TheVariants as parts
use Rattle.odb_disk.specs.declared.ask.DiskAsk.{DiskAsk}
use Rattle.gix_odb_calls.specs.declared.call.Reply.{Reply}
use Rattle.gix_odb_calls.specs.declared.call.Reply.TheVariants as replies
use Rattle.gix_odb_calls.specs.declared.call.CallError.TheVariants as call_errors
use Rattle.gix_odb_calls.specs.declared.step.Step.{Step}
use Rattle.gix_odb_calls.specs.declared.step.Step.TheVariants as steps
use Rattle.gix_odb_calls.specs.declared.step.Outcome.{Outcome}
use Rattle.gix_odb_calls.specs.declared.step.Outcome.TheVariants as outcomes
use Rattle.gix_odb.specs.LookUpOrder as looks
use Rattle.gix_odb.specs.Shown.{IsHanded}
use Rattle.gix_odb.proofs.FoundLaws.{what_is_handed_was_shown}
use Rattle.gix_odb_world.proofs.HappenLaws.{what_is_handed_can_happen}
use Rattle.gix_odb.specs.RefreshOrder as refreshes
use Rattle.gix_odb.proofs.RefreshLaws.{what_a_refresh_hands_on_is_of_the_folders}
use Rattle.gix_odb_world.proofs.RefreshHappenLaws.{what_a_refresh_hands_on_can_happen}
use Rattle.gix_odb.specs.Contents.{sought}
use Rattle.gix_odb.specs.Fair.{PackedPlace}
use Rattle.gix_odb.proofs.PublishedLaws.{look_ups_publish_what_stayed, refreshes_publish_what_stayed}
use Rattle.gix_odb.specs.declared.call_state.CallStage.TheVariants.{Looking, Refreshing, Refused, Writing}
use Rattle.gix_odb.specs.declared.open_state.OpenStage.TheVariants as opens
use Rattle.gix_odb_loose.specs.LooseOrder.{disk_ask_of}
use Rattle.gix_odb_world.specs.Work.{Work}
use Rattle.gix_odb_world.specs.Work.{Opening, Calling}
use Rattle.gix_odb_world.specs.Asks.{AsksAsTask, MayAskCore, MayAskNewCore}
use Rattle.gix_odb_world.specs.AtWork.{MakeCall, OpenStore, Running, Store, Task, modes_after, setting_in}
use Rattle.gix_odb_history.specs.Cores.{cores_after, history_at}
use Rattle.gix_odb_history.specs.Event.{Asked, CoreAnswer, CoreEvent, Event, OfNewCore, OfNothing, answered}
use Rattle.gix_odb.specs.CallOrder.{loose_ask}
use Rattle.gix_odb_world.specs.Headline.{IsLawful, IsTurn, Law, Suits, Works, asked_applied, asked_by_clone, asked_by_close, stand_of}
use Rattle.gix_odb_world.specs.Machines.{ask_in, fed_in}
use Rattle.gix_odb_world.specs.Promise.{Promise}
use Rattle.gix_odb_history.specs.Run.{disk_after, told_now, tree_at}
use Rattle.gix_odb_world.specs.Running.{Knows, Runs}
use Rattle.gix_odb_world.specs.Running.PackedStill.{IsPackedStill}
use Rattle.gix_odb_world.specs.Seats.{HasSeat, IsNowhere}
use Rattle.gix_odb_world.specs.Status.{Free, Resting, Status, Working, cloned, come_to, frozen_from, ignoring_from, refuses_opening, replied, started, status_after, status_of, turned, with_status}
use Rattle.gix_odb_world.specs.Told.{told_since, view_then}
use Rattle.gix_odb_history.specs.Turned.{is_done}
use Rattle.gix_odb_world.specs.Valid.{misuse_of, why_not_after}
use Rattle.gix_odb_world.proofs.HistoryLemmas.{slice_get-last, status_of-push}
use Rattle.gix_odb_world.proofs.SeatLemmas.{seats_now}
use Rattle.gix_odb_world.proofs.SeatLemmas.Applied.{is_free_for_clone}
use Rattle.gix_odb_world.proofs.SeatLemmas.Opened.{left_of}
use Rattle.gix_odb_world.proofs.ReadsShown.{reads_were_shown}
use Rattle.gix_odb_world.proofs.RunSteps.{at_work, turn_step}
use Rattle.gix_odb_world.proofs.PackedStill.Moments.{still_later}
use Rattle.gix_odb_world.proofs.Stock.OneCore.{ListsStill, ShownSince, lists_if_published}
use Rattle.gix_odb_world.proofs.Stock.Owned.{AreStocked, Owns, OwnsAt}
use Rattle.gix_odb_world.proofs.Stock.Step.Grown.{GrowsTo, grown_core, grown_new, grown_same}
use Rattle.gix_odb_world.proofs.ValidLaws.{done_if_sound, valid_if_sound}

-- the last of a list
last_is : {A : Type 0} (xs : List A) (x : A) (o : Option A) → last_or o (xs ++ x ∷ []) ≡ Some x
last_is [] x o = refl
last_is (y ∷ xs) x o = last_is xs x (Some y)

-- a call on loose objects asks a core for nothing
no_loose_event : (asked : Option DiskAsk) (event : CoreEvent) → ¬ (loose_ask asked ≡ Some (parts.Core event))
no_loose_event None event is = cc is
no_loose_event (Some ask) event is = cc is

module _ (first : Volume) (past : List Event) (e : Event) (lawful : IsLawful first past) (runs : (handle : ℕ) → Runs first past handle (status_of past handle))
    (law : Law first past e) (before : AreStocked first past) where
  abbrev now : List Event
  now = past ++ e ∷ []

  abbrev cores : List History
  cores = cores_after past

  abbrev table : ℕ → Status
  table = status_of past

  seat : (handle : ℕ) → HasSeat past handle (table handle)
  seat handle = seats_now first past lawful handle

  -- ---- whose they are

  owns_kept : (stores : List Store) → GrowsTo first past e before stores → (status : Status) → Owns before.stores status → Owns stores status
  owns_kept stores grows Free owns = tt
  owns_kept stores grows (Resting store modes) owns = grows.keeps modes.core store owns
  owns_kept stores grows (Working running) owns = by running.task owns
    where
      by : (task : Task) → OwnsAt before.stores running.store running.modes task → OwnsAt stores running.store running.modes task
      by OpenStore owns = tt
      by (MakeCall call) owns = grows.keeps running.modes.core running.store owns

  kept : (stores : List Store) → GrowsTo first past e before stores → (handle : ℕ) → Owns stores (table handle)
  kept stores grows handle = owns_kept stores grows (table handle) (before.owned handle)

  set : (stores : List Store) → GrowsTo first past e before stores → (number : ℕ) (status : Status) → Owns stores status → (handle : ℕ) → Owns stores (with_status table number status handle)
  set stores grows number status here handle = by (handle == number)
    where
      by : (b : Bool) → Owns stores (if b then status else table handle)
      by true = here
      by false = kept stores grows handle

  finish : (stores : List Store) → GrowsTo first past e before stores → ((handle : ℕ) → Owns stores (status_after (length past + 1) e.step e.outcome e.asked table handle)) → AreStocked first now
  finish stores grows owned = record {
    stores = stores;
    long = grows.long;
    each = grows.each;
    owned = λ handle. subst (λ (t : ℕ → Status). Owns stores (t handle)) (sym (status_of-push past e)) (owned handle);
  }

  after_is : (step : Step) (outcome : Outcome) → e.step ≡ step → e.outcome ≡ outcome → (handle : ℕ) → (stores : List Store)
      → Owns stores (status_after (length past + 1) step outcome e.asked table handle) → Owns stores (status_after (length past + 1) e.step e.outcome e.asked table handle)
  after_is step outcome step_is out handle stores owns =
      subst (λ s. Owns stores (status_after (length past + 1) s e.outcome e.asked table handle)) (sym step_is)
      (subst (λ o. Owns stores (status_after (length past + 1) step o e.asked table handle)) (sym out) owns)

  -- ---- a step that was applied

  owns_frozen : (stores : List Store) (status : Status) → Owns stores status → Owns stores (frozen_from status)
  owns_frozen stores Free owns = tt
  owns_frozen stores (Resting store modes) owns = owns
  owns_frozen stores (Working running) owns = owns

  owns_ignoring : (stores : List Store) (status : Status) → Owns stores status → Owns stores (ignoring_from status)
  owns_ignoring stores Free owns = tt
  owns_ignoring stores (Resting store modes) owns = owns
  owns_ignoring stores (Working running) owns = owns

  applied : (step : Step) → e.step ≡ step → e.outcome ≡ outcomes.Applied → e.asked ≡ asked_applied past step → None ≡ why_not_after first past step → AreStocked first now
  applied (steps.Open number path folders hash replacements options) step out is valid =
      let grows = grown_same first past e before OfNothing is refl in
      finish before.stores grows (λ handle. after_is _ _ step out handle before.stores (set before.stores grows number _ tt handle))
  applied (steps.Never number) step out is valid =
      let grows = grown_same first past e before OfNothing is refl in
      finish before.stores grows
      (λ handle. after_is _ _ step out handle before.stores (set before.stores grows number _ (owns_frozen before.stores (table number) (kept before.stores grows number)) handle))
  applied (steps.Ignore number) step out is valid =
      let grows = grown_same first past e before OfNothing is refl in
      finish before.stores grows
      (λ handle. after_is _ _ step out handle before.stores (set before.stores grows number _ (owns_ignoring before.stores (table number) (kept before.stores grows number)) handle))
  applied (steps.Start number call) step out is valid =
      let grows = grown_same first past e before OfNothing is refl in
      finish before.stores grows (λ handle. after_is _ _ step out handle before.stores (set before.stores grows number _ (by (table number) (kept before.stores grows number)) handle))
    where
      by : (status : Status) → Owns before.stores status → Owns before.stores (started (length past + 1) call status)
      by Free owns = tt
      by (Resting store modes) owns = owns
      by (Working running) owns = owns
  applied (steps.Turn number) step out is valid =
      let grows = grown_same first past e before OfNothing is refl in
      finish before.stores grows (λ handle. after_is _ _ step out handle before.stores (kept before.stores grows handle))
  applied (steps.Disk change) step out is valid =
      let grows = grown_same first past e before OfNothing is refl in
      finish before.stores grows (λ handle. after_is _ _ step out handle before.stores (kept before.stores grows handle))
  applied (steps.Close number) step out is valid = by (table number) refl (seat number) is
    where
      by : (status : Status) → table number ≡ status → HasSeat past number status → e.asked ≡ asked_by_close cores number status → AreStocked first now
      by Free at has is =
          let grows = grown_same first past e before OfNothing is refl in
          finish before.stores grows (λ handle. after_is _ _ step out handle before.stores (set before.stores grows number Free tt handle))
      by (Working running) at has is =
          let grows = grown_same first past e before OfNothing is refl in
          finish before.stores grows (λ handle. after_is _ _ step out handle before.stores (set before.stores grows number Free tt handle))
      by (Resting store modes) at has is =
          let there : history_at cores modes.core ≡ has.history = ap (λ o. unwrap_or o (opened 0 0 0 0)) has.there in
          let grows = grown_core first past e before modes.core number core_events.Remove is (subst (λ h. CanHappen (present h) number core_events.Remove) (sym there) has.registered) (λ own has. tt) (λ own has. tt) in
          finish before.stores grows (λ handle. after_is _ _ step out handle before.stores (set before.stores grows number Free tt handle))
  applied (steps.Clone number from) step out is valid = by (table from) refl (seat number) (before.owned from) is
    where
      free : table number ≡ Free
      free = (is_free_for_clone (table number) (table from) valid).0

      by : (parent : Status) → table from ≡ parent → HasSeat past number (table number) → Owns before.stores (table from) → e.asked ≡ asked_by_clone cores number parent → AreStocked first now
      by Free at has owns is =
          let grows = grown_same first past e before OfNothing is refl in
          finish before.stores grows (λ handle. after_is _ _ step out handle before.stores
          (set before.stores grows number _ (subst (λ s. Owns before.stores (cloned e.asked s)) (sym at) tt) handle))
      by (Working running) at has owns is =
          let grows = grown_same first past e before OfNothing is refl in
          finish before.stores grows (λ handle. after_is _ _ step out handle before.stores
          (set before.stores grows number _ (subst (λ s. Owns before.stores (cloned e.asked s)) (sym at) tt) handle))
      by (Resting store modes) at has owns is =
          let nowhere : IsNowhere cores number = subst (HasSeat past number) free has in
          let own : slice_get before.stores modes.core ≡ Some store = subst (Owns before.stores) at owns in
          let grows = grown_core first past e before modes.core number (core_events.Register false) is (nowhere modes.core) (λ other has. tt) (λ other has. tt) in
          finish before.stores grows (λ handle. after_is _ _ step out handle before.stores
          (set before.stores grows number _
          (subst (λ s. Owns before.stores (cloned e.asked s)) (sym at)
          (subst (λ a. slice_get before.stores (modes_after a modes).core ≡ Some store) (sym is) own)) handle))

  -- ---- a turn

  module _ (number : ℕ) (running : Running) (step : e.step ≡ steps.Turn number) (status : table number ≡ Working running) (works : Works first past number running e) where
    abbrev told : Option Ask → Asked
    told ask = told_now (stand_of past number running) (disk_after first past) ask

    owned_now : OwnsAt before.stores running.store running.modes running.task
    owned_now = subst (Owns before.stores) status (before.owned number)

    knows : Knows first past number running running.work
    knows = (subst (Runs first past number) status (runs number)).1

    -- what stayed unchanged in a pack since the store was opened did so since the task was set
    later : (id : ObjectId) (place : PackedPlace) → running.store.opened ≤ running.begun
        → IsPackedStill (tree_at first past) running.store running.store.opened (length past) id place
        → IsPackedStill (tree_at first past) running.store running.begun (length past) id place
    later id place early still = still_later (tree_at first past) running.store running.store.opened running.begun (length past) id place early still

    -- what work asks a core for can happen, and is what was read
    module _ (event : CoreEvent) where
      handed_by : (work : Work) → ask_in running.store work ≡ Some (parts.Core event) → Knows first past number running work
          → IsHanded (ShownSince first past running.store) (setting_in running.store) running.store.parts.object_hash event × CanHappen (present (history_at cores running.modes.core)) number event
      handed_by (Opening opens.Looking) is knows = absurd (cc is)
      handed_by (Opening (opens.Listing lister percent minimum)) is knows = absurd (cc is)
      handed_by (Opening (opens.Registering slots)) is knows = absurd (cc is)
      handed_by (Opening (opens.Done reply)) is knows = absurd (cc is)
      handed_by (Calling (Refused error)) is knows = absurd (cc is)
      handed_by (Calling (Refreshing refresh call)) is knows =
          let asked = ap refreshes.asked_of (sym knows.refresh_is) ∙ is in
          let setting = setting_in running.store in
          let snapshot = view_then past number running.modes.core running.begun in
          let exchanges = told_since past number running.begun in (
            what_a_refresh_hands_on_is_of_the_folders setting snapshot exchanges knows.asked (ShownSince first past running.store) running.store.parts.object_hash
                (reads_were_shown first past lawful number running.begun running.store.opened knows.opened) event asked,
            what_a_refresh_hands_on_can_happen setting snapshot exchanges knows.asked knows.distinct event asked (present (history_at cores running.modes.core)) number,
          )
      handed_by (Calling (Writing call)) is knows = absurd (no_loose_event (disk_ask_of call) event is)
      handed_by (Calling (Looking look)) is knows =
          let asked = ap looks.ask_of (sym knows.is) ∙ is in
          let setting = setting_in running.store in
          let id = sought running.store.parts running.modes.ignoring knows.query in
          let view = view_then past number running.modes.core running.begun in
          let exchanges = told_since past number running.begun in (
            what_is_handed_was_shown (ShownSince first past running.store) setting running.store.parts.object_hash knows.query.want id knows.fits.hashed running.modes.refresh view knows.well.snapshot exchanges
                knows.asked knows.well.truth (parts.Core event) asked,
            what_is_handed_can_happen setting knows.fits.distinct running.modes.refresh view knows.query.want id exchanges knows.asked event asked (present (history_at cores running.modes.core)) number,
          )

      -- and a listing has what stayed unchanged in a pack
      lists_by : (work : Work) → ask_in running.store work ≡ Some (parts.Core event) → Knows first past number running work → ListsStill first past running.store event
      lists_by (Opening opens.Looking) is knows = absurd (cc is)
      lists_by (Opening (opens.Listing lister percent minimum)) is knows = absurd (cc is)
      lists_by (Opening (opens.Registering slots)) is knows = absurd (cc is)
      lists_by (Opening (opens.Done reply)) is knows = absurd (cc is)
      lists_by (Calling (Refused error)) is knows = absurd (cc is)
      lists_by (Calling (Refreshing refresh call)) is knows =
          let asked = ap refreshes.asked_of (sym knows.refresh_is) ∙ is in
          lists_if_published first past running.store event
          (λ listing same id place among still.
          refreshes_publish_what_stayed (setting_in running.store) running.store.parts.object_hash id place still.carried among
          (view_then past number running.modes.core running.begun) (told_since past number running.begun) knows.asked
          (knows.well.met id place (later id place knows.opened still)) listing (asked ∙ ap (λ (own : CoreEvent). Some (parts.Core own)) same))
      lists_by (Calling (Writing call)) is knows = absurd (no_loose_event (disk_ask_of call) event is)
      lists_by (Calling (Looking look)) is knows =
          let asked = ap looks.ask_of (sym knows.is) ∙ is in
          lists_if_published first past running.store event
          (λ listing same id place among still.
          look_ups_publish_what_stayed (setting_in running.store) running.store.parts.object_hash id place still.carried among running.modes.refresh
          (view_then past number running.modes.core running.begun) knows.query.want (sought running.store.parts running.modes.ignoring knows.query)
          (told_since past number running.begun) knows.asked
          (knows.well.met id place (later id place knows.well.opened still)) listing (asked ∙ ap (λ (own : CoreEvent). Some (parts.Core own)) same))

    -- the opening of an open store has the core that it made
    opening_made : (task : Task) → running.task ≡ task → task ≡ OpenStore → (reply : Reply) → e.outcome ≡ outcomes.Reply reply → refuses_opening reply ≡ false
        → (slots : ℕ) × (folders : ℕ) × (core : ℕ) × (seat : ℕ) × (answer : CoreAnswer) × (e.asked ≡ OfNewCore slots folders core seat answer)
    opening_made task task_is opens_it reply out sound =
        by reply sound
        (subst (λ t. Promise first now number running.store running.modes running.begun t reply) (task_is ∙ opens_it)
        (law.promise number running running.task reply (record { turn = record { step = step; done = ap is_done out }; status = status }) works.begins out))
      where
        by : (reply : Reply) → refuses_opening reply ≡ false → Promise first now number running.store running.modes running.begun OpenStore reply
            → (slots : ℕ) × (folders : ℕ) × (core : ℕ) × (seat : ℕ) × (answer : CoreAnswer) × (e.asked ≡ OfNewCore slots folders core seat answer)
        by (replies.Opened slots) sound promise =
            let made = promise.core in
            let same : Some made.event ≡ Some e = sym (last_is made.past made.event None) ∙ (ap (last_or None) (sym made.last) ∙ last_is past e None) in
            let is : made.event ≡ e = cc same in
            (_, _, made.core, made.seat, made.answer, ap (λ (x : Event). x.asked) (sym is) ∙ made.asked)
        by (replies.Refused (call_errors.Open error)) sound promise = absurd (cc sound)
        by reply sound promise = absurd promise

    -- a turn that makes no core leaves the handle at its own
    rests_by : (asked : Asked) → e.asked ≡ asked → (modes_after asked running.modes).core ≡ running.modes.core
        → ((slots folders core seat : ℕ) (answer : CoreAnswer) → ¬ (asked ≡ OfNewCore slots folders core seat answer))
        → (task : Task) → running.task ≡ task → OwnsAt before.stores running.store running.modes task
        → (reply : Reply) → e.outcome ≡ outcomes.Reply reply → refuses_opening reply ≡ false
        → slice_get before.stores (modes_after e.asked running.modes).core ≡ Some running.store
    rests_by asked is same other OpenStore task_is owns reply out sound =
        let made = opening_made OpenStore task_is refl reply out sound in absurd (other made.0 made.1 made.2 made.3 made.4 (sym is ∙ made.5))
    rests_by asked is same other (MakeCall call) task_is owns reply out sound =
        ap (λ a. slice_get before.stores (modes_after a running.modes).core) is ∙ (ap (slice_get before.stores) same ∙ owns)

    goes_by : (asked : Asked) → e.asked ≡ asked → (modes_after asked running.modes).core ≡ running.modes.core → (task : Task)
        → OwnsAt before.stores running.store running.modes task → OwnsAt before.stores running.store (modes_after e.asked running.modes) task
    goes_by asked is same OpenStore owns = tt
    goes_by asked is same (MakeCall call) owns = ap (λ a. slice_get before.stores (modes_after a running.modes).core) is ∙ (ap (slice_get before.stores) same ∙ owns)

    -- how the cores grow by what was asked, and whose core the handle has then
    record TurnGrows : Type 0 where
      stores : List Store
      grows : GrowsTo first past e before stores
      rests : (reply : Reply) → e.outcome ≡ outcomes.Reply reply → refuses_opening reply ≡ false → slice_get stores (modes_after e.asked running.modes).core ≡ Some running.store
      goes : OwnsAt stores running.store (modes_after e.asked running.modes) running.task

    grown_by_new : (slots folders : ℕ) → e.asked ≡ told (Some (parts.NewCore slots folders)) → (task : Task) → running.task ≡ task
        → MayAskNewCore past number running.store running.begun task slots folders → TurnGrows
    grown_by_new slots folders is (MakeCall call) task_is may = absurd may
    grown_by_new slots folders is OpenStore task_is may =
        let long = before.long in
        record {
          stores = before.stores ++ running.store ∷ [];
          grows = grown_new first past e before running.store slots folders number may.2 is;
          rests = λ reply out sound.
              ap (λ a. slice_get (before.stores ++ running.store ∷ []) (modes_after a running.modes).core) is
              ∙ (ap (slice_get (before.stores ++ running.store ∷ [])) (sym long) ∙ slice_get-last before.stores running.store);
          goes = subst (OwnsAt (before.stores ++ running.store ∷ []) running.store (modes_after e.asked running.modes)) (sym task_is) tt;
        }

    turn_grows : (ask : Option Ask) → e.asked ≡ told ask → ask_in running.store running.work ≡ ask
        → AsksAsTask first past number running.store running.modes running.begun running.turns running.task ask → TurnGrows
    turn_grows None is asks order = record {
      stores = before.stores;
      grows = grown_same first past e before OfNothing is refl;
      rests = rests_by OfNothing is refl (λ slots folders core seat answer same. cc same) running.task refl owned_now;
      goes = goes_by OfNothing is refl running.task owned_now;
    }
    turn_grows (Some (parts.Disk ask)) is asks order = record {
      stores = before.stores;
      grows = grown_same first past e before (told (Some (parts.Disk ask))) is refl;
      rests = rests_by (told (Some (parts.Disk ask))) is refl (λ slots folders core seat answer same. cc same) running.task refl owned_now;
      goes = goes_by (told (Some (parts.Disk ask))) is refl running.task owned_now;
    }
    turn_grows (Some (parts.Core event)) is asks order =
        let own = handed_by event running.work asks knows in
        record {
          stores = before.stores;
          grows =
              grown_core first past e before running.modes.core number event is own.1
              (λ store has.
              one_store (λ (o : Store). IsHanded (ShownSince first past o) (setting_in o) o.parts.object_hash event) store has order own.0)
              (λ store has. one_store (λ (o : Store). ListsStill first past o event) store has order (lists_by event running.work asks knows));
          rests = rests_by (told (Some (parts.Core event))) is refl (λ slots folders core seat answer same. cc same) running.task refl owned_now;
          goes = goes_by (told (Some (parts.Core event))) is refl running.task owned_now;
        }
      where
        -- the core of the handle is that of its own store alone
        one_store : (P : Store → Type 0) (store : Store) → slice_get before.stores running.modes.core ≡ Some store
            → MayAskCore past number running.store running.modes running.begun running.task event → P running.store → P store
        one_store P store has may own =
            let both : Some running.store ≡ Some store = sym (owned_by running.task may owned_now) ∙ has in
            let same : running.store ≡ store = cc both in
            subst P same own
          where
            owned_by : (task : Task) → MayAskCore past number running.store running.modes running.begun task event → OwnsAt before.stores running.store running.modes task
                → slice_get before.stores running.modes.core ≡ Some running.store
            owned_by OpenStore may owns = absurd may
            owned_by (MakeCall call) may owns = owns
    turn_grows (Some (parts.NewCore slots folders)) is asks order = grown_by_new slots folders is running.task refl order

    grown : TurnGrows
    grown = turn_grows works.ask works.told works.asks works.in_order

    pending : e.outcome ≡ outcomes.Pending → AreStocked first now
    pending out =
        let left = left_of (fed_in running.store running.work (answered e.asked)) (sym works.goes ∙ out) in
        finish grown.stores grown.grows
        (λ handle. after_is (steps.Turn number) outcomes.Pending step out handle grown.stores
        (set grown.stores grown.grows number (turned e.asked (table number))
        (subst (λ s. Owns grown.stores (turned e.asked s)) (sym status)
        (subst (λ r. Owns grown.stores (come_to e.asked running r)) (sym left.1) grown.goes)) handle))

    replying : (reply : Reply) → e.outcome ≡ outcomes.Reply reply → AreStocked first now
    replying reply out =
        finish grown.stores grown.grows
        (λ handle. after_is (steps.Turn number) (outcomes.Reply reply) step out handle grown.stores
        (set grown.stores grown.grows number (replied e.asked reply (table number))
        (subst (λ s. Owns grown.stores (replied e.asked reply s)) (sym status) (by (refuses_opening reply) refl)) handle))
      where
        by : (b : Bool) → refuses_opening reply ≡ b
            → Owns grown.stores (if b then Free else Resting running.store (modes_after e.asked running.modes))
        by true is = tt
        by false is = grown.rests reply out is

  -- ---- any event

  turn_of : IsTurn e.step → misuse_of e.outcome ≡ None
      → (number : ℕ) × (e.step ≡ steps.Turn number) × (running : Running) × (table number ≡ Working running) × Works first past number running e
  turn_of turn sound =
      let t = turn_step e.step turn in
      let valid = valid_if_sound first past e law sound ∙ ap (why_not_after first past) t.1 in
      let a = at_work (table t.0) valid in
      (t.0, t.1, a.0, a.1, law.worked t.0 a.0 (record { turn = record { step = t.1; done = done_if_sound e.outcome sound }; status = a.1 }))

  by_outcome : (outcome : Outcome) → e.outcome ≡ outcome → Suits e.step outcome e.asked → AreStocked first now
  by_outcome outcomes.Applied out suits = applied e.step refl out (law.applied out) (valid_if_sound first past e law (ap misuse_of out))
  by_outcome outcomes.Pending out suits = let t = turn_of suits.0 (ap misuse_of out) in pending t.0 t.2 t.1 t.3 t.4 out
  by_outcome (outcomes.Reply reply) out suits = let t = turn_of suits (ap misuse_of out) in replying t.0 t.2 t.1 t.3 t.4 reply out
  by_outcome (outcomes.Misuse why) out suits =
      let grows = grown_same first past e before OfNothing suits refl in
      finish before.stores grows (λ handle. subst (λ o. Owns before.stores (status_after (length past + 1) e.step o e.asked table handle)) (sym out) (kept before.stores grows handle))

  -- one more event
  pub stocked_on : AreStocked first now
  stocked_on = by_outcome e.outcome refl law.suits
