-- The seats of handles after a step that was applied.
use Rattle.std.proofs.Common.{◌≡◌, ◌≢◌, ℕ, ◌+◌, Bool, true, false, List, [], ◌∷◌, ◌++◌, length, None, Some, Ok, refl, sym, ◌∙◌, ap, subst}
use Rattle.std.specs.Prelude.{◌==◌, if◌then◌else◌}
use Rattle.std.proofs.lemmas.Bool.{eqb-true, eqb-false}
use Rattle.odb_disk.specs.MemDisk.{Volume}
use Rattle.gix_odb_calls.proofs.QueryLaws.{by_call-all}
use Rattle.gix_odb_calls.specs.declared.call.Call.{Call}
use Rattle.gix_odb_events.specs.declared.answer.Ask.TheVariants as parts
use Rattle.gix_odb.proofs.HandedLaws.{IsOfLooks, look_ups_ask_these_events_alone}
use Rattle.gix_odb.proofs.RefreshLaws.{refreshes_ask_events_of_looks_alone}
use Rattle.gix_odb_world.specs.Told.{look_now, refresh_now}
use Rattle.gix_odb.specs.declared.open_state.OpenStage.{OpenStage}
use Rattle.gix_odb.specs.declared.open_state.OpenStage.TheVariants as opens
use Rattle.gix_odb_core.specs.History.{History, present}
use Rattle.gix_odb_core.specs.Replay.{number_behind}
use Rattle.gix_odb_core.specs.Steps.{after}
use Rattle.gix_odb_core.specs.Views.{view_of}
use Rattle.gix_odb_events.specs.declared.event.Effect.{Effect}
use Rattle.gix_odb_events.specs.declared.event.Effect.TheVariants as effects
use Rattle.gix_odb_events.specs.declared.event.Event.TheVariants as core_events
use Rattle.gix_odb_events.specs.declared.view.View.{View}
use Rattle.gix_odb_calls.specs.declared.step.Step.{Step}
use Rattle.gix_odb_calls.specs.declared.step.Step.TheVariants as steps
use Rattle.gix_odb_calls.specs.declared.step.Outcome.TheVariants as outcomes
use Rattle.gix_odb_world.specs.Work.{Work}
use Rattle.gix_odb_world.specs.Work.{Opening}
use Rattle.gix_odb_world.specs.Asks.{AsksAsLook, AsksAsRefresh, MayAskCore}
use Rattle.gix_odb_history.specs.Cores.{cores_after, cores_after_asked, history_at}
use Rattle.gix_odb_history.specs.Event.{Asked, CoreEvent, Event, OfCore, OfNothing}
use Rattle.gix_odb_world.specs.Headline.{IsTurn, asked_applied, asked_by_clone, asked_by_close}
use Rattle.gix_odb_world.specs.Seats.{IsNowhere, IsSeated}
use Rattle.gix_odb_world.specs.Status.{Free, MakeCall, Modes, OpenStore, Resting, Status, Store, Task, Working, cloned, frozen_from, ignoring_from, modes_after}
use Rattle.gix_odb_world.specs.Status.{started, status_after, status_of, with_status}
use Rattle.gix_odb_world.proofs.HistoryLemmas.{cores_after-push}
use Rattle.gix_odb_world.specs.Valid.{is_openable, phase_of, why_not_after, why_not_clone, why_not_idle, why_not_open}
use Rattle.gix_odb_world.proofs.SeatLemmas.Elsewhere.{StaysOut, are_opened, out_other, out_removed}
use Rattle.gix_odb_world.proofs.SeatLemmas.Entered.{seated_joined, seated_other}
use Rattle.gix_odb_world.proofs.SeatLemmas.Opened.{IsOn}

-- the stand of a handle at work: one that opens its store is at an opening, and registered nowhere; one at a call is registered
abbrev pub StandsAt : List History → (handle : ℕ) → Modes → Work → Task → Type 0
StandsAt cores handle modes work OpenStore = (state : OpenStage) × (work ≡ Opening state) × IsOn state × IsNowhere cores handle
StandsAt cores handle modes work (MakeCall call) = IsSeated cores handle modes

abbrev pub Stands : List Event → (handle : ℕ) → Status → Type 0
Stands events handle Free = IsNowhere (cores_after events) handle
Stands events handle (Resting store modes) = IsSeated (cores_after events) handle modes
Stands events handle (Working running) = StandsAt (cores_after events) handle running.modes running.work running.task

-- a step that needs a free number finds one
is_free : (status : Status) (openable : Bool) → None ≡ why_not_open (phase_of status) openable → status ≡ Free
is_free Free openable valid = refl
is_free (Resting store modes) openable valid = absurd (cc valid)
is_free (Working running) openable valid = absurd (cc valid)

pub is_free_for_clone : (status parent : Status) → None ≡ why_not_clone (phase_of status) (phase_of parent) → (status ≡ Free) × (None ≡ why_not_idle (phase_of parent))
is_free_for_clone Free parent valid = (refl, valid)
is_free_for_clone (Resting store modes) parent valid = absurd (cc valid)
is_free_for_clone (Working running) parent valid = absurd (cc valid)

-- a task asks a core for nothing but what look-ups ask for
pub asks_of_looks : (past : List Event) (handle : ℕ) (store : Store) (modes : Modes) (begun : ℕ) (task : Task) (event : CoreEvent)
    → MayAskCore past handle store modes begun task event → IsOfLooks event
asks_of_looks past handle store modes begun OpenStore event asks = absurd asks
asks_of_looks past handle store modes begun (MakeCall call) event asks =
    by_call-all (λ (T : Type 0). T → IsOfLooks event) (λ query. AsksAsLook past handle store modes begun query (Some (parts.Core event)))
    (λ kind size bytes known. AsksAsRefresh past handle store modes begun (parts.Core event))
    (λ query asks. look_ups_ask_these_events_alone (look_now past handle store modes begun query) event asks)
    (λ kind size bytes known asks. refreshes_ask_events_of_looks_alone (refresh_now past handle store modes begun) event asks)
    call asks

module _ (past : List Event) (e : Event) where
  abbrev pub now : List Event
  now = past ++ e ∷ []

  abbrev pub before_it : List History
  before_it = cores_after past

  -- where a handle is seated it still is after the event, and where it isn't registered it still isn't
  pub record Carries (handle : ℕ) : Type 0 where
    pub seated : (modes : Modes) → IsSeated before_it handle modes → IsSeated (cores_after now) handle modes
    pub out : StaysOut before_it (cores_after now) handle

  pub now_is : (asked : Asked) → e.asked ≡ asked → cores_after now ≡ cores_after_asked before_it asked
  now_is asked is = cores_after-push past e ∙ ap (cores_after_asked before_it) is

  pub to_now : (asked : Asked) → e.asked ≡ asked → (handle : ℕ) (modes : Modes) → IsSeated (cores_after_asked before_it asked) handle modes → IsSeated (cores_after now) handle modes
  to_now asked is handle modes seated = subst (λ cs. IsSeated cs handle modes) (sym (now_is asked is)) seated

  pub nowhere_now : (asked : Asked) → e.asked ≡ asked → (handle : ℕ) → IsNowhere (cores_after_asked before_it asked) handle → IsNowhere (cores_after now) handle
  nowhere_now asked is handle nowhere = subst (λ cs. IsNowhere cs handle) (sym (now_is asked is)) nowhere

  pub carry_by : (asked : Asked) → e.asked ≡ asked → (handle : ℕ)
      → ((modes : Modes) → IsSeated before_it handle modes → IsSeated (cores_after_asked before_it asked) handle modes)
      → StaysOut before_it (cores_after_asked before_it asked) handle → Carries handle
  carry_by asked is handle seated out = record {
    seated = λ modes was. to_now asked is handle modes (seated modes was);
    out = subst (λ cs. StaysOut before_it cs handle) (sym (now_is asked is)) out;
  }

  pub carry_nothing : e.asked ≡ OfNothing → (handle : ℕ) → Carries handle
  carry_nothing is handle = carry_by OfNothing is handle (λ modes was. was) (λ store was. was)

  -- what an event of a core leaves of another handle
  pub carry_core : (store seat : ℕ) (event : CoreEvent) (effect : Effect) → e.asked ≡ OfCore store seat event (Ok effect) → (handle : ℕ) → handle ≢ seat → Carries handle
  carry_core store seat event effect is handle apart =
      carry_by (OfCore store seat event (Ok effect)) is handle (λ modes was. seated_other before_it store seat event effect handle modes apart was)
      (out_other before_it store seat event effect handle apart)

  over_task : (handle : ℕ) (modes : Modes) (work : Work) (task : Task) → Carries handle → StandsAt before_it handle modes work task
      → StandsAt (cores_after now) handle modes work task
  over_task handle modes work OpenStore carries stands = (stands.0, stands.1, stands.2, λ store. carries.out store (stands.3 store))
  over_task handle modes work (MakeCall call) carries stands = carries.seated modes stands

  over : (handle : ℕ) (status : Status) → Carries handle → Stands past handle status → Stands now handle status
  over handle Free carries stands = λ store. carries.out store (stands store)
  over handle (Resting store modes) carries stands = carries.seated modes stands
  over handle (Working running) carries stands = over_task handle running.modes running.work running.task carries stands

  module _ (before : (handle : ℕ) → Stands past handle (status_of past handle)) where
    abbrev pub table : ℕ → Status
    table = status_of past

    pub set : (number : ℕ) (status : Status) (handle : ℕ) → Stands now number status → (handle ≢ number → Stands now handle (table handle))
        → Stands now handle (with_status table number status handle)
    set number status handle here others = by_number (handle == number) refl
      where
        by_number : (same : Bool) → (handle == number) ≡ same → Stands now handle (if same then status else table handle)
        by_number true is = subst (λ h. Stands now h status) (sym (eqb-true handle number is)) here
        by_number false is = others (eqb-false handle number is)

    pub kept : (handle : ℕ) → Carries handle → Stands now handle (table handle)
    kept handle carries = over handle (table handle) carries (before handle)

    -- ---- steps that are applied

    close_at : (number : ℕ) (status : Status) → table number ≡ status → None ≡ why_not_idle (phase_of status) → e.asked ≡ asked_by_close before_it number status
        → (handle : ℕ) → Stands now handle (with_status table number Free handle)
    close_at number Free there valid is handle = absurd (cc valid)
    close_at number (Working running) there valid is handle = absurd (cc valid)
    close_at number (Resting store modes) there valid is handle =
        let own : IsSeated before_it number modes = subst (Stands past number) there (before number) in
        set number Free handle
        (nowhere_now _ is number (out_removed before_it modes.core number effects.Removed (are_opened past) own.history own.there own.only))
        (λ apart. kept handle (carry_core modes.core number core_events.Remove effects.Removed is handle apart))

    clone_at : (number from : ℕ) (parent : Status) → table number ≡ Free → None ≡ why_not_idle (phase_of parent) → Stands past from parent
        → e.asked ≡ asked_by_clone before_it number parent → (handle : ℕ) → Stands now handle (with_status table number (cloned e.asked parent) handle)
    clone_at number from Free free valid stands is handle = absurd (cc valid)
    clone_at number from (Working running) free valid stands is handle = absurd (cc valid)
    clone_at number from (Resting store modes) free valid stands is handle =
        let h : History = history_at before_it modes.core in
        let view : View = view_of (after (present h) number (core_events.Register false)) (number_behind h.entries) in
        let asked : Asked = asked_by_clone before_it number (Resting store modes) in
        let nowhere : IsNowhere before_it number = subst (Stands past number) free (before number) in
        let own : IsSeated (cores_after now) number (modes_after asked modes) =
        to_now asked is number (modes_after asked modes) (seated_joined before_it modes (modes_after asked modes) number from view (effects.Seen view) stands nowhere refl refl refl refl) in
        set number (cloned e.asked (Resting store modes)) handle
        (subst (λ a. IsSeated (cores_after now) number (modes_after a modes)) (sym is) own)
        (λ apart. kept handle (carry_core modes.core number (core_events.Register false) (effects.Seen view) is handle apart))

    freezing : (number : ℕ) (status : Status) → Carries number → Stands past number status → Stands now number (frozen_from status)
    freezing number Free carries stands = over number Free carries stands
    freezing number (Resting store modes) carries stands =
        let seated = carries.seated modes stands in
        record { history = seated.history; there = seated.there; slots = seated.slots; registered = seated.registered; only = seated.only; snapshot = seated.snapshot }
    freezing number (Working running) carries stands = over number (Working running) carries stands

    ignoring : (number : ℕ) (status : Status) → Carries number → Stands past number status → Stands now number (ignoring_from status)
    ignoring number Free carries stands = over number Free carries stands
    ignoring number (Resting store modes) carries stands =
        let seated = carries.seated modes stands in
        record { history = seated.history; there = seated.there; slots = seated.slots; registered = seated.registered; only = seated.only; snapshot = seated.snapshot }
    ignoring number (Working running) carries stands = over number (Working running) carries stands

    starting : (number n : ℕ) (call : Call) (status : Status) → Carries number → Stands past number status → Stands now number (started n call status)
    starting number n call Free carries stands = over number Free carries stands
    starting number n call (Resting store modes) carries stands = carries.seated modes stands
    starting number n call (Working running) carries stands = over number (Working running) carries stands

    opening : (number : ℕ) → table number ≡ Free → e.asked ≡ OfNothing → IsNowhere (cores_after now) number
    opening number free is store = let carries = carry_nothing is number in let was = subst (Stands past number) free (before number) in carries.out store (was store)

    module _ (first : Volume) where
      pub applied_by : (step : Step) → ¬ (IsTurn step) → None ≡ why_not_after first past step → e.asked ≡ asked_applied past step → (handle : ℕ)
          → Stands now handle (status_after (length past + 1) step outcomes.Applied e.asked table handle)
      applied_by (steps.Open number path folders hash replacements options) no_turn valid is handle =
          let free = is_free (table number) (is_openable path folders hash replacements options.max_changes) valid in
          set number _ handle (opens.Looking, refl, tt, opening number free is) (λ apart. kept handle (carry_nothing is handle))
      applied_by (steps.Clone number from) no_turn valid is handle =
          let free = is_free_for_clone (table number) (table from) valid in
          clone_at number from (table from) free.0 free.1 (before from) is handle
      applied_by (steps.Close number) no_turn valid is handle = close_at number (table number) refl valid is handle
      applied_by (steps.Never number) no_turn valid is handle =
          set number _ handle (freezing number (table number) (carry_nothing is number) (before number)) (λ apart. kept handle (carry_nothing is handle))
      applied_by (steps.Ignore number) no_turn valid is handle =
          set number _ handle (ignoring number (table number) (carry_nothing is number) (before number)) (λ apart. kept handle (carry_nothing is handle))
      applied_by (steps.Start number call) no_turn valid is handle =
          set number _ handle (starting number (length past + 1) call (table number) (carry_nothing is number) (before number))
          (λ apart. kept handle (carry_nothing is handle))
      applied_by (steps.Turn number) no_turn valid is handle = absurd (no_turn tt)
      applied_by (steps.Disk change) no_turn valid is handle = kept handle (carry_nothing is handle)
