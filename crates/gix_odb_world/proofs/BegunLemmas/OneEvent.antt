-- What one more event does to the steps from which a handle has its task, its store and its mode.
use Rattle.std.proofs.Common.{◌≡◌, ℕ, ◌+◌, ◌≤◌, ◌↔◌, true, List, [], ◌∷◌, ◌++◌, length, Some, None, refl, sym, ◌∙◌, ap, subst, arith, inl, inr, ◌⊎◌, take}
use Rattle.std.specs.Prelude.{slice_get}
use Rattle.std.proofs.lemmas.List.{length_push, take-append-le}
use Rattle.std.proofs.Math.Seq.{take-append_seam}
use Rattle.std.proofs.lemmas.Option.{slice_get_within}
use Rattle.odb_base.specs.Path.{Path}
use Rattle.gix_hash.specs.declared.kind.Kind.{Kind as HashKind}
use Rattle.gix_hash.specs.declared.object_id.ObjectId.{ObjectId}
use Rattle.gix_odb_calls.specs.declared.call.Call.{Call}
use Rattle.gix_odb_calls.specs.declared.init.Options.{Options}
use Rattle.gix_odb_calls.specs.declared.step.Step.{Step}
use Rattle.gix_odb_calls.specs.declared.step.Step.TheVariants as steps
use Rattle.gix_odb_calls.specs.declared.step.Outcome.TheVariants as outcomes
use Rattle.gix_odb.specs.declared.refresh_mode.RefreshMode.TheVariants.{Never}
use Rattle.gix_odb_history.specs.Event.{Event}
use Rattle.gix_odb_world.specs.Status.{MakeCall, OpenStore, Running, Status, Store, Task, Free, Resting, Working, frozen_from, ignoring_from}
use Rattle.gix_odb_world.specs.Status.{started, store_at, Modes, modes_at_opening, now_frozen, now_ignoring}
use Rattle.gix_odb_world.specs.Begun.{AppliedSince, BegunAs, BegunBy, FromClone, FromOpen, HoldsStore, IsIgnoreOf, IsNeverOf, IsOpenOf, IsTaskOf, NoneSince, OpenedBy}
use Rattle.gix_odb_world.specs.Valid.{phase_of, why_not_idle, why_not_start}
use Rattle.gix_odb_world.proofs.HistoryLemmas.{slice_get-kept, slice_get-last, slice_get-push}

-- ---- one step sets one task

same_event : (events : List Event) (p q : ℕ) (e f : Event) → p ≡ q → slice_get events p ≡ Some e → slice_get events q ≡ Some f → e ≡ f
same_event events p q e f same there other = let both : Some e ≡ Some f = sym there ∙ (ap (slice_get events) same ∙ other) in cc both

begun_once : (events : List Event) (handle begun : ℕ) (call other : Call) → BegunBy events handle begun call → BegunBy events handle begun other
    → call ≡ other
begun_once events handle begun call other a b =
    let place : a.place ≡ b.place = omega (arith, a.number, b.number) in
    let same : a.event ≡ b.event = same_event events a.place b.place a.event b.event place a.there b.there in
    let step : steps.Start handle call ≡ steps.Start handle other = sym a.starts ∙ (ap (λ (x : Event). x.step) same ∙ b.starts) in
    cc step

-- no event is both an open step and the start of a call
open_or_call : (events : List Event) (handle begun : ℕ) (store : Store) (call : Call) → OpenedBy events handle begun store
    → BegunBy events handle begun call → ⊥
open_or_call events handle begun store call o b =
    let place : o.place ≡ b.place = omega (arith, o.number, b.number) in
    let same : o.event ≡ b.event = same_event events o.place b.place o.event b.event place o.there b.there in
    let step : steps.Open handle o.path o.folders o.hash o.replacements o.options ≡ steps.Start handle call = sym o.opens ∙ (ap (λ (x : Event). x.step) same ∙ b.starts) in
    absurd (cc step)

pub one_task : (events : List Event) (handle begun : ℕ) (store : Store) (task other : Task) → BegunAs events handle begun store task
    → BegunAs events handle begun store other → task ≡ other
one_task events handle begun store OpenStore OpenStore a b = refl
one_task events handle begun store OpenStore (MakeCall call) a b = absurd (open_or_call events handle begun store call a b)
one_task events handle begun store (MakeCall call) OpenStore a b = absurd (open_or_call events handle begun store call b a)
one_task events handle begun store (MakeCall call) (MakeCall other) a b = ap MakeCall (begun_once events handle begun call other a b)

-- ---- what holds of a handle

-- its task was set by the latest step that sets one
pub record IsLatestTask (events : List Event) (handle : ℕ) (running : Running) : Type 0 where
  pub begins : BegunAs events handle running.begun running.store running.task
  pub latest : NoneSince (IsTaskOf handle) events running.begun

abbrev pub Stems : List Event → (handle : ℕ) → Status → Type 0
Stems events handle Free = Unit {0}
Stems events handle (Resting store modes) = HoldsStore events handle store modes
Stems events handle (Working running) = HoldsStore events handle running.store running.modes × IsLatestTask events handle running

open_is_task : (handle : ℕ) (step : Step) → IsOpenOf handle step → IsTaskOf handle step
open_is_task handle (steps.Open other path folders hash replacements options) is = is
open_is_task handle (steps.Clone other from) is = is
open_is_task handle step is = absurd is

-- ---- one more event

-- a step that sets a mode of a handle
abbrev pub IsModeOf : (handle : ℕ) → Step → Type 0
IsModeOf handle (steps.Never other) = other ≡ handle
IsModeOf handle (steps.Ignore other) = other ≡ handle
IsModeOf handle step = ⊥

never_is_mode : (handle : ℕ) (step : Step) → IsNeverOf handle step → IsModeOf handle step
never_is_mode handle (steps.Never other) is = is
never_is_mode handle step is = absurd is

ignore_is_mode : (handle : ℕ) (step : Step) → IsIgnoreOf handle step → IsModeOf handle step
ignore_is_mode handle (steps.Ignore other) is = is
ignore_is_mode handle step is = absurd is

module _ (events : List Event) (e : Event) where
  abbrev whole : List Event
  whole = events ++ e ∷ []

  -- the last event is no step of this kind
  abbrev Apart : (Step → Type 0) → Type 0
  Apart P = e.outcome ≡ outcomes.Applied → ¬ (P e.step)

  none_push : (P : Step → Type 0) (number : ℕ) → Apart P → NoneSince P events number → NoneSince P whole number
  none_push P number apart none place x later there applied is =
      elim (slice_get-push events e place x there) [
        | inl old ↦ none place x later old.1 applied is
        | inr last ↦ apart (ap (λ (y : Event). y.outcome) last.1 ∙ applied) (subst (λ (y : Event). P y.step) (sym last.1) is)
      ]

  -- there is no such step after the last event
  pub none_after : (P : Step → Type 0) → NoneSince P whole (length events + 1)
  none_after P place x later there applied is =
      let within = slice_get_within whole place x there in
      let count = length_push events e in
      omega (arith, within, later, count)

  no_applied_after : (P : Step → Type 0) → ¬ (AppliedSince P whole (length events + 1))
  no_applied_after P a = none_after P a.place a.event a.later a.there a.applied a.step

  applied_kept : (P : Step → Type 0) (number : ℕ) → AppliedSince P events number → AppliedSince P whole number
  applied_kept P number a = record { place = a.place; later = a.later; event = a.event; there = slice_get-kept events e a.place a.event a.there; applied = a.applied; step = a.step }

  applied_before : (P : Step → Type 0) (number : ℕ) → Apart P → AppliedSince P whole number → AppliedSince P events number
  applied_before P number apart a =
      elim (slice_get-push events e a.place a.event a.there) [
        | inl old ↦ record { place = a.place; later = a.later; event = a.event; there = old.1; applied = a.applied; step = a.step }
        | inr last ↦ absurd (apart (ap (λ (y : Event). y.outcome) last.1 ∙ a.applied) (subst (λ (y : Event). P y.step) (sym last.1) a.step))
      ]

  applied_now : (P : Step → Type 0) (number : ℕ) → number ≤ length events → e.outcome ≡ outcomes.Applied → P e.step → AppliedSince P whole number
  applied_now P number later applied is = record { place = length events; later = later; event = e; there = slice_get-last events e; applied = applied; step = is }

  opened_kept : (handle begun : ℕ) (store : Store) → OpenedBy events handle begun store → OpenedBy whole handle begun store
  opened_kept handle begun store o =
      record {
        place = o.place;
        number = o.number;
        event = o.event;
        there = slice_get-kept events e o.place o.event o.there;
        applied = o.applied;
        path = o.path;
        folders = o.folders;
        hash = o.hash;
        replacements = o.replacements;
        options = o.options;
        opens = o.opens;
        changes = o.changes;
        parts = o.parts;
      }

  begun_kept : (handle begun : ℕ) (store : Store) (task : Task) → BegunAs events handle begun store task → BegunAs whole handle begun store task
  begun_kept handle begun store OpenStore o = opened_kept handle begun store o
  begun_kept handle begun store (MakeCall call) b =
      record { place = b.place; number = b.number; event = b.event; there = slice_get-kept events e b.place b.event b.there; applied = b.applied; starts = b.starts }

  -- the last event opens a store
  pub opened_now : (handle : ℕ) (path : Path) (folders : List Path) (hash : HashKind) (replacements : List (ObjectId × ObjectId)) (options : Options)
      → e.step ≡ steps.Open handle path folders hash replacements options → e.outcome ≡ outcomes.Applied
      → OpenedBy whole handle (length events + 1) (store_at (length events + 1) path folders hash replacements options)
  opened_now handle path folders hash replacements options opens applied =
      record {
        place = length events;
        number = refl;
        event = e;
        there = slice_get-last events e;
        applied = applied;
        path = path;
        folders = folders;
        hash = hash;
        replacements = replacements;
        options = options;
        opens = opens;
        changes = refl;
        parts = refl;
      }

  -- ---- the store and its mode

  module _ (handle : ℕ) where
    pub holds_opened : (store : Store) → store.opened ≡ length events + 1 → OpenedBy whole handle store.opened store
        → HoldsStore whole handle store modes_at_opening
    holds_opened store number o =
        FromOpen o
        (subst (NoneSince (IsOpenOf handle) whole) (sym number) (none_after (IsOpenOf handle)))
        (λ is. absurd (cc is), λ a. absurd (no_applied_after (IsNeverOf handle) (subst (AppliedSince (IsNeverOf handle) whole) number a)))
        (λ is. absurd (cc is), λ a. absurd (no_applied_after (IsIgnoreOf handle) (subst (AppliedSince (IsIgnoreOf handle) whole) number a)))

    -- a mode that the steps since an event set is set by them still
    since_kept : (P : Step → Type 0) (A : Type 0) (number : ℕ) → Apart P → A ↔ AppliedSince P events number → A ↔ AppliedSince P whole number
    since_kept P A number apart both = (λ is. applied_kept P number (both.0 is), λ a. both.1 (applied_before P number apart a))

    either_kept : (P : Step → Type 0) (A B : Type 0) (number : ℕ) → Apart P → A ↔ (B ⊎ AppliedSince P events number) → A ↔ (B ⊎ AppliedSince P whole number)
    either_kept P A B number apart both = (λ is. wider (both.0 is), λ either. both.1 (narrower either))
      where
        wider : B ⊎ AppliedSince P events number → B ⊎ AppliedSince P whole number
        wider (inl was) = inl was
        wider (inr a) = inr (applied_kept P number a)

        narrower : B ⊎ AppliedSince P whole number → B ⊎ AppliedSince P events number
        narrower (inl was) = inl was
        narrower (inr a) = inr (applied_before P number apart a)

    -- what lay before a place still lies before it
    front_kept : (place : ℕ) (event : Event) → slice_get events place ≡ Some event → take place events ≡ take place whole
    front_kept place event there =
        let within = slice_get_within events place event there in
        sym (take-append-le place events (e ∷ []) (omega (arith, within)))

    -- the step sets none of the handle's modes
    no_never : Apart (IsModeOf handle) → Apart (IsNeverOf handle)
    no_never no_mode applied is = no_mode applied (never_is_mode handle e.step is)

    no_ignore : Apart (IsModeOf handle) → Apart (IsIgnoreOf handle)
    no_ignore no_mode applied is = no_mode applied (ignore_is_mode handle e.step is)

    holds_kept : (store : Store) (modes : Modes) → Apart (IsOpenOf handle) → Apart (IsModeOf handle) → HoldsStore events handle store modes
        → HoldsStore whole handle store modes
    holds_kept store modes no_open no_mode (FromOpen step latest frozen ignoring) =
        FromOpen (opened_kept handle store.opened store step) (none_push (IsOpenOf handle) store.opened no_open latest)
        (since_kept (IsNeverOf handle) (modes.refresh ≡ Never) store.opened (no_never no_mode) frozen)
        (since_kept (IsIgnoreOf handle) (modes.ignoring ≡ true) store.opened (no_ignore no_mode) ignoring)
    holds_kept store modes no_open no_mode (FromClone from place event parent there applied clones held latest frozen ignoring) =
        FromClone from place event parent (slice_get-kept events e place event there) applied clones
        (subst (λ front. HoldsStore front from store parent) (front_kept place event there) held)
        (none_push (IsOpenOf handle) (place + 1) no_open latest)
        (either_kept (IsNeverOf handle) (modes.refresh ≡ Never) (parent.refresh ≡ Never) (place + 1) (no_never no_mode) frozen)
        (either_kept (IsIgnoreOf handle) (modes.ignoring ≡ true) (parent.ignoring ≡ true) (place + 1) (no_ignore no_mode) ignoring)

    holds_ignoring : (store : Store) (modes : Modes) → e.step ≡ steps.Ignore handle → e.outcome ≡ outcomes.Applied
        → HoldsStore events handle store modes → HoldsStore whole handle store (now_ignoring modes)
    holds_ignoring store modes step applied (FromOpen o latest frozen ignoring) =
        let within = slice_get_within events o.place o.event o.there in
        let number = o.number in
        FromOpen (opened_kept handle store.opened store o) (none_push (IsOpenOf handle) store.opened (λ _ is. subst (IsOpenOf handle) step is) latest)
        (since_kept (IsNeverOf handle) (modes.refresh ≡ Never) store.opened (λ _ is. subst (IsNeverOf handle) step is) frozen)
        (λ _. applied_now (IsIgnoreOf handle) store.opened (omega (arith, within, number)) applied (subst (IsIgnoreOf handle) (sym step) refl), λ _. refl)
    holds_ignoring store modes step applied (FromClone from place event parent there own clones held latest frozen ignoring) =
        let within = slice_get_within events place event there in
        FromClone from place event parent (slice_get-kept events e place event there) own clones
        (subst (λ front. HoldsStore front from store parent) (front_kept place event there) held)
        (none_push (IsOpenOf handle) (place + 1) (λ _ is. subst (IsOpenOf handle) step is) latest)
        (either_kept (IsNeverOf handle) (modes.refresh ≡ Never) (parent.refresh ≡ Never) (place + 1) (λ _ is. subst (IsNeverOf handle) step is) frozen)
        (λ _. inr (applied_now (IsIgnoreOf handle) (place + 1) (omega (arith, within)) applied (subst (IsIgnoreOf handle) (sym step) refl)), λ _. refl)

    holds_frozen : (store : Store) (modes : Modes) → e.step ≡ steps.Never handle → e.outcome ≡ outcomes.Applied
        → HoldsStore events handle store modes → HoldsStore whole handle store (now_frozen modes)
    holds_frozen store modes step applied (FromOpen o latest frozen ignoring) =
        let within = slice_get_within events o.place o.event o.there in
        let number = o.number in
        FromOpen (opened_kept handle store.opened store o) (none_push (IsOpenOf handle) store.opened (λ _ is. subst (IsOpenOf handle) step is) latest)
        (λ _. applied_now (IsNeverOf handle) store.opened (omega (arith, within, number)) applied (subst (IsNeverOf handle) (sym step) refl), λ _. refl)
        (since_kept (IsIgnoreOf handle) (modes.ignoring ≡ true) store.opened (λ _ is. subst (IsIgnoreOf handle) step is) ignoring)
    holds_frozen store modes step applied (FromClone from place event parent there own clones held latest frozen ignoring) =
        let within = slice_get_within events place event there in
        FromClone from place event parent (slice_get-kept events e place event there) own clones
        (subst (λ front. HoldsStore front from store parent) (front_kept place event there) held)
        (none_push (IsOpenOf handle) (place + 1) (λ _ is. subst (IsOpenOf handle) step is) latest)
        (λ _. inr (applied_now (IsNeverOf handle) (place + 1) (omega (arith, within)) applied (subst (IsNeverOf handle) (sym step) refl)), λ _. refl)
        (either_kept (IsIgnoreOf handle) (modes.ignoring ≡ true) (parent.ignoring ≡ true) (place + 1) (λ _ is. subst (IsIgnoreOf handle) step is) ignoring)

    -- the last event is a clone of a handle that had the store
    pub holds_cloned : (from : ℕ) (store : Store) (parent modes : Modes) → modes.refresh ≡ parent.refresh → modes.ignoring ≡ parent.ignoring → e.step ≡ steps.Clone handle from → e.outcome ≡ outcomes.Applied
        → HoldsStore events from store parent → HoldsStore whole handle store modes
    holds_cloned from store parent modes same_refresh same step applied held =
        FromClone from (length events) e parent (slice_get-last events e) applied step
        (subst (λ front. HoldsStore front from store parent) (sym (take-append_seam events (e ∷ []))) held)
        (none_after (IsOpenOf handle))
        (λ is. inl (sym same_refresh ∙ is), λ either. froze either)
        (λ is. inl (sym same ∙ is), λ either. ignored either)
      where
        froze : (parent.refresh ≡ Never) ⊎ AppliedSince (IsNeverOf handle) whole (length events + 1) → modes.refresh ≡ Never
        froze (inl was) = same_refresh ∙ was
        froze (inr a) = absurd (no_applied_after (IsNeverOf handle) a)

        ignored : (parent.ignoring ≡ true) ⊎ AppliedSince (IsIgnoreOf handle) whole (length events + 1) → modes.ignoring ≡ true
        ignored (inl was) = same ∙ was
        ignored (inr a) = absurd (no_applied_after (IsIgnoreOf handle) a)

    -- ---- the task

    task_kept : (running : Running) → Apart (IsTaskOf handle) → IsLatestTask events handle running → IsLatestTask whole handle running
    task_kept running apart l =
        record { begins = begun_kept handle running.begun running.store running.task l.begins; latest = none_push (IsTaskOf handle) running.begun apart l.latest }

    pub stems_kept : (status : Status) → Apart (IsTaskOf handle) → Apart (IsModeOf handle) → Stems events handle status → Stems whole handle status
    stems_kept Free no_task no_mode stems = tt
    stems_kept (Resting store modes) no_task no_mode stems = holds_kept store modes (λ applied is. no_task applied (open_is_task handle e.step is)) no_mode stems
    stems_kept (Working running) no_task no_mode stems =
        (holds_kept running.store running.modes (λ applied is. no_task applied (open_is_task handle e.step is)) no_mode stems.0, task_kept running no_task stems.1)

    -- ---- what a step does to a handle

    pub stems_frozen : (status : Status) → None ≡ why_not_idle (phase_of status) → e.step ≡ steps.Never handle → e.outcome ≡ outcomes.Applied
        → Stems events handle status → Stems whole handle (frozen_from status)
    stems_frozen Free idle step applied stems = tt
    stems_frozen (Resting store modes) idle step applied stems = holds_frozen store modes step applied stems
    stems_frozen (Working running) idle step applied stems = absurd (cc idle)

    pub stems_ignoring : (status : Status) → None ≡ why_not_idle (phase_of status) → e.step ≡ steps.Ignore handle → e.outcome ≡ outcomes.Applied
        → Stems events handle status → Stems whole handle (ignoring_from status)
    stems_ignoring Free idle step applied stems = tt
    stems_ignoring (Resting store modes) idle step applied stems = holds_ignoring store modes step applied stems
    stems_ignoring (Working running) idle step applied stems = absurd (cc idle)

    pub stems_started : (call : Call) (status : Status) → None ≡ why_not_start (phase_of status) call → e.step ≡ steps.Start handle call
        → e.outcome ≡ outcomes.Applied → Stems events handle status → Stems whole handle (started (length events + 1) call status)
    stems_started call Free idle step applied stems = tt
    stems_started call (Resting store modes) idle step applied stems = (
      holds_kept store modes (λ _ is. subst (IsOpenOf handle) step is) (λ _ is. subst (IsModeOf handle) step is) stems,
      record { begins = record { place = length events; number = refl; event = e; there = slice_get-last events e; applied = applied; starts = step }; latest = none_after (IsTaskOf handle) },
    )
    stems_started call (Working running) idle step applied stems = absurd (cc idle)
