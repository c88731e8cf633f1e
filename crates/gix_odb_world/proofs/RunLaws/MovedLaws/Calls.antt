-- A handle that is at a call after an event was at it before, or the event began the call; and its core stays the same.
use Rattle.std.proofs.Common.{◌≡◌, ◌⊎◌, inl, inr, ℕ, ◌+◌, ◌≤◌, Bool, true, false, List, [], ◌∷◌, ◌++◌, length, Option, Some, None, Result, Ok, Err, refl, sym, ap, ◌∙◌, subst, arith}
use Rattle.std.specs.Prelude.{◌==◌, if◌then◌else◌}
use Rattle.std.proofs.lemmas.Bool.{eqb-true}
use Rattle.odb_disk.specs.MemDisk.{Volume}
use Rattle.gix_odb_calls.specs.declared.call.Call.{Call}
use Rattle.gix_odb_calls.specs.declared.call.Reply.{Reply}
use Rattle.gix_odb_calls.specs.declared.step.Step.{Step}
use Rattle.gix_odb_calls.specs.declared.step.Step.TheVariants as steps
use Rattle.gix_odb_calls.specs.declared.step.Outcome.{Outcome}
use Rattle.gix_odb_calls.specs.declared.step.Outcome.TheVariants as outcomes
use Rattle.gix_odb_world.specs.Work.{Work}
use Rattle.gix_odb_world.specs.AtWork.{MakeCall, Modes, Running, Task, modes_after}
use Rattle.gix_odb_world.specs.Asks.{AsksAsTask}
use Rattle.gix_odb_history.specs.Event.{Event, answered}
use Rattle.gix_odb_events.specs.declared.answer.Ask.{Ask}
use Rattle.gix_odb_events.specs.declared.answer.Ask.TheVariants as asks
use Rattle.gix_odb_world.specs.Headline.{Law, Works, stand_of}
use Rattle.gix_odb_world.specs.Machines.{fed_in}
use Rattle.gix_odb_history.specs.Run.{IsTurnOf, disk_after, told_now}
use Rattle.gix_odb_world.specs.Status.{Free, Resting, Status, Working, after_reply, cloned, come_to, frozen_from, ignoring_from, refuses_opening, replied, started, status_after, status_of, turned, with_status}
use Rattle.gix_odb_history.specs.Turned.{is_done}
use Rattle.gix_odb_world.proofs.HistoryLemmas.{status_of-push}

module _ (past : List Event) (e : Event) where
  abbrev now : List Event
  now = past ++ e ∷ []

  abbrev table : ℕ → Status
  table = status_of past

  -- a handle that is at work then was at it before, and its modes are those before or those after its own turn
  record WasAtCall (handle : ℕ) (running : Running) : Type 0 where
    was : Running
    status : table handle ≡ Working was
    begun : was.begun ≡ running.begun
    store : was.store ≡ running.store
    task : was.task ≡ running.task
    modes : (was.modes ≡ running.modes) ⊎ (IsTurnOf handle e × (running.modes ≡ modes_after e.asked was.modes))

  abbrev Comes : (handle : ℕ) → Status → Type 0
  Comes handle Free = Unit {0}
  Comes handle (Resting store modes) = Unit {0}
  Comes handle (Working running) = (running.begun ≡ length past + 1) ⊎ WasAtCall handle running

  comes_same : (handle : ℕ) (status : Status) → table handle ≡ status → Comes handle status
  comes_same handle Free is = tt
  comes_same handle (Resting store modes) is = tt
  comes_same handle (Working running) is = inr (record { was = running; status = is; begun = refl; store = refl; task = refl; modes = inl refl })

  comes_set : (number : ℕ) (status : Status) → Comes number status → (handle : ℕ) → Comes handle (with_status table number status handle)
  comes_set number status here handle = by (handle == number) refl
    where
      by : (b : Bool) → (handle == number) ≡ b → Comes handle (if b then status else table handle)
      by true is = subst (λ h. Comes h status) (sym (eqb-true handle number is)) here
      by false is = comes_same handle (table handle) refl

  comes_rest : (handle : ℕ) (reply : Reply) (rest : Status) → Comes handle rest → Comes handle (after_reply Free rest reply)
  comes_rest handle reply rest comes = by (refuses_opening reply)
    where
      by : (b : Bool) → Comes handle (if b then Free else rest)
      by true = tt
      by false = comes

  comes_cloned : (handle : ℕ) (parent : Status) → Comes handle (cloned e.asked parent)
  comes_cloned handle Free = tt
  comes_cloned handle (Resting store modes) = tt
  comes_cloned handle (Working running) = tt

  comes_frozen : (handle : ℕ) (status : Status) → table handle ≡ status → Comes handle (frozen_from status)
  comes_frozen handle Free is = tt
  comes_frozen handle (Resting store modes) is = tt
  comes_frozen handle (Working running) is = comes_same handle (Working running) is

  comes_ignoring : (handle : ℕ) (status : Status) → table handle ≡ status → Comes handle (ignoring_from status)
  comes_ignoring handle Free is = tt
  comes_ignoring handle (Resting store modes) is = tt
  comes_ignoring handle (Working running) is = comes_same handle (Working running) is

  comes_started : (handle : ℕ) (call : Call) (status : Status) → table handle ≡ status → Comes handle (started (length past + 1) call status)
  comes_started handle call Free is = tt
  comes_started handle call (Resting store modes) is = inl refl
  comes_started handle call (Working running) is = comes_same handle (Working running) is

  comes_come : (handle : ℕ) → IsTurnOf handle e → (running : Running) → table handle ≡ Working running → (result : Result Reply Work) → Comes handle (come_to e.asked running result)
  comes_come handle turn running is (Ok reply) = comes_rest handle reply (Resting running.store (modes_after e.asked running.modes)) tt
  comes_come handle turn running is (Err left) =
      inr (record { was = running; status = is; begun = refl; store = refl; task = refl; modes = inr (turn, refl) })

  comes_turned : (handle : ℕ) → IsTurnOf handle e → (status : Status) → table handle ≡ status → Comes handle (turned e.asked status)
  comes_turned handle turn Free is = tt
  comes_turned handle turn (Resting store modes) is = tt
  comes_turned handle turn (Working running) is = comes_come handle turn running is (fed_in running.store running.work (answered e.asked))

  comes_replied : (handle : ℕ) (reply : Reply) (status : Status) → table handle ≡ status → Comes handle (replied e.asked reply status)
  comes_replied handle reply Free is = tt
  comes_replied handle reply (Resting store modes) is = tt
  comes_replied handle reply (Working running) is = comes_rest handle reply (Resting running.store (modes_after e.asked running.modes)) tt

  comes_by : (step : Step) (outcome : Outcome) → e.step ≡ step → e.outcome ≡ outcome → (handle : ℕ) → Comes handle (status_after (length past + 1) step outcome e.asked table handle)
  comes_by (steps.Open number path folders hash replacements options) outcomes.Applied s o handle = comes_set number _ (inl refl) handle
  comes_by (steps.Clone number from) outcomes.Applied s o handle = comes_set number _ (comes_cloned number (table from)) handle
  comes_by (steps.Close number) outcomes.Applied s o handle = comes_set number Free tt handle
  comes_by (steps.Never number) outcomes.Applied s o handle = comes_set number _ (comes_frozen number (table number) refl) handle
  comes_by (steps.Ignore number) outcomes.Applied s o handle = comes_set number _ (comes_ignoring number (table number) refl) handle
  comes_by (steps.Start number call) outcomes.Applied s o handle = comes_set number _ (comes_started number call (table number) refl) handle
  comes_by (steps.Turn number) outcomes.Applied s o handle = comes_same handle (table handle) refl
  comes_by (steps.Disk change) outcomes.Applied s o handle = comes_same handle (table handle) refl
  comes_by (steps.Turn number) outcomes.Pending s o handle =
      comes_set number _ (comes_turned number (record { step = s; done = ap is_done o }) (table number) refl) handle
  comes_by (steps.Turn number) (outcomes.Reply reply) s o handle = comes_set number _ (comes_replied number reply (table number) refl) handle
  comes_by step outcomes.Pending s o handle = comes_same handle (table handle) refl
  comes_by step (outcomes.Reply reply) s o handle = comes_same handle (table handle) refl
  comes_by step (outcomes.Misuse why) s o handle = comes_same handle (table handle) refl

  comes : (handle : ℕ) → Comes handle (status_of now handle)
  comes handle = subst (λ (t : ℕ → Status). Comes handle (t handle)) (sym (status_of-push past e)) (comes_by e.step e.outcome refl refl handle)

  -- ---- at a call

  -- a handle that is at a call was at it before, in the same store and at the same core
  pub record IsCallBefore (handle : ℕ) (running : Running) : Type 0 where
    pub was : Running
    pub status : status_of past handle ≡ Working was
    pub begun : was.begun ≡ running.begun
    pub store : was.store ≡ running.store
    pub task : was.task ≡ running.task
    pub core : was.modes.core ≡ running.modes.core

  module _ (first : Volume) (law : Law first past e) (handle : ℕ) (running : Running) (call : Call) (calls : running.task ≡ MakeCall call) where
    turned_core : (was : Running) → status_of past handle ≡ Working was → was.task ≡ running.task → IsTurnOf handle e → (modes_after e.asked was.modes).core ≡ was.modes.core
    turned_core was status task turn = by works.ask refl
      where
        works : Works first past handle was e
        works = law.worked handle was (record { turn = turn; status = status })

        asked : (ask : Option Ask) → works.ask ≡ ask → (modes_after e.asked was.modes).core ≡ (modes_after (told_now (stand_of past handle was) (disk_after first past) ask) was.modes).core
        asked ask is = ap (λ a. (modes_after a was.modes).core) (works.told ∙ ap (told_now (stand_of past handle was) (disk_after first past)) is)

        by : (ask : Option Ask) → works.ask ≡ ask → (modes_after e.asked was.modes).core ≡ was.modes.core
        by None is = asked None is
        by (Some (asks.Disk ask)) is = asked (Some (asks.Disk ask)) is
        by (Some (asks.Core event)) is = asked (Some (asks.Core event)) is
        by (Some (asks.NewCore slots folders)) is =
            absurd
            (subst (λ (t : Task). AsksAsTask first past handle was.store was.modes was.begun was.turns t (Some (asks.NewCore slots folders))) (task ∙ calls)
            (subst (AsksAsTask first past handle was.store was.modes was.begun was.turns was.task) is works.in_order))

    core_before : (at : WasAtCall handle running) → at.was.modes.core ≡ running.modes.core
    core_before at = by at.modes
      where
        by : (at.was.modes ≡ running.modes) ⊎ (IsTurnOf handle e × (running.modes ≡ modes_after e.asked at.was.modes)) → at.was.modes.core ≡ running.modes.core
        by (inl same) = ap (λ (m : Modes). m.core) same
        by (inr turn) = sym (turned_core at.was at.status at.task turn.0) ∙ sym (ap (λ (m : Modes). m.core) turn.1)

    pub call_before : status_of now handle ≡ Working running → running.begun ≤ length past → IsCallBefore handle running
    call_before status old = by (subst (Comes handle) status (comes handle))
      where
        by : Comes handle (Working running) → IsCallBefore handle running
        by (inl fresh) = absurd (omega (arith, fresh, old))
        by (inr at) = record { was = at.was; status = at.status; begun = at.begun; store = at.store; task = at.task; core = core_before at }
