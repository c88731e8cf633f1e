-- A handle that is at a write after an event, whose file is made, was at it before.
use Rattle.std.proofs.Common.{◌≡◌, inl, inr, ℕ, ◌<◌, Bool, true, false, List, Option, Ok, Err, Result, refl, sym, ap, ◌∙◌, subst, arith}
use Rattle.std.specs.Prelude.{if◌then◌else◌, ◌==◌}
use Rattle.std.proofs.lemmas.Bool.{eqb-true}
use Rattle.odb_disk.specs.MemDisk.{Volume}
use Rattle.gix_odb_loose.specs.declared.call.LooseCall.{LooseCall}
use Rattle.gix_odb_calls.specs.declared.call.Call.{Call}
use Rattle.gix_odb_calls.specs.declared.call.Reply.{Reply}
use Rattle.gix_odb_calls.specs.declared.step.Outcome.{Outcome}
use Rattle.gix_odb_calls.specs.declared.step.Outcome.TheVariants as outcomes
use Rattle.gix_odb_calls.specs.declared.step.Step.{Step}
use Rattle.gix_odb_calls.specs.declared.step.Step.TheVariants as steps
use Rattle.gix_odb_world.specs.Work.{Work}
use Rattle.gix_odb_history.specs.Event.{Asked, Event, answered}
use Rattle.gix_odb_events.specs.declared.answer.Answer.{Answer}
use Rattle.gix_odb_world.specs.Machines.{fed_in, write_in}
use Rattle.gix_odb_world.specs.Running.{Knows, Runs}
use Rattle.gix_odb_world.specs.Status.{IsAtWrite, MakeCall, Running, Store, Status, Free, Resting, Working, after_turn_of, applied, come_to, frozen_from, gone_on, ignoring_from, modes_after, cloned}
use Rattle.gix_odb_world.specs.Status.{opening_at, refuses_opening, replied, running_from, started, status_after, turned, with_status, Modes, now_frozen, now_ignoring}
use Rattle.gix_odb_world.proofs.MachineLaws.{HasNoFile}
use Rattle.gix_odb_world.proofs.WorkLaws.{wrote_before}

-- ---- a handle at a write that has made its file was at it before

-- a handle is at a write in a store that it began at a step
pub record AtWrite (store : Store) (begun : ℕ) (status : Status) : Type 0 where
  pub running : Running
  pub call : LooseCall
  pub at : IsAtWrite status running call
  pub in_store : running.store ≡ store
  pub since : running.begun ≡ begun

-- and the write has made its file
pub record AtFile (store : Store) (begun : ℕ) (status : Status) : Type 0 where
  pub at : AtWrite store begun status
  pub past : ¬ (HasNoFile at.call)

one_running : (running other : Running) → Working running ≡ Working other → running ≡ other
one_running running other same = cc same

module _ (store : Store) (begun : ℕ) where
  abbrev Before : Status → Type 0
  Before = AtWrite store begun

  abbrev After : Status → Type 0
  After = AtFile store begun

  no_write_free : ¬ (Before Free)
  no_write_free a = let is = a.at.works in cc is

  no_write_resting : (own : Store) (modes : Modes) → ¬ (Before (Resting own modes))
  no_write_resting own modes a = let is = a.at.works in cc is

  rests : (own : Store) (modes : Modes) (frees : Bool) → ¬ (Before (if frees then Free else Resting own modes))
  rests own modes true = no_write_free
  rests own modes false = no_write_resting own modes

  -- a reply ends it
  pub ended : (asked : Asked) (reply : Reply) (status : Status) → ¬ (Before (replied asked reply status))
  ended asked reply Free = no_write_free
  ended asked reply (Resting own modes) = no_write_resting own modes
  ended asked reply (Working running) = rests running.store (modes_after asked running.modes) (refuses_opening reply)

  come_before : (first : Volume) (events : List Event) (handle : ℕ) (running : Running) → Knows first events handle running running.work
      → (asked : Asked) (answer : Option Answer) (result : Result Reply Work) → fed_in running.store running.work answer ≡ result
      → After (come_to asked running result) → Before (Working running)
  come_before first events handle running knows asked answer (Ok reply) is f = absurd (rests running.store (modes_after asked running.modes) (refuses_opening reply) f.at)
  come_before first events handle running knows asked answer (Err left) is f =
      let a : Before (Working (gone_on asked running left)) = f.at in
      let same : gone_on asked running left ≡ a.running = one_running (gone_on asked running left) a.running a.at.works in
      elim (wrote_before first events handle running running.work left answer a.call knows is (ap (λ (r : Running). write_in r.work) same ∙ a.at.writes)) [
        | inl was ↦ record {
          running = running;
          call = was.0;
          at = record { works = refl; writes = was.1 };
          in_store = ap (λ (r : Running). r.store) same ∙ a.in_store;
          since = ap (λ (r : Running). r.begun) same ∙ a.since;
        }
        | inr none ↦ absurd (f.past none)
      ]

  turned_before : (first : Volume) (events : List Event) (handle : ℕ) (asked : Asked) (status : Status) → Runs first events handle status
      → After (turned asked status) → Before status
  turned_before first events handle asked Free runs a = a.at
  turned_before first events handle asked (Resting own modes) runs a = a.at
  turned_before first events handle asked (Working running) runs a =
      come_before first events handle running runs.1 asked (answered asked) (fed_in running.store running.work (answered asked)) refl a

  frozen_before : (status : Status) → Before (frozen_from status) → Before status
  frozen_before Free a = a
  frozen_before (Resting own modes) a = absurd (no_write_resting own (now_frozen modes) a)
  frozen_before (Working running) a = a

  ignoring_before : (status : Status) → Before (ignoring_from status) → Before status
  ignoring_before Free a = a
  ignoring_before (Resting own modes) a = absurd (no_write_resting own (now_ignoring modes) a)
  ignoring_before (Working running) a = a

  cloned_before : (asked : Asked) (status : Status) → ¬ (Before (cloned asked status))
  cloned_before asked Free = no_write_free
  cloned_before asked (Resting own modes) = no_write_resting own (modes_after asked modes)
  cloned_before asked (Working running) = no_write_free

  started_before : (number : ℕ) (call : Call) (status : Status) → begun < number → Before (started number call status) → Before status
  started_before number call Free soon a = a
  started_before number call (Resting own modes) soon a =
      let same : running_from number (MakeCall call) own modes ≡ a.running = one_running (running_from number (MakeCall call) own modes) a.running a.at.works in
      let at : number ≡ begun = ap (λ (r : Running). r.begun) same ∙ a.since in
      absurd (omega (arith, at, soon))
  started_before number call (Working running) soon a = a

  opened_before : (number : ℕ) (own : Store) (status : Status) → begun < number → Before (opening_at number own) → Before status
  opened_before number own status soon a =
      let at : number ≡ begun = ap (λ (r : Running). r.begun) (one_running _ a.running a.at.works) ∙ a.since in
      absurd (omega (arith, at, soon))

  module _ (first : Volume) (events : List Event) (table : ℕ → Status) (runs : (handle : ℕ) → Runs first events handle (table handle)) (handle : ℕ) where
    set_before : (number : ℕ) (status : Status) → (After status → Before (table number)) → After (with_status table number status handle)
        → Before (table handle)
    set_before number status back = by_number (handle == number) refl
      where
        by_number : (same : Bool) → (handle == number) ≡ same → After (if same then status else table handle) → Before (table handle)
        by_number true is a = subst (λ n. Before (table n)) (sym (eqb-true handle number is)) (back a)
        by_number false is a = a.at

    applied_before : (number : ℕ) (asked : Asked) (step : Step) → begun < number → After (applied number asked step table handle) → Before (table handle)
    applied_before number asked (steps.Open h path folders hash replacements options) soon = set_before h _ (λ a. opened_before number _ (table h) soon a.at)
    applied_before number asked (steps.Clone h from) soon = set_before h _ (λ b. absurd (cloned_before asked (table from) b.at))
    applied_before number asked (steps.Close h) soon = set_before h _ (λ b. absurd (no_write_free b.at))
    applied_before number asked (steps.Never h) soon = set_before h _ (λ a. frozen_before (table h) a.at)
    applied_before number asked (steps.Ignore h) soon = set_before h _ (λ a. ignoring_before (table h) a.at)
    applied_before number asked (steps.Start h call) soon = set_before h _ (λ a. started_before number call (table h) soon a.at)
    applied_before number asked step soon = λ a. a.at

    after_turn_before : (step : Step) (next : Status → Status) → ((number : ℕ) → After (next (table number)) → Before (table number))
        → After (after_turn_of step next table handle) → Before (table handle)
    after_turn_before (steps.Turn h) next back = set_before h _ (back h)
    after_turn_before step next back = λ a. a.at

    pub write_before : (number : ℕ) (step : Step) (outcome : Outcome) (asked : Asked) → begun < number
        → After (status_after number step outcome asked table handle) → Before (table handle)
    write_before number step outcomes.Applied asked soon = applied_before number asked step soon
    write_before number step outcomes.Pending asked soon = after_turn_before step (turned asked) (λ h. turned_before first events h asked (table h) (runs h))
    write_before number step (outcomes.Reply reply) asked soon = after_turn_before step (replied asked reply) (λ h b. absurd (ended asked reply (table h) b.at))
    write_before number step (outcomes.Misuse why) asked soon = λ a. a.at
