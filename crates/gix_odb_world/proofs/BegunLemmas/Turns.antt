-- The turns that running work tells are those that its handle took since the work began, after each event of a lawful run.
use Rattle.std.proofs.Common.{◌≡◌, ℕ, ◌+◌, ◌≤◌, Bool, true, false, cond, List, [], ◌∷◌, ◌++◌, length, drop, Result, Ok, Err, refl, sym, ◌∙◌, ap, subst, arith}
use Rattle.std.specs.Prelude.{◌&&◌, ◌==◌, if◌then◌else◌, count_by}
use Rattle.std.proofs.lemmas.Bool.{eqb-true}
use Rattle.std.proofs.lemmas.List.{drop-append-le, drop_all, length_push}
use Rattle.std.proofs.lemmas.List.Sums.{sum_by_push}
use Rattle.odb_disk.specs.MemDisk.{Volume}
use Rattle.odb_base.specs.Path.{Path}
use Rattle.gix_hash.specs.declared.kind.Kind.{Kind as HashKind}
use Rattle.gix_hash.specs.declared.object_id.ObjectId.{ObjectId}
use Rattle.gix_odb_calls.specs.declared.call.Call.{Call}
use Rattle.gix_odb_calls.specs.declared.call.Reply.{Reply}
use Rattle.gix_odb_calls.specs.declared.init.Options.{Options}
use Rattle.gix_odb_calls.specs.declared.step.Step.{Step}
use Rattle.gix_odb_calls.specs.declared.step.Step.TheVariants as steps
use Rattle.gix_odb_calls.specs.declared.step.Outcome.{Outcome}
use Rattle.gix_odb_calls.specs.declared.step.Outcome.TheVariants as outcomes
use Rattle.gix_odb_world.specs.Work.{Work}
use Rattle.gix_odb_history.specs.Event.{Asked, Event, answered}
use Rattle.gix_odb_world.specs.Status.{MakeCall, OpenStore, Running, Status, Store, Task, Free, Resting, Working, Modes, modes_at_opening}
use Rattle.gix_odb_world.specs.Status.{cloned, come_to, frozen_from, gone_on, ignoring_from, modes_after}
use Rattle.gix_odb_world.specs.Status.{opening_at, refuses_opening, replied, running_from, started, status_after, status_of, store_at, turned, with_status}
use Rattle.gix_odb_world.specs.Begun.{is_turn_of, turns_since}
use Rattle.gix_odb_world.specs.Machines.{fed_in}
use Rattle.gix_odb_history.specs.Turned.{is_done, turns_handle}
use Rattle.gix_odb_world.specs.Headline.{IsLawful, IsTurn, Law, Suits}
use Rattle.gix_odb_world.proofs.AlongRun.{along_run}
use Rattle.gix_odb_world.proofs.ToldLemmas.{turned_by}

-- running work counts as many turns as its handle took since it began
abbrev pub Counts : List Event → (handle : ℕ) → Status → Type 0
Counts events handle (Working running) = (running.begun ≤ length events) × (running.turns ≡ turns_since events handle running.begun)
Counts events handle status = Unit {0}

-- ---- one more event

and_false : (b : Bool) → (b && false) ≡ false
and_false true = refl
and_false false = refl

-- what an event adds, by whether it is a turn
abbrev added : Bool → ℕ
added is = cond is 1 0

module _ (past : List Event) (e : Event) where
  abbrev whole : List Event
  whole = past ++ e ∷ []

  turns_since-push : (handle number : ℕ) → number ≤ length past
      → turns_since whole handle number ≡ turns_since past handle number + added (is_turn_of handle e)
  turns_since-push handle number within =
      ap (count_by (is_turn_of handle)) (drop-append-le number past (e ∷ []) within)
      ∙ sum_by_push (λ (x : Event). added (is_turn_of handle x)) (drop number past) e

  -- one that is no turn of the handle adds none
  counts_kept : (handle : ℕ) (status : Status) → is_turn_of handle e ≡ false → Counts past handle status → Counts whole handle status
  counts_kept handle Free other counts = tt
  counts_kept handle (Resting store modes) other counts = tt
  counts_kept handle (Working running) other counts =
      let now = turns_since-push handle running.begun counts.0 in
      let none : added (is_turn_of handle e) ≡ 0 = ap added other in
      let count = length_push past e in
      let within = counts.0 in
      (omega (arith, within, count), omega (arith, counts.1, now, none))

  -- a turn of it adds one
  counts_more : (handle : ℕ) (running : Running) (asked : Asked) (left : Work) → is_turn_of handle e ≡ true → Counts past handle (Working running)
      → Counts whole handle (Working (gone_on asked running left))
  counts_more handle running asked left turn counts =
      let now = turns_since-push handle running.begun counts.0 in
      let one : added (is_turn_of handle e) ≡ 1 = ap added turn in
      let count = length_push past e in
      let within = counts.0 in
      (omega (arith, within, count), omega (arith, counts.1, now, one))

  -- work that the last event began has had none
  counts_new : (handle : ℕ) (task : Task) (store : Store) (modes : Modes) → Counts whole handle (Working (running_from (length past + 1) task store modes))
  counts_new handle task store modes =
      let count = length_push past e in
      (omega (arith, count), sym (ap (count_by (is_turn_of handle)) (drop_all (length past + 1) whole (omega (arith, count)))))

  counts_rest : (handle : ℕ) (store : Store) (modes : Modes) (frees : Bool) → Counts whole handle (if frees then Free else Resting store modes)
  counts_rest handle store modes true = tt
  counts_rest handle store modes false = tt

  -- ---- what a step does to its handle

  counts_frozen : (handle : ℕ) (status : Status) → is_turn_of handle e ≡ false → Counts past handle status → Counts whole handle (frozen_from status)
  counts_frozen handle Free other counts = tt
  counts_frozen handle (Resting store modes) other counts = tt
  counts_frozen handle (Working running) other counts = counts_kept handle (Working running) other counts

  counts_ignoring : (handle : ℕ) (status : Status) → is_turn_of handle e ≡ false → Counts past handle status → Counts whole handle (ignoring_from status)
  counts_ignoring handle Free other counts = tt
  counts_ignoring handle (Resting store modes) other counts = tt
  counts_ignoring handle (Working running) other counts = counts_kept handle (Working running) other counts

  counts_cloned : (handle : ℕ) (asked : Asked) (parent : Status) → Counts whole handle (cloned asked parent)
  counts_cloned handle asked Free = tt
  counts_cloned handle asked (Resting store modes) = tt
  counts_cloned handle asked (Working running) = tt

  counts_started : (handle : ℕ) (call : Call) (status : Status) → is_turn_of handle e ≡ false → Counts past handle status
      → Counts whole handle (started (length past + 1) call status)
  counts_started handle call Free other counts = tt
  counts_started handle call (Resting store modes) other counts = counts_new handle (MakeCall call) store modes
  counts_started handle call (Working running) other counts = counts_kept handle (Working running) other counts

  counts_come : (handle : ℕ) (running : Running) (asked : Asked) (result : Result Reply Work) → is_turn_of handle e ≡ true
      → Counts past handle (Working running) → Counts whole handle (come_to asked running result)
  counts_come handle running asked (Ok reply) turn counts = counts_rest handle running.store (modes_after asked running.modes) (refuses_opening reply)
  counts_come handle running asked (Err left) turn counts = counts_more handle running asked left turn counts

  counts_turned : (handle : ℕ) (asked : Asked) (status : Status) → is_turn_of handle e ≡ true → Counts past handle status → Counts whole handle (turned asked status)
  counts_turned handle asked Free turn counts = tt
  counts_turned handle asked (Resting store modes) turn counts = tt
  counts_turned handle asked (Working running) turn counts = counts_come handle running asked (fed_in running.store running.work (answered asked)) turn counts

  counts_replied : (handle : ℕ) (asked : Asked) (reply : Reply) (status : Status) → Counts whole handle (replied asked reply status)
  counts_replied handle asked reply Free = tt
  counts_replied handle asked reply (Resting store modes) = tt
  counts_replied handle asked reply (Working running) = counts_rest handle running.store (modes_after asked running.modes) (refuses_opening reply)

-- ---- what an event does to all handles

module _ (first : Volume) (past : List Event) (e : Event) (law : Law first past e) (before : (handle : ℕ) → Counts past handle (status_of past handle)) where
  abbrev now : List Event
  now = past ++ e ∷ []

  abbrev table : ℕ → Status
  table = status_of past

  by_step : (handle : ℕ) (step : Step) → e.step ≡ step → turns_handle handle step ≡ false → is_turn_of handle e ≡ false
  by_step handle step is other = ap (λ s. is_done e.outcome && turns_handle handle s) is ∙ (ap (λ b. is_done e.outcome && b) other ∙ and_false (is_done e.outcome))

  -- a handle that the step doesn't turn
  apart : (handle : ℕ) → is_turn_of handle e ≡ false → Counts now handle (table handle)
  apart handle other = counts_kept past e handle (table handle) other (before handle)

  -- a handle that isn't the step's, where the step is its own handle's turn or none
  counts_set : (number : ℕ) (status : Status) → Counts now number status → ((handle : ℕ) → (handle == number) ≡ false → is_turn_of handle e ≡ false)
      → (handle : ℕ) → Counts now handle (with_status table number status handle)
  counts_set number status here others handle = by_number (handle == number) refl
    where
      by_number : (same : Bool) → (handle == number) ≡ same → Counts now handle (if same then status else table handle)
      by_number true is = subst (λ h. Counts now h status) (sym (eqb-true handle number is)) here
      by_number false is = apart handle (others handle is)

  counts_opened : (number : ℕ) (path : Path) (folders : List Path) (hash : HashKind) (replacements : List (ObjectId × ObjectId)) (options : Options)
      → e.step ≡ steps.Open number path folders hash replacements options → (handle : ℕ)
      → Counts now handle (with_status table number (opening_at (length past + 1) (store_at (length past + 1) path folders hash replacements options)) handle)
  counts_opened number path folders hash replacements options is =
      counts_set number (opening_at (length past + 1) (store_at (length past + 1) path folders hash replacements options))
      (counts_new past e number OpenStore (store_at (length past + 1) path folders hash replacements options) modes_at_opening) (λ h _. by_step h _ is refl)

  counts_applied : (step : Step) → e.step ≡ step → ¬ (IsTurn step) → (handle : ℕ)
      → Counts now handle (status_after (length past + 1) step outcomes.Applied e.asked table handle)
  counts_applied (steps.Open number path folders hash replacements options) is no_turn handle = counts_opened number path folders hash replacements options is handle
  counts_applied (steps.Clone number from) is no_turn handle =
      counts_set number (cloned e.asked (table from)) (counts_cloned past e number e.asked (table from)) (λ h _. by_step h _ is refl) handle
  counts_applied (steps.Close number) is no_turn handle = counts_set number Free tt (λ h _. by_step h _ is refl) handle
  counts_applied (steps.Never number) is no_turn handle =
      counts_set number (frozen_from (table number)) (counts_frozen past e number (table number) (by_step number _ is refl) (before number)) (λ h _. by_step h _ is refl) handle
  counts_applied (steps.Ignore number) is no_turn handle =
      counts_set number (ignoring_from (table number)) (counts_ignoring past e number (table number) (by_step number _ is refl) (before number)) (λ h _. by_step h _ is refl) handle
  counts_applied (steps.Start number call) is no_turn handle =
      counts_set number (started (length past + 1) call (table number))
      (counts_started past e number call (table number) (by_step number _ is refl) (before number)) (λ h _. by_step h _ is refl) handle
  counts_applied (steps.Turn number) is no_turn handle = absurd (no_turn tt)
  counts_applied (steps.Disk change) is no_turn handle = apart handle (by_step handle _ is refl)

  own_turn : (number : ℕ) → is_done e.outcome ≡ true → e.step ≡ steps.Turn number → is_turn_of number e ≡ true
  own_turn number done is = turned_by number e (record { step = is; done = done })

  counts_pending : (step : Step) → is_done e.outcome ≡ true → e.step ≡ step → IsTurn step → (handle : ℕ)
      → Counts now handle (status_after (length past + 1) step outcomes.Pending e.asked table handle)
  counts_pending (steps.Turn number) done is turn handle =
      counts_set number (turned e.asked (table number)) (counts_turned past e number e.asked (table number) (own_turn number done is) (before number))
      (λ h other. by_step h _ is other) handle
  counts_pending step done is turn handle = absurd turn

  counts_answered : (step : Step) (reply : Reply) → e.step ≡ step → IsTurn step → (handle : ℕ)
      → Counts now handle (status_after (length past + 1) step (outcomes.Reply reply) e.asked table handle)
  counts_answered (steps.Turn number) reply is turn handle =
      counts_set number (replied e.asked reply (table number)) (counts_replied past e number e.asked reply (table number)) (λ h other. by_step h _ is other) handle
  counts_answered step reply is turn handle = absurd turn

  counts_by : (outcome : Outcome) → e.outcome ≡ outcome → Suits e.step outcome e.asked → (handle : ℕ)
      → Counts now handle (status_after (length past + 1) e.step outcome e.asked table handle)
  counts_by outcomes.Applied out suits handle = counts_applied e.step refl suits.0 handle
  counts_by outcomes.Pending out suits handle = counts_pending e.step (ap is_done out) refl suits.0 handle
  counts_by (outcomes.Reply reply) out suits handle = counts_answered e.step reply refl suits handle
  -- a misused turn is none
  counts_by (outcomes.Misuse why) out suits handle = apart handle (ap (λ o. is_done o && turns_handle handle e.step) out)

-- ---- along a run

pub counts_now : (first : Volume) (events : List Event) → IsLawful first events → (handle : ℕ) → Counts events handle (status_of events handle)
counts_now first events lawful =
    along_run Counts first events lawful (λ handle. tt) (λ past e law before. counts_by first past e law before e.outcome refl law.suits)
