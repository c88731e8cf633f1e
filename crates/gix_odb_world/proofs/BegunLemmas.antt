-- From which steps a handle has its task, its store and its mode, after each event of a lawful run.
pub mod OneEvent
pub mod OneTurn
pub mod Turns
use Rattle.std.proofs.Common.{◌≡◌, ◌≢◌, ℕ, ◌+◌, Bool, true, false, List, [], ◌∷◌, ◌++◌, length, None, refl, sym, subst}
use Rattle.std.specs.Prelude.{◌==◌, if◌then◌else◌}
use Rattle.std.proofs.lemmas.Bool.{eqb-true, eqb-false}
use Rattle.odb_base.specs.Path.{Path}
use Rattle.odb_disk.specs.MemDisk.{Volume}
use Rattle.gix_hash.specs.declared.kind.Kind.{Kind as HashKind}
use Rattle.gix_hash.specs.declared.object_id.ObjectId.{ObjectId}
use Rattle.gix_odb_calls.specs.declared.init.Options.{Options}
use Rattle.gix_odb_calls.specs.declared.step.Step.{Step}
use Rattle.gix_odb_calls.specs.declared.step.Step.TheVariants as steps
use Rattle.gix_odb_calls.specs.declared.step.Outcome.{Outcome}
use Rattle.gix_odb_calls.specs.declared.step.Outcome.TheVariants as outcomes
use Rattle.gix_odb_history.specs.Event.{Event}
use Rattle.gix_odb_world.specs.Status.{Status, Store, Free, after_turn_of, cloned, frozen_from, ignoring_from, replied, started, status_after, status_of, store_at, turned, with_status}
use Rattle.gix_odb_world.specs.Begun.{IsTaskOf, OpenedBy}
use Rattle.gix_odb_world.specs.Valid.{misuse_of, why_not_after}
use Rattle.gix_odb_world.specs.Headline.{IsLawful}
use Rattle.gix_odb_world.proofs.AlongRun.{along_run}
use Rattle.gix_odb_world.proofs.BegunLemmas.OneEvent.{IsModeOf, Stems, holds_opened, none_after, opened_now, stems_frozen, stems_ignoring, stems_kept, stems_started}
use Rattle.gix_odb_world.proofs.BegunLemmas.OneTurn.{stems_cloned, stems_replied, stems_turned}
use Rattle.gix_odb_world.proofs.ValidLaws.{valid_if_sound}

-- ---- what an event does to all handles

module _ (events : List Event) (table : ℕ → Status) where
  stems_set : (number : ℕ) (status : Status) (handle : ℕ) → Stems events number status → (handle ≢ number → Stems events handle (table handle))
      → Stems events handle (with_status table number status handle)
  stems_set number status handle here others = by_number (handle == number) refl
    where
      by_number : (same : Bool) → (handle == number) ≡ same → Stems events handle (if same then status else table handle)
      by_number true is = subst (λ h. Stems events h status) (sym (eqb-true handle number is)) here
      by_number false is = others (eqb-false handle number is)

  stems_after_turn : (step : Step) (next : Status → Status) → ((handle : ℕ) → Stems events handle (next (table handle)))
      → ((handle : ℕ) → Stems events handle (table handle)) → (handle : ℕ) → Stems events handle (after_turn_of step next table handle)
  stems_after_turn (steps.Turn number) next goes_on kept handle = stems_set number (next (table number)) handle (goes_on number) (λ apart. kept handle)
  stems_after_turn step next goes_on kept handle = kept handle

module _ (first : Volume) (past : List Event) (e : Event) (before : (handle : ℕ) → Stems past handle (status_of past handle)) where
  abbrev now : List Event
  now = past ++ e ∷ []

  abbrev table : ℕ → Status
  table = status_of past

  -- a handle to which the step doesn't belong keeps its steps
  others : (step : Step) → e.step ≡ step → (handle : ℕ) → ¬ (IsTaskOf handle step) → ¬ (IsModeOf handle step) → Stems now handle (table handle)
  others step is handle no_task no_mode = stems_kept past e handle (table handle) (λ _ t. no_task (subst (IsTaskOf handle) is t)) (λ _ m. no_mode (subst (IsModeOf handle) is m)) (before handle)

  -- as each handle does where no step was applied
  unapplied : e.outcome ≢ outcomes.Applied → (handle : ℕ) → Stems now handle (table handle)
  unapplied other handle = stems_kept past e handle (table handle) (λ applied. absurd (other applied)) (λ applied. absurd (other applied)) (before handle)

  stems_opened : (number : ℕ) (path : Path) (folders : List Path) (hash : HashKind) (replacements : List (ObjectId × ObjectId)) (options : Options)
      → e.step ≡ steps.Open number path folders hash replacements options → e.outcome ≡ outcomes.Applied
      → (handle : ℕ)
      → Stems now handle (status_after (length past + 1) (steps.Open number path folders hash replacements options) outcomes.Applied e.asked table handle)
  stems_opened number path folders hash replacements options step applied handle =
      let store : Store = store_at (length past + 1) path folders hash replacements options in
      let opened : OpenedBy now number (length past + 1) store = opened_now past e number path folders hash replacements options step applied in
      stems_set now table number _ handle
      (holds_opened past e number store refl opened, record { begins = opened; latest = none_after past e (IsTaskOf number) })
      (λ apart. others (steps.Open number path folders hash replacements options) step handle (λ same. apart (sym same)) (λ never. never))

  stems_applied : (step : Step) → e.step ≡ step → e.outcome ≡ outcomes.Applied → None ≡ why_not_after first past step → (handle : ℕ)
      → Stems now handle (status_after (length past + 1) step outcomes.Applied e.asked table handle)
  stems_applied (steps.Open number path folders hash replacements options) step applied valid handle = stems_opened number path folders hash replacements options step applied handle
  stems_applied (steps.Clone number from) step applied valid handle =
      stems_set now table number (cloned e.asked (table from)) handle (stems_cloned past e number from e.asked (table from) step applied (before from))
      (λ apart. others (steps.Clone number from) step handle (λ same. apart (sym same)) (λ never. never))
  stems_applied (steps.Close number) step applied valid handle = stems_set now table number Free handle tt (λ apart. others (steps.Close number) step handle (λ never. never) (λ never. never))
  stems_applied (steps.Never number) step applied valid handle =
      stems_set now table number (frozen_from (table number)) handle (stems_frozen past e number (table number) valid step applied (before number))
      (λ apart. others (steps.Never number) step handle (λ never. never) (λ same. apart (sym same)))
  stems_applied (steps.Ignore number) step applied valid handle =
      stems_set now table number (ignoring_from (table number)) handle (stems_ignoring past e number (table number) valid step applied (before number))
      (λ apart. others (steps.Ignore number) step handle (λ never. never) (λ same. apart (sym same)))
  stems_applied (steps.Start number call) step applied valid handle =
      stems_set now table number (started (length past + 1) call (table number)) handle (stems_started past e number call (table number) valid step applied (before number))
      (λ apart. others (steps.Start number call) step handle (λ same. apart (sym same)) (λ never. never))
  stems_applied other step applied valid handle = others other step handle (λ never. never) (λ never. never)

  stems_by : (outcome : Outcome) → e.outcome ≡ outcome → (misuse_of outcome ≡ None → None ≡ why_not_after first past e.step) → (handle : ℕ)
      → Stems now handle (status_after (length past + 1) e.step outcome e.asked table handle)
  stems_by outcomes.Applied is valid handle = stems_applied e.step refl is (valid refl) handle
  stems_by outcomes.Pending is valid handle =
      let kept = unapplied (λ applied. cc (is, applied)) in
      stems_after_turn now table e.step (turned e.asked) (λ h. stems_turned now h e.asked (table h) (kept h)) kept handle
  stems_by (outcomes.Reply reply) is valid handle =
      let kept = unapplied (λ applied. cc (is, applied)) in
      stems_after_turn now table e.step (replied e.asked reply) (λ h. stems_replied now h e.asked reply (table h) (kept h)) kept handle
  stems_by (outcomes.Misuse why) is valid handle = unapplied (λ applied. cc (is, applied)) handle

-- ---- along a run

pub stems_now : (first : Volume) (events : List Event) → IsLawful first events → (handle : ℕ) → Stems events handle (status_of events handle)
stems_now first events lawful =
    along_run Stems first events lawful (λ handle. tt) (λ past e law before. stems_by first past e before e.outcome refl (valid_if_sound first past e law))
