-- The handle of a turn that isn't misused is at work, and a pending turn leaves it so.
use Rattle.std.proofs.Common.{◌≡◌, ℕ, ◌+◌, Bool, true, List, [], ◌∷◌, ◌++◌, length, Option, None, Result, Ok, Err, refl, sym, ap, ◌∙◌, subst, arith}
use Rattle.std.specs.Prelude.{◌==◌, if◌then◌else◌}
use Rattle.odb_disk.specs.MemDisk.{Volume}
use Rattle.gix_odb_calls.specs.declared.call.Reply.{Reply}
use Rattle.gix_odb_calls.specs.declared.step.Step.{Step}
use Rattle.gix_odb_calls.specs.declared.step.Step.TheVariants as steps
use Rattle.gix_odb_calls.specs.declared.step.Outcome.{Outcome}
use Rattle.gix_odb_calls.specs.declared.step.Outcome.TheVariants as outcomes
use Rattle.gix_odb_calls.specs.declared.step.Why.{Why}
use Rattle.gix_odb_history.specs.Event.{Event, answered}
use Rattle.gix_odb_history.specs.Turned.{is_done}
use Rattle.gix_odb_world.specs.Work.{Work}
use Rattle.gix_odb_world.specs.AtWork.{Running}
use Rattle.gix_odb_world.specs.Headline.{Law, Turns, Works, outcome_of}
use Rattle.gix_odb_world.specs.Machines.{fed_in}
use Rattle.gix_odb_world.specs.Status.{Free, Resting, Status, Working, come_to, gone_on, status_after, status_of, turned, with_status}
use Rattle.gix_odb_world.specs.TwoContents.{BreaksRule, would_change}
use Rattle.gix_odb_world.specs.Valid.{IsFirstReason, misuse_of, phase_after, phase_of, why_not_after, why_not_running}
use Rattle.gix_odb_world.proofs.HistoryLemmas.{status_of-push}

-- ---- a turn that isn't misused

at_work : (status : Status) (breaks : Type 0) → IsFirstReason (why_not_running (phase_of status)) breaks None → (running : Running) × (status ≡ Working running)
at_work Free breaks is = absurd (cc is)
at_work (Resting store modes) breaks is = absurd (cc is)
at_work (Working running) breaks is = (running, refl)

reason_of_turn : (first : Volume) (past : List Event) (step : Step) (why : Option Why) (handle : ℕ) (breaks : Type 0)
    → IsFirstReason (why_not_after first past step) breaks why → step ≡ steps.Turn handle → why ≡ None
    → IsFirstReason (why_not_running (phase_after past handle)) breaks None
reason_of_turn first past step why handle breaks is turn none =
    subst (λ (w : Option Why). IsFirstReason (why_not_running (phase_after past handle)) breaks w) none
    (subst (λ (s : Step). IsFirstReason (why_not_after first past s) breaks why) turn is)

-- its handle is at work
pub turn_at_work : (first : Volume) (past : List Event) (e : Event) → Law first past e → (handle : ℕ) → e.step ≡ steps.Turn handle
    → misuse_of e.outcome ≡ None → is_done e.outcome ≡ true → (running : Running) × Turns past e handle running
turn_at_work first past e law handle step sound done =
    let at = at_work (status_of past handle) (BreaksRule first past (would_change first past e.step))
    (reason_of_turn first past e.step (misuse_of e.outcome) handle (BreaksRule first past (would_change first past e.step)) law.valid step sound) in
    (at.0, record { turn = record { step = step; done = done }; status = at.1 })

-- ---- a pending turn

own_status : (table : ℕ → Status) (handle : ℕ) (status : Status) → with_status table handle status handle ≡ status
own_status table handle status = ap (λ (b : Bool). if b then status else table handle) same
  where
    same : (handle == handle) ≡ true
    same = grind arith

left_of : (result : Result Reply Work) → outcomes.Pending ≡ outcome_of result → (left : Work) × (result ≡ Err left)
left_of (Ok reply) is = absurd (cc is)
left_of (Err left) is = (left, refl)

-- what work a pending turn leaves to its handle
pub record IsLeftBy (past : List Event) (e : Event) (handle : ℕ) (running : Running) : Type 0 where
  pub left : Work
  pub status : status_of (past ++ e ∷ []) handle ≡ Working (gone_on e.asked running left)

pub left_by_turn : (first : Volume) (past : List Event) (e : Event) → Law first past e → (handle : ℕ) (running : Running) → Turns past e handle running
    → e.outcome ≡ outcomes.Pending → IsLeftBy past e handle running
left_by_turn first past e law handle running turns pending =
    let works : Works first past handle running e = law.worked handle running turns in
    let left = left_of (fed_in running.store running.work (answered e.asked)) (sym pending ∙ works.goes) in
    record {
      left = left.0;
      status =
          ap (λ (table : ℕ → Status). table handle) (status_of-push past e)
          ∙ ap (λ (s : Step). status_after (length past + 1) s e.outcome e.asked (status_of past) handle) turns.turn.step
          ∙ ap (λ (o : Outcome). status_after (length past + 1) (steps.Turn handle) o e.asked (status_of past) handle) pending
          ∙ own_status (status_of past) handle (turned e.asked (status_of past handle))
          ∙ ap (turned e.asked) turns.status
          ∙ ap (come_to e.asked running) left.1;
    }
