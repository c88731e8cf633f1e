-- The journal of a core is legal, and replays to its shape, after every event.
use Rattle.std.proofs.Common.{◌≡◌, ℕ, ◌⊎◌, inl, inr, true, not, List, Ok, Err, refl, sym, ap, subst, ◌∙◌}
use Rattle.std.proofs.lemmas.List.Elements.{All-push}
use Rattle.std.specs.Result.{OnErr}
use Rattle.gix_odb_core.proofs.CauseLemmas.{overflow-cause, refused-leaves, too_few-cause}
use Rattle.gix_odb_core.proofs.ReplayLemmas.{IsLegal-push, after_answer-changes, replay-push}
use Rattle.gix_odb_core.proofs.ShapeLaws.{possible_journal_grows}
use Rattle.gix_odb_core.specs.Causes.{HasTooFewSlots, StandsAtLast}
use Rattle.gix_odb_core.specs.Core.{IsCore, shape_of}
use Rattle.gix_odb_core.specs.Possible.{IsComplete, IsPossible, lacks_memory}
use Rattle.gix_odb_core.specs.Replay.{Appends, CanHappen, IsLegal, IsNeverRefused, IsNext, answer_of, number_behind, replay}
use Rattle.gix_odb_events.specs.Answers.{Answer}
use Rattle.gix_odb_core.specs.State.{IsNextState, IsRefusedState, IsSameState, entries_in, entry_of}
use Rattle.gix_odb_core.specs.Steps.{after}
use Rattle.gix_odb_core.specs.declared.apply.Opening.{Opening}
use Rattle.gix_odb_events.specs.declared.event.Event.{Event}
use Rattle.gix_odb_events.specs.declared.event.Event.TheVariants as event
use Rattle.gix_odb_events.specs.declared.event.Refusal.{Refusal}
use Rattle.gix_odb_events.specs.declared.event.Refusal.TheVariants as refusals
use Rattle.gix_odb_core.specs.declared.journal.Entry.{Entry}
use Rattle.gix_odb_core.specs.declared.shape.Shape.{Shape}
use Rattle.gix_odb_core.specs.declared.state.State.{State}

-- an answer is that memory ran out, or another one
pub cases_memory : (answer : Answer) → (answer ≡ Err refusals.NoMemory) ⊎ ¬ (answer ≡ Err refusals.NoMemory)
cases_memory (Ok effect) = inr (λ h. cc)
cases_memory (Err refusals.NoMemory) = inl refl
cases_memory (Err refusals.GenerationOverflow) = inr (λ h. cc)
cases_memory (Err (refusals.InsufficientSlots current needed)) = inr (λ h. cc)

pub never_refused-other : (happens : Event) (answer : Answer) → ¬ (happens ≡ event.Remove) → IsNeverRefused happens answer
never_refused-other (event.Register stable) answer other = tt
never_refused-other event.Upgrade answer other = tt
never_refused-other event.Remove answer other = absurd (other refl)
never_refused-other event.Look answer other = tt
never_refused-other event.Report answer other = tt
never_refused-other (event.PutIndex slot path file) answer other = tt
never_refused-other (event.PutPack pack path file) answer other = tt
never_refused-other (event.PassOver slot path why) answer other = tt
never_refused-other (event.Publish listing) answer other = tt

module _ (opening : Opening) (old now : State) (core : IsCore (record { opening = opening; state = old })) where
  pub core-same : IsSameState old now → IsCore (record { opening = opening; state = now })
  core-same same =
      record {
        kept = same.kept;
        replayed = same.shape ∙ core.replayed ∙ ap (replay (shape_of opening)) (sym same.entries);
        legal = subst (λ (l : List Entry). IsLegal (shape_of opening) l) (sym same.entries) core.legal;
        possible = subst (λ (l : List Entry). IsPossible (shape_of opening) l) (sym same.entries) core.possible;
      }

  module _ (seat : ℕ) (happens : Event) (answer : Answer) (next : IsNextState old seat happens answer now) (some : ¬ (answer ≡ Err refusals.NoMemory)) where
    answered : answer ≡ answer_of (entries_in old) (replay (shape_of opening) (entries_in old)) (number_behind (entries_in old)) seat happens
    answered = next.answer ∙ ap (λ (s : Shape). answer_of (entries_in old) s (number_behind (entries_in old)) seat happens) core.replayed

    stands : IsNext (shape_of opening) (entries_in old) (entry_of (entries_in old) seat happens answer)
    stands = record { numbered = refl; answered = inr answered }

    replays : now.shape ≡ replay (shape_of opening) (entries_in now)
    replays =
        next.shape
        ∙ ap (λ (s : Shape). after s seat happens) core.replayed
        ∙ sym (after_answer-changes (replay (shape_of opening) (entries_in old)) (entry_of (entries_in old) seat happens answer) answer some)
        ∙ sym (replay-push (shape_of opening) (entries_in old) (entry_of (entries_in old) seat happens answer))
        ∙ ap (replay (shape_of opening)) (sym next.entries)

    pub core-next : CanHappen (replay (shape_of opening) (entries_in old)) seat happens → IsCore (record { opening = opening; state = now })
    core-next can =
        record {
          kept = next.kept;
          replayed = replays;
          legal = subst (λ (l : List Entry). IsLegal (shape_of opening) l) (sym next.entries)
              (IsLegal-push (shape_of opening) (entries_in old) (entry_of (entries_in old) seat happens answer) core.legal stands);
          possible = subst (λ (l : List Entry). IsPossible (shape_of opening) l) (sym next.entries)
              (possible_journal_grows (entries_in old) (shape_of opening) (entry_of (entries_in old) seat happens answer) core.possible can);
        }

    pub appends : Appends (shape_of opening) (entries_in old) (entries_in now) seat happens answer
    appends = (entry_of (entries_in old) seat happens answer, next.entries, stands, refl, refl, refl)

  -- an event that is refused for lack of memory leaves an entry, and nothing else
  module _ (seat : ℕ) (happens : Event) (refused : IsRefusedState old seat happens now) where
    abbrev last : Entry
    last = entry_of (entries_in old) seat happens (Err refusals.NoMemory)

    lacking : IsNext (shape_of opening) (entries_in old) last
    lacking = record { numbered = refl; answered = inl refl }

    pub unchanged-refused : replay (shape_of opening) (entries_in now) ≡ replay (shape_of opening) (entries_in old)
    unchanged-refused = ap (replay (shape_of opening)) refused.entries ∙ replay-push (shape_of opening) (entries_in old) last

    pub core-refused : CanHappen (replay (shape_of opening) (entries_in old)) seat happens → IsCore (record { opening = opening; state = now })
    core-refused can =
        record {
          kept = refused.kept;
          replayed = refused.shape ∙ core.replayed ∙ sym unchanged-refused;
          legal = subst (λ (l : List Entry). IsLegal (shape_of opening) l) (sym refused.entries) (IsLegal-push (shape_of opening) (entries_in old) last core.legal lacking);
          possible = subst (λ (l : List Entry). IsPossible (shape_of opening) l) (sym refused.entries)
              (possible_journal_grows (entries_in old) (shape_of opening) last core.possible can);
        }

    pub appends-refused : Appends (shape_of opening) (entries_in old) (entries_in now) seat happens (Err refusals.NoMemory)
    appends-refused = (last, refused.entries, lacking, refl, refl, refl)

-- the answer is that of the replay, unless memory ran out
pub answer-replayed : (opening : Opening) (old now : State) (core : IsCore (record { opening = opening; state = old })) (seat : ℕ) (happens : Event) (answer : Answer)
    → (¬ (answer ≡ Err refusals.NoMemory) → IsNextState old seat happens answer now)
    → (answer ≡ Err refusals.NoMemory) ⊎ (answer ≡ answer_of (entries_in old) (replay (shape_of opening) (entries_in old)) (number_behind (entries_in old)) seat happens)
answer-replayed opening old now core seat happens answer next = elim (cases_memory answer) [
  | inl lacks ↦ inl lacks
  | inr some ↦ inr ((next some).answer ∙ ap (λ (s : Shape). answer_of (entries_in old) s (number_behind (entries_in old)) seat happens) core.replayed)
]

-- the invariant of every core holds after an event
pub core-after : (opening : Opening) (old now : State) (core : IsCore (record { opening = opening; state = old })) (seat : ℕ) (happens : Event) (answer : Answer)
    → CanHappen (replay (shape_of opening) (entries_in old)) seat happens
    → (answer ≡ Err refusals.NoMemory → IsSameState old now) → (¬ (answer ≡ Err refusals.NoMemory) → IsNextState old seat happens answer now)
    → IsCore (record { opening = opening; state = now })
core-after opening old now core seat happens answer can memory next = elim (cases_memory answer) [
  | inl lacks ↦ core-same opening old now core (memory lacks)
  | inr some ↦ core-next opening old now core seat happens answer (next some) some can
]

-- no entry lacks memory after an event, if none did before: one that memory ran out on leaves none
pub complete-after : (old now : State) (seat : ℕ) (happens : Event) (answer : Answer)
    → (answer ≡ Err refusals.NoMemory → IsSameState old now) → (¬ (answer ≡ Err refusals.NoMemory) → IsNextState old seat happens answer now)
    → IsComplete (entries_in old) → IsComplete (entries_in now)
complete-after old now seat happens answer memory next complete = elim (cases_memory answer) [
  | inl lacks ↦ subst IsComplete (sym (memory lacks).entries) complete
  | inr some ↦ subst IsComplete (sym (next some).entries)
      (All-push (λ (e : Entry). not (lacks_memory e.answer) ≡ true) (entries_in old) (entry_of (entries_in old) seat happens answer) complete (has_memory answer some))
]
  where
    has_memory : (given : Answer) → ¬ (given ≡ Err refusals.NoMemory) → not (lacks_memory given) ≡ true
    has_memory (Ok effect) some = refl
    has_memory (Err refusals.NoMemory) some = absurd (some refl)
    has_memory (Err refusals.GenerationOverflow) some = refl
    has_memory (Err (refusals.InsufficientSlots current needed)) some = refl

-- ---- the answer to an event, and what it leaves

module _ (opening : Opening) (old now : State) (core : IsCore (record { opening = opening; state = old })) (seat : ℕ) (happens : Event) where
  -- the shape is the one after the event
  pub replayed-after : (answer : Answer) → (¬ (answer ≡ Err refusals.NoMemory) → IsNextState old seat happens answer now) → ¬ (answer ≡ Err refusals.NoMemory)
      → replay (shape_of opening) (entries_in now) ≡ after (replay (shape_of opening) (entries_in old)) seat happens
  replayed-after answer next some = sym (replays opening old now core seat happens answer (next some) some) ∙ (next some).shape ∙ ap (λ (s : Shape). after s seat happens) core.replayed

  refusal_is : (refusal : Refusal) → ¬ (◌≡◌ {A = Answer} (Err refusal) (Err refusals.NoMemory))
      → (¬ (◌≡◌ {A = Answer} (Err refusal) (Err refusals.NoMemory)) → IsNextState old seat happens (Err refusal) now)
      → answer_of (entries_in old) (replay (shape_of opening) (entries_in old)) (number_behind (entries_in old)) seat happens ≡ Err refusal
  refusal_is refusal some next = sym (answered opening old now core seat happens (Err refusal) (next some) some)

  leaves : (refusal : Refusal) → ¬ (◌≡◌ {A = Answer} (Err refusal) (Err refusals.NoMemory))
      → (¬ (◌≡◌ {A = Answer} (Err refusal) (Err refusals.NoMemory)) → IsNextState old seat happens (Err refusal) now)
      → replay (shape_of opening) (entries_in now) ≡ replay (shape_of opening) (entries_in old)
  leaves refusal some next =
      replayed-after (Err refusal) next some
      ∙ refused-leaves (entries_in old) (replay (shape_of opening) (entries_in old)) (number_behind (entries_in old)) seat happens refusal (refusal_is refusal some next)

  -- a refused event leaves the shape
  pub refused-after : (answer : Answer) → (answer ≡ Err refusals.NoMemory → IsSameState old now) → (¬ (answer ≡ Err refusals.NoMemory) → IsNextState old seat happens answer now)
      → OnErr answer (replay (shape_of opening) (entries_in now) ≡ replay (shape_of opening) (entries_in old))
  refused-after (Ok effect) memory next = tt
  refused-after (Err refusals.NoMemory) memory next = ap (replay (shape_of opening)) (memory refl).entries
  refused-after (Err refusals.GenerationOverflow) memory next = leaves refusals.GenerationOverflow (λ h. cc) next
  refused-after (Err (refusals.InsufficientSlots current needed)) memory next = leaves (refusals.InsufficientSlots current needed) (λ h. cc) next

  pub too_few-after : (answer : Answer) → (¬ (answer ≡ Err refusals.NoMemory) → IsNextState old seat happens answer now) → (current needed : ℕ)
      → answer ≡ Err (refusals.InsufficientSlots current needed)
      → HasTooFewSlots (replay (shape_of opening) (entries_in old)) happens current needed
  too_few-after answer next current needed h =
      let some : ¬ (answer ≡ Err refusals.NoMemory) = λ lacks. cc in
      too_few-cause (entries_in old) (replay (shape_of opening) (entries_in old)) (number_behind (entries_in old)) seat happens current needed
      (sym (answered opening old now core seat happens answer (next some) some) ∙ h)

  pub at_last-after : (answer : Answer) → (¬ (answer ≡ Err refusals.NoMemory) → IsNextState old seat happens answer now) → answer ≡ Err refusals.GenerationOverflow
      → StandsAtLast (replay (shape_of opening) (entries_in old)) happens
  at_last-after answer next h =
      let some : ¬ (answer ≡ Err refusals.NoMemory) = λ lacks. cc in
      overflow-cause (entries_in old) (replay (shape_of opening) (entries_in old)) (number_behind (entries_in old)) seat happens
      (sym (answered opening old now core seat happens answer (next some) some) ∙ h)

-- ---- an event for whose entry there is room

module _ (opening : Opening) (old now : State) (core : IsCore (record { opening = opening; state = old })) (seat : ℕ) (happens : Event) (answer : Answer)
    (refused : answer ≡ Err refusals.NoMemory → IsRefusedState old seat happens now) (next : ¬ (answer ≡ Err refusals.NoMemory) → IsNextState old seat happens answer now)
  where
    pub core-entered : CanHappen (replay (shape_of opening) (entries_in old)) seat happens → IsCore (record { opening = opening; state = now })
    core-entered can = elim (cases_memory answer) [
      | inl lacks ↦ core-refused opening old now core seat happens (refused lacks) can
      | inr some ↦ core-next opening old now core seat happens answer (next some) some can
    ]

    pub appends-entered : Appends (shape_of opening) (entries_in old) (entries_in now) seat happens answer
    appends-entered = elim (cases_memory answer) [
      | inl lacks ↦ subst (λ (a : Answer). Appends (shape_of opening) (entries_in old) (entries_in now) seat happens a) (sym lacks)
          (appends-refused opening old now core seat happens (refused lacks))
      | inr some ↦ appends opening old now core seat happens answer (next some) some
    ]

-- a refused event leaves the shape, though its entry is there
pub refused-entered : (opening : Opening) (old now : State) (core : IsCore (record { opening = opening; state = old })) (seat : ℕ) (happens : Event) (answer : Answer)
    → (answer ≡ Err refusals.NoMemory → IsRefusedState old seat happens now) → (¬ (answer ≡ Err refusals.NoMemory) → IsNextState old seat happens answer now)
    → OnErr answer (replay (shape_of opening) (entries_in now) ≡ replay (shape_of opening) (entries_in old))
refused-entered opening old now core seat happens (Ok effect) refused next = tt
refused-entered opening old now core seat happens (Err refusals.NoMemory) refused next = unchanged-refused opening old now core seat happens (refused refl)
refused-entered opening old now core seat happens (Err refusals.GenerationOverflow) refused next =
    leaves opening old now core seat happens refusals.GenerationOverflow (λ h. cc) next
refused-entered opening old now core seat happens (Err (refusals.InsufficientSlots current needed)) refused next =
    leaves opening old now core seat happens (refusals.InsufficientSlots current needed) (λ h. cc) next
