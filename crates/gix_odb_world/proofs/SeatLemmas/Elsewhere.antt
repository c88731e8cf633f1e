-- Who is registered at which core, after an event of one handle. No event of another handle registers a handle.
use Rattle.std.proofs.Common.{◌≡◌, ◌≢◌, ◌⊎◌, ℕ, zero, suc, Bool, true, false, List, [], ◌∷◌, ◌++◌, length, Some, None, Ok, refl, sym, ◌∙◌, ap, subst, inl, inr}
use Rattle.std.specs.Prelude.{◌==◌, fold, slice_get, slice_set, unwrap_or}
use Rattle.std.proofs.lemmas.Bool.{eqb-true, eqb-false}
use Rattle.gix_odb_core.specs.Handles.{Handles, registered}
use Rattle.gix_odb_core.specs.History.{History, opened, present}
use Rattle.gix_odb_core.specs.Possible.{IsOpened}
use Rattle.gix_odb_core.specs.Steps.{after}
use Rattle.gix_odb_core.specs.Turn.{handles_after}
use Rattle.gix_odb_events.specs.declared.event.Effect.{Effect}
use Rattle.gix_odb_events.specs.declared.event.Event.TheVariants as events
use Rattle.gix_odb_core.specs.declared.shape.Shape.{Shape}
use Rattle.gix_odb_core.proofs.HandleLaws.{other_seat, own_seat, seats_of_a_journal_are_in_order}
use Rattle.gix_odb_core.proofs.HandleLemmas.{handles-after}
use Rattle.gix_odb_core.proofs.OrderLaws.{replay_of_joined_journals}
use Rattle.gix_odb_history.specs.Cores.{cores_after, cores_after_asked, cores_after_event, entered, entry_of, history_at, registered_at}
use Rattle.gix_odb_history.specs.Event.{Asked, CoreEvent, Event, OfCore, OfDisk, OfNewCore, OfNothing}

-- ---- an event that isn't refused, at one core

module _ (h : History) (seat : ℕ) (event : CoreEvent) (effect : Effect) where
  abbrev then : History
  then = entered h seat event (Ok effect)

  present-entered : present then ≡ after (present h) seat event
  present-entered = replay_of_joined_journals h.entries (entry_of h seat event (Ok effect) ∷ []) h.opening

  pub handles-entered : (present then).handles ≡ handles_after (present h).handles seat event
  handles-entered = ap (λ (s : Shape). s.handles) present-entered ∙ handles-after (present h) seat event

  -- it leaves every other handle as it was
  pub kept_other : (other : ℕ) → other ≢ seat → registered (present then).handles other ≡ registered (present h).handles other
  kept_other other apart = ap (λ (handles : Handles). registered handles other) handles-entered ∙ other_seat (present h).handles seat event other apart

-- ---- one element of a list is set

pub slice_get-set_same : {A : Type 0} (xs : List A) (i : ℕ) (x y : A) → slice_get xs i ≡ Some y → slice_get (slice_set xs i x) i ≡ Some x
slice_get-set_same [] i x y e = absurd (cc e)
slice_get-set_same (z ∷ xs) zero x y e = refl
slice_get-set_same (z ∷ xs) (suc i) x y e = slice_get-set_same xs i x y e

pub slice_get-set_other : {A : Type 0} (xs : List A) (i k : ℕ) (x : A) → k ≢ i → slice_get (slice_set xs i x) k ≡ slice_get xs k
slice_get-set_other [] i k x apart = refl
slice_get-set_other (z ∷ xs) zero zero x apart = absurd (apart refl)
slice_get-set_other (z ∷ xs) zero (suc k) x apart = refl
slice_get-set_other (z ∷ xs) (suc i) zero x apart = refl
slice_get-set_other (z ∷ xs) (suc i) (suc k) x apart = slice_get-set_other xs i k x (λ same. apart (ap suc same))

-- the history at a place, after one was set or added

pub history_at-set : (cores : List History) (store : ℕ) (new : History) (place : ℕ)
    → (history_at (slice_set cores store new) place ≡ history_at cores place) ⊎ ((place ≡ store) × (history_at (slice_set cores store new) place ≡ new))
history_at-set [] store new place = inl refl
history_at-set (core ∷ cores) zero new zero = inr (refl, refl)
history_at-set (core ∷ cores) zero new (suc place) = inl refl
history_at-set (core ∷ cores) (suc store) new zero = inl refl
history_at-set (core ∷ cores) (suc store) new (suc place) =
    elim (history_at-set cores store new place) [ inl old ↦ inl old | inr own ↦ inr (ap suc own.0, own.1) ]

pub history_at-push : (cores : List History) (new : History) (place : ℕ)
    → (history_at (cores ++ new ∷ []) place ≡ history_at cores place) ⊎ ((place ≡ length cores) × (history_at (cores ++ new ∷ []) place ≡ new))
history_at-push [] new zero = inr (refl, refl)
history_at-push [] new (suc place) = inl refl
history_at-push (core ∷ cores) new zero = inl refl
history_at-push (core ∷ cores) new (suc place) =
    elim (history_at-push cores new place) [ inl old ↦ inl old | inr own ↦ inr (ap suc own.0, own.1) ]

-- ---- where a handle is not registered

-- a handle is registered at no core where it wasn't before
abbrev pub StaysOut : (cores cores_then : List History) (handle : ℕ) → Type 0
StaysOut cores cores_then handle = (store : ℕ) → registered_at cores store handle ≡ None → registered_at cores_then store handle ≡ None

module _ (cores : List History) (store seat : ℕ) (event : CoreEvent) (effect : Effect) where
  abbrev own : History
  own = entered (history_at cores store) seat event (Ok effect)

  abbrev cores_then : List History
  cores_then = cores_after_asked cores (OfCore store seat event (Ok effect))

  -- an event of another handle leaves it out
  pub out_other : (handle : ℕ) → handle ≢ seat → StaysOut cores cores_then handle
  out_other handle apart place was = elim (history_at-set cores store own place) [
    | inl old ↦ ap (λ (h : History). registered (present h).handles handle) old ∙ was
    | inr there ↦
        ap (λ (h : History). registered (present h).handles handle) there.1
        ∙ (kept_other (history_at cores store) seat event effect handle apart ∙ (ap (λ n. registered_at cores n handle) (sym there.0) ∙ was))
  ]

  -- an event of its own leaves it out of every other core
  pub out_own : (place : ℕ) → place ≢ store → registered_at cores place seat ≡ None → registered_at cores_then place seat ≡ None
  out_own place apart was = elim (history_at-set cores store own place) [
    | inl old ↦ ap (λ (h : History). registered (present h).handles seat) old ∙ was
    | inr there ↦ absurd (apart there.0)
  ]

module _ (cores : List History) (new : History) (handle : ℕ) where
  out_more : registered (present new).handles handle ≡ None → StaysOut cores (cores ++ new ∷ []) handle
  out_more none place was = elim (history_at-push cores new place) [
    | inl old ↦ ap (λ (h : History). registered (present h).handles handle) old ∙ was
    | inr there ↦ ap (λ (h : History). registered (present h).handles handle) there.1 ∙ none
  ]

  -- a new core leaves it out of the other cores
  pub out_before : (place : ℕ) → place ≢ length cores → registered_at cores place handle ≡ None → registered_at (cores ++ new ∷ []) place handle ≡ None
  out_before place apart was = elim (history_at-push cores new place) [
    | inl old ↦ ap (λ (h : History). registered (present h).handles handle) old ∙ was
    | inr there ↦ absurd (apart there.0)
  ]

-- a core that was made for another handle leaves it out
pub out_new : (cores : List History) (slots folders seat handle : ℕ) (effect : Effect) → handle ≢ seat
    → StaysOut cores (cores ++ entered (opened slots folders 0 0) seat (events.Register false) (Ok effect) ∷ []) handle
out_new cores slots folders seat handle effect apart =
    out_more cores (entered (opened slots folders 0 0) seat (events.Register false) (Ok effect)) handle
    (kept_other (opened slots folders 0 0) seat (events.Register false) effect handle apart)

-- ---- a handle that is removed

-- every core was made as cores are
abbrev pub AreOpened : List History → Type 0
AreOpened cores = (store : ℕ) → IsOpened (history_at cores store).opening

opened_as : (slots folders generation state : ℕ) → IsOpened (opened slots folders generation state).opening
opened_as slots folders generation state = record { slots = slots; folders = folders; generation = generation; state = state; is = refl }

are_opened-asked : (cores : List History) (asked : Asked) → AreOpened cores → AreOpened (cores_after_asked cores asked)
are_opened-asked cores OfNothing before = before
are_opened-asked cores (OfDisk ask answer) before = before
are_opened-asked cores (OfCore store seat event answer) before = λ place. elim (history_at-set cores store (entered (history_at cores store) seat event answer) place) [
  | inl old ↦ subst (λ (h : History). IsOpened h.opening) (sym old) (before place)
  | inr there ↦ subst (λ (h : History). IsOpened h.opening) (sym there.1) (before store)
]
are_opened-asked cores (OfNewCore slots folders store seat answer) before = λ place.
    elim (history_at-push cores (entered (opened slots folders 0 0) seat (events.Register false) answer) place) [
      | inl old ↦ subst (λ (h : History). IsOpened h.opening) (sym old) (before place)
      | inr there ↦ subst (λ (h : History). IsOpened h.opening) (sym there.1) (opened_as slots folders 0 0)
    ]

are_opened-fold : (events : List Event) (cores : List History) → AreOpened cores → AreOpened (fold cores_after_event cores events)
are_opened-fold [] cores before = before
are_opened-fold (e ∷ events) cores before = are_opened-fold events (cores_after_event cores e) (are_opened-asked cores e.asked before)

pub are_opened : (events : List Event) → AreOpened (cores_after events)
unfolding cores_after
are_opened events = are_opened-fold events [] (λ store. opened_as 0 0 0 0)

-- the seat that an event removes is free after it
removed_here : (h : History) (seat : ℕ) (effect : Effect) → IsOpened h.opening → registered (present (entered h seat events.Remove (Ok effect))).handles seat ≡ None
removed_here h seat effect opened =
    ap (λ (handles : Handles). registered handles seat) (handles-entered h seat events.Remove effect)
    ∙ own_seat (present h).handles seat events.Remove (seats_of_a_journal_are_in_order h.opening opened h.entries)

-- a handle that was registered at only one core, and is removed there, is nowhere
pub out_removed : (cores : List History) (store seat : ℕ) (effect : Effect) → AreOpened cores
    → (history : History) → slice_get cores store ≡ Some history
    → ((place : ℕ) → place ≢ store → registered_at cores place seat ≡ None)
    → (place : ℕ) → registered_at (cores_after_asked cores (OfCore store seat events.Remove (Ok effect))) place seat ≡ None
out_removed cores store seat effect each history there only place =
    by_place (place == store) refl
  where
    by_place : (b : Bool) → (place == store) ≡ b → registered_at (cores_after_asked cores (OfCore store seat events.Remove (Ok effect))) place seat ≡ None
    by_place true is =
        let same : place ≡ store = eqb-true place store is in
        let new : History = entered (history_at cores store) seat events.Remove (Ok effect) in
        let now : List History = cores_after_asked cores (OfCore store seat events.Remove (Ok effect)) in
        let here : history_at now store ≡ new = ap (λ o. unwrap_or o (opened 0 0 0 0)) (slice_get-set_same cores store new history there) in
        ap (λ n. registered_at now n seat) same
        ∙ (ap (λ (h : History). registered (present h).handles seat) here ∙ removed_here (history_at cores store) seat effect (each store))
    by_place false is = out_own cores store seat events.Remove effect place (eqb-false place store is) (only place (eqb-false place store is))
