-- Prefixes of a list, and what lies in them.
use Rattle.std.proofs.Common.{◌≡◌, ◌⊎◌, inl, inr, ℕ, zero, suc, ◌+◌, ◌<◌, ◌≤◌, List, [], ◌∷◌, ◌++◌, length, take, Some, None, refl, ap, ◌∙◌, arith}
use Rattle.std.specs.Prelude.{slice_get}
use Rattle.gix_odb_history.specs.Event.{Event}

pub take_suc : {A : Type 0} (xs : List A) (place : ℕ) (x : A) → slice_get xs place ≡ Some x → take (suc place) xs ≡ take place xs ++ x ∷ []
take_suc [] place x is = absurd (cc)
take_suc (z ∷ zs) zero x is = let same : z ≡ x = cc in ap (λ y. y ∷ []) same
take_suc (z ∷ zs) (suc place) x is = ap (λ ys. z ∷ ys) (take_suc zs place x is)

pub take_next : {A : Type 0} (xs : List A) (place : ℕ) (x : A) → slice_get xs place ≡ Some x → take (place + 1) xs ≡ take place xs ++ x ∷ []
take_next xs place x is = let next : place + 1 ≡ suc place = omega arith in ap (λ n. take n xs) next ∙ take_suc xs place x is

pub take_none : {A : Type 0} (xs : List A) (place : ℕ) → slice_get xs place ≡ None → take (suc place) xs ≡ take place xs
take_none [] zero is = refl
take_none [] (suc place) is = refl
take_none (z ∷ zs) zero is = absurd (cc)
take_none (z ∷ zs) (suc place) is = ap (λ ys. z ∷ ys) (take_none zs place is)

pub none_beyond : {A : Type 0} (xs : List A) (place : ℕ) → slice_get xs place ≡ None → length xs ≤ place
none_beyond [] place is = omega arith
none_beyond (z ∷ zs) zero is = absurd (cc)
none_beyond (z ∷ zs) (suc place) is = omega (arith, none_beyond zs place is)

-- at a place there is an event, or the run is over
pub event_or_end : (events : List Event) (place : ℕ) → ((e : Event) × (slice_get events place ≡ Some e)) ⊎ (slice_get events place ≡ None)
event_or_end events place = elim (slice_get events place) as (λ o. slice_get events place ≡ o → ((e : Event) × (slice_get events place ≡ Some e)) ⊎ (slice_get events place ≡ None)) [
  | Some e ↦ λ is. inl (e, is)
  | None ↦ λ is. inr is
] refl

-- the prefix of a list has what is at that place
pub there_in_front : {A : Type 0} (xs : List A) (place count : ℕ) (x : A) → place < count → slice_get xs place ≡ Some x
    → slice_get (take count xs) place ≡ Some x
there_in_front [] place count x within is = absurd (cc)
there_in_front (z ∷ zs) place zero x within is = absurd (omega (arith, within))
there_in_front (z ∷ zs) zero (suc count) x within is = is
there_in_front (z ∷ zs) (suc place) (suc count) x within is = there_in_front zs place count x (omega (arith, within)) is

pub there_in_whole : {A : Type 0} (xs : List A) (place count : ℕ) (x : A) → slice_get (take count xs) place ≡ Some x
    → (place < count) × (slice_get xs place ≡ Some x)
there_in_whole [] place zero x is = absurd (cc)
there_in_whole [] place (suc count) x is = absurd (cc)
there_in_whole (z ∷ zs) place zero x is = absurd (cc)
there_in_whole (z ∷ zs) zero (suc count) x is = (omega arith, is)
there_in_whole (z ∷ zs) (suc place) (suc count) x is = let rest = there_in_whole zs place count x is in (omega (arith, rest.0), rest.1)

pub front_of_front : {A : Type 0} (xs : List A) (place count : ℕ) → place ≤ count → take place (take count xs) ≡ take place xs
front_of_front [] zero zero within = refl
front_of_front [] zero (suc count) within = refl
front_of_front [] (suc place) zero within = refl
front_of_front [] (suc place) (suc count) within = refl
front_of_front (z ∷ zs) zero zero within = refl
front_of_front (z ∷ zs) zero (suc count) within = refl
front_of_front (z ∷ zs) (suc place) zero within = absurd (omega (arith, within))
front_of_front (z ∷ zs) (suc place) (suc count) within = ap (λ ys. z ∷ ys) (front_of_front zs place count (omega (arith, within)))

pub length_take : {A : Type 0} (xs : List A) (place : ℕ) (x : A) → slice_get xs place ≡ Some x → length (take place xs) ≡ place
length_take [] place x is = absurd (cc)
length_take (z ∷ zs) zero x is = refl
length_take (z ∷ zs) (suc place) x is = ap (λ n. suc n) (length_take zs place x is)
