-- Slots that hold different indices, by the places of the slots.
use Rattle.std.proofs.Common.{◌≡◌, ℕ, zero, suc, ◌<◌, Bool, false, List, [], ◌∷◌, Some, None, filter_map, refl, subst, arith}
use Rattle.std.specs.List.{AllByRecursion, IsDistinct}
use Rattle.gix_odb_events.specs.Slots.{slot_at, Slot}
use Rattle.gix_odb_events.specs.declared.slot.Filled.{Filled}

-- a property of each filled slot
module _ (P : Filled → Type 0) where
  pub each_at : (slots : List Slot) → AllByRecursion P (filter_map (λ slot. slot) slots) → (place : ℕ) (filled : Filled) → slot_at slots place ≡ Some filled → P filled
  each_at [] all place filled is = absurd cc
  each_at (None ∷ slots) all zero filled is = absurd cc
  each_at (None ∷ slots) all (suc place) filled is = each_at slots all place filled is
  each_at (Some first ∷ slots) all zero filled is = let this : first ≡ filled = cc in subst P this all.0
  each_at (Some first ∷ slots) all (suc place) filled is = each_at slots all.1 place filled is

  pub each_from : (slots : List Slot) → ((place : ℕ) (filled : Filled) → slot_at slots place ≡ Some filled → P filled) → AllByRecursion P (filter_map (λ slot. slot) slots)
  each_from [] all = tt
  each_from (None ∷ slots) all = each_from slots (λ place filled is. all (suc place) filled is)
  each_from (Some first ∷ slots) all = (all zero first refl, each_from slots (λ place filled is. all (suc place) filled is))

-- two filled slots differ, by their places, and conversely
module _ (same : Filled → Filled → Bool) where
  pub apart_at : (slots : List Slot) → IsDistinct same (filter_map (λ slot. slot) slots)
      → (i j : ℕ) (one other : Filled) → i < j → slot_at slots i ≡ Some one → slot_at slots j ≡ Some other → same one other ≡ false
  unfolding IsDistinct
  apart_at [] d i j one other order is its = absurd cc
  apart_at (slot ∷ slots) d i zero one other order is its = let no : ⊥ = omega arith in absurd no
  apart_at (None ∷ slots) d zero (suc j) one other order is its = absurd cc
  apart_at (None ∷ slots) d (suc i) (suc j) one other order is its = apart_at slots d i j one other (omega arith) is its
  apart_at (Some first ∷ slots) d zero (suc j) one other order is its =
      let this : first ≡ one = cc in
      subst (λ (f : Filled). same f other ≡ false) this (each_at (λ f. same first f ≡ false) slots d.0 j other its)
  apart_at (Some first ∷ slots) d (suc i) (suc j) one other order is its = apart_at slots d.1 i j one other (omega arith) is its

  pub apart_from : (slots : List Slot) → ((i j : ℕ) (one other : Filled) → i < j → slot_at slots i ≡ Some one → slot_at slots j ≡ Some other → same one other ≡ false)
      → IsDistinct same (filter_map (λ slot. slot) slots)
  unfolding IsDistinct
  apart_from [] differ = tt
  apart_from (None ∷ slots) differ = apart_from slots (λ i j one other order is its. differ (suc i) (suc j) one other (omega arith) is its)
  apart_from (Some first ∷ slots) differ = (
    each_from (λ f. same first f ≡ false) slots (λ j other its. differ zero (suc j) first other (omega arith) refl its),
    apart_from slots (λ i j one other order is its. differ (suc i) (suc j) one other (omega arith) is its),
  )
