-- The first place at which a test passes, and the element there.
use Rattle.std.proofs.Common.{◌≡◌, ℕ, zero, suc, ◌+◌, ◌<◌, Bool, true, false, ◌||◌, cond, not, List, [], ◌∷◌, length, get_or, position, Some, None, refl, sym, ap, ◌∙◌, arith, lt-ltb}
use Rattle.std.specs.List.{list_any, position_from, position_or_len}
use Rattle.std.proofs.lemmas.Iterator.Adapters.{position_from-zero}

module _ {X : Type 0} (p : X → Bool) where
  within : (xs : List X) → list_any p xs ≡ true → position_or_len p xs < length xs
  within [] any = absurd cc
  within (x ∷ xs) any = by (p x) refl any (within xs)
    where
      by : (b : Bool) → p x ≡ b → (b || list_any p xs) ≡ true → (list_any p xs ≡ true → position_or_len p xs < length xs) → cond (not b) (1 + position_or_len p xs) 0 < suc (length xs)
      by true is any rest = omega arith
      by false is any rest = let below = rest any in omega arith

  -- where some element passes, there is a first one
  pub position-from_any : (xs : List X) → list_any p xs ≡ true → position p xs ≡ Some (position_or_len p xs)
  position-from_any xs any = rw (lt-ltb (position_or_len p xs) (length xs) (within xs any)) refl

  from-first : (xs : List X) (at i j : ℕ) (d : X) → at + i ≡ j → i < length xs → p (get_or xs i d) ≡ true → ((k : ℕ) → k < i → p (get_or xs k d) ≡ false) → position_from p at xs ≡ Some j
  from-first [] at i j d sum inside here before = absurd (omega arith)
  from-first (x ∷ xs) at zero j d sum inside here before =
      let same : at ≡ j = omega arith in
      ap (λ (b : Bool). cond b (Some at) (position_from p (at + 1) xs)) here ∙ ap (λ (n : ℕ). Some n) same
  from-first (x ∷ xs) at (suc i) j d sum inside here before =
      let first : p x ≡ false = before 0 (omega arith) in
      ap (λ (b : Bool). cond b (Some at) (position_from p (at + 1) xs)) first
      ∙ from-first xs (at + 1) i j d (omega arith) (omega arith) here (λ k below. before (suc k) (omega arith))

  -- an element that passes is the first one, where none before it does
  pub position-first : (xs : List X) (i : ℕ) (d : X) → i < length xs → p (get_or xs i d) ≡ true → ((k : ℕ) → k < i → p (get_or xs k d) ≡ false) → position p xs ≡ Some i
  position-first xs i d inside here before = position_from-zero p xs ∙ from-first xs 0 i i d (omega arith) inside here before

  from-nowhere : (xs : List X) (at : ℕ) (d : X) → ((k : ℕ) → k < length xs → p (get_or xs k d) ≡ false) → position_from p at xs ≡ None
  from-nowhere [] at d fails = refl
  from-nowhere (x ∷ xs) at d fails =
      let first : p x ≡ false = fails 0 (omega arith) in
      ap (λ (b : Bool). cond b (Some at) (position_from p (at + 1) xs)) first ∙ from-nowhere xs (at + 1) d (λ k below. fails (suc k) (omega arith))

  -- no element passes
  pub position-nowhere : (xs : List X) (d : X) → ((k : ℕ) → k < length xs → p (get_or xs k d) ≡ false) → position p xs ≡ None
  position-nowhere xs d fails = position_from-zero p xs ∙ from-nowhere xs 0 d fails

-- two tests that agree
module _ {X : Type 0} (p q : X → Bool) (agree : (x : X) → p x ≡ q x) where
  from-agree : (xs : List X) (at : ℕ) → position_from p at xs ≡ position_from q at xs
  from-agree [] at = refl
  from-agree (x ∷ xs) at = rw (agree x, from-agree xs (at + 1)) refl

  pub position-agree : (xs : List X) → position p xs ≡ position q xs
  position-agree xs = position_from-zero p xs ∙ from-agree xs 0 ∙ sym (position_from-zero q xs)
