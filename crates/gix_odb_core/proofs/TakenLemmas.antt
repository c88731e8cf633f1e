-- Which row takes a place, of places paired with rows.
use Rattle.std.proofs.Common.{◌≡◌, ℕ, ◌≤◌, Bool, true, false, cond, nat_eq, List, [], ◌∷◌, length, zip, Option, Some, None, refl, sym, ap, ◌∙◌, arith, eq-eqb, ne_eqb, eqb-true}
use Rattle.std.proofs.lemmas.Bool.{eqb-false}
use Rattle.std.specs.List.{AllByRecursion, IsDistinct}
use Rattle.gix_odb_core.proofs.DistinctLemmas.{each_true, each_weaker, each_zip}

module _ {Y : Type 0} where
  -- the row of the first pair with that place
  abbrev pub taker : List (ℕ × Y) → ℕ → Option Y
  taker [] place = None
  taker (pair ∷ pairs) place = cond (nat_eq place pair.0) (Some pair.1) (taker pairs place)

  -- properties of each pair's place and row hold of a place that is taken and of the row that takes it
  pub taker_gives : (P : ℕ → Type 0) (Q : Y → Type 0) (pairs : List (ℕ × Y)) → AllByRecursion (λ pair. P pair.0 × Q pair.1) pairs → (place : ℕ) (row : Y)
      → taker pairs place ≡ Some row → P place × Q row
  taker_gives P Q [] h place row is = absurd cc
  taker_gives P Q (pair ∷ pairs) h place row is = by (nat_eq place pair.0) refl is (taker_gives P Q pairs h.1 place row)
    where
      by : (b : Bool) → nat_eq place pair.0 ≡ b → cond b (Some pair.1) (taker pairs place) ≡ Some row → (taker pairs place ≡ Some row → P place × Q row) → P place × Q row
      by true at is rest =
          let here : pair.0 ≡ place = sym (eqb-true place pair.0 at) in
          let this : pair.1 ≡ row = cc in
          (rw here at h.0.0, rw this at h.0.1)
      by false at is rest = rest is

  -- no pair has the place
  pub taker-none : (pairs : List (ℕ × Y)) (place : ℕ) → AllByRecursion (λ pair. nat_eq place pair.0 ≡ false) pairs → taker pairs place ≡ None
  taker-none [] place h = refl
  taker-none (pair ∷ pairs) place h = rw h.0 (taker-none pairs place h.1)

  -- two places are taken by two rows
  pub taker_apart : (same : Y → Y → Bool) → ((x y : Y) → same x y ≡ false → same y x ≡ false) → (pairs : List (ℕ × Y)) → IsDistinct (λ p q. same p.1 q.1) pairs
      → (one other : ℕ) (x y : Y) → nat_eq one other ≡ false → taker pairs one ≡ Some x → taker pairs other ≡ Some y → same x y ≡ false
  unfolding IsDistinct
  taker_apart same flip [] d one other x y differ isx isy = absurd cc
  taker_apart same flip (pair ∷ pairs) d one other x y differ isx isy =
      by (nat_eq one pair.0) (nat_eq other pair.0) refl refl isx isy (taker_apart same flip pairs d.1 one other x y differ)
    where
      later : (place : ℕ) (row : Y) → taker pairs place ≡ Some row → same pair.1 row ≡ false
      later place row is =
          (taker_gives (λ _. Unit {0}) (λ z. same pair.1 z ≡ false) pairs
          (each_weaker (λ p. same pair.1 p.1 ≡ false) (λ p. Unit {0} × (same pair.1 p.1 ≡ false)) (λ p h. (tt, h)) pairs d.0) place row is).1

      by : (a b : Bool) → nat_eq one pair.0 ≡ a → nat_eq other pair.0 ≡ b → cond a (Some pair.1) (taker pairs one) ≡ Some x → cond b (Some pair.1) (taker pairs other) ≡ Some y
          → (taker pairs one ≡ Some x → taker pairs other ≡ Some y → same x y ≡ false) → same x y ≡ false
      by true true at bt isx isy rest = absurd (eqb-false one other differ (eqb-true one pair.0 at ∙ sym (eqb-true other pair.0 bt)))
      by true false at bt isx isy rest = let this : pair.1 ≡ x = cc in rw this at (later other y isy)
      by false true at bt isx isy rest = let this : pair.1 ≡ y = cc in flip y x (rw this at (later one x isx))
      by false false at bt isx isy rest = rest isx isy

  -- if there are enough places, each row takes one
  pub each_taken : (places : List ℕ) (rows : List Y) → IsDistinct nat_eq places → length rows ≤ length places → AllByRecursion (λ row. (place : ℕ) × (taker (zip places rows) place ≡ Some row)) rows
  unfolding IsDistinct
  each_taken places [] d room = tt
  each_taken [] (row ∷ rows) d room = let no : ⊥ = omega arith in absurd no
  each_taken (place ∷ places) (row ∷ rows) d room = (
    (place, ap (λ (b : Bool). cond b (Some row) (taker (zip places rows) place)) (eq-eqb place place refl)),
    each_weaker (λ r. (k : ℕ) × (taker (zip places rows) k ≡ Some r)) (λ r. (k : ℕ) × (cond (nat_eq k place) (Some row) (taker (zip places rows) k) ≡ Some r)) later rows
        (each_taken places rows d.1 (omega arith)),
  )
    where
      later : (r : Y) → (k : ℕ) × (taker (zip places rows) k ≡ Some r) → (k : ℕ) × (cond (nat_eq k place) (Some row) (taker (zip places rows) k) ≡ Some r)
      later r (k, is) =
          let other = (taker_gives (λ j. nat_eq place j ≡ false) (λ _. Unit {0}) (zip places rows)
          (each_zip (λ j. nat_eq place j ≡ false) (λ _. Unit {0}) places rows d.0 (each_true rows)) k r is).0 in
          (k, rw (ne_eqb k place (λ e. eqb-false place k other (sym e))) is)
