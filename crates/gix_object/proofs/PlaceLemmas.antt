-- The first place of a byte, and the bytes before and after it.
use Rattle.std.specs.Prelude.{◌≡◌, ℕ, zero, suc, ◌+◌, ◌-◌, ◌<◌, ◌==◌, Bool, true, false, not, List, [], ◌∷◌, ◌++◌, length, take, refl, cond}
use Rattle.std.proofs.Common.{get_or, ap, ◌∙◌, subst, arith}
use Rattle.std.specs.List.{list_all, position_or_len, before_first, after_first}
use Rattle.std.proofs.lemmas.Bool.{and_parts, eq-eqb, eqb-true}
use Rattle.std.proofs.lemmas.List.Sums.{split_at_first, passes_at_first}
use Rattle.std.proofs.Math.Seq.{take-append_seam, take-append-add, drop-append-add}

-- a text without this byte
abbrev pub lacks : ℕ → List ℕ → Bool
lacks c text = list_all (λ b. not (b == c)) text

-- after bytes without it
pub first_place : (c : ℕ) (xs ys : List ℕ) → lacks c xs ≡ true → position_or_len (λ b. b == c) (xs ++ c ∷ ys) ≡ length xs
first_place c [] ys h = rw (eq-eqb c c refl) refl
first_place c (x ∷ xs) ys h =
    let parts = and_parts (not (x == c)) (lacks c xs) h in
    rw (parts.0, first_place c xs ys parts.1) (omega arith)

pub before_place : (c : ℕ) (xs ys : List ℕ) → lacks c xs ≡ true → before_first (λ b. b == c) (xs ++ c ∷ ys) ≡ xs
before_place c xs ys h = rw (first_place c xs ys h) (take-append_seam xs (c ∷ ys))

pub after_place : (c : ℕ) (xs ys : List ℕ) → lacks c xs ≡ true → after_first (λ b. b == c) (xs ++ c ∷ ys) ≡ ys
after_place c xs ys h = rw (first_place c xs ys h) (drop-append-add xs (c ∷ ys) 1)

place_step : (here : Bool) (inner outer size : ℕ) → (inner < size → outer ≡ inner) → cond (not here) (1 + inner) 0 < suc size
    → cond (not here) (1 + outer) 0 ≡ cond (not here) (1 + inner) 0
place_step true inner outer size same lt = refl
place_step false inner outer size same lt = ap (λ (n : ℕ). 1 + n) (same (omega arith))

-- a place among the first bytes is the place among all
pub place_in_take : (c n : ℕ) (xs : List ℕ) → position_or_len (λ b. b == c) (take n xs) < length (take n xs)
    → position_or_len (λ b. b == c) xs ≡ position_or_len (λ b. b == c) (take n xs)
place_in_take c zero xs h = absurd (omega arith)
place_in_take c (suc n) [] h = absurd (omega arith)
place_in_take c (suc n) (x ∷ xs) h =
    place_step (x == c) (position_or_len (λ b. b == c) (take n xs)) (position_or_len (λ b. b == c) xs) (length (take n xs)) (place_in_take c n xs) h

-- the first bytes hold the place of a byte that is early enough
pub take_place : (c n : ℕ) (xs ys : List ℕ) → length xs < n → (m : ℕ) × (take n (xs ++ c ∷ ys) ≡ xs ++ c ∷ take m ys)
take_place c n xs ys h =
    let split : n ≡ length xs + suc (n - length xs - 1) = omega arith in
    (n - length xs - 1, ap (λ (k : ℕ). take k (xs ++ c ∷ ys)) split ∙ take-append-add xs (c ∷ ys) (suc (n - length xs - 1)))

-- a byte's first place, with the bytes before and after it
pub split_at_byte : (c : ℕ) (xs : List ℕ) → position_or_len (λ b. b == c) xs < length xs → xs ≡ before_first (λ b. b == c) xs ++ c ∷ after_first (λ b. b == c) xs
split_at_byte c xs h =
    let here : get_or xs (position_or_len (λ b. b == c) xs) 0 ≡ c = eqb-true _ c (passes_at_first (λ b. b == c) xs 0 h) in
    subst (λ (b : ℕ). xs ≡ before_first (λ b. b == c) xs ++ b ∷ after_first (λ b. b == c) xs) here (split_at_first (λ b. b == c) xs 0 h)
