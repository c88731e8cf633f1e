-- The order of the first digits of two ids' texts is that of their bytes, with half a byte if the number of digits is odd.
use Rattle.std.proofs.Common.{◌≡◌, ℕ, zero, suc, ◌+◌, ◌*◌, ◌/◌, ◌%◌, ◌<◌, ◌≤◌, ◌==◌, ◌⊎◌, inl, inr, nat_lt, true, List, [], ◌∷◌}
use Rattle.std.proofs.Common.{length, take, slice_index, cond, Ordering, Less, Equal, Greater, refl, sym, ap, ◌∙◌, arith}
use Rattle.std.proofs.lemmas.Bool.{agree_below_at, cases_order, eqb-true}
use Rattle.std.specs.Ordering.{nat_cmp, ordering_then}
use Rattle.std.specs.Cmp.{nat_cmp_is, ranked}
use Rattle.std.specs.Cmp.Lexicographic.{slice_cmp}
use Rattle.hex.specs.Hex.{IsBytes, encode_lower, encode_with, lower_digits}

-- ---- digits

-- the digit of half a byte
abbrev digit : ℕ → ℕ
digit v = slice_index lower_digits v

-- that digit by its value: `0` to `9`, and then `a` to `f`
abbrev digit_by_value : ℕ → ℕ
digit_by_value v = cond (nat_lt v 10) (v + 48) (v + 87)

digit-by_value : (v : ℕ) → v < 16 → digit v ≡ digit_by_value v
digit-by_value v fits = eqb-true _ _ (agree_below_at (λ d. digit d == digit_by_value d) (λ d. true) 16 v refl fits)

digit_by_value-rises : (v w : ℕ) → v < w → digit_by_value v < digit_by_value w
digit_by_value-rises v w below = grind arith

digit-rises : (v w : ℕ) → v < w → w < 16 → digit v < digit w
digit-rises v w below fits =
    let first : v < 16 = omega arith in
    rw (digit-by_value v first, digit-by_value w fits) (digit_by_value-rises v w below)

less : (v w : ℕ) → v < w → nat_cmp v w ≡ Less
less v w below = sym (nat_cmp_is v w Less below)

same : (v w : ℕ) → v ≡ w → nat_cmp v w ≡ Equal
same v w is = sym (nat_cmp_is v w Equal is)

greater : (v w : ℕ) → w < v → nat_cmp v w ≡ Greater
greater v w above = sym (nat_cmp_is v w Greater above)

-- digits are in the order of their values
nat_cmp-digit : (v w : ℕ) → v < 16 → w < 16 → nat_cmp (digit v) (digit w) ≡ nat_cmp v w
nat_cmp-digit v w first second =
    elim (cases_order v w) [
      | inl is ↦ same _ _ (ap digit is) ∙ sym (same v w is)
      | inr (inl below) ↦ less _ _ (digit-rises v w below second) ∙ sym (less v w below)
      | inr (inr above) ↦ greater _ _ (digit-rises w v above first) ∙ sym (greater v w above)
    ]

-- bytes are in the order of their halves, the higher ones first
halves : (a b : ℕ) (rest : Ordering) → ordering_then (nat_cmp (a / 16) (b / 16)) (ordering_then (nat_cmp (a % 16) (b % 16)) rest) ≡ ordering_then (nat_cmp a b) rest
halves a b rest =
    elim (cases_order (a / 16) (b / 16)) [
      | inl high ↦
          elim (cases_order (a % 16) (b % 16)) [
            | inl low ↦ rw (same _ _ high, same _ _ low, same a b (omega arith)) refl
            | inr (inl below) ↦ rw (same _ _ high, less _ _ below, less a b (omega arith)) refl
            | inr (inr above) ↦ rw (same _ _ high, greater _ _ above, greater a b (omega arith)) refl
          ]
      | inr (inl below) ↦ rw (less _ _ below, less a b (omega arith)) refl
      | inr (inr above) ↦ rw (greater _ _ above, greater a b (omega arith)) refl
    ]

then_Equal : (o : Ordering) → ordering_then o Equal ≡ o
then_Equal Less = refl
then_Equal Equal = refl
then_Equal Greater = refl

-- ---- texts

IsBytes-rest : (b : ℕ) (bytes : List ℕ) → IsBytes (b ∷ bytes) → IsBytes bytes
IsBytes-rest b bytes are i = are (suc i)

module _ (own its : List ℕ) where
  -- the order of the first digits
  abbrev pub texts_cmp : ℕ → Ordering
  texts_cmp digits = slice_cmp nat_cmp (take digits (encode_lower own)) (take digits (encode_lower its))

-- two more digits are one more byte
one_byte : (a b : ℕ) (own its : List ℕ) (digits : ℕ) → a < 256 → b < 256 → texts_cmp (a ∷ own) (b ∷ its) (suc (suc digits)) ≡ ordering_then (nat_cmp a b) (texts_cmp own its digits)
unfolding encode_with
one_byte a b own its digits first second =
    rw (nat_cmp-digit (a / 16) (b / 16) (omega arith) (omega arith), nat_cmp-digit (a % 16) (b % 16) (omega arith) (omega arith)) (halves a b (texts_cmp own its digits))

-- an even number of digits
even_digits : (whole : ℕ) (own its : List ℕ) → IsBytes own → IsBytes its → whole ≤ length own → whole ≤ length its
    → texts_cmp own its (2 * whole) ≡ slice_cmp nat_cmp (take whole own) (take whole its)
even_digits zero own its first second long wide = refl
even_digits (suc whole) [] its first second long wide = absurd (omega arith)
even_digits (suc whole) (a ∷ own) [] first second long wide = absurd (omega arith)
even_digits (suc whole) (a ∷ own) (b ∷ its) first second long wide =
    let two : 2 * suc whole ≡ suc (suc (2 * whole)) = omega arith in
    rw two (one_byte a b own its (2 * whole) (first 0) (second 0)
    ∙ ap (ordering_then (nat_cmp a b)) (even_digits whole own its (IsBytes-rest a own first) (IsBytes-rest b its second) (omega arith) (omega arith)))

-- an odd number of digits: one more higher half of a byte
odd_digits : (whole : ℕ) (own its : List ℕ) → IsBytes own → IsBytes its → whole < length own → whole < length its
    → texts_cmp own its (2 * whole + 1) ≡ ordering_then (slice_cmp nat_cmp (take whole own) (take whole its)) (nat_cmp (slice_index own whole / 16) (slice_index its whole / 16))
unfolding encode_with
odd_digits whole [] its first second long wide = absurd (omega arith)
odd_digits whole (a ∷ own) [] first second long wide = absurd (omega arith)
odd_digits zero (a ∷ own) (b ∷ its) first second long wide =
    let high : a < 256 = first 0 in
    let low : b < 256 = second 0 in
    rw (nat_cmp-digit (a / 16) (b / 16) (omega arith) (omega arith)) (then_Equal (nat_cmp (a / 16) (b / 16)))
odd_digits (suc whole) (a ∷ own) (b ∷ its) first second long wide =
    let two : 2 * suc whole + 1 ≡ suc (suc (2 * whole + 1)) = omega arith in
    rw two (one_byte a b own its (2 * whole + 1) (first 0) (second 0)
    ∙ ap (ordering_then (nat_cmp a b)) (odd_digits whole own its (IsBytes-rest a own first) (IsBytes-rest b its second) (omega arith) (omega arith))
    ∙ then_assoc (nat_cmp a b) _ _)
  where
    then_assoc : (o p q : Ordering) → ordering_then o (ordering_then p q) ≡ ordering_then (ordering_then o p) q
    then_assoc Less p q = refl
    then_assoc Equal p q = refl
    then_assoc Greater p q = refl

parity : (n : ℕ) → (n % 2 ≡ 0) ⊎ (n % 2 ≡ 1)
parity n = grind arith

-- the bytes of the first digits decide, and then the half of a byte
pub first_digits : (digits : ℕ) (own its : List ℕ) (half : Ordering) → IsBytes own → IsBytes its → digits ≤ 2 * length own → digits ≤ 2 * length its
    → (digits % 2 ≡ 1 → half ≡ nat_cmp (slice_index own (digits / 2) / 16) (slice_index its (digits / 2) / 16)) → (digits % 2 ≡ 0 → half ≡ Equal)
    → ordering_then (slice_cmp nat_cmp (take (digits / 2) own) (take (digits / 2) its)) half ≡ texts_cmp own its digits
first_digits digits own its half first second long wide odd even =
    elim (parity digits) [
      | inl none ↦
          let all : 2 * (digits / 2) ≡ digits = omega arith in
          rw (even none, then_Equal (slice_cmp nat_cmp (take (digits / 2) own) (take (digits / 2) its)))
          (sym (even_digits (digits / 2) own its first second (omega arith) (omega arith)) ∙ ap (texts_cmp own its) all)
      | inr one ↦
          let all : 2 * (digits / 2) + 1 ≡ digits = omega arith in
          rw (odd one) (sym (odd_digits (digits / 2) own its first second (omega arith) (omega arith)) ∙ ap (texts_cmp own its) all)
    ]

-- ---- texts of bytes that rise

-- if the later parts don't fall, neither do the whole
pub then_rises : (o p q : Ordering) → (p ≡ Less → q ≡ Greater → ⊥) → ordering_then o p ≡ Less → ordering_then o q ≡ Greater → ⊥
then_rises Less p q rise up down = cc down
then_rises Equal p q rise up down = rise up down
then_rises Greater p q rise up down = cc up

no_higher : (a b : ℕ) (o rest : Ordering) → o ≡ nat_cmp a b → ordering_then o rest ≡ Less → a ≤ b
no_higher a b Less rest is up = let below = ranked a b Less is in omega arith
no_higher a b Equal rest is up = let tied = ranked a b Equal is in omega arith
no_higher a b Greater rest is up = cc up

half_falls : (a b : ℕ) (rest : Ordering) → nat_cmp (a / 16) (b / 16) ≡ Greater → ordering_then (nat_cmp a b) rest ≡ Less → ⊥
half_falls a b rest half up =
    let low = no_higher a b (nat_cmp a b) rest refl up in
    let high : b / 16 < a / 16 = ranked (a / 16) (b / 16) Greater (sym half) in
    omega (arith, low, high)

-- the first digits of bytes that rise don't fall
pub texts_rise : (digits : ℕ) (own its : List ℕ) → IsBytes own → IsBytes its → slice_cmp nat_cmp own its ≡ Less → texts_cmp own its digits ≡ Greater → ⊥
unfolding encode_with
texts_rise zero own its first second up down = cc down
texts_rise (suc digits) [] [] first second up down = cc up
texts_rise (suc digits) [] (b ∷ its) first second up down = cc down
texts_rise (suc digits) (a ∷ own) [] first second up down = cc up
texts_rise (suc zero) (a ∷ own) (b ∷ its) first second up down =
    half_falls a b (slice_cmp nat_cmp own its) (sym (odd_digits zero (a ∷ own) (b ∷ its) first second (omega arith) (omega arith)) ∙ down) up
texts_rise (suc (suc digits)) (a ∷ own) (b ∷ its) first second up down =
    then_rises (nat_cmp a b) (slice_cmp nat_cmp own its) (texts_cmp own its digits) (texts_rise digits own its (IsBytes-rest a own first) (IsBytes-rest b its second)) up
    (sym (one_byte a b own its digits (first 0) (second 0)) ∙ down)

-- texts that agree in two digits or more begin with the same byte
pub first_byte_same : (digits : ℕ) (own its : List ℕ) → IsBytes own → IsBytes its → 2 ≤ digits → texts_cmp own its digits ≡ Equal → slice_index its 0 ≡ slice_index own 0
unfolding encode_with
first_byte_same zero own its first second long tie = absurd (omega arith)
first_byte_same (suc zero) own its first second long tie = absurd (omega arith)
first_byte_same (suc (suc digits)) [] [] first second long tie = refl
first_byte_same (suc (suc digits)) [] (b ∷ its) first second long tie = cc tie
first_byte_same (suc (suc digits)) (a ∷ own) [] first second long tie = cc tie
first_byte_same (suc (suc digits)) (a ∷ own) (b ∷ its) first second long tie =
    tied (nat_cmp a b) (texts_cmp own its digits) refl (sym (one_byte a b own its digits (first 0) (second 0)) ∙ tie)
  where
    tied : (o rest : Ordering) → o ≡ nat_cmp a b → ordering_then o rest ≡ Equal → b ≡ a
    tied Less rest is h = cc h
    tied Equal rest is h = sym (ranked a b Equal is)
    tied Greater rest is h = cc h
