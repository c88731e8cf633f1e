-- Laws of numbers as texts.
use Rattle.std.proofs.Common.{◌≡◌, ℕ, ◌^◌, ◌<◌, ◌≤◌, ◌&&◌, Bool, true, false, List, [], ◌∷◌, length, get_or, nat_lt, Option, Some, None, cond, inl, inr, refl, sym, ap, ◌∙◌, arith, zero, suc}
use Rattle.std.specs.Fmt.{decimal}
use Rattle.std.specs.Str.{all_ascii_digits}
use Rattle.std.specs.Str.Parse.{digits_value}
use Rattle.std.proofs.lemmas.Bool.{and_parts, cases_lt}
use Rattle.std.proofs.lemmas.Grind.{common_steps}
use Rattle.std.proofs.lemmas.Fmt.{decimal-digits_value, digits_decimal, digits_value-decimal, first_decimal, decimal_digit}
use Rattle.std.proofs.lemmas.Str.Parse.{IsNumeralModel, numerals_by_value, tells_all_ascii_digits}
use Rattle.odb_base.specs.Decimal.{has_no_leading_zero, number_of, number_below}

-- std's words for decimal digits
pub own : IsNumeralModel (λ ds. all_ascii_digits ds ≡ true) (digits_value 10)
own = numerals_by_value _ tells_all_ascii_digits

-- a text that is a number: digits alone, no leading zero, and the value of its digits
pub record IsNumber (text : List ℕ) (n : ℕ) : Type 0 where
  pub digits : all_ascii_digits text ≡ true
  pub plain : has_no_leading_zero text ≡ true
  pub fits : digits_value 10 text < 2 ^ 64
  pub value : digits_value 10 text ≡ n

chosen : {A : Type 0} (b : Bool) (x y : A) → cond b (Some x) None ≡ Some y → (b ≡ true) × (x ≡ y)
chosen true x y h = (refl, cc h)
chosen false x y h = cc h

below : (n limit : ℕ) → nat_lt n limit ≡ true → n < limit
below n limit h = grind (arith, h)

pub IsNumber-number_of : (text : List ℕ) (n : ℕ) → number_of text ≡ Some n → IsNumber text n
unfolding number_of
IsNumber-number_of text n h =
    let some = chosen (all_ascii_digits text && has_no_leading_zero text && nat_lt (digits_value 10 text) (2 ^ 64)) (digits_value 10 text) n h in
    let outer = and_parts (all_ascii_digits text && has_no_leading_zero text) (nat_lt (digits_value 10 text) (2 ^ 64)) some.0 in
    let inner = and_parts (all_ascii_digits text) (has_no_leading_zero text) outer.0 in
    record { digits = inner.0; plain = inner.1; fits = below (digits_value 10 text) (2 ^ 64) outer.1; value = some.1 }

tested : (n limit : ℕ) → n < limit → nat_lt n limit ≡ true
tested n limit h = grind (arith, h)

not_tested : (n limit : ℕ) → limit ≤ n → nat_lt n limit ≡ false
not_tested n limit h = grind (arith, h)

pub number_of-IsNumber : (text : List ℕ) (n : ℕ) → IsNumber text n → number_of text ≡ Some n
unfolding number_of
number_of-IsNumber text n is = rw (is.digits, is.plain, tested (digits_value 10 text) (2 ^ 64) is.fits, is.value) refl

-- no text but a number's own is one
pub number_of-fits : (text : List ℕ) (n : ℕ) → number_of text ≡ Some n → n < 2 ^ 64
number_of-fits text n h = let is = IsNumber-number_of text n h in omega (arith, is.fits, is.value)

plain_after : (text : List ℕ) → 48 < get_or text 0 0 → has_no_leading_zero text ≡ true
plain_after [] h = absurd (omega arith)
plain_after (d ∷ ds) h = grind (arith, common_steps, h)

plain-decimal : (n : ℕ) → n < 2 ^ 64 → has_no_leading_zero (decimal n) ≡ true
plain-decimal zero h = rw (decimal_digit 0 (omega arith)) refl
plain-decimal (suc n) h = plain_after (decimal (suc n)) (first_decimal (suc n) (omega arith) h)

-- a number's text is that number
pub number_of-decimal : (n : ℕ) → n < 2 ^ 64 → number_of (decimal n) ≡ Some n
number_of-decimal n h =
    let same = digits_value-decimal own n h in
    number_of-IsNumber (decimal n) n (record { digits = digits_decimal own n h; plain = plain-decimal n h; fits = omega arith; value = same })

not_empty : (text : List ℕ) → has_no_leading_zero text ≡ true → 0 < length text
not_empty [] h = cc h
not_empty (d ∷ ds) h = omega arith

zero_alone : (text : List ℕ) → has_no_leading_zero text ≡ true → get_or text 0 0 ≡ 48 → length text ≡ 1
zero_alone [] h z = cc h
zero_alone (d ∷ ds) h z = grind (arith, common_steps, h, z)

-- a text that is a number is that number's text
pub decimal-number_of : (text : List ℕ) (n : ℕ) → number_of text ≡ Some n → decimal n ≡ text
decimal-number_of text n h =
    let is = IsNumber-number_of text n h in
    ap decimal (sym is.value) ∙ decimal-digits_value own text is.digits (not_empty text is.plain) (zero_alone text is.plain) is.fits

-- ---- below a limit

pub number_below-is : (limit : ℕ) (text : List ℕ) (n : ℕ) → number_of text ≡ Some n → n < limit → number_below limit text ≡ Some n
unfolding number_below
number_below-is limit text n e h = rw (e, tested n limit h) refl

pub number_below-above : (limit : ℕ) (text : List ℕ) (n : ℕ) → number_of text ≡ Some n → limit ≤ n → number_below limit text ≡ None
unfolding number_below
number_below-above limit text n e h = rw (e, not_tested n limit h) refl

pub number_below-None : (limit : ℕ) (text : List ℕ) → number_of text ≡ None → number_below limit text ≡ None
unfolding number_below
number_below-None limit text e = rw e refl

-- the two cases of a number's text
split_at : (limit : ℕ) (text : List ℕ) (found : Option ℕ) (n : ℕ) → number_of text ≡ found → number_below limit text ≡ Some n → (number_of text ≡ Some n) × (n < limit)
split_at limit text None n e h = cc (h, number_below-None limit text e)
split_at limit text (Some m) n e h =
    elim (cases_lt m limit) [
      | inl less ↦
          let same : m ≡ n = cc (h, number_below-is limit text m e less) in
          (cc, omega arith)
      | inr more ↦ cc (h, number_below-above limit text m e more)
    ]

pub number_of-number_below : (limit : ℕ) (text : List ℕ) (n : ℕ) → number_below limit text ≡ Some n → (number_of text ≡ Some n) × (n < limit)
number_of-number_below limit text n h = split_at limit text (number_of text) n refl h
