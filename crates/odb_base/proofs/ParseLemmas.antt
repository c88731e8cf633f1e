-- How what `parse` reads relates to the number in a text.
use Rattle.std.proofs.Common.{◌≡◌, ◌≢◌, ℕ, ◌^◌, ◌<◌, ◌==◌, ◌&&◌, Bool, true, false, not, List, [], ◌∷◌, length, get_or, Option, Some, None, Result, Ok, Err, refl, sym, ap, ◌∙◌, arith}
use Rattle.std.specs.Prelude.{IfSome}
use Rattle.std.specs.Result.{result_ok, OkIff}
use Rattle.std.specs.Fmt.{decimal}
use Rattle.std.specs.Str.{all_ascii_digits}
use Rattle.std.specs.Str.Parse.{digits_value, ParsesUnsigned}
use Rattle.std.proofs.lemmas.Bool.{and_parts}
use Rattle.std.proofs.lemmas.Grind.{common_steps}
use Rattle.std.proofs.lemmas.Str.Parse.{parse_plain}
use Rattle.odb_base.specs.Decimal.{has_no_leading_zero, number_of}
use Rattle.odb_base.proofs.DecimalLemmas.{own, IsNumber, IsNumber-number_of, number_of-IsNumber, number_of-decimal, decimal-number_of}

-- whether a text has neither a plus nor a leading zero
abbrev pub is_plain : List ℕ → Bool
is_plain text = has_no_leading_zero text && not (get_or text 0 0 == 43)

no_plus : (text : List ℕ) → not (get_or text 0 0 == 43) ≡ true → get_or text 0 0 ≢ 43
no_plus text h e = grind (arith, common_steps, h, e)

abbrev Numeral : List ℕ → Type 0
Numeral text = (all_ascii_digits text ≡ true) × (0 < length text) × (digits_value 10 text < 2 ^ 64)

-- a text of no number
not_number : (text : List ℕ) (o : Option ℕ) → number_of text ≡ o → ((n : ℕ) → IsNumber text n → ⊥) → o ≡ None
not_number text None e other = refl
not_number text (Some n) e other = absurd (other n (IsNumber-number_of text n e))

long : (text : List ℕ) → has_no_leading_zero text ≡ true → 0 < length text
long [] h = cc h
long (d ∷ ds) h = omega arith

read : {E : Type 0} (text : List ℕ) (r : Result ℕ E) → has_no_leading_zero text ≡ true → OkIff r (Numeral text) (digits_value 10 text) → result_ok r ≡ number_of text
read text (Ok n) plain h = sym (number_of-IsNumber text n (record { digits = h.0.0; plain = plain; fits = h.0.2; value = sym h.1 }))
read text (Err e) plain h = sym (not_number text (number_of text) refl (λ n is. h (is.digits, long text plain, is.fits)))

-- what `parse` reads of a plain text is its number
pub number_of-parse : {E : Type 0} (text : List ℕ) (r : Result ℕ E) → is_plain text ≡ true → ParsesUnsigned 64 10 text r → result_ok r ≡ number_of text
number_of-parse text r plain h =
    let parts = and_parts (has_no_leading_zero text) (not (get_or text 0 0 == 43)) plain in
    read text r parts.0 (parse_plain own 64 text r h (no_plus text parts.1))

no_plus-digits : (text : List ℕ) → all_ascii_digits text ≡ true → get_or text 0 0 ≡ 43 → ⊥
no_plus-digits [] h e = absurd (omega arith)
no_plus-digits (d ∷ ds) h e = grind (arith, common_steps, h, e)

-- a number is a plain text
plain-IsNumber : (text : List ℕ) (n : ℕ) → IsNumber text n → is_plain text ≡ true
plain-IsNumber text n is = rw is.plain (grind (arith, common_steps, no_plus-digits text is.digits))

pub number_of-not_plain : (text : List ℕ) → is_plain text ≡ false → number_of text ≡ None
number_of-not_plain text h = not_number text (number_of text) refl (λ n is. cc (h, plain-IsNumber text n is))

-- ---- what follows for an answer that is the text's number

pub spelled : (text : List ℕ) (answer : Option ℕ) → answer ≡ number_of text → IfSome answer (λ number. decimal number ≡ text)
spelled text None h = tt
spelled text (Some n) h = decimal-number_of text n (sym h)

pub only : (text : List ℕ) (answer : Option ℕ) → answer ≡ number_of text → (number : ℕ) → number < 2 ^ 64 → decimal number ≡ text → answer ≡ Some number
only text answer h number fits e = h ∙ ap number_of (sym e) ∙ number_of-decimal number fits
