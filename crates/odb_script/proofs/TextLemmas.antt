-- The test of a text.
use Rattle.std.proofs.Common.{◌≡◌, true, false, ℕ, List, Bool, refl}
use Rattle.std.specs.Str.{IsUtf8, is_utf8}
use Rattle.std.proofs.lemmas.Str.{IsUtf8-from_is_utf8, is_utf8-from_IsUtf8}

pub utf8_true : (line : List ℕ) → IsUtf8 line → is_utf8 line ≡ true
utf8_true line is = is_utf8-from_IsUtf8 line is

tested : (line : List ℕ) (b : Bool) → is_utf8 line ≡ b → ¬ (IsUtf8 line) → b ≡ false
tested line false e other = refl
tested line true e other = absurd (other (IsUtf8-from_is_utf8 line e))

pub utf8_false : (line : List ℕ) → ¬ (IsUtf8 line) → is_utf8 line ≡ false
utf8_false line other = tested line (is_utf8 line) refl other
