-- Numbers as texts: decimal digits without a sign and without leading zeros.
use Rattle.std.specs.Prelude.{ℕ, ◌^◌, ◌==◌, ◌&&◌, ◌||◌, Bool, false, not, List, [], ◌∷◌, length, nat_lt, Option, Some, None, if◌then◌else◌}
use Rattle.std.specs.Str.{all_ascii_digits}
use Rattle.std.specs.Str.Parse.{digits_value}

-- a zero comes first only in `0` itself
abbrev pub has_no_leading_zero : List ℕ → Bool
has_no_leading_zero [] = false
has_no_leading_zero (digit ∷ digits) = not (digit == 48) || (length digits == 0)

-- the number in a text, if it is one below 2^64
unfoldable pub number_of : List ℕ → Option ℕ
number_of text =
    if all_ascii_digits text && has_no_leading_zero text && nat_lt (digits_value 10 text) (2 ^ 64) then Some (digits_value 10 text) else None

-- the number in a text, if it is one below a limit
unfoldable pub number_below : ℕ → List ℕ → Option ℕ
number_below limit text = fits (number_of text)
  where
    fits : Option ℕ → Option ℕ
    fits None = None
    fits (Some number) = if nat_lt number limit then Some number else None
