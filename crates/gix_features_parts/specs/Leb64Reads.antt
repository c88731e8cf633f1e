-- What is read from a source for a number of variable length, and what that number is.
use Rattle.std.specs.Prelude.{◌≡◌, ℕ, ◌^◌, ◌≤◌, false, List, [], ◌∷◌, ◌++◌, length, Option, Some, None, Result, Ok, Err}
use Rattle.gix_features_parts.specs.Leb64.{goes_on, value_of, WantsMore}
use Rattle.gix_features_parts.specs.declared.decode.Error.{Error}
use Rattle.gix_features_parts.specs.declared.decode.Error.TheVariants.{Overflow, Source, Truncated}

-- a source gave these bytes, if it reports what is left of it; one that doesn't still doesn't
abbrev pub TakesBytes : Option (List ℕ) → Option (List ℕ) → List ℕ → Type 0
TakesBytes None now bytes = now ≡ None
TakesBytes (Some left) now bytes = (rest : List ℕ) × (left ≡ bytes ++ rest) × (now ≡ Some rest)

-- nothing is left, if the source reports that
abbrev pub IsAtEnd : Option (List ℕ) → Type 0
IsAtEnd None = Unit {0}
IsAtEnd (Some left) = left ≡ []

-- The bytes that were read are a number; or only the last one takes it above 64 bits; or another byte is needed, which the
-- source didn't give.
abbrev pub Decodes : List ℕ → Result (ℕ × ℕ) Error → Type 0
Decodes bytes (Ok number) =
    (front : List ℕ) × (last : ℕ) × (bytes ≡ front ++ last ∷ []) × WantsMore front × (goes_on last ≡ false)
    × (value_of bytes ≡ number.0) × (length bytes ≡ number.1)
Decodes bytes (Err Overflow) = (front : List ℕ) × (last : ℕ) × (bytes ≡ front ++ last ∷ []) × WantsMore front × (2 ^ 64 ≤ value_of bytes)
Decodes bytes (Err Truncated) = WantsMore bytes
Decodes bytes (Err Source) = WantsMore bytes
