-- What a write takes from the source of its data, and how many bytes.
use Rattle.std.specs.Prelude.{◌≡◌, ◌⊎◌, ℕ, ◌+◌, ◌-◌, ◌^◌, ◌<◌, ◌≤◌, min, List, [], ◌++◌, length, Option, Some, None, IfSome}

-- ---- what is taken from a source

-- these bytes were taken from the front of what a source had left, if it reports that
abbrev pub Draws : Option (List ℕ) → Option (List ℕ) → List ℕ → Type 0
Draws None rest bytes = rest ≡ None
Draws (Some left) None bytes = ⊥
Draws (Some left) (Some rest) bytes = bytes ++ rest ≡ left

-- nothing is left, if the source reports that
abbrev pub IsAtEnd : Option (List ℕ) → Type 0
IsAtEnd None = Unit {0}
IsAtEnd (Some rest) = rest ≡ []

-- what a write takes from its source: bytes from the front, at most one more than the size
pub record TakesFrom (size : ℕ) (left rest : Option (List ℕ)) (faults now : ℕ) : Type 0 where
  pub all : List ℕ
  pub drawn : Draws left rest all
  pub few : length all ≤ size + 1
  pub later : faults ≤ now

-- There are fewer bytes of data than the size says, and all are counted; or there are more, and one more is counted, in 64 bits.
abbrev pub OtherLength : Option (List ℕ) → ℕ → ℕ → Type 0
OtherLength left size actual = IfSome left (λ bytes. ((length bytes < size) × (actual ≡ length bytes)) ⊎ ((size < length bytes) × (actual ≡ min (size + 1) (2 ^ 64 - 1))))

-- The number of bytes appended isn't the size: fewer, and all are counted; or one more than the size, which is counted in 64
-- bits.
abbrev pub CountsOther : (size : ℕ) (appended : List ℕ) (actual : ℕ) → Type 0
CountsOther size appended actual = ((length appended < size) × (actual ≡ length appended)) ⊎ ((length appended ≡ size + 1) × (actual ≡ min (size + 1) (2 ^ 64 - 1)))
