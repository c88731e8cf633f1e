-- Places of which the first have values, and those after them are spare.
use Rattle.std.specs.Option.{some_prefix}
use Rattle.std.specs.Prelude.{◌≡◌, ℕ, ◌+◌, ◌-◌, List, ◌++◌, length, map, replicate, Option, Some, None}

-- places with these values, and so many empty ones after them
abbrev pub with_spare : {X : Type 0} → List X → ℕ → List (Option X)
with_spare values spare = map Some values ++ replicate spare None

-- the first `len` places have values, and the others are empty
pub record HasValues {X : Type 0} (len : ℕ) (places : List (Option X)) : Type 0 where
  pub count : length (some_prefix places) ≡ len
  pub spare : places ≡ with_spare (some_prefix places) (length places - len)

-- places with these values, and at least one empty one after them
abbrev pub HasPlaceLeft : {X : Type 0} → List X → List (Option X) → Type 0
HasPlaceLeft values places = (spare : ℕ) × (places ≡ with_spare values (spare + 1))
