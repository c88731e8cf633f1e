-- Lists in blocks of one width, and blocks in groups of this width.
use Rattle.std.specs.Prelude.{◌≡◌, ℕ, ◌≤◌, List, [], ◌∷◌, length, replicate, ⊤, Option, Some, None}
use Rattle.std.specs.List.{flat_map}

-- the items of all blocks, one block after another
abbrev pub joined : {X : Type 0} → List (List X) → List X
joined blocks = flat_map (λ block. block) blocks

-- each block has the width, except the last, which may be shorter
abbrev pub AreFilled : {X : Type 0} → ℕ → List (List X) → Type 0
AreFilled width [] = ⊤
AreFilled width (block ∷ []) = length block ≤ width
AreFilled width (block ∷ next ∷ rest) = (length block ≡ width) × AreFilled width (next ∷ rest)

-- groups of blocks: all groups and all blocks have the width, except the last
abbrev pub IsFilled : {X : Type 0} → ℕ → List (List (List X)) → Type 0
IsFilled width groups = AreFilled width groups × AreFilled width (joined groups)

-- the places of a list: those of its groups of blocks, and so many empty ones if it has none
abbrev pub places_in : {X : Type 0} → ℕ → Option (List (List (List (Option X)))) → List (Option X)
places_in count None = replicate count None
places_in count (Some groups) = joined (joined groups)

-- the groups of a list, if it has any, are of the width and have so many places
abbrev pub HasPlaces : {X : Type 0} → (width count : ℕ) → Option (List (List (List X))) → Type 0
HasPlaces width count None = ⊤
HasPlaces width count (Some groups) = IsFilled width groups × (count ≡ length (joined (joined groups)))
