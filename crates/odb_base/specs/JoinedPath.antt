-- A path as one text: its names, each after a NUL, which is in no name.
use Rattle.std.specs.Prelude.{◌≡◌, ℕ, ◌==◌, true, false, List, ◌∷◌, ◌++◌, drop, Option, Some, None, if◌then◌else◌, map}
use Rattle.std.specs.List.{slice_split, list_all, flat_map, starts_with}
use Rattle.std.specs.Int.{w64, from_be_bytes}
use Rattle.odb_base.specs.Path.{Path, is_name, nul, same_name, slash}

-- the text of a path's names
unfoldable pub joined : Path → List ℕ
joined path = flat_map (λ name. nul ∷ name) path

-- the names in a text
unfoldable pub names_joined : List ℕ → Path
names_joined text = drop 1 (slice_split (λ b. b == nul) text)

-- a text that is a path's
pub record IsJoined (text : List ℕ) : Type 0 where
  pub whole : text ≡ joined (names_joined text)
  pub are_names : list_all is_name (names_joined text) ≡ true

-- the first eight bytes of a text as a big-endian number; missing bytes count as zeros
unfoldable pub head_of : List ℕ → ℕ
head_of text = from_be_bytes w64 text

-- a text with a slash in the place of each NUL
unfoldable pub slashed : List ℕ → List ℕ
slashed text = map (λ b. if b == nul then slash else b) text

-- the rest of a path's text after that of another: the text of the names that the other lacks
abbrev pub IsBehind : Path → Path → Option (List ℕ) → Type 0
IsBehind path base None = starts_with same_name path base ≡ false
IsBehind path base (Some rest) = (starts_with same_name path base ≡ true) × (base ++ names_joined rest ≡ path) × IsJoined rest
