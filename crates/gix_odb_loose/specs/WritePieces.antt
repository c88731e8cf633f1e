-- The pieces in which the data of an object are appended.
use Rattle.std.specs.Prelude.{◌≡◌, ℕ, ◌+◌, ◌-◌, ◌*◌, ◌≤◌, nat_lt, min, List, [], ◌∷◌, ◌++◌, length, All, if◌then◌else◌}

-- The most bytes of one append. Each piece is held in memory whole, and each costs a call of the disk.
abbrev pub piece_size : ℕ
piece_size = 65536

-- the most bytes of a piece after `written` bytes: one more than the size is taken, to see that there are too many
abbrev pub room_behind : ℕ → ℕ → ℕ
room_behind size written = if nat_lt written size then min piece_size (size - written + 1) else 1

-- this many bytes are whole pieces
abbrev pub IsInPieces : ℕ → Type 0
IsInPieces len = (count : ℕ) × (len ≡ piece_size * count)

-- a last piece, if there is one: it isn't empty
abbrev pub IsLast : List (List ℕ) → Type 0
IsLast [] = Unit {0}
IsLast (piece ∷ []) = (1 ≤ length piece) × (length piece ≤ piece_size)
IsLast (piece ∷ other ∷ more) = ⊥

-- Data are cut into whole pieces, and a last one that may be shorter, but isn't empty.
pub record IsCut (pieces : List (List ℕ)) : Type 0 where
  pub whole : List (List ℕ)
  pub last : List (List ℕ)
  pub is : pieces ≡ whole ++ last
  pub are_whole : All (λ (piece : List ℕ). length piece ≡ piece_size) whole
  pub is_last : IsLast last
