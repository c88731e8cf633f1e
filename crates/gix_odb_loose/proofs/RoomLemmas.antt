-- The length of a piece, for callers.
use Rattle.std.specs.Prelude.{◌≡◌, ℕ, ◌+◌, ◌-◌, ◌<◌, ◌≤◌, Bool, true, false, nat_lt, min, if◌then◌else◌, refl}
use Rattle.std.proofs.Common.{arith}
use Rattle.std.proofs.lemmas.Grind.{common_steps}
use Rattle.gix_odb_loose.specs.WritePieces.{piece_size, room_behind}

-- a piece has room, and at most one byte more than the size
room_some : (size written : ℕ) (b : Bool) → nat_lt written size ≡ b → 1 ≤ (if b then min piece_size (size - written + 1) else 1)
room_some size written true e = grind (arith, common_steps)
room_some size written false e = omega arith

room_most : (size written : ℕ) (b : Bool) → nat_lt written size ≡ b → written ≤ size → written + (if b then min piece_size (size - written + 1) else 1) ≤ size + 1
room_most size written true e within = let less : written < size = grind (arith, common_steps, e) in grind (arith, common_steps, less)
room_most size written false e within = omega (arith, within)

pub has_room : (size written : ℕ) → 1 ≤ room_behind size written
has_room size written = room_some size written (nat_lt written size) refl

pub room_within : (size written : ℕ) → written ≤ size → written + room_behind size written ≤ size + 1
room_within size written within = room_most size written (nat_lt written size) refl within

few_by : (size written : ℕ) (b : Bool) → (if b then min piece_size (size - written + 1) else 1) ≤ piece_size
few_by size written true = grind (arith, common_steps)
few_by size written false = omega arith

pub room_few : (size written : ℕ) → room_behind size written ≤ piece_size
room_few size written = few_by size written (nat_lt written size)

-- a piece that takes all the room and fits is a whole one
whole_by : (size written room len : ℕ) (b : Bool) → nat_lt written size ≡ b → room ≡ (if b then min piece_size (size - written + 1) else 1) → len ≡ room → written + len ≤ size → len ≡ piece_size
whole_by size written room len true e room_is len_is fits = grind (arith, common_steps, e, room_is, len_is, fits)
whole_by size written room len false e room_is len_is fits = absurd (grind (arith, common_steps, e, room_is, len_is, fits))

pub whole_piece : (size written len : ℕ) → len ≡ room_behind size written → written + len ≤ size → len ≡ piece_size
whole_piece size written len full fits = whole_by size written (room_behind size written) len (nat_lt written size) refl refl full fits
