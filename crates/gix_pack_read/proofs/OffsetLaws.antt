-- The laws of four-byte offsets, for callers: an offset below the high bit is itself, and others refer to a wide one.
use Rattle.std.proofs.Common.{◌≡◌, ℕ, ◌-◌, ◌<◌, ◌≤◌, true, List, slice_index, arith}
use Rattle.gix_pack_read.specs.Rows.{high_bit, is_named_below, offset_in}

pub offset_in-low : (wides : List ℕ) (narrow : ℕ) → narrow < high_bit → offset_in wides narrow ≡ narrow
offset_in-low wides narrow low = grind arith

pub offset_in-wide : (wides : List ℕ) (narrow : ℕ) → high_bit ≤ narrow → offset_in wides narrow ≡ slice_index wides (narrow - high_bit)
offset_in-wide wides narrow high = grind arith

-- a row of the wide offsets that is referred to is below n
pub named_below : (n narrow : ℕ) → is_named_below n narrow ≡ true → high_bit ≤ narrow → narrow - high_bit < n
named_below n narrow named high = grind arith
