-- Counts of what has been done: how one goes on, and what a read or a write adds to it.
use Rattle.std.specs.Prelude.{◌≡◌, ℕ, ◌+◌, ◌-◌, ◌^◌, min, Result, Ok, Err}
use Rattle.odb_base.specs.declared.source.Failed.{Failed}

-- a count after so many more steps; it saturates at the greatest value of 64 bits
abbrev pub counted : ℕ → ℕ → ℕ
counted before step = min (before + step) (2 ^ 64 - 1)

-- a count goes on by the bytes that a call moved, and not by a call that failed
abbrev pub CountsBytes : ℕ → ℕ → Result ℕ Failed → Type 0
CountsBytes before now (Ok n) = now ≡ counted before n
CountsBytes before now (Err failed) = now ≡ before
