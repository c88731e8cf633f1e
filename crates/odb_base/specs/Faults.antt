-- Counts of faults, and what an answer says of them. A count saturates.
use Rattle.std.specs.Prelude.{ℕ, ◌+◌, ◌-◌, ◌^◌, ◌≤◌, min, Result, OnErr}

-- the greatest count, as one is kept in 64 bits
abbrev pub greatest_count : ℕ
greatest_count = 2 ^ 64 - 1

-- the count after one more fault
abbrev pub risen : ℕ → ℕ
risen count = min (count + 1) greatest_count

-- the count rose in between, or is at its greatest value
abbrev pub Rose : ℕ → ℕ → Type 0
Rose before now = risen before ≤ now

-- a call whose only error is a fault: the count never falls, and an error is returned only if it rose
pub record HasCause {T E : Type 0} (before now : ℕ) (result : Result T E) : Type 0 where
  pub later : before ≤ now
  pub failed : OnErr result (Rose before now)
