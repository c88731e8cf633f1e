-- How many comparisons a binary search makes, by a counter before and after it.
use Rattle.std.specs.Prelude.{ℕ, ◌+◌, ◌-◌, ◌*◌, ◌^◌, ◌≤◌}

-- no more than the digits of n in base two: a binary search among n rows
pub record IsSearch (n before after : ℕ) : Type 0 where
  pub counted : before ≤ after
  pub fits : 2 ^ (after - before) ≤ 2 * n + 1

-- at most twice as many as one binary search among n rows may make
pub record AreTwoSearches (n before after : ℕ) : Type 0 where
  pub counted : before ≤ after
  pub each : ℕ
  pub fits : 2 ^ each ≤ 2 * n + 1
  pub at_most : after - before ≤ 2 * each
