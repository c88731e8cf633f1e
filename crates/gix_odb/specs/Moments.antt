-- What held at some moment, and what held throughout. Moments are numbers.
use Rattle.std.specs.Prelude.{ℕ, ◌≤◌}

-- something held at some moment from `begun` to `now`
pub record Sometime (begun now : ℕ) (P : ℕ → Type 0) : Type 0 where
  pub moment : ℕ
  pub from : begun ≤ moment
  pub to : moment ≤ now
  pub was : P moment

-- something held at every moment from `begun` to `now`
abbrev pub Throughout : (begun now : ℕ) → (ℕ → Type 0) → Type 0
Throughout begun now P = (moment : ℕ) → begun ≤ moment → moment ≤ now → P moment
