-- Flags that ask for an interruption: what an answer says of the count of the times that a flag was found set.
use Rattle.std.specs.Prelude.{◌≡◌, ℕ, zero, suc, ◌≤◌, Bool, true, false}
use Rattle.odb_base.specs.Faults.{Rose}

-- the count never falls: it rises exactly if the answer is that the flag is set
pub record Counts (before now : ℕ) (answer : Bool) : Type 0 where
  pub later : before ≤ now
  pub set : answer ≡ true → Rose before now
  pub unset : answer ≡ false → now ≡ before

-- a flag that isn't set at so many further reads, and then is
abbrev pub CountsDown : ℕ → Bool → ℕ → Type 0
CountsDown zero answer left = (answer ≡ true) × (left ≡ 0)
CountsDown (suc n) answer left = (answer ≡ false) × (left ≡ n)
