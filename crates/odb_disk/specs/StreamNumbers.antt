-- How the code finds the least number for a new stream. No public clause cites this.
use Rattle.std.specs.Prelude.{◌≡◌, ℕ, ◌<◌, true, List}
use Rattle.std.specs.Ordering.{nat_cmp}
use Rattle.std.specs.FinMap as finite
use Rattle.odb_disk.specs.declared.entry.Entry.{Entry}

-- each number below this one is that of an open stream
pub record AreOpenBelow (open_dirs : finite.FinMap nat_cmp (List Entry)) (bound : ℕ) : Type 0 where
  pub each : (n : ℕ) → n < bound → finite.contains_key open_dirs n ≡ true
