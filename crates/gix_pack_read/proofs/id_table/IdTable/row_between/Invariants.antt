use Rattle.std.proofs.Common.{◌≡◌, ℕ, ◌-◌, ◌<◌, ◌≤◌, slice_get, Some}
use Rattle.gix_hash.proofs.StepsLaws.{AreLeft}
use Rattle.gix_pack_read.specs.IdTable.{ids_in}
use Rattle.gix_pack_read.proofs.id_table.IdTable.row_between.Given as goal

abbrev pub invariant-loop-low : goal.invariant-loop-low
invariant-loop-low g l = record {
  from : l.start ≤ l.low;
  order : l.low ≤ l.high;
  to : l.high ≤ l.end;
  passed : (row : ℕ) → l.start ≤ row → row < l.low → slice_get (ids_in l.self) row ≡ Some l.id → ⊥;
  others : (row : ℕ) → l.high ≤ row → row < l.end → slice_get (ids_in l.self) row ≡ Some l.id → ⊥;
  left : AreLeft (l.end - l.start) (l.high - l.low) l.fn.steps l.steps;
}

abbrev pub decreases-loop-low : goal.decreases-loop-low
decreases-loop-low g l = l.high - l.low
