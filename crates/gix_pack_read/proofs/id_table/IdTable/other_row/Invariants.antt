use Rattle.std.proofs.Common.{◌≡◌, ℕ, ◌-◌, ◌<◌, ◌≤◌, slice_get, Some}
use Rattle.gix_hash.proofs.StepsLaws.{AreLeft}
use Rattle.gix_hash.specs.Prefix.{prefix_cmp}
use Rattle.gix_hash.specs.declared.object_id.ObjectId.{ObjectId}
use Rattle.gix_pack_read.specs.IdTable.{ids_in}
use Rattle.gix_pack_read.proofs.id_table.IdTable.other_row.Given as goal

abbrev pub invariant-loop-low : goal.invariant-loop-low
invariant-loop-low g l = record {
  from : l.start ≤ l.low;
  order : l.low ≤ l.high;
  to : l.high ≤ l.end;
  passed : (row : ℕ) (id : ObjectId) → l.start ≤ row → row < l.low → slice_get (ids_in l.self) row ≡ Some id → prefix_cmp l.prefix id ≡ l.order;
  others : (row : ℕ) (id : ObjectId) → l.high ≤ row → row < l.end → slice_get (ids_in l.self) row ≡ Some id → prefix_cmp l.prefix id ≡ l.order → ⊥;
  left : AreLeft (l.end - l.start) (l.high - l.low) l.fn.steps l.steps;
}

abbrev pub decreases-loop-low : goal.decreases-loop-low
decreases-loop-low g l = l.high - l.low
