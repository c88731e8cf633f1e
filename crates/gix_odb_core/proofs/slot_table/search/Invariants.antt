use Rattle.std.proofs.Common.{◌≡◌, ℕ, ◌-◌, ◌<◌, ◌≤◌, length, get_or, Less, Some}
use Rattle.gix_hash.proofs.StepsLaws.{AreLeft}
use Rattle.gix_odb_core.specs.SlotTable.{key_at, keys_of}
use Rattle.gix_odb_core.proofs.SlotTableLemmas.{option_key_cmp}
use Rattle.gix_odb_core.proofs.TableSearchLemmas.{IsFound}
use Rattle.gix_odb_core.proofs.slot_table.search.Given as goal

abbrev pub invariant-loop-low : goal.invariant-loop-low
invariant-loop-low g l = record {
  ordered : l.low ≤ l.high;
  within : l.high ≤ length l.table;
  lower : (i : ℕ) → i < l.low → option_key_cmp (key_at (keys_of l.slots) (get_or l.table i 0)) (Some (l.path, l.time)) ≡ Less;
  found : IsFound (keys_of l.slots) l.table (l.path, l.time) l.high l.found;
  left : AreLeft (length l.table) (l.high - l.low) l.fn.steps l.steps;
}

abbrev pub decreases-loop-low : goal.decreases-loop-low
decreases-loop-low g l = l.high - l.low
