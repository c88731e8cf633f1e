use Rattle.std.proofs.Common.{◌-◌, ◌≤◌, length, map}
use Rattle.gix_pack_write.specs.PlacedRow.{id_of}
use Rattle.gix_pack_read.specs.Rows.{count_to}
use Rattle.gix_pack_write.proofs.tables.count_from.Given as goal

abbrev pub invariant-loop-count : goal.invariant-loop-count
invariant-loop-count l = l.count ≤ count_to (map id_of l.rows) l.first

abbrev pub decreases-loop-count : goal.decreases-loop-count
decreases-loop-count l = length l.rows - l.count
