use Rattle.std.proofs.Common.{◌≡◌, drop, map}
use Rattle.gix_pack_write.specs.PlacedRow.{offset_of}
use Rattle.gix_pack_write.specs.WrittenMultiIndex.{needs_wide}
use Rattle.gix_pack_write.proofs.multi_index.writing.needs_wide.Given as goal

abbrev pub invariant-loop-row : goal.invariant-loop-row
invariant-loop-row l = needs_wide (map offset_of l.rows) ≡ needs_wide (map offset_of (drop l.row-index l.rows))
