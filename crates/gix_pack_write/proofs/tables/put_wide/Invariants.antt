use Rattle.std.proofs.Common.{◌≡◌, ◌++◌, drop}
use Rattle.gix_pack_write.proofs.PlacedLemmas.Offsets.{wides}
use Rattle.gix_pack_write.proofs.tables.put_wide.Given as goal

abbrev pub invariant-loop-row : goal.invariant-loop-row
invariant-loop-row l = l.list ++ wides (drop l.row-index l.rows) ≡ l.initial.list ++ wides l.rows
