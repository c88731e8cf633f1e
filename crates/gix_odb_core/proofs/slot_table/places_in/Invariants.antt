use Rattle.std.proofs.Common.{◌≡◌, map, take}
use Rattle.gix_odb_core.specs.declared.slot_table.TableRow.{TableRow}
use Rattle.gix_odb_core.proofs.slot_table.places_in.Given as goal

abbrev pub invariant-loop-row : goal.invariant-loop-row
invariant-loop-row l = l.places.items ≡ map TableRow.place (take l.row-index l.rows)
