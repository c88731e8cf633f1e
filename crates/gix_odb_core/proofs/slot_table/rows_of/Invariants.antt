use Rattle.gix_odb_core.proofs.TableRowLemmas.{AreRows}
use Rattle.gix_odb_core.proofs.slot_table.rows_of.Given as goal

abbrev pub invariant-loop-place : goal.invariant-loop-place
invariant-loop-place l = AreRows l.slots l.place l.rows.items
