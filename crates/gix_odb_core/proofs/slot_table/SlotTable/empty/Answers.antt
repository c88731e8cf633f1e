use Rattle.std.proofs.Common.{List, [], sym, subst}
use Rattle.gix_odb_events.specs.Slots.{Slot}
use Rattle.gix_odb_core.specs.SlotTable.{IsTable, keys_of}
use Rattle.gix_odb_core.proofs.TableRowLemmas.{empty_slots-table}
use Rattle.gix_odb_core.proofs.slot_table.SlotTable.empty.Goals as goal

pub invariant_of-result : goal.invariant_of-result
invariant_of-result c = subst (λ (s : List Slot). IsTable (keys_of s) []) (sym c.empty.ensures.items) (empty_slots-table c.args.count)
