use Rattle.std.proofs.Common.{Option, ap, ◌∙◌, ℕ}
use Rattle.odb_base.specs.Path.{Path}
use Rattle.gix_odb_core.specs.SlotTable.{slot_of}
use Rattle.gix_odb_core.proofs.IndexKeysLemmas.{places_of_rows-step}
use Rattle.gix_odb_core.proofs.SlotTableLemmas.{slot_of-row}
use Rattle.gix_odb_core.proofs.index_key.places_of_rows.Goals as goal

pub loop-row-preserved : goal.loop-row-preserved
loop-row-preserved c =
    places_of_rows-step c.args.slots.now c.args.rows.now c.loop-row.row-index c.row-item.result c.slot_of.result c.loop-row.places.items c.push.new.self.items
    c.loop-row-test.true c.row-item.is
    (c.slot_of.ensures.slot
    ∙ ap (λ (p : Path). slot_of p c.of_row-key.result.multi_time c.args.slots.now) c.of_row-key.ensures.path
    ∙ ap (λ (t : Option ℕ). slot_of c.row-item.result.path t c.args.slots.now) c.of_row-key.ensures.time
    ∙ slot_of-row c.row-item.result c.args.slots.now)
    c.loop-row.invariant c.in_ok-push.ensures.items
