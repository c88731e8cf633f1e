use Rattle.std.proofs.Common.{Global, Vec, ap, refl, ◌∙◌}
use Rattle.gix_odb_events.specs.Slots.{index_path}
use Rattle.gix_odb_events.specs.declared.slot.Filled.{Filled}
use Rattle.gix_odb_core.specs.IndexKeys.{index_time}
use Rattle.gix_odb_core.specs.declared.slot_table.TableRow.{TableRow}
use Rattle.gix_odb_core.proofs.TableRowLemmas.{row_key-of, rows-empty, rows-filled, same_rows}
use Rattle.gix_odb_core.proofs.slot_table.rows_of.Goals.{in-Some+in_ok-push, in_default}
use Rattle.gix_odb_core.proofs.slot_table.rows_of.Goals as goal

pub loop-place-preserved : goal.loop-place-preserved
loop-place-preserved c = elim c.match-slots-place.branch [
  | in-Some+in_ok-push w ↦
      let row : TableRow = record { key = w.of_filled-key.result; place = c.loop-place.place } in
      rows-filled c.args.slots.now c.loop-place.place c.index-slots-place.result c.loop-place-test.true c.index-slots-place.is w.in-Some.filled row c.loop-place.rows.items
      c.match-slots-place.rows.items w.in-Some.is refl
      (row_key-of w.in-Some.filled row (w.of_filled-key.ensures.path ∙ ap (λ (f : Filled). index_path f.index) w.value.ensures.value)
      (w.of_filled-key.ensures.time ∙ ap (λ (f : Filled). index_time f.index f.time) w.value.ensures.value))
      (ap (λ (v : Vec TableRow Global). v.items) w.rows-is ∙ w.in_ok-push.ensures.items)
      c.loop-place.invariant
  | in_default w ↦
      rows-empty c.args.slots.now c.loop-place.place c.index-slots-place.result c.loop-place-test.true c.index-slots-place.is c.match-slots-place.rows.items w.in_default.is
      (same_rows c.args.slots.now c.loop-place.place c.loop-place.rows.items c.match-slots-place.rows.items (ap (λ (v : Vec TableRow Global). v.items) w.rows-is) c.loop-place.invariant)
]
