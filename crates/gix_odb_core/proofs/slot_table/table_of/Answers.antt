use Rattle.std.proofs.Common.{◌≡◌, ap, map, sym, subst, ◌∙◌}
use Rattle.std.proofs.lemmas.Result.{IfOk-weaker}
use Rattle.gix_odb_core.specs.SlotTable.{IsTable, keys_of}
use Rattle.gix_odb_core.specs.declared.slot_table.TableRow.{TableRow}
use Rattle.gix_odb_core.proofs.TableRowLemmas.{sorted_rows-table}
use Rattle.gix_odb_core.proofs.slot_table.table_of.Goals as goal

pub returns : goal.returns
returns c =
    let slots = c.args.slots.now in
    let sorted = c.sort_unstable.new.self.items in
    let table : IsTable (keys_of slots) (map TableRow.place sorted) =
    sorted_rows-table slots c.in_ok-rows.rows.items sorted c.in_ok-rows.ensures.places c.in_ok-rows.ensures.keys c.sort_unstable.ensures.permutation c.sort_unstable.ensures.sorted in
    record {
      table = IfOk-weaker c.places_in.result (λ places. places ≡ map TableRow.place c.deref.result.now) (IsTable (keys_of slots))
          (λ places is. subst (IsTable (keys_of slots)) (sym (is ∙ ap (map TableRow.place) c.deref.ensures.value)) table) c.places_in.ensures.places;
    }
