use Rattle.std.proofs.Common.{List, Option, [], ap, sym, subst, unwrap_or, ℕ, ◌∙◌}
use Rattle.gix_odb_events.specs.Slots.{Slot, slot_at}
use Rattle.gix_odb_core.specs.SlotTable.{IsTable, Key, keys_of, slot_key}
use Rattle.gix_odb_core.proofs.SlotKeyLemmas.{keys-set}
use Rattle.gix_odb_core.proofs.slot_table.SlotTable.with.Goals as goal

pub invariant_of-result : goal.invariant_of-result
invariant_of-result c =
    let same = c.requires.same_index ∙ ap (λ (s : List Slot). slot_key (slot_at s c.args.place)) (sym c.self.view_is) in
    subst (λ (t : Option (List ℕ)). IsTable (keys_of c.in_ok-slots.slots) (unwrap_or t [])) (sym c.in_ok-table.ensures.copy)
    (subst (λ (k : List (Option Key)). IsTable k (unwrap_or c.self.inside.table []))
    (sym (ap keys_of c.in_ok-slots.ensures.items ∙ keys-set c.self.inside.slots c.args.place c.args.slot same)) c.self.invariant)
