use Rattle.std.proofs.Common.{List, ap, ◌∙◌}
use Rattle.gix_odb_events.specs.Slots.{Slot, slot_at}
use Rattle.gix_odb_core.specs.Files.{slot_passed}
use Rattle.gix_odb_core.specs.SlotTable.{slot_key}
use Rattle.gix_odb_core.proofs.SlotKeyLemmas.{key-passed}
use Rattle.gix_odb_core.proofs.shape.Shape.pass_over.Goals as goal

pub with-requires : goal.with-requires
with-requires c = record {
  same_index = ap slot_key (c.in_ok-slot.ensures.slot ∙ ap (λ (s : List Slot). slot_passed c.args.path.now (slot_at s c.args.place)) c.list-2.ensures.slots)
      ∙ key-passed c.args.path.now (slot_at c.args.self.now.slots c.args.place);
}
