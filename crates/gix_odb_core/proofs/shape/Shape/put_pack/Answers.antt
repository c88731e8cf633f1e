use Rattle.std.proofs.Common.{List, Option, ap, sym, subst, ◌∙◌}
use Rattle.std.specs.Option.{IfSome}
use Rattle.gix_odb_events.specs.Slots.{Slot, slot_at}
use Rattle.gix_odb_events.specs.declared.slot.Filled.{Filled}
use Rattle.gix_odb_core.specs.Files.{slot_with_pack}
use Rattle.gix_odb_core.proofs.SlotKeyLemmas.{KeepsKey, key-with_pack}
use Rattle.gix_odb_core.proofs.shape.Shape.put_pack.Goals as goal

pub put-requires : goal.put-requires
put-requires c = record {
  same_index = subst (λ (o : Option Filled). IfSome o (KeepsKey (slot_at c.args.self.now.slots c.args.place)))
      (sym (c.in_ok-filled.ensures.filled ∙ ap (λ (s : List Slot). slot_with_pack c.args.path.now c.args.read.now (slot_at s c.args.place)) c.list.ensures.slots))
      (key-with_pack c.args.path.now c.args.read.now (slot_at c.args.self.now.slots c.args.place));
}
