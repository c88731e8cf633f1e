use Rattle.std.proofs.Common.{◌≡◌, false, is_some, take}
use Rattle.std.specs.List.{list_any}
use Rattle.gix_odb_events.specs.Slots.{slot_at}
use Rattle.gix_odb_core.proofs.publish.is_any_filled.Given as goal

abbrev pub invariant-loop-place : goal.invariant-loop-place
invariant-loop-place l = list_any (λ place. is_some (slot_at l.slots place)) (take l.place-index l.places) ≡ false
