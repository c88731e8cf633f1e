use Rattle.std.proofs.Common.{◌≡◌, map, take}
use Rattle.gix_odb_core.specs.Publish.{is_kept}
use Rattle.gix_odb_core.proofs.index_key.kept_slots.Given as goal

abbrev pub invariant-loop-slot : goal.invariant-loop-slot
invariant-loop-slot l = l.kept.items ≡ map (is_kept l.fn.rows) (take l.slot-index l.slots)
