use Rattle.std.proofs.Common.{◌≡◌, map, position, take}
use Rattle.gix_odb_events.specs.Slots.{holds}
use Rattle.gix_odb_core.proofs.index_key.places_of_rows.Given as goal

abbrev pub invariant-loop-row : goal.invariant-loop-row
invariant-loop-row l = l.places.items ≡ map (λ row. position (holds row) l.fn.slots) (take l.row-index l.rows)
