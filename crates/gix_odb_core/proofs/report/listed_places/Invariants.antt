use Rattle.std.proofs.Common.{◌≡◌, take}
use Rattle.std.specs.Option.{option_map}
use Rattle.std.specs.List.{filter_map}
use Rattle.gix_odb_events.specs.Slots.{listed_of, slot_at}
use Rattle.gix_odb_core.proofs.report.listed_places.Given as goal

abbrev pub invariant-loop-place : goal.invariant-loop-place
invariant-loop-place l = l.list ≡ filter_map (λ place. option_map listed_of (slot_at l.slots place)) (take l.place-index l.places)
