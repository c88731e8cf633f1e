use Rattle.std.specs.Option.{option_map}
use Rattle.gix_odb_core.proofs.LoopLemmas.{filter_map-numbers}
use Rattle.gix_odb_events.specs.Slots.{listed_of, slot_at}
use Rattle.gix_odb_core.proofs.report.listed_places.Goals as goal

pub loop-place-preserved : goal.loop-place-preserved
loop-place-preserved c =
    filter_map-numbers (λ place. option_map listed_of (slot_at c.args.slots.now place)) c.args.places.now c.loop-place.place-index c.in_ok-listed_at.field-0 c.loop-place.list c.put.new.list
    c.loop-place-test.true c.in_ok-listed_at.ensures.listed c.loop-place.invariant c.in_ok-put.ensures.put
