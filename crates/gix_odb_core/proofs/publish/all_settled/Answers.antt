use Rattle.gix_odb_core.specs.Publish.{settled}
use Rattle.gix_odb_core.proofs.MatchedLemmas.{map_slots-step}
use Rattle.gix_odb_core.proofs.publish.all_settled.Goals as goal

pub loop-place-preserved : goal.loop-place-preserved
loop-place-preserved c =
    map_slots-step (settled c.args.stable c.args.matched.now.rows.now) c.args.matched.now.slots.now c.loop-place.place c.in_ok-settled.field-0
    c.loop-place.after.items c.push.new.self.items c.loop-place-test.true c.in_ok-settled.ensures.settled c.loop-place.invariant c.in_ok-push.ensures.items
