use Rattle.std.proofs.Common.{arith}
use Rattle.gix_odb_core.proofs.PublishLemmas.{free_places-step, within-step}
use Rattle.gix_odb_core.proofs.publish.put_free.Goals as goal

pub loop-place-preserved : goal.loop-place-preserved
loop-place-preserved c = record {
  put = free_places-step c.args.stable c.args.matched.now.rows.now c.args.matched.now.slots.now c.args.from c.loop-place.place c.args.places.now.items c.loop-place.places.items
      c.put_if.new.places.items c.is_free.result (omega arith) c.is_free.ensures.free c.loop-place.invariant.put c.in_ok-put_if.ensures.put;
  within = within-step _ c.loop-place.place c.loop-place.places.items c.put_if.new.places.items c.is_free.result (omega arith) c.loop-place.invariant.within c.in_ok-put_if.ensures.put;
}
