use Rattle.std.proofs.Common.{None, Option, get_or, ℕ, refl}
use Rattle.std.proofs.lemmas.List.{get_or_default}
use Rattle.gix_odb_core.proofs.LoopLemmas.{filter_map-step}
use Rattle.gix_odb_core.proofs.publish.listed.Goals as goal

pub loop-place-preserved : goal.loop-place-preserved
loop-place-preserved c =
    let place = get_or c.args.places.now c.loop-place.place-index None in
    filter_map-step (λ (o : Option ℕ). o) c.args.places.now c.loop-place.place-index place place c.loop-place.list c.put_place.new.list c.loop-place-test.true
    (get_or_default c.args.places.now c.loop-place.place-index None place c.loop-place-test.true) refl c.loop-place.invariant c.in_ok-put_place.ensures.put
