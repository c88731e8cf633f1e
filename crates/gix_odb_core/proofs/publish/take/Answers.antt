use Rattle.gix_odb_core.proofs.PublishLemmas.{take-end, take-step, within-rest}
use Rattle.gix_odb_core.proofs.publish.take.Goals as goal

pub loop-place-preserved : goal.loop-place-preserved
loop-place-preserved c = record {
  taken = take-step c.args.matched.now.slots.now c.args.matched.now.rows.now c.loop-place.place c.row-item.result c.loop-place.left.now c.in_ok-left.left.now c.loop-place.after.items
      c.take_one.new.after.items _ c.is_new.result c.loop-place-test.true c.row-item.is (c.is_new.ensures.new c.row-item.result c.row-item.is) c.in_ok-left.ensures.taken
      c.in_ok-left.ensures.left c.loop-place.invariant.taken;
  within = within-rest _ _ c.loop-place.left.now c.in_ok-left.left.now c.is_new.result c.in_ok-left.ensures.len c.in_ok-left.ensures.left c.loop-place.invariant.within;
  packs = c.in_ok-left.ensures.packs;
}

pub returns-clause-taken : goal.returns-clause-taken
returns-clause-taken c =
    take-end c.args.matched.now.slots.now c.args.matched.now.rows.now c.loop-place.place c.loop-place.left.now c.loop-place.after.items _ c.loop-place-test.false c.loop-place.invariant.taken
