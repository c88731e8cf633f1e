use Rattle.gix_odb_core.specs.Publish.{is_unsettled}
use Rattle.gix_odb_core.proofs.MatchedLemmas.{any_slot-here, any_slot-more}
use Rattle.gix_odb_core.proofs.unsettled.is_any_unsettled.Goals as goal

pub returns-then-is_unsettled : goal.returns-then-is_unsettled
returns-then-is_unsettled c = record {
  unsettled = any_slot-here (is_unsettled c.args.stable c.args.matched.now.rows.now) c.args.matched.now.slots.now c.loop-place.place c.is_unsettled.result
      c.loop-place-test.true c.is_unsettled.ensures.unsettled c.if-is_unsettled.true;
}

pub loop-place-preserved : goal.loop-place-preserved
loop-place-preserved c =
    any_slot-more (is_unsettled c.args.stable c.args.matched.now.rows.now) c.args.matched.now.slots.now c.loop-place.place c.is_unsettled.result
    c.loop-place-test.true c.is_unsettled.ensures.unsettled c.if-is_unsettled.false c.loop-place.invariant
