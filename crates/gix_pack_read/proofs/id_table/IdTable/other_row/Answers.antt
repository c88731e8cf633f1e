use Rattle.std.proofs.Common.{◌+◌, ◌-◌, ◌/◌, arith}
use Rattle.gix_hash.proofs.StepsLaws.{half_left}
use Rattle.gix_pack_read.specs.IdTable.{ids_in}
use Rattle.gix_pack_read.proofs.PrefixRunLemmas.{none_more, passed_more}
use Rattle.gix_pack_read.proofs.SearchLemmas.{length-ids_of}
use Rattle.gix_pack_read.proofs.id_table.IdTable.other_row.Goals as goal

-- the row compares so, and each before it
pub loop-low-preserved-then-compares : goal.loop-low-preserved-then-compares
loop-low-preserved-then-compares g c =
    let table = c.args.self.now in
    let so_far = c.loop-low.invariant in
    let middle = c.loop-low.low + (c.loop-low.high - c.loop-low.low) / 2 in
    let long = length-ids_of table.kind table.count table.ids.now in
    record {
      from = omega arith;
      order = omega arith;
      to = so_far.to;
      passed = passed_more c.args.prefix.now c.args.order (ids_in table) c.args.start middle c.args.end c.compares.result c.requires.front c.compares.ensures.compared c.if-compares.true
          (omega arith) (omega arith);
      others = so_far.others;
      left = half_left (c.args.end - c.args.start) (c.loop-low.high - c.loop-low.low) (c.loop-low.high - (middle + 1)) c.args.steps.now c.loop-low.steps c.compares.new.steps
          so_far.left (omega arith) (omega arith) c.compares.ensures.step;
    }

-- the row doesn't compare so, and none after it
pub loop-low-preserved : goal.loop-low-preserved
loop-low-preserved g c =
    let table = c.args.self.now in
    let so_far = c.loop-low.invariant in
    let middle = c.loop-low.low + (c.loop-low.high - c.loop-low.low) / 2 in
    let long = length-ids_of table.kind table.count table.ids.now in
    record {
      from = so_far.from;
      order = omega arith;
      to = omega arith;
      passed = so_far.passed;
      others = none_more c.args.prefix.now c.args.order (ids_in table) c.args.start middle c.args.end c.compares.result c.requires.front c.compares.ensures.compared c.if-compares.false
          (omega arith) (omega arith);
      left = half_left (c.args.end - c.args.start) (c.loop-low.high - c.loop-low.low) (middle - c.loop-low.low) c.args.steps.now c.loop-low.steps c.compares.new.steps
          so_far.left (omega arith) (omega arith) c.compares.ensures.step;
    }
