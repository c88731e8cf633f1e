use Rattle.std.proofs.Common.{◌+◌, ◌-◌, ◌/◌, Some, ap, sym, ◌∙◌, arith}
use Rattle.gix_hash.specs.declared.object_id.ObjectId.{ObjectId}
use Rattle.gix_hash.proofs.IdOrderLaws.{same_id}
use Rattle.gix_hash.proofs.StepsLaws.{half_left, search_ends}
use Rattle.gix_pack_read.specs.IdTable.{ids_in}
use Rattle.gix_pack_read.proofs.SearchLemmas.{not_from, not_up_to}
use Rattle.gix_pack_read.proofs.id_table.IdTable.row_between.Goals as goal

-- the id is after the row
pub loop-low-preserved-in-Less : goal.loop-low-preserved-in-Less
loop-low-preserved-in-Less g c =
    let so_far = c.loop-low.invariant in
    let middle = c.loop-low.low + (c.loop-low.high - c.loop-low.low) / 2 in
    record {
      from = omega arith;
      order = omega arith;
      to = so_far.to;
      passed = λ row low below. not_up_to (ids_in c.args.self.now) middle row c.id_at.result c.args.id.now c.args.self.now.rising c.id_at.ensures.id (sym c.in-Less.ensures.order) (omega arith);
      others = so_far.others;
      left = half_left (c.args.end - c.args.start) (c.loop-low.high - c.loop-low.low) (c.loop-low.high - (middle + 1)) c.args.steps.now c.loop-low.steps c.cmp_counted.new.steps
          so_far.left (omega arith) (omega arith) c.in-Less.ensures.step;
    }

-- the id is before the row
pub loop-low-preserved : goal.loop-low-preserved
loop-low-preserved g c =
    let so_far = c.loop-low.invariant in
    let middle = c.loop-low.low + (c.loop-low.high - c.loop-low.low) / 2 in
    record {
      from = so_far.from;
      order = omega arith;
      to = omega arith;
      passed = so_far.passed;
      others = λ row low below. not_from (ids_in c.args.self.now) middle row c.id_at.result c.args.id.now c.args.self.now.rising c.id_at.ensures.id (sym c.in-Greater.ensures.order) low;
      left = half_left (c.args.end - c.args.start) (c.loop-low.high - c.loop-low.low) (middle - c.loop-low.low) c.args.steps.now c.loop-low.steps c.cmp_counted.new.steps
          so_far.left (omega arith) (omega arith) c.in-Greater.ensures.step;
    }

-- the row has the id
pub returns-in-Equal-clause-found : goal.returns-in-Equal-clause-found
returns-in-Equal-clause-found g c = c.id_at.ensures.id ∙ ap (λ (id : ObjectId). Some id) (same_id c.id_at.result c.args.id.now (sym c.in-Equal.ensures.order))

pub returns-in-Equal-clause-steps : goal.returns-in-Equal-clause-steps
returns-in-Equal-clause-steps g c =
    search_ends (c.args.end - c.args.start) 0 c.args.steps.now c.cmp_counted.new.steps
    (half_left (c.args.end - c.args.start) (c.loop-low.high - c.loop-low.low) 0 c.args.steps.now c.loop-low.steps c.cmp_counted.new.steps c.loop-low.invariant.left
    (omega arith) (omega arith) c.in-Equal.ensures.step)
