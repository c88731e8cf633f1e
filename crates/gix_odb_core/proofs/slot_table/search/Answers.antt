use Rattle.std.proofs.Common.{◌+◌, ◌-◌, ◌/◌, ◌<◌, ◌≤◌, length, refl, sym, ◌∙◌, arith}
use Rattle.gix_hash.proofs.StepsLaws.{half_left}
use Rattle.gix_odb_core.specs.SlotTable.{keys_of}
use Rattle.gix_odb_core.proofs.TableSearchLemmas.{found-above, lower-below, lower_half, middle_below, slot_filled, table_search-ends, upper_half}
use Rattle.gix_odb_core.proofs.slot_table.search.Goals as goal

pub compare_slot-requires : goal.compare_slot-requires
compare_slot-requires g c =
    let below = middle_below c.loop-low.low c.loop-low.high c.loop-low-test.true in
    let within = c.loop-low.invariant.within in
    record {
      filled = slot_filled c.args.slots.now c.args.table.now c.requires.table c.args.path.now c.args.time (c.loop-low.low + (c.loop-low.high - c.loop-low.low) / 2) (omega (arith, below, within));
    }

pub loop-low-preserved-in-Less : goal.loop-low-preserved-in-Less
loop-low-preserved-in-Less g c =
    let low = c.loop-low.low in
    let high = c.loop-low.high in
    let middle = low + (high - low) / 2 in
    let below : middle < high = middle_below low high c.loop-low-test.true in
    let within : high ≤ length c.args.table.now = c.loop-low.invariant.within in
    record {
      ordered = omega (arith, below);
      within = within;
      lower = lower-below (keys_of c.args.slots.now) c.args.table.now c.requires.table (c.args.path.now, c.args.time) middle (omega (arith, below, within))
          (sym c.compare_slot.ensures.order ∙ c.in-Less.is);
      found = c.loop-low.invariant.found;
      left = half_left (length c.args.table.now) (high - low) (high - (middle + 1)) c.args.steps.now c.loop-low.steps c.compare_slot.new.steps c.loop-low.invariant.left
          (omega (arith, c.loop-low-test.true)) (upper_half low high c.loop-low-test.true) c.compare_slot.ensures.step;
    }

pub loop-low-preserved-in-Equal : goal.loop-low-preserved-in-Equal
loop-low-preserved-in-Equal g c =
    let low = c.loop-low.low in
    let high = c.loop-low.high in
    let middle = low + (high - low) / 2 in
    let below : middle < high = middle_below low high c.loop-low-test.true in
    let within : high ≤ length c.args.table.now = c.loop-low.invariant.within in
    record {
      ordered = omega arith;
      within = omega (arith, below, within);
      lower = c.loop-low.invariant.lower;
      found = (omega (arith, below, within), refl, sym c.compare_slot.ensures.order ∙ c.in-Equal.is);
      left = half_left (length c.args.table.now) (high - low) (middle - low) c.args.steps.now c.loop-low.steps c.compare_slot.new.steps c.loop-low.invariant.left
          (omega (arith, c.loop-low-test.true)) (lower_half low high) c.compare_slot.ensures.step;
    }

pub loop-low-preserved : goal.loop-low-preserved
loop-low-preserved g c =
    let low = c.loop-low.low in
    let high = c.loop-low.high in
    let middle = low + (high - low) / 2 in
    let below : middle < high = middle_below low high c.loop-low-test.true in
    let within : high ≤ length c.args.table.now = c.loop-low.invariant.within in
    record {
      ordered = omega arith;
      within = omega (arith, below, within);
      lower = c.loop-low.invariant.lower;
      found = found-above (keys_of c.args.slots.now) c.args.table.now c.requires.table (c.args.path.now, c.args.time) middle high c.loop-low.found below within
          (sym c.compare_slot.ensures.order ∙ c.in-Greater.is) c.loop-low.invariant.found;
      left = half_left (length c.args.table.now) (high - low) (middle - low) c.args.steps.now c.loop-low.steps c.compare_slot.new.steps c.loop-low.invariant.left
          (omega (arith, c.loop-low-test.true)) (lower_half low high) c.compare_slot.ensures.step;
    }

pub returns-clause-slot : goal.returns-clause-slot
returns-clause-slot g c =
    table_search-ends c.args.slots.now c.args.table.now c.requires.table c.args.path.now c.args.time c.loop-low.low c.loop-low.high c.loop-low.found c.loop-low-test.false
    c.loop-low.invariant.lower c.loop-low.invariant.found
