use Rattle.std.proofs.Common.{◌∙◌, arith, ap, drop, sym}
use Rattle.std.proofs.lemmas.List.{drop_all}
use Rattle.std.specs.List.{enumerate_from, filter_map, slice_get}
use Rattle.gix_odb_events.specs.Shown.{kept_at}
use Rattle.gix_odb_events.specs.Slots.{slot_at}
use Rattle.gix_odb_events.proofs.LentLemmas.{left-here, left-more, length-enumerate, slot-at_place}
use Rattle.gix_odb_events.proofs.lent.kept_after.Goals as goal

-- this is the one
pub returns-then-is_last : goal.returns-then-is_last
returns-then-is_last c =
    let slots = c.args.slots.now in
    let place = c.loop-place.place in
    record {
      lent = c.kept_at.ensures.lent
          ∙ left-here (kept_at c.args.list.now) (enumerate_from 0 slots) place (place, slot_at slots place) (slot-at_place slots place (omega arith)) c.loop-place.left c.is_kept_at-there.result c.is_last.result c.is_kept_at-there.ensures.kept c.is_last.ensures.last c.if-is_last.true
          ∙ c.loop-place.invariant;
    }

-- it is after this place
pub loop-place-preserved : goal.loop-place-preserved
loop-place-preserved c =
    let slots = c.args.slots.now in
    let place = c.loop-place.place in
    left-more (kept_at c.args.list.now) (enumerate_from 0 slots) place (place, slot_at slots place) (slot-at_place slots place (omega arith)) c.loop-place.left c.left_with-left.result c.is_kept_at-there.result c.is_last.result c.is_kept_at-there.ensures.kept c.is_last.ensures.last c.if-is_last.false c.left_with-left.ensures.left
    ∙ c.loop-place.invariant

-- there is none
pub returns : goal.returns
returns c =
    let all = enumerate_from 0 c.args.slots.now in
    record {
      lent = ap (λ left. slice_get (filter_map (kept_at c.args.list.now) left) c.loop-place.left) (sym (drop_all c.loop-place.place all (omega (arith, length-enumerate 0 c.args.slots.now))))
          ∙ c.loop-place.invariant;
    }
