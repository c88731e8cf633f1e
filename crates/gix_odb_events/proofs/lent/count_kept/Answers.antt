use Rattle.std.proofs.Common.{ℕ, ◌+◌, ◌∙◌, ap, arith, length, sym, take}
use Rattle.std.proofs.lemmas.List.{take_all}
use Rattle.std.specs.List.{enumerate_from, filter_map}
use Rattle.gix_odb_events.specs.Shown.{kept_at}
use Rattle.gix_odb_events.specs.Slots.{Slot, slot_at}
use Rattle.gix_odb_events.proofs.LentLemmas.{count-no, count-yes, length-enumerate, slot-at_place}
use Rattle.gix_odb_events.proofs.lent.count_kept.Goals as goal
use Rattle.gix_odb_events.proofs.lent.count_kept.Goals.{then-is_kept_at, else-is_kept_at}

pub loop-place-preserved : goal.loop-place-preserved
loop-place-preserved c =
    let slots = c.args.slots.now in
    let place = c.loop-place.place in
    elim c.if-is_kept_at.branch [
      | then-is_kept_at w ↦ record {
        count = w.count-is ∙ ap (λ (n : ℕ). n + 1) c.loop-place.invariant.count
            ∙ sym (count-yes (kept_at c.args.list.now) (enumerate_from 0 slots) place (place, slot_at slots place) c.is_kept_at.result (slot-at_place slots place (omega arith)) c.is_kept_at.ensures.kept w.if-is_kept_at.true);
        within = omega (arith, w.count-is, c.loop-place.invariant.within);
      }
      | else-is_kept_at w ↦ record {
        count = w.count-is ∙ c.loop-place.invariant.count
            ∙ sym (count-no (kept_at c.args.list.now) (enumerate_from 0 slots) place (place, slot_at slots place) c.is_kept_at.result (slot-at_place slots place (omega arith)) c.is_kept_at.ensures.kept w.if-is_kept_at.false);
        within = omega (arith, w.count-is, c.loop-place.invariant.within);
      }
    ]

pub returns : goal.returns
returns c =
    let all = enumerate_from 0 c.args.slots.now in
    record {
      count = c.loop-place.invariant.count
          ∙ ap (λ left. length (filter_map (kept_at c.args.list.now) left)) (take_all c.loop-place.place all (omega (arith, length-enumerate 0 c.args.slots.now)));
    }
