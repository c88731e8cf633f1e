use Rattle.std.proofs.Common.{ℕ, ◌+◌, ◌∙◌, ap, arith, get_or, sym}
use Rattle.std.proofs.lemmas.Option.{slice_get-get_or}
use Rattle.gix_odb_events.specs.Shown.{unloaded_slot}
use Rattle.gix_odb_events.specs.Slots.{slot_at}
use Rattle.gix_odb_events.proofs.LentLemmas.{count-no, count-yes}
use Rattle.gix_odb_events.proofs.lent.count_unloaded.Goals as goal
use Rattle.gix_odb_events.proofs.lent.count_unloaded.Goals.{then-is_unloaded_at, else-is_unloaded_at}

pub loop-place-preserved : goal.loop-place-preserved
loop-place-preserved c =
    let places = c.args.places.now in
    let index = c.loop-place.place-index in
    elim c.if-is_unloaded_at.branch [
      | then-is_unloaded_at w ↦ record {
        count = w.count-is ∙ ap (λ (n : ℕ). n + 1) c.loop-place.invariant.count
            ∙ sym (count-yes (λ (place : ℕ). unloaded_slot place (slot_at c.args.slots.now place)) places index (get_or places index 0) c.is_unloaded_at.result (slice_get-get_or places index 0 (omega arith)) c.is_unloaded_at.ensures.unloaded w.if-is_unloaded_at.true);
        within = omega (arith, w.count-is, c.loop-place.invariant.within);
      }
      | else-is_unloaded_at w ↦ record {
        count = w.count-is ∙ c.loop-place.invariant.count
            ∙ sym (count-no (λ (place : ℕ). unloaded_slot place (slot_at c.args.slots.now place)) places index (get_or places index 0) c.is_unloaded_at.result (slice_get-get_or places index 0 (omega arith)) c.is_unloaded_at.ensures.unloaded w.if-is_unloaded_at.false);
        within = omega (arith, w.count-is, c.loop-place.invariant.within);
      }
    ]
