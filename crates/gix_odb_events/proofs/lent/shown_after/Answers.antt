use Rattle.std.proofs.Common.{ℕ, ◌∙◌, arith, get_or}
use Rattle.std.proofs.lemmas.Option.{slice_get-get_or}
use Rattle.gix_odb_events.specs.Shown.{shown_slot}
use Rattle.gix_odb_events.specs.Slots.{slot_at}
use Rattle.gix_odb_events.proofs.LentLemmas.{left-here, left-more}
use Rattle.gix_odb_events.proofs.lent.shown_after.Goals as goal

-- this is the one
pub returns-then-is_last : goal.returns-then-is_last
returns-then-is_last c =
    let places = c.args.places.now in
    let index = c.loop-place.place-index in
    record {
      lent = c.lent_at.ensures.lent
          ∙ left-here (λ (place : ℕ). shown_slot place (slot_at c.args.slots.now place)) places index (get_or places index 0) (slice_get-get_or places index 0 (omega arith)) c.loop-place.left c.is_shown_at-there.result c.is_last.result c.is_shown_at-there.ensures.shown c.is_last.ensures.last c.if-is_last.true
          ∙ c.loop-place.invariant;
    }

-- it is after this place
pub loop-place-preserved : goal.loop-place-preserved
loop-place-preserved c =
    let places = c.args.places.now in
    let index = c.loop-place.place-index in
    left-more (λ (place : ℕ). shown_slot place (slot_at c.args.slots.now place)) places index (get_or places index 0) (slice_get-get_or places index 0 (omega arith)) c.loop-place.left c.left_with-left.result c.is_shown_at-there.result c.is_last.result c.is_shown_at-there.ensures.shown c.is_last.ensures.last c.if-is_last.false c.left_with-left.ensures.left
    ∙ c.loop-place.invariant
