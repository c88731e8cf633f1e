use Rattle.std.proofs.Common.{◌≡◌, ℕ, IfOk, length, ap, subst, arith, ◌∙◌}
use Rattle.gix_odb_core.proofs.RoomLemmas.{publishing-roomy}
use Rattle.gix_odb_core.specs.Steps.{Publishing}
use Rattle.gix_odb_core.specs.Turn.{publish_turn}
use Rattle.gix_odb_core.proofs.shape.Shape.publish_over.Goals as goal

pub returns-clause-turn : goal.returns-clause-turn
returns-clause-turn c =
    let rows = c.in_ok-matched.ensures.rows ∙ c.as_slice.ensures.value in
    let slots = c.in_ok-matched.ensures.slots ∙ c.requires.slots in
    let list = c.as_slice-2.ensures.places in
    let stable = c.is_any_stable-stable.ensures.stable in
    let count = rw (slots, rows) at c.count_new-news.ensures.count in
    let free = rw (stable, rows, slots, list) at c.in_ok-free.ensures.free in
    let roomy = publishing-roomy c.args.self.now c.args.listing.now c.requires.in_time
    (omega (arith, count, ap (length {A = ℕ}) free, c.if-len-news.false, c.len.ensures, c.deref.ensures.len, ap (length {A = ℕ}) c.deref.ensures.value)) in
    subst (λ (p : Publishing). IfOk c.publish_with_room.result (λ turn. turn ≡ publish_turn c.args.self.now c.args.listing.now.rows p)) roomy (rw rows at c.publish_with_room.ensures.turn)
