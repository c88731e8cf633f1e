use Rattle.std.proofs.Common.{◌≡◌, All, List, map, ap, sym, subst, ◌∙◌, arith}
use Rattle.std.proofs.lemmas.Option.{IfSome_then}
use Rattle.std.specs.List.{zip}
use Rattle.gix_odb_core.proofs.RoomLemmas.{length-after, turn-stands, with_room-from}
use Rattle.gix_odb_core.specs.Publish.{list_after, new_rows, settled, with_taken}
use Rattle.gix_odb_events.specs.Slots.{Slot, HasFewPacks}
use Rattle.gix_odb_core.specs.Turn.{publish_turn}
use Rattle.gix_odb_core.proofs.shape.Shape.publish_with_room.Goals as goal

pub shared_with_list-requires : goal.shared_with_list-requires
shared_with_list-requires c =
    let rows = c.args.matched.now.rows.now in
    let after : c.in_ok-after.after ≡ with_taken (zip c.args.free.now (new_rows c.args.self.now.slots rows)) (map (settled c.args.stable rows) c.args.self.now.slots) =
    c.in_ok-after.ensures.slots ∙ ap (λ (s : List Slot). with_taken (zip c.args.free.now (new_rows s rows)) (map (settled c.args.stable rows) s)) c.requires.slots in
    let long = length-after c.args.self.now rows c.args.stable c.args.free.now c.in_ok-after.after c.requires.stable c.requires.free after in
    record { few = omega (arith, c.requires.few, long) }

pub returns : goal.returns
returns c =
    let rows = c.args.matched.now.rows.now in
    let slots = c.in_ok-slots.ensures.slots in
    let after : c.in_ok-slots.slots ≡ with_taken (zip c.args.free.now (new_rows c.args.self.now.slots rows)) (map (settled c.args.stable rows) c.args.self.now.slots) =
    slots ∙ c.in_ok-after.ensures.slots ∙ ap (λ (s : List Slot). with_taken (zip c.args.free.now (new_rows s rows)) (map (settled c.args.stable rows) s)) c.requires.slots in
    let list : c.in_ok-slots.list ≡ list_after rows c.in_ok-slots.slots = c.in_ok-slots.ensures.list ∙ ap (list_after rows) (sym slots) in
    let renewed = rw c.requires.slots at c.takes_over-renewed.ensures.over in
    record {
      few_packs = IfSome_then c.settled_as.result.shelf c.settled_as.ensures.leaves (λ shelf is. subst (All HasFewPacks) (sym (is ∙ slots)) c.in_ok-after.ensures.packs);
      turn =
          c.settled_as.ensures.turn
          ∙ ap (publish_turn c.args.self.now rows)
          (with_room-from c.args.self.now rows c.args.stable c.args.free.now c.in_ok-slots.slots c.requires.stable c.requires.free after c.args.news c.in_ok-slots.list
          c.takes_over-renewed.result c.requires.news renewed list);
    }

pub returns-then-branch-clause-turn : goal.returns-then-branch-clause-turn
returns-then-branch-clause-turn c = c.quiet.ensures.turn ∙ sym (turn-stands c.args.self.now c.args.matched.now.rows.now (sym c.in_ok-stands.ensures.stands ∙ c.if-branch.true))
