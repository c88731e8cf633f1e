use Rattle.std.proofs.Common.{◌<◌, length, refl, sym, subst, ◌∙◌, arith}
use Rattle.gix_odb_core.proofs.StateLemmas.{refused-from, roomier-same, settled-next}
use Rattle.gix_odb_core.proofs.TurnLemmas.{no_memory-answer}
use Rattle.gix_odb_core.specs.Replay.{number_behind}
use Rattle.gix_odb_events.specs.Answers.{Answer}
use Rattle.gix_odb_core.specs.State.{HasRoom, IsKept, IsNextState, entries_in}
use Rattle.gix_odb_core.proofs.state.State.enter_other.Goals as goal

pub returns-in-Ok : goal.returns-in-Ok
returns-in-Ok c =
    let handles = c.in-Ok.ensures.handles in
    let room = c.in-Ok.ensures.room in
    let next =
    settled-next c.args.self.now c.prepare.new.self c.settle.new.self c.args.seat c.args.event c.in-Ok.plan c.requires.kept c.requires.can_happen
    c.in-Ok.ensures.few_packs c.in-Ok.ensures.plan c.in-Ok.ensures.noted c.prepare.ensures.entries
    c.settle.ensures.settled c.settle.ensures.entries (omega (arith, room, handles, c.settle.ensures.room)) in
    record {
      refused = λ lacks.
          absurd (no_memory-answer (entries_in c.args.self.now) c.args.self.now.shape (number_behind (entries_in c.args.self.now)) c.args.seat c.args.event
          (sym next.answer ∙ sym c.settle.ensures.answer ∙ lacks));
      next = λ some. subst (λ (a : Answer). IsNextState c.args.self.now c.args.seat c.args.event a c.settle.new.self) (sym c.settle.ensures.answer) next;
    }

-- where memory runs out, only spare room changed before the entry
pub refuse-requires-clause-kept : goal.refuse-requires-clause-kept
refuse-requires-clause-kept c =
    subst IsKept (sym c.in-Err.ensures.kept)
    (roomier-same c.args.self.now c.prepare.new.self.journal c.requires.kept c.prepare.ensures.entries c.prepare.ensures.grows).kept

pub refuse-requires-clause-room : goal.refuse-requires-clause-room
refuse-requires-clause-room c =
    let roomier : length c.args.self.now.shape.handles < c.prepare.new.self.journal.room = omega (arith, c.requires.room, c.prepare.ensures.grows) in
    subst HasRoom (sym c.in-Err.ensures.kept) roomier

pub returns-in-Err : goal.returns-in-Err
returns-in-Err c =
    record {
      refused = λ lacks.
          refused-from c.args.self.now c.prepare.new.self c.refuse.new.self c.args.seat c.args.event c.in-Err.ensures.kept c.prepare.ensures.entries
          c.refuse.ensures.refused;
      next = λ some. absurd (some refl);
    }
