use Rattle.std.proofs.Common.{sym, subst, ◌∙◌, arith}
use Rattle.gix_odb_core.proofs.StateLemmas.{settled-next}
use Rattle.gix_odb_core.proofs.TurnLemmas.{no_memory-answer}
use Rattle.gix_odb_core.specs.Replay.{number_behind}
use Rattle.gix_odb_events.specs.Answers.{Answer}
use Rattle.gix_odb_core.specs.State.{IsNextState, entries_in}
use Rattle.gix_odb_core.proofs.state.State.take_in.Goals as goal

pub returns : goal.returns
returns c =
    let plan = c.in_ok-plan.ensures in
    let next =
    settled-next c.args.self.now c.prepare.new.self c.settle.new.self c.args.seat c.args.event c.in_ok-plan.plan c.requires.kept c.requires.can_happen plan.few_packs plan.plan plan.noted plan.entries
    c.settle.ensures.settled c.settle.ensures.entries (omega (arith, plan.room, plan.handles, c.settle.ensures.room)) in
    record {
      memory = λ lacks.
          absurd (no_memory-answer (entries_in c.args.self.now) c.args.self.now.shape (number_behind (entries_in c.args.self.now)) c.args.seat c.args.event
          (sym next.answer ∙ sym c.settle.ensures.answer ∙ lacks));
      next = λ some. subst (λ (a : Answer). IsNextState c.args.self.now c.args.seat c.args.event a c.settle.new.self) (sym c.settle.ensures.answer) next;
    }
