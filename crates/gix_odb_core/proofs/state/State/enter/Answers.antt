use Rattle.std.proofs.Common.{sym, subst}
use Rattle.gix_odb_core.proofs.CoreLemmas.{never_refused-other}
use Rattle.gix_odb_core.proofs.StateLemmas.{removed-next}
use Rattle.gix_odb_core.specs.Replay.{CanHappen}
use Rattle.gix_odb_events.specs.Answers.{Answer}
use Rattle.gix_odb_core.specs.State.{IsNextState}
use Rattle.gix_odb_events.specs.declared.event.Event.{Event}
use Rattle.gix_odb_events.specs.declared.event.Event.TheVariants as event
use Rattle.gix_odb_core.proofs.state.State.enter.Goals as goal

pub returns-in-Remove-clause-next : goal.returns-in-Remove-clause-next
returns-in-Remove-clause-next c = λ some.
    let can = subst (λ (e : Event). CanHappen c.args.self.now.shape c.args.seat e) c.in-Remove.is c.requires.can_happen in
    let next = removed-next c.args.self.now c.remove.new.self c.args.seat c.requires.kept can c.remove.ensures.removed c.remove.ensures.entries c.remove.ensures.handles c.remove.ensures.room in
    subst (λ (e : Event). IsNextState c.args.self.now c.args.seat e c.remove.result c.remove.new.self) (sym c.in-Remove.is)
    (subst (λ (a : Answer). IsNextState c.args.self.now c.args.seat event.Remove a c.remove.new.self) (sym c.remove.ensures.answer) next)

pub returns-clause-never_refused : goal.returns-clause-never_refused
returns-clause-never_refused c = never_refused-other c.args.event c.enter_other.result c.in_default.not-Remove
