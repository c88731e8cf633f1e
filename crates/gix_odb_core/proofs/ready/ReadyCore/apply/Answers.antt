use Rattle.std.proofs.Common.{◌≡◌, subst, sym}
use Rattle.std.specs.Result.{OnErr}
use Rattle.gix_odb_core.proofs.CoreLemmas.{appends-entered, at_last-after, core-entered, refused-entered, replayed-after, too_few-after}
use Rattle.gix_odb_core.specs.Causes.{HasTooFewSlots, StandsAtLast}
use Rattle.gix_odb_core.specs.Core.{shape_of}
use Rattle.gix_odb_core.specs.History.{History, present}
use Rattle.gix_odb_core.specs.Replay.{Appends, CanHappen, replay}
use Rattle.gix_odb_core.specs.State.{entries_in}
use Rattle.gix_odb_core.specs.Steps.{after}
use Rattle.gix_odb_core.proofs.ready.ReadyCore.apply.Goals as goal

pub invariant_of-core : goal.invariant_of-core
invariant_of-core c =
    core-entered c.self.inside.opening c.self.inside.state c.enter-answer.new.self c.self.invariant.core c.args.seat c.args.event c.enter-answer.result c.enter-answer.ensures.refused c.enter-answer.ensures.next
    (subst (λ (h : History). CanHappen (present h) c.args.seat c.args.event) (sym c.self.view_is) c.requires.can_happen)

pub returns-clause-appended : goal.returns-clause-appended
returns-clause-appended c =
    subst (λ (h : History). Appends h.opening h.entries (entries_in c.enter-answer.new.self) c.args.seat c.args.event c.enter-answer.result) c.self.view_is
    (appends-entered c.self.inside.opening c.self.inside.state c.enter-answer.new.self c.self.invariant.core c.args.seat c.args.event c.enter-answer.result c.enter-answer.ensures.refused c.enter-answer.ensures.next)

pub returns-clause-replayed : goal.returns-clause-replayed
returns-clause-replayed c = λ some.
    subst (λ (h : History). replay (shape_of c.self.inside.opening) (entries_in c.enter-answer.new.self) ≡ after (present h) c.args.seat c.args.event) c.self.view_is
    (replayed-after c.self.inside.opening c.self.inside.state c.enter-answer.new.self c.self.invariant.core c.args.seat c.args.event c.enter-answer.result c.enter-answer.ensures.next some)

pub returns-clause-refused : goal.returns-clause-refused
returns-clause-refused c =
    subst (λ (h : History). OnErr c.enter-answer.result (replay (shape_of c.self.inside.opening) (entries_in c.enter-answer.new.self) ≡ present h)) c.self.view_is
    (refused-entered c.self.inside.opening c.self.inside.state c.enter-answer.new.self c.self.invariant.core c.args.seat c.args.event c.enter-answer.result c.enter-answer.ensures.refused c.enter-answer.ensures.next)

pub returns-clause-never_refused : goal.returns-clause-never_refused
returns-clause-never_refused c = c.enter-answer.ensures.never_refused

pub returns-clause-too_few : goal.returns-clause-too_few
returns-clause-too_few c = λ current needed h.
    subst (λ (v : History). HasTooFewSlots (present v) c.args.event current needed) c.self.view_is
    (too_few-after c.self.inside.opening c.self.inside.state c.enter-answer.new.self c.self.invariant.core c.args.seat c.args.event c.enter-answer.result c.enter-answer.ensures.next current needed h)

pub returns-clause-at_last : goal.returns-clause-at_last
returns-clause-at_last c = λ h.
    subst (λ (v : History). StandsAtLast (present v) c.args.event) c.self.view_is
    (at_last-after c.self.inside.opening c.self.inside.state c.enter-answer.new.self c.self.invariant.core c.args.seat c.args.event c.enter-answer.result c.enter-answer.ensures.next h)
