use Rattle.std.proofs.Common.{◌≡◌, subst, sym}
use Rattle.std.specs.Result.{OnErr}
use Rattle.gix_odb_core.proofs.CoreLemmas.{at_last-after, complete-after, core-after, refused-after, replayed-after, too_few-after}
use Rattle.gix_odb_core.specs.Causes.{HasTooFewSlots, StandsAtLast}
use Rattle.gix_odb_core.specs.Core.{history_of}
use Rattle.gix_odb_core.specs.History.{History, present}
use Rattle.gix_odb_core.specs.Possible.{IsComplete}
use Rattle.gix_odb_core.specs.Replay.{CanHappen}
use Rattle.gix_odb_core.specs.State.{entries_in}
use Rattle.gix_odb_core.specs.Steps.{after}
use Rattle.gix_odb_core.proofs.apply.Core.apply.Goals as goal

pub invariant_of-self : goal.invariant_of-self
invariant_of-self c = core-after c.self.inside.opening c.self.inside.state c.apply.new.self c.self.invariant c.args.seat c.args.event c.apply.result
    (subst (λ (h : History). CanHappen (present h) c.args.seat c.args.event) (sym c.self.view_is) c.requires.can_happen) c.apply.ensures.memory c.apply.ensures.next

pub returns-clause-replayed : goal.returns-clause-replayed
returns-clause-replayed c = λ some.
    subst (λ (h : History). present (history_of (record { opening = c.self.inside.opening; state = c.apply.new.self })) ≡ after (present h) c.args.seat c.args.event) c.self.view_is
    (replayed-after c.self.inside.opening c.self.inside.state c.apply.new.self c.self.invariant c.args.seat c.args.event c.apply.result c.apply.ensures.next some)

pub returns-clause-refused : goal.returns-clause-refused
returns-clause-refused c =
    subst (λ (h : History). OnErr c.apply.result (present (history_of (record { opening = c.self.inside.opening; state = c.apply.new.self })) ≡ present h)) c.self.view_is
    (refused-after c.self.inside.opening c.self.inside.state c.apply.new.self c.self.invariant c.args.seat c.args.event c.apply.result c.apply.ensures.memory c.apply.ensures.next)

pub returns-clause-complete : goal.returns-clause-complete
returns-clause-complete c =
    subst (λ (h : History). IsComplete h.entries → IsComplete (entries_in c.apply.new.self)) c.self.view_is
    (complete-after c.self.inside.state c.apply.new.self c.args.seat c.args.event c.apply.result c.apply.ensures.memory c.apply.ensures.next)

pub returns-clause-never_refused : goal.returns-clause-never_refused
returns-clause-never_refused c = c.apply.ensures.never_refused

pub returns-clause-too_few : goal.returns-clause-too_few
returns-clause-too_few c = λ current needed h.
    subst (λ (v : History). HasTooFewSlots (present v) c.args.event current needed) c.self.view_is
    (too_few-after c.self.inside.opening c.self.inside.state c.apply.new.self c.self.invariant c.args.seat c.args.event c.apply.result c.apply.ensures.next current needed h)

pub returns-clause-at_last : goal.returns-clause-at_last
returns-clause-at_last c = λ h.
    subst (λ (v : History). StandsAtLast (present v) c.args.event) c.self.view_is
    (at_last-after c.self.inside.opening c.self.inside.state c.apply.new.self c.self.invariant c.args.seat c.args.event c.apply.result c.apply.ensures.next h)
