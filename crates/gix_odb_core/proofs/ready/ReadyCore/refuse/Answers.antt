use Rattle.std.proofs.Common.{◌≡◌, Err, subst, sym}
use Rattle.gix_odb_core.proofs.CoreLemmas.{appends-refused, core-refused, unchanged-refused}
use Rattle.gix_odb_core.specs.Core.{shape_of}
use Rattle.gix_odb_core.specs.History.{History, present}
use Rattle.gix_odb_core.specs.Replay.{Appends, CanHappen, replay}
use Rattle.gix_odb_core.specs.State.{entries_in}
use Rattle.gix_odb_events.specs.declared.event.Refusal.TheVariants as refusals
use Rattle.gix_odb_core.proofs.ready.ReadyCore.refuse.Goals as goal

pub invariant_of-result : goal.invariant_of-result
invariant_of-result c = core-refused c.self.inside.opening c.self.inside.state c.refuse.new.self c.self.invariant.core c.args.seat c.args.event c.refuse.ensures.refused
    (subst (λ (h : History). CanHappen (present h) c.args.seat c.args.event) (sym c.self.view_is) c.requires.can_happen)

pub returns-clause-appended : goal.returns-clause-appended
returns-clause-appended c =
    subst (λ (h : History). Appends h.opening h.entries (entries_in c.refuse.new.self) c.args.seat c.args.event (Err refusals.NoMemory)) c.self.view_is
    (appends-refused c.self.inside.opening c.self.inside.state c.refuse.new.self c.self.invariant.core c.args.seat c.args.event c.refuse.ensures.refused)

pub returns-clause-unchanged : goal.returns-clause-unchanged
returns-clause-unchanged c =
    subst (λ (h : History). replay (shape_of c.self.inside.opening) (entries_in c.refuse.new.self) ≡ present h) c.self.view_is
    (unchanged-refused c.self.inside.opening c.self.inside.state c.refuse.new.self c.self.invariant.core c.args.seat c.args.event c.refuse.ensures.refused)
