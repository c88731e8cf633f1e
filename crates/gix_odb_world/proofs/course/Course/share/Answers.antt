use Rattle.std.proofs.Common.{◌≡◌, None, Option, sym, ap, ◌∙◌, subst}
use Rattle.std.proofs.lemmas.Result.{on_ok_weaker}
use Rattle.std.specs.Option.{option_map}
use Rattle.gix_odb_world.specs.Handle.{Seen, seen}
use Rattle.gix_odb_world.specs.Table.{SetsHandle, phase_of_handle, shared_with}
use Rattle.gix_odb_world.specs.Valid.{why_not_idle}
use Rattle.gix_odb_calls.specs.declared.step.Step.TheVariants as steps
use Rattle.gix_odb_world.proofs.CloneLemmas.{clone_if_free, clone_taken, shared}
use Rattle.gix_odb_world.proofs.ExplainedSeats.{clone_free, clone_held, clone_within}
use Rattle.gix_odb_world.proofs.StepLemmas.{misused}
use Rattle.gix_odb_world.proofs.course.Course.share.Goals as goal

-- the number isn't free
pub returns-in-Some-clause-continues : goal.returns-in-Some-clause-continues
returns-in-Some-clause-continues c = on_ok_weaker c.misuse.result
    (misused c.args.self.now c.misuse.new.self (steps.Clone c.args.number c.args.from) c.in-Some.why
    (clone_taken c.args.self.now c.args.number c.args.from c.in-Some.why c.in-Some.ensures.why)) c.misuse.ensures.notes

-- the other handle isn't idle
pub returns-in-Err-clause-continues : goal.returns-in-Err-clause-continues
returns-in-Err-clause-continues c = on_ok_weaker c.misuse-in-Err.result
    (misused c.args.self.now c.misuse-in-Err.new.self (steps.Clone c.args.number c.args.from) c.in-Err.why
    (clone_if_free c.args.self.now c.args.number c.args.from c.in_default.ensures.why ∙ sym c.in-Err.ensures.why)) c.misuse-in-Err.ensures.notes

pub returns-clause-continues : goal.returns-clause-continues
returns-clause-continues c =
    on_ok_weaker c.note.result
    (shared c.args.self.now c.args.number c.args.from _ (ap (option_map seen) c.in-Ok.ensures.handle)
    (subst (λ (h : Option Seen). why_not_idle (phase_of_handle h) ≡ None) (ap (option_map seen) c.in-Ok.ensures.handle) (sym c.in-Ok.ensures.why))
    c.put_shared.new.self c.note.new.self c.joined.new.cores c.in_ok-did.view c.in_ok-did.did
    (clone_if_free c.args.self.now c.args.number c.args.from c.in_default.ensures.why ∙ sym c.in-Ok.ensures.why)
    c.in_ok-did.ensures.did c.in_ok-did.ensures.view c.in_ok-did.ensures.cores
    (subst (SetsHandle (record c.args.self.now { cores = c.joined.new.cores }) c.put_shared.new.self c.args.number) (ap (shared_with c.in_ok-did.view) (ap (option_map seen) c.in-Ok.ensures.handle))
    c.in_ok-put_shared.ensures.sets)) c.note.ensures.notes

-- there is a core, at which the other handle is registered, and the free number isn't
pub joined-requires-clause-there : goal.joined-requires-clause-there
joined-requires-clause-there c =
    clone_within c.args.self.now c.requires.explained c.args.number c.args.from
    (clone_if_free c.args.self.now c.args.number c.args.from c.in_default.ensures.why ∙ sym c.in-Ok.ensures.why) _ (ap (option_map seen) c.in-Ok.ensures.handle)

pub joined-requires-clause-held : goal.joined-requires-clause-held
joined-requires-clause-held c =
    clone_held c.args.self.now c.requires.explained c.args.number c.args.from
    (clone_if_free c.args.self.now c.args.number c.args.from c.in_default.ensures.why ∙ sym c.in-Ok.ensures.why) _ (ap (option_map seen) c.in-Ok.ensures.handle)

pub joined-requires-clause-free : goal.joined-requires-clause-free
joined-requires-clause-free c =
    clone_free c.args.self.now c.requires.explained c.args.number c.args.from
    (clone_if_free c.args.self.now c.args.number c.args.from c.in_default.ensures.why ∙ sym c.in-Ok.ensures.why) c.in-Ok.parent.core
