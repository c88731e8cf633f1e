use Rattle.std.proofs.Common.{sym, ap, subst}
use Rattle.std.proofs.lemmas.Result.{on_ok_weaker}
use Rattle.gix_odb_calls.specs.declared.step.Step.TheVariants as steps
use Rattle.gix_odb_world.specs.Table.{SetsHandle}
use Rattle.gix_odb_world.specs.Work.{Calling}
use Rattle.std.specs.Option.{option_map}
use Rattle.gix_odb_world.specs.Handle.{seen}
use Rattle.gix_odb_world.specs.World.{stored_at}
use Rattle.gix_odb_world.proofs.SettingLemmas.{sets_seen}
use Rattle.gix_odb_world.proofs.StepLemmas.{misused}
use Rattle.gix_odb_world.proofs.StartLemmas.{begun_by, on_a_copy}
use Rattle.gix_odb_world.proofs.course.Course.start.Goals as goal

pub returns-in-Err-clause-continues : goal.returns-in-Err-clause-continues
returns-in-Err-clause-continues c = on_ok_weaker c.misuse.result
    (misused c.args.self.now c.misuse.new.self (steps.Start c.args.number c.args.call.now) c.in-Err.why (sym c.in-Err.ensures.why)) c.misuse.ensures.notes

pub returns-clause-continues : goal.returns-clause-continues
returns-clause-continues c =
    on_ok_weaker c.note.result
    (begun_by c.args.self.now c.set_call.new.self c.note.new.self c.args.number c.in_ok-try_clone.field-0 c.args.call.now _ (Calling c.in_ok-call.call.stage)
    c.in_ok-try_clone.ensures.copied c.start.ensures.sized (sym c.in-Ok.ensures.why)
    (ap (option_map seen) c.in-Ok.ensures.handle) (ap Calling c.in_ok-call.ensures.begun)
    (subst (SetsHandle c.args.self.now c.set_call.new.self c.args.number)
    (on_a_copy c.in-Ok.handle.core c.in-Ok.handle.state.now c.in_ok-call.call (stored_at c.args.self.now c.args.number) c.in-Ok.ensures.handle c.in_ok-call.ensures.handle)
    (sets_seen c.args.self.now c.set_call.new.self c.args.number _ c.set_call.ensures.puts))) c.note.ensures.notes
