use Rattle.std.proofs.Common.{None, sym, ap}
use Rattle.std.specs.Option.{option_map}
use Rattle.gix_odb_world.specs.Handle.{seen}
use Rattle.gix_odb_world.proofs.SettingLemmas.{sets_seen}
use Rattle.std.proofs.lemmas.Result.{on_ok_weaker}
use Rattle.gix_odb_world.proofs.ExplainedSeats.{close_sits}
use Rattle.gix_odb_world.proofs.StepLemmas.{misused}
use Rattle.gix_odb_world.proofs.HandleLemmas.{closed}
use Rattle.gix_odb_calls.specs.declared.step.Step.TheVariants as steps
use Rattle.gix_odb_world.proofs.course.Course.close.Goals as goal

pub returns-in-Err-clause-continues : goal.returns-in-Err-clause-continues
returns-in-Err-clause-continues c = on_ok_weaker c.misuse.result
    (misused c.args.self.now c.misuse.new.self (steps.Close c.args.number) c.in-Err.why (sym c.in-Err.ensures.why)) c.misuse.ensures.notes

pub returns-clause-continues : goal.returns-clause-continues
returns-clause-continues c =
    on_ok_weaker c.note.result
    (closed c.args.self.now c.remove.new.self c.note.new.self c.removed-did.new.cores c.args.number _ c.removed-did.result (sym c.in-Ok.ensures.why)
    (ap (option_map seen) c.in-Ok.ensures.handle) c.removed-did.ensures.did c.removed-did.ensures.cores
    (sets_seen (record c.args.self.now { cores = c.removed-did.new.cores }) c.remove.new.self c.args.number None c.remove.ensures.puts)) c.note.ensures.notes

-- the handle is registered at the core of its store
pub removed-did-requires-clause-there : goal.removed-did-requires-clause-there
removed-did-requires-clause-there c =
    (close_sits c.args.self.now c.requires.explained c.args.number _ (sym c.in-Ok.ensures.why) (ap (option_map seen) c.in-Ok.ensures.handle)).within

pub removed-did-requires-clause-registered : goal.removed-did-requires-clause-registered
removed-did-requires-clause-registered c =
    (close_sits c.args.self.now c.requires.explained c.args.number _ (sym c.in-Ok.ensures.why) (ap (option_map seen) c.in-Ok.ensures.handle)).there
