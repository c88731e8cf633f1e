use Rattle.std.proofs.Common.{sym, subst}
use Rattle.gix_odb_world.specs.Table.{SetsHandle}
use Rattle.gix_odb_world.specs.World.{stored_at}
use Rattle.gix_odb_world.proofs.SettingLemmas.{frozen_seen, sets_seen}
use Rattle.std.proofs.lemmas.Result.{on_ok_weaker}
use Rattle.gix_odb_world.proofs.StepLemmas.{misused}
use Rattle.gix_odb_world.proofs.HandleLemmas.{frozen}
use Rattle.gix_odb_calls.specs.declared.step.Step.TheVariants as steps
use Rattle.gix_odb_world.proofs.course.Course.freeze.Goals as goal

pub returns-in-Some-clause-continues : goal.returns-in-Some-clause-continues
returns-in-Some-clause-continues c = on_ok_weaker c.misuse.result
    (misused c.args.self.now c.misuse.new.self (steps.Never c.args.number) c.in-Some.why (sym c.in-Some.ensures.why)) c.misuse.ensures.notes

pub returns-clause-continues : goal.returns-clause-continues
returns-clause-continues c =
    on_ok_weaker c.note.result (frozen c.args.self.now c.set_frozen.new.self c.note.new.self c.args.number (sym c.in_default.ensures.why)
    (subst (SetsHandle c.args.self.now c.set_frozen.new.self c.args.number) (frozen_seen (stored_at c.args.self.now c.args.number) (sym c.in_default.ensures.why))
    (sets_seen c.args.self.now c.set_frozen.new.self c.args.number _ c.set_frozen.ensures.puts))) c.note.ensures.notes
