use Rattle.std.proofs.Common.{take, arith}
use Rattle.std.proofs.lemmas.List.{take_all}
use Rattle.gix_odb_world.proofs.RunEnds.{headline_of}
use Rattle.gix_odb_world.proofs.StepLemmas.{IsRunOf-more}
use Rattle.gix_odb_world.proofs.world.World.run.Goals as goal

pub loop-step-preserved : goal.loop-step-preserved
loop-step-preserved c =
    IsRunOf-more c.args.disk c.loop-step.world c.advance.new.self c.step-item.result c.args.steps.now c.loop-step.step-index
    c.loop-step-test.true c.step-item.is c.in_ok-advance.ensures.continues c.loop-step.invariant

-- all steps were made
pub returns : goal.returns
returns c = record {
  headline =
      let done = c.loop-step-test.false in
      headline_of c.args.disk (take c.loop-step.step-index c.args.steps.now) c.args.steps.now c.loop-step.world c.in_ok-run.run'
      (take_all c.loop-step.step-index c.args.steps.now (omega (arith, done))) c.loop-step.invariant c.in_ok-run.ensures.run;
}
