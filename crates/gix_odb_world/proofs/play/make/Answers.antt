use Rattle.gix_odb_world.proofs.PlayLemmas.{made_one}
use Rattle.gix_odb_world.proofs.play.make.Goals as goal

pub returns : goal.returns
returns c = record {
  makes = made_one c.args.world.now c.advance.new.self c.args.steps.now c.push.new.self c.args.step.now c.advance.result c.in_ok-push.ensures.ok c.advance.ensures.noted
      c.advance.ensures.continues;
}
