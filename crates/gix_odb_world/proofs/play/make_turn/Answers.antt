use Rattle.gix_odb_calls.specs.declared.step.Step.TheVariants.{Turn}
use Rattle.gix_odb_world.proofs.PlayLemmas.{made_one}
use Rattle.gix_odb_world.proofs.play.make_turn.Goals as goal

pub returns : goal.returns
returns c = record {
  makes = made_one c.args.world.now c.advance.new.self c.args.steps.now c.push_turn.new.self (Turn c.args.handle) c.advance.result c.in_ok-push_turn.ensures.ok
      c.advance.ensures.noted c.advance.ensures.continues;
}
