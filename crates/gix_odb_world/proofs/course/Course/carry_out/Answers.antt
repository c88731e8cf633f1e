use Rattle.std.proofs.lemmas.Result.{on_ok_weaker}
use Rattle.gix_odb_world.specs.Table.{IsToldTo}
use Rattle.std.proofs.Common.{subst}
use Rattle.gix_odb_world.proofs.TurnLemmas.{takes_turn}
use Rattle.gix_odb_world.proofs.course.Course.carry_out.Goals as goal

pub returns-in-Ok : goal.returns-in-Ok
returns-in-Ok c = record {
  takes = on_ok_weaker c.feed_turn.result
      (takes_turn c.args.self.now c.feed_turn.new.self c.args.number _ c.args.judged.ask c.args.judged.change c.args.judged.revealed c.carried_out.new.disk c.carried_out.new.cores
      c.in-Ok.carried c.requires.asked c.requires.change c.tree.ensures.is_tree c.in-Ok.ensures.carried)
      c.feed_turn.ensures.feeds;
}

-- what the handle is fed suits what its work asks for
pub feed_turn-requires-clause-answers : goal.feed_turn-requires-clause-answers
feed_turn-requires-clause-answers c = subst (λ ask. IsToldTo ask c.in-Ok.carried.told) c.requires.asked c.in-Ok.ensures.carried.suits
