use Rattle.std.proofs.lemmas.Result.{on_ok_weaker}
use Rattle.gix_odb_world.proofs.TurnLemmas.{keeps_turn}
use Rattle.gix_odb_world.proofs.course.Course.finish_turn.Goals as goal

pub returns-in-Ok : goal.returns-in-Ok
returns-in-Ok c = record {
  keeps = on_ok_weaker c.record.result
      (keeps_turn c.args.self.now c.record.new.self c.args.number _ c.args.turned.outcome c.args.did c.args.change c.args.revealed c.keep.new.shown c.in-Ok.ensures.noted)
      c.record.ensures.settles;
}
