use Rattle.std.proofs.lemmas.Result.{on_ok_weaker}
use Rattle.gix_odb_world.proofs.course.Course.feed_turn.Goals as goal

pub returns-in-Ok : goal.returns-in-Ok
returns-in-Ok c = record {
  feeds = on_ok_weaker c.finish_turn.result (λ keeps. record { turned = c.in-Ok.turned; turns = c.in-Ok.ensures.turned; keeps = keeps }) c.finish_turn.ensures.keeps;
}
