use Rattle.std.proofs.Common.{refl, subst, arith}
use Rattle.std.proofs.lemmas.List.{take_all}
use Rattle.gix_odb_world.specs.Played.{HasPlayed}
use Rattle.gix_odb_world.proofs.PlayLemmas.{has_played_none, has_played_more}
use Rattle.gix_odb_world.proofs.RunEnds.{is_played}
use Rattle.gix_odb_world.proofs.world.World.play.Goals as goal

pub loop-line-init : goal.loop-line-init
loop-line-init c = rw c.new-steps.ensures.empty (has_played_none c.args.disk c.new-world.result c.new-last.result c.new-last.ensures.empty c.new-world.ensures.explained)

pub loop-line-preserved : goal.loop-line-preserved
loop-line-preserved c =
    rw c.in_ok-play_next.ensures.placed
    (has_played_more c.args.disk c.loop-line.world c.play_next.new.world c.loop-line.steps c.play_next.new.steps c.line-item.result c.args.lines.now c.loop-line.line-index c.loop-line.last _
    c.loop-line-test.true c.line-item.is refl c.in_ok-play_next.ensures.plays c.loop-line.invariant)

-- all lines were played
pub returns : goal.returns
returns c = record {
  played =
      let done = c.loop-line-test.false in
      let whole = take_all c.loop-line.line-index c.args.lines.now (omega (arith, done)) in
      is_played c.args.disk c.args.lines.now c.loop-line.steps c.loop-line.last c.loop-line.world c.in_ok-run.run'
      (subst (λ lines. HasPlayed c.args.disk lines c.loop-line.steps c.loop-line.last c.loop-line.world) whole c.loop-line.invariant) (c.in_ok-run.ensures.run c.args.disk);
}
