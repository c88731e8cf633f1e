use Rattle.std.specs.Prelude.{take}
use Rattle.gix_odb_world.specs.Played.{HasPlayed}
use Rattle.gix_odb_world.proofs.world.World.play.Given as goal

-- the lines so far are played
abbrev pub invariant-loop-line : goal.invariant-loop-line
invariant-loop-line l = HasPlayed l.fn.disk (take l.line-index l.lines) l.steps l.last l.world
