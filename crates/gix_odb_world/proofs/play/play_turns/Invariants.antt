use Rattle.std.specs.Prelude.{◌-◌, ◌^◌, length}
use Rattle.gix_odb_world.specs.Played.{PlaysTurns}
use Rattle.gix_odb_world.proofs.play.play_turns.Given as goal

-- each turn so far was pending
abbrev pub invariant-turning : goal.invariant-turning
invariant-turning l = PlaysTurns l.fn.world l.world l.fn.steps l.steps l.handle

-- there is room for so many more outcomes
abbrev pub decreases-turning : goal.decreases-turning
decreases-turning l = 2 ^ 64 - length l.world.outcomes
