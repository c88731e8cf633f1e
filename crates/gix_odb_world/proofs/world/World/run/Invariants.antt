use Rattle.std.specs.Prelude.{take}
use Rattle.gix_odb_world.specs.World.{IsRunOf}
use Rattle.gix_odb_world.proofs.world.World.run.Given as goal

-- the world has made the steps so far
abbrev pub invariant-loop-step : goal.invariant-loop-step
invariant-loop-step l = IsRunOf l.fn.disk (take l.step-index l.steps) l.world
