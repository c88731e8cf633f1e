-- Some events lead to a world after a step, as to the one before.
use Rattle.std.proofs.Common.{[]}
use Rattle.std.proofs.Math.Logic.{∥∥₁_map}
use Rattle.std.proofs.lemmas.Grind.{merely}
use Rattle.odb_disk.specs.MemDisk.{Volume}
use Rattle.gix_odb_world.specs.declared.course.Course.{Course}
use Rattle.gix_odb_calls.specs.declared.step.Step.{Step}
use Rattle.gix_odb_world.specs.World.{Continues, Explains, HasHistory, IsExplained}

goes_on_from : (old new : Course) (step : Step) → Continues old step new → HasHistory old → HasHistory new
goes_on_from old new step continues h =
    let on = continues h.first h.events h.explains in
    record { first = h.first; events = _; explains = on.1.explains }

pub explained_on : (old new : Course) (step : Step) → Continues old step new → IsExplained old → IsExplained new
explained_on old new step continues explained = ∥∥₁_map explained (goes_on_from old new step continues)

-- a new world has an empty history
pub explained_anew : (world : Course) (first : Volume) → Explains first [] world → IsExplained world
explained_anew world first explains = merely (record { first = first; events = []; explains = explains })
