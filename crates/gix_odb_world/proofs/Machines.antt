-- Each work's machine keeps its laws. Another machine has one line here.
use Rattle.gix_odb.specs.declared.call_state.CallStage.TheVariants.{Looking, Refreshing, Refused, Writing}
use Rattle.gix_odb_world.specs.Work.{Work}
use Rattle.gix_odb_world.specs.Work.{Opening, Calling}
use Rattle.gix_odb_world.specs.Machines.{at}
use Rattle.gix_odb_world.specs.Running.{known_at}
use Rattle.gix_odb_world.proofs.LookMachine.{looking_laws}
use Rattle.gix_odb_world.proofs.MachineLaws.{KeepsLaws}
use Rattle.gix_odb_world.proofs.OpeningMachine.{opening_laws}
use Rattle.gix_odb_world.proofs.WriteMachine.{writing_laws}

pub laws_at : (work : Work) → KeepsLaws (at work).machine (known_at work)
laws_at (Opening state) = opening_laws
laws_at (Calling (Looking state)) = looking_laws
laws_at (Calling (Refreshing refresh call)) = writing_laws
laws_at (Calling (Writing call)) = writing_laws
laws_at (Calling (Refused error)) = writing_laws
