-- A walk that wasn't begun was cut off.
use Rattle.list_walk.proofs.VisitLemmas.{nothing_cut}
use Rattle.list_walk.proofs.run.visited.Goals as goal

pub returns-in-Err-clause-ends : goal.returns-in-Err-clause-ends
returns-in-Err-clause-ends g c = nothing_cut _ _ _ _
