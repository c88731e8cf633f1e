use Rattle.gix_odb_world.proofs.ExplainedLemmas.{explained_anew}
use Rattle.gix_odb_world.proofs.world.World.step.Goals as goal

pub invariant_of-self : goal.invariant_of-self
invariant_of-self c = explained_anew _ _ c.begin_anew.ensures.explained
