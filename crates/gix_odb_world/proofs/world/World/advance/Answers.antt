use Rattle.gix_odb_world.proofs.ExplainedLemmas.{explained_anew, explained_on}
use Rattle.gix_odb_world.proofs.world.World.advance.Goals as goal

pub invariant_of-self : goal.invariant_of-self
invariant_of-self c = explained_on _ _ _ c.in-Ok.ensures.continues c.self.invariant

pub invariant_of-self-in-Err : goal.invariant_of-self-in-Err
invariant_of-self-in-Err c = explained_anew _ _ c.begin_anew.ensures.explained
