use Rattle.gix_odb_world.proofs.ExplainedLemmas.{explained_anew}
use Rattle.gix_odb_world.proofs.world.World.new.Goals as goal

pub invariant_of-result : goal.invariant_of-result
invariant_of-result c = explained_anew c.new.result c.args.disk c.new.ensures.explained
