-- Each result that is there adds its parts.
use Rattle.gix_features_workers.proofs.WorkersLemmas.{AreGathered-none}
use Rattle.gix_features_workers.proofs.outputs.gather.Goals as goal

pub loop-result-init : goal.loop-result-init
loop-result-init g c = rw c.new.ensures.items (rw c.new-2.ensures.items AreGathered-none)

pub loop-result-preserved : goal.loop-result-preserved
loop-result-preserved g c = c.in-Ok.ensures.more c.loop-result.yielded c.loop-result.invariant
