-- The results of the last states aren't asked for.
use Rattle.gix_features_workers.proofs.ReducedLemmas.{AreWorked-forget}
use Rattle.gix_features_workers.proofs.outputs.work_for_outputs.Goals as goal

pub returns : goal.returns
returns g c = let made = c.in_ok-in_order.ensures.worked in record { made = (made.0, c.in_ok-in_order.field-0.lasts.items, made.1, AreWorked-forget made.2) }
