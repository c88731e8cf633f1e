-- A result that is there adds its parts.
use Rattle.gix_features_workers.proofs.WorkersLemmas.{AreGathered-more}
use Rattle.gix_features_workers.proofs.outputs.put.Goals as goal

pub returns : goal.returns
returns g c = record {
  more = λ results was. rw (c.in_ok-outputs.was, c.in_ok-push.ensures.items, c.in_ok-push-2.ensures.items)
      (AreGathered-more results _ _ c.in_ok-outputs.field-0 c.into_iter.result was c.into_iter.ensures.rest);
}
