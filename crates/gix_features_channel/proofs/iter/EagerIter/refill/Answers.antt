-- A new chunk is taken when nothing is left; if the worker said that there are no more items, there are none.
use Rattle.gix_features_channel.proofs.EagerLemmas.{came_by, came_taken, given_chunk}
use Rattle.gix_features_channel.proofs.iter.EagerIter.refill.Goals as goal

pub returns-in-Ok-Some-clause-more : goal.returns-in-Ok-Some-clause-more
returns-in-Ok-Some-clause-more g c is_more first items was =
    let steps = g.I.Iterator.next_gives in
    let taken = came_taken steps first c.args.self.now.source _ _ c.in-Elsewhere.is was in
    let told = rw c.in-Ok-Some.field-0-is at c.in-Ok-Some.ensures.taken in
    given_chunk steps first _ _ _ items _ c.requires.used c.into_iter.ensures.rest (came_by steps first _ _ (told first _ taken))
