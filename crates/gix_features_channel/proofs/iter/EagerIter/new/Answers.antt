-- Nothing is left of a chunk at first.
use Rattle.gix_features_channel.proofs.iter.EagerIter.new.Goals as goal

pub returns-clause-begun : goal.returns-clause-begun
returns-clause-begun g c = rw (c.into_iter-at_hand.ensures.rest, c.new.ensures.items) c.in_ok-source.ensures.none
