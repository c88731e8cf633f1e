-- The next item of the iterator that is here follows those that were given.
use Rattle.gix_features_channel.proofs.EagerLemmas.{came_here, came_all_here}
use Rattle.gix_features_channel.proofs.iter.EagerIter.next_here.Goals as goal

pub returns-in-Some-clause-given : goal.returns-in-Some-clause-given
returns-in-Some-clause-given g c first items was =
    came_here g.I.Iterator.next_gives first _ _ c.args.self.now.source items _ c.in-Some.item c.requires.used c.in-Here.is c.in-Some.ensures.steps was

pub returns-clause-given : goal.returns-clause-given
returns-clause-given g c first items was =
    came_all_here g.I.Iterator.next_gives first _ _ c.args.self.now.source items _ c.next.result c.in_default-next.not-Some c.requires.used c.in-Here.is c.next.ensures.steps was
