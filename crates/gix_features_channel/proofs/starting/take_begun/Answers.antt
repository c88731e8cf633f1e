use Rattle.gix_features_channel.specs.Messages.{IsTold}
use Rattle.gix_features_channel.proofs.EndsLemmas.{takes, rests}
use Rattle.gix_features_channel.proofs.EagerLemmas.{taken_is_known}
use Rattle.gix_features_channel.proofs.starting.take_begun.Goals as goal

pub recv_as-requires-clause-rule : goal.recv_as-requires-clause-rule
recv_as-requires-clause-rule g c = (takes (IsTold g.I.Iterator.next_gives) _ _ c.requires.takes, rests (IsTold g.I.Iterator.next_gives) _ _ c.requires.takes)

pub returns-in-Ok-clause-taken : goal.returns-in-Ok-clause-taken
returns-in-Ok-clause-taken g c first begun = taken_is_known g.I.Iterator.next_gives first _ _ _ begun c.in-Ok.ensures.rule
