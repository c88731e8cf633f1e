use Rattle.gix_features_channel.proofs.EndsLemmas.{takes, rests}
use Rattle.gix_features_channel.proofs.EagerLemmas.{first_taken}
use Rattle.gix_features_channel.proofs.elsewhere.work.Goals as goal

pub recv_as-requires-clause-rule : goal.recv_as-requires-clause-rule
recv_as-requires-clause-rule g c = (takes _ _ _ c.requires.takes, rests _ _ _ c.requires.takes)

pub run-requires : goal.run-requires
run-requires g c = first_taken g.K.Task.can_begin _ _ c.requires.none c.in-Ok.ensures.rule.1
