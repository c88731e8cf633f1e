use Rattle.gix_features_channel.proofs.EndsLemmas.{begins}
use Rattle.gix_features_channel.proofs.pipe.ends.channel.Goals as goal

pub bounded_with-requires-clause-rule : goal.bounded_with-requires-clause-rule
bounded_with-requires-clause-rule c = begins _ tt
