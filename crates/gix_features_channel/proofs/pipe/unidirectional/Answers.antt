use Rattle.std.proofs.Common.{rules}
use Rattle.gix_features_channel.proofs.EndsLemmas.{forks}
use Rattle.gix_features_channel.proofs.pipe.unidirectional.Goals as goal

pub another-other-requires-clause-rule : goal.another-other-requires-clause-rule
another-other-requires-clause-rule c = forks _ _ _ (search rules) (search rules)
