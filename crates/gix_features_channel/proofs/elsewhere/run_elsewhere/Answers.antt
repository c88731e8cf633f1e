use Rattle.std.proofs.Common.{rules}
use Rattle.gix_features_channel.proofs.EndsLemmas.{forks}
use Rattle.gix_features_channel.proofs.elsewhere.run_elsewhere.Goals as goal

pub another-theirs-requires-clause-rule : goal.another-theirs-requires-clause-rule
another-theirs-requires-clause-rule g c = forks _ _ _ (search rules) (search rules)
