use Rattle.std.proofs.Common.{rules}
use Rattle.gix_features_channel.proofs.EndsLemmas.{forks, merges, totals}
use Rattle.gix_features_channel.proofs.pipe.together.Goals as goal

pub absorb-requires-clause-rule : goal.absorb-requires-clause-rule
absorb-requires-clause-rule c = merges _ _ _ _ _ c.args.writer.sends c.args.reader.takes

pub learn_as-requires-clause-rule : goal.learn_as-requires-clause-rule
learn_as-requires-clause-rule c = totals _ _ _ (search rules) (search rules)

pub another-other-requires-clause-rule : goal.another-other-requires-clause-rule
another-other-requires-clause-rule c = forks _ _ _ (search rules) (search rules)
