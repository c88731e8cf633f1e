use Rattle.std.proofs.Common.{arith}
use Rattle.gix_features_channel.proofs.EndsLemmas.{begins}
use Rattle.gix_features_channel.proofs.elsewhere.task_channel.Goals as goal

pub bounded_with-requires-clause-rule : goal.bounded_with-requires-clause-rule
bounded_with-requires-clause-rule g c = begins _ (λ k d lt. absurd (omega (arith, lt)))
