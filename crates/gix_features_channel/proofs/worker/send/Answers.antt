use Rattle.gix_features_channel.proofs.EndsLemmas.{sends, nothing}
use Rattle.gix_features_channel.proofs.worker.send.Goals as goal

pub send_as-requires-clause-rule : goal.send_as-requires-clause-rule
send_as-requires-clause-rule g c = (sends _ _ _ _ _ c.requires.sends (λ _. c.requires.told), nothing _ _ _)
