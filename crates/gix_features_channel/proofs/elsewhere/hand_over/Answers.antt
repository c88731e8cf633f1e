use Rattle.std.proofs.lemmas.List.Elements.{All-push}
use Rattle.gix_features_channel.proofs.EndsLemmas.{sends, nothing}
use Rattle.gix_features_channel.proofs.elsewhere.hand_over.Goals as goal

pub send_as-sent-requires-clause-rule : goal.send_as-sent-requires-clause-rule
send_as-sent-requires-clause-rule g c = (sends _ _ _ _ _ c.requires.sends (λ law. All-push g.K.Task.can_begin _ _ law c.requires.can), nothing _ _ _)
