use Rattle.std.proofs.Common.{ap}
use Rattle.gix_features_channel.proofs.EndsLemmas.{sends, nothing}
use Rattle.gix_features_channel.proofs.EagerLemmas.{told_begun_at, sent_is_begun}
use Rattle.gix_features_channel.proofs.starting.send_begun.Goals as goal

pub send_as-requires-clause-rule : goal.send_as-requires-clause-rule
send_as-requires-clause-rule g c =
    (sends _ _ _ _ _ (ap (λ v. v.sends) c.requires.fresh) (λ _. told_begun_at g.I.Iterator.next_gives _ _ c.requires.fresh), nothing _ _ _)

pub returns-in-Ok-clause-sent : goal.returns-in-Ok-clause-sent
returns-in-Ok-clause-sent g c = sent_is_begun g.I.Iterator.next_gives _ _ _ _ c.of-start.ensures c.requires.fresh c.in-Ok.ensures.rule
