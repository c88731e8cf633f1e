-- The one end that sends and takes knows how the iterator was, and then each of the two ends does.
use Rattle.std.proofs.Common.{rules}
use Rattle.gix_features_channel.proofs.EndsLemmas.{forks}
use Rattle.gix_features_channel.proofs.EagerLemmas.{split_known}
use Rattle.gix_features_channel.proofs.starting.ends_for.Goals as goal

pub another-takes-requires-clause-rule : goal.another-takes-requires-clause-rule
another-takes-requires-clause-rule g c = forks _ _ _ c.in-Ok.ensures.known.sends c.in-Ok.ensures.known.takes

pub returns-clause-sends : goal.returns-clause-sends
returns-clause-sends g c =
    let both = split_known g.I.Iterator.next_gives c.args.iter.now _ _ _ c.in-Ok.ensures.known c.another-takes.ensures.rule.0 c.another-takes.ensures.rule.1 in
    (c.another-takes.ensures.channel.0, both.0, both.1)

pub returns-clause-takes : goal.returns-clause-takes
returns-clause-takes g c =
    let both = split_known g.I.Iterator.next_gives c.args.iter.now _ _ _ c.in-Ok.ensures.known c.another-takes.ensures.rule.0 c.another-takes.ensures.rule.1 in
    (search rules, both.2, both.3)
