-- The end that sends and takes knows how the iterator was.
use Rattle.gix_features_channel.proofs.starting.make_known.Goals as goal

pub returns-clause-known : goal.returns-clause-known
returns-clause-known g c = c.in_ok-take_begun.ensures.taken c.args.iter.now c.in_ok-send_begun.ensures.sent
