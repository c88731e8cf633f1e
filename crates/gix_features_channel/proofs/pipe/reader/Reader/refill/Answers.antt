use Rattle.gix_features_channel.proofs.EndsLemmas.{takes, rests}
use Rattle.gix_features_channel.proofs.pipe.reader.Reader.refill.Goals as goal

pub recv_as-requires-clause-rule : goal.recv_as-requires-clause-rule
recv_as-requires-clause-rule g c = (takes _ _ _ c.args.self.now.takes, rests _ _ _ c.args.self.now.takes)
