use Rattle.std.proofs.Common.{◌++◌, refl, ap}
use Rattle.gix_features_workers.specs.Rounds.{ChangesTo}
use Rattle.gix_features_workers.proofs.RoundsLemmas.{Round-alone}
use Rattle.gix_features_workers.proofs.rounds.alone.Goals as goal

pub returns : goal.returns
returns g c = record {
  round = Round-alone (ChangesTo g.K.Fn c.args.consume.now) c.args.place.now.size c.args.place.now.at c.args.states.now _ _ _ c.min-cut.result c.args.items.now _ _ _ _
      c.requires.one refl c.min-cut.ensures c.split_at_mut-run.ensures.front (ap (λ l. c.turn.new.run ++ l) c.split_at_mut-run.ensures.back) c.turn.ensures.turn;
}
