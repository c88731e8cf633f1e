-- The rounds of both halves of the workers are one round.
use Rattle.std.proofs.Common.{◌/◌, refl, arith}
use Rattle.gix_features_workers.specs.Rounds.{ChangesTo}
use Rattle.gix_features_workers.proofs.RoundsLemmas.{Round-halves}
use Rattle.gix_features_workers.proofs.rounds.+halves.Goals as goal

pub round-returns : goal.round-returns
round-returns g t c = record {
  round = Round-halves (ChangesTo g.K.Fn c.args.consume.now) c.args.place.now.size c.args.place.now.at (c.args.count / 2) c.min-cut.result c.args.states.now _ _ c.args.items.now _ _ _ _ _
      _ _ _ _ _ _ c.split_at_mut-first.ensures.value c.split_at_mut-first.ensures.front_len (omega (arith, c.min-cut.ensures)) c.split_at_mut-mine.ensures.front c.split_at_mut-mine.ensures.back
      refl refl c.first_error.ensures.first c.both_halves-a.ensures.front c.both_halves-a.ensures.back;
}
