-- The item at the place is consumed, if there is one.
use Rattle.std.proofs.Common.{get_or, refl, sym, ap, arith}
use Rattle.gix_features_workers.specs.Rounds.{Turn}
use Rattle.gix_features_workers.proofs.rounds.turn.Goals as goal

pub returns-then-place-run : goal.returns-then-place-run
returns-then-place-run g c = record {
  turn = Turn.Takes _ (omega arith) (ap (λ d. get_or c.args.run.now c.args.place d) (sym c.index-run-place.is))
      (record { item = _; state = _; shows = (refl, refl); item_left = _; state_left = _; met = c.consume.ensures; leaves = (refl, refl) });
}

pub returns-else-place-run : goal.returns-else-place-run
returns-else-place-run g c = record { turn = Turn.Idle (omega arith) }
