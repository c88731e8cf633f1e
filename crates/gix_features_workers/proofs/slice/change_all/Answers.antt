-- The result of the rounds.
use Rattle.std.proofs.Common.{length, ap, arith}
use Rattle.gix_features_workers.specs.Workers.{BeginsAs, EndsAs}
use Rattle.gix_features_workers.specs.Rounds.{ChangesTo}
use Rattle.gix_features_workers.proofs.RoundsLemmas.{restored, rounds_done, rounds_failed}
use Rattle.gix_features_workers.proofs.slice.change_all.Goals as goal

pub returns-in-Ok-values_of : goal.returns-in-Ok-values_of
returns-in-Ok-values_of g c = record {
  answer = rounds_done (BeginsAs g.N.Fn c.args.new_thread_state.now) (ChangesTo g.K.Fn c.args.consume.now) _ (EndsAs g.L.Fn c.args.state_to_rval.now) _ _ _ _ _ _ _ _ _ _ _ _
      c.num_threads-workers.ensures.number c.div_ceil-size.ensures c.as_mut_slice.ensures.value c.in-Ok.ensures.begun c.in-Ok-in_rounds.ensures.rounds
      (restored c.in-Ok.states.len c.in_rounds.new.states c.in-Ok.states.items c.in-Ok.states.ok.0
      (omega (arith, c.in_rounds.auto.states, ap length c.as_mut_slice.ensures.value)))
      c.in-Ok-values_of.ensures.ended;
}

pub returns-in-Err-in_rounds : goal.returns-in-Err-in_rounds
returns-in-Err-in_rounds g c = record {
  answer = rounds_failed (BeginsAs g.N.Fn c.args.new_thread_state.now) (ChangesTo g.K.Fn c.args.consume.now) _ (EndsAs g.L.Fn c.args.state_to_rval.now) _ _ _ _ _ _ _ _ _ _ _
      c.num_threads-workers.ensures.number c.div_ceil-size.ensures c.as_mut_slice.ensures.value c.in-Ok.ensures.begun c.in-Err-in_rounds.ensures.rounds;
}
