-- The result of one more state follows those before it.
use Rattle.gix_features_workers.specs.Workers.{EndsAs}
use Rattle.gix_features_workers.proofs.RoundsLemmas.{AllZip-push}
use Rattle.gix_features_workers.proofs.slice.values_of.Goals as goal

pub loop-state-preserved : goal.loop-state-preserved
loop-state-preserved g c =
    rw c.in_ok-push.ensures.items (AllZip-push (EndsAs g.L.Fn c.args.state_to_rval.now) c.loop-state.yielded c.loop-state.values.items _ _ c.loop-state.invariant (record { met = c.state_to_rval.ensures }))
