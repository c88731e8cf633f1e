-- Each item that is consumed adds its output, and leaves the state for the next.
use Rattle.std.proofs.Common.{refl}
use Rattle.gix_features_workers.specs.Workers.{Works, ConsumesTo}
use Rattle.gix_features_workers.proofs.WorkersLemmas.{Works-push}
use Rattle.gix_features_workers.proofs.work.work.Goals as goal

pub loop-item-init : goal.loop-item-init
loop-item-init g c = rw c.new-outputs.ensures.items Works.Done

pub loop-item-preserved : goal.loop-item-preserved
loop-item-preserved g c =
    let consumed : ConsumesTo g.C.Fn c.args.consume.now c.loop-item.state c.in-Some.item c.consume.result c.consume.new.arg3 = record { shown = _; shows = refl; left = _; met = c.consume.ensures; leaves = refl } in
    rw c.in_ok-push.ensures.items (Works-push (ConsumesTo g.C.Fn c.args.consume.now) c.loop-item.yielded c.loop-item.outputs.items c.loop-item.invariant consumed)
