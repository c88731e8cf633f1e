-- Each item goes to the worker whose turn it is.
use Rattle.std.proofs.Common.{refl, subst}
use Rattle.std.specs.Iterator.{Yields}
use Rattle.gix_features_workers.proofs.DealtLemmas.{AreDealing-none, AreDealing-more, AreDealt-all}
use Rattle.gix_features_workers.proofs.deal.deal.Goals as goal

pub loop-item-init : goal.loop-item-init
loop-item-init g c = AreDealing-none _ _ c.requires.some c.in_ok-jobs.ensures.idle

pub loop-item-preserved : goal.loop-item-preserved
loop-item-preserved g c =
    rw c.next_turn-turn.ensures.turn (AreDealing-more _ _ _ _ _ c.index_mut-job.result.now _ c.loop-item.invariant c.index_mut-job.ensures.value refl c.in_ok-push.ensures.items)

pub returns : goal.returns
returns g c =
    let given = subst (λ s. Yields g.I.Iterator.next_gives s c.loop-item.yielded c.loop-item.item-iterator) c.into_iter-item-iterator.ensures.into_iter_gives c.loop-item.yielded_by in
    record { dealt = (c.loop-item.yielded, (c.next.new.self, (c.loop-item.item-iterator, given, c.in-None.ensures.steps)), AreDealt-all _ _ _ _ c.loop-item.invariant) }
