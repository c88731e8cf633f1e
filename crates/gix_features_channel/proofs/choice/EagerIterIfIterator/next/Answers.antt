-- One more item follows those that were given.
use Rattle.gix_features_channel.proofs.EagerLemmas.{drawn_on_demand}
use Rattle.gix_features_channel.proofs.choice.EagerIterIfIterator.next.Goals as goal

pub returns-in_ok-item-in-OnDemand-clause-steps : goal.returns-in_ok-item-in-OnDemand-clause-steps
returns-in_ok-item-in-OnDemand-clause-steps g c =
    drawn_on_demand g.I.Iterator.next_gives g.I.Iterator.can_next _ _ c.args.self.now c.in_ok-item-in-OnDemand.item c.in-OnDemand.is
    c.in_ok-item-in-OnDemand.ensures.steps c.in_ok-item-in-OnDemand.ensures.goes.keeps
