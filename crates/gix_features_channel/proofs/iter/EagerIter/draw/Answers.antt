-- What is left of a chunk is given first, and a new chunk is taken when nothing is left.
use Rattle.std.proofs.Common.{refl}
use Rattle.gix_features_channel.proofs.EagerLemmas.{given_next}
use Rattle.gix_features_channel.proofs.iter.EagerIter.draw.Goals as goal

pub drawing-init : goal.drawing-init
drawing-init g c = record { ready = c.requires.ready; same = λ first items was. was; over = λ is_over. is_over; worker = refl; turns = refl }

pub returns-in-Some-next-clause-given : goal.returns-in-Some-next-clause-given
returns-in-Some-next-clause-given g c first items was =
    given_next g.I.Iterator.next_gives first _ _ _ items c.in-Some-next.item c.in-Some-next.ensures.cases.0 (c.drawing.invariant.same first items was)
