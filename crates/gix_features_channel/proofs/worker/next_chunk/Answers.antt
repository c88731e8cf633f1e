-- An item that came follows those before it.
use Rattle.std.proofs.Common.{◌∷◌, [], refl}
use Rattle.gix_features_channel.proofs.MessagesLemmas.{Yields-append}
use Rattle.gix_features_channel.proofs.worker.next_chunk.Goals as goal

pub filling-preserved : goal.filling-preserved
filling-preserved g c =
    rw c.in_ok-push.ensures.items (record {
      yields = Yields-append g.I.Iterator.next_gives _ _ _ c.filling.chunk.items (c.in-Some.item ∷ []) c.filling.invariant.yields (_, c.in-Some.ensures.steps, refl);
      asked = c.in-Some.ensures.goes.keeps;
    })
