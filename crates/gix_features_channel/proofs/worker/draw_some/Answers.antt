-- What is sent continues what was sent: the next items, or that there are no more.
use Rattle.std.proofs.Common.{refl, rules}
use Rattle.gix_features_channel.proofs.MessagesLemmas.{sent_chunk, sent_chunk_to, told_sent, told_whole}
use Rattle.gix_features_channel.proofs.worker.draw_some.Goals as goal

pub send-requires-clause-told : goal.send-requires-clause-told
send-requires-clause-told g c =
    let steps = g.I.Iterator.next_gives in
    let drawn = c.in-Ok.ensures.drawn in
    told_sent steps _ _ (sent_chunk steps _ _ _ _ c.in-Ok.chunk c.requires.can.sent drawn.yields refl)

pub send-requires-then-has_ended-clause-told : goal.send-requires-then-has_ended-clause-told
send-requires-then-has_ended-clause-told g c =
    let steps = g.I.Iterator.next_gives in
    let drawn = c.in-Ok.ensures.drawn in
    told_whole steps _ _ _ (sent_chunk steps _ _ _ _ c.in-Ok.chunk c.requires.can.sent drawn.yields (c.send.ensures.sent (search rules))) (drawn.ended c.if-has_ended.true)

pub returns : goal.returns
returns g c = record {
  can = λ _.
      let steps = g.I.Iterator.next_gives in
      let drawn = c.in-Ok.ensures.drawn in
      let more = drawn.more c.if-has_ended.false in
      record {
        seated = c.send.ensures.seated.0;
        sends = c.send.ensures.seated.1;
        sent = sent_chunk_to steps _ _ _ _ _ c.in-Ok.chunk c.requires.can.sent drawn.yields more.0 (c.send.ensures.sent (search rules));
        asked = more.1;
      };
}
