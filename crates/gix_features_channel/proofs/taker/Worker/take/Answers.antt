-- A chunk continues what was taken, the last message says that it was all, and after the first no other is like it.
use Rattle.std.proofs.Common.{ap, ◌∙◌, rules}
use Rattle.gix_features_channel.specs.Messages.{IsTold}
use Rattle.gix_features_channel.proofs.EndsLemmas.{takes, rests}
use Rattle.gix_features_channel.proofs.MessagesLemmas.{taken_chunk, taken_whole, taken_begun, begun_further}
use Rattle.gix_features_channel.proofs.taker.Worker.take.Goals as goal

pub recv_as-requires-clause-rule : goal.recv_as-requires-clause-rule
recv_as-requires-clause-rule g c = (takes (IsTold g.I.Iterator.next_gives) _ _ c.requires.ready.1, rests (IsTold g.I.Iterator.next_gives) _ _ c.requires.ready.1)

pub unreachable-requires : goal.unreachable-requires
unreachable-requires g c =
    let told = rw c.in-Ok-Begun.field-0-is at c.in-Ok-Begun.ensures.rule in
    taken_begun g.I.Iterator.next_gives c.in-Ok-Begun.field-0-0 _ c.requires.ready.2 told.1

pub returns-in-Ok-Chunk-clause-ready : goal.returns-in-Ok-Chunk-clause-ready
returns-in-Ok-Chunk-clause-ready g c =
    let told = c.in-Ok-Chunk.ensures.rule in
    (search rules, ap (λ v. v.takes) told.0 ∙ c.requires.ready.1, begun_further _ _ _ c.requires.ready.2 told.0)

pub returns-in-Ok-Whole-clause-ready : goal.returns-in-Ok-Whole-clause-ready
returns-in-Ok-Whole-clause-ready g c =
    let told = c.in-Ok-Whole.ensures.rule in
    (search rules, ap (λ v. v.takes) told.0 ∙ c.requires.ready.1, begun_further _ _ _ c.requires.ready.2 told.0)

pub returns-in-Ok-Chunk-clause-taken : goal.returns-in-Ok-Chunk-clause-taken
returns-in-Ok-Chunk-clause-taken g c first items was =
    let told = rw c.in-Ok-Chunk.field-0-is at c.in-Ok-Chunk.ensures.rule in
    let more = taken_chunk g.I.Iterator.next_gives first _ _ items c.in-Ok-Chunk.chunk was (ap (λ v. v.taken) told.0) told.1 in
    record { taken = more.0; drawn = (more.1, more.2) }

pub returns-in-Ok-Whole-clause-taken : goal.returns-in-Ok-Whole-clause-taken
returns-in-Ok-Whole-clause-taken g c first items was =
    let told = rw c.in-Ok-Whole.field-0-is at c.in-Ok-Whole.ensures.rule in
    taken_whole g.I.Iterator.next_gives first _ items was told.1
