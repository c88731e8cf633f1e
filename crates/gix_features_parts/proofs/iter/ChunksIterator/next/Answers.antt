-- The next chunk has the items that came, or there is none.
use Rattle.std.proofs.Common.{refl, arith, length, ◌≡◌, ◌<◌}
use Rattle.std.proofs.lemmas.Grind.{common_steps}
use Rattle.gix_features_parts.proofs.ChunksLemmas.{no_items, cut_over, cut_lost, cut_nothing, cut_chunk}
use Rattle.gix_features_parts.proofs.iter.ChunksIterator.next.Goals as goal

pub returns-then-self-clause-steps : goal.returns-then-self-clause-steps
returns-then-self-clause-steps g c = (cut_over c.args.self.now.size c.args.self.now.has_ended c.if-self.true, refl)

pub returns-in-Err-clause-steps : goal.returns-in-Err-clause-steps
returns-in-Err-clause-steps g c =
    let lost = c.in-Err.ensures.lost in
    (cut_lost c.args.self.now.size c.args.self.now.has_ended lost.0 c.if-self.false lost.1 lost.2 lost.4, refl)

pub returns-then-is_empty-clause-steps : goal.returns-then-is_empty-clause-steps
returns-then-is_empty-clause-steps g c =
    let items = c.fill.new.chunk.items in
    let none : length items ≡ 0 = grind (arith, common_steps, c.is_empty.ensures, c.if-is_empty.true) in (
      cut_nothing c.args.self.now.size _ _ c.args.self.now.has_ended c.in-Ok.has_ended items c.args.self.now.sized c.if-self.false (no_items items none)
          (λ e. ((c.in-Ok.ensures.full e).0, tt)) c.in-Ok.ensures.ended,
      refl,
    )

pub returns-clause-steps : goal.returns-clause-steps
returns-clause-steps g c =
    let items = c.fill.new.chunk.items in
    let some : 0 < length items = grind (arith, common_steps, c.is_empty.ensures, c.if-is_empty.false) in (
      cut_chunk c.args.self.now.size _ _ c.args.self.now.has_ended c.in-Ok.has_ended c.fill.new.chunk c.if-self.false some
          (λ e. ((c.in-Ok.ensures.full e).0, (c.in-Ok.ensures.full e).1.yields)) c.in-Ok.ensures.ended,
      refl,
    )
