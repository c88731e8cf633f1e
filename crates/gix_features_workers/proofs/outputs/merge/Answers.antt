-- The next output is from the stream whose turn it is.
use Rattle.std.proofs.Common.{◌≡◌, ◌<◌, ◌∷◌, ◌++◌, [], length, get_or, set, refl, sym, ap, ◌∙◌, subst, arith, append_assoc}
use Rattle.std.proofs.lemmas.List.{length-set, append-nil}
use Rattle.std.proofs.lemmas.List.Sums.{sum_by-set}
use Rattle.std.specs.Vec.Iter.{into_iter_len}
use Rattle.gix_features_workers.specs.Dealt.{AreShares, turn_after}
use Rattle.gix_features_workers.proofs.DealtLemmas.{AreShares-more, AreShares-end, into_iter-end}
use Rattle.gix_features_workers.proofs.outputs.merge.Goals as goal

pub turns-init : goal.turns-init
turns-init g c = record {
  in_turn = c.requires;
  workers = c.len-workers.ensures ∙ c.args.streams.ok.0;
  same = refl;
  left = λ outputs shares. (outputs, rw c.new-in_order.ensures.items refl, shares);
}

pub turns-preserved : goal.turns-preserved
turns-preserved g c =
    let n = length c.args.streams.items in
    let streams = set c.turns.streams.items c.turns.turn c.next.new.self in
    let len : length streams ≡ n = length-set c.turns.streams.items c.turns.turn c.next.new.self ∙ c.turns.invariant.same in
    let turn : c.next_turn-turn.result ≡ turn_after n c.turns.turn = c.next_turn-turn.ensures.turn ∙ ap (λ m. turn_after m c.turns.turn) c.turns.invariant.workers in
    record {
      in_turn = omega (arith, len, c.next_turn-turn.ensures.below, c.turns.invariant.workers);
      workers = c.turns.invariant.workers;
      same = len;
      left = λ outputs shares.
          let old = c.turns.invariant.left outputs shares in
          let more = AreShares-more n c.turns.turn c.turns.streams.items old.0 c.in-Some.output c.index_mut-stream.result.now c.next.new.self old.2
          c.index_mut-stream.ensures.value c.in-Some.ensures.cases.0 in (
            more.0,
            old.1 ∙ ap (λ l. c.turns.in_order.items ++ l) more.1 ∙ sym (append_assoc c.turns.in_order.items (c.in-Some.output ∷ []) more.0)
                ∙ ap (λ l. l ++ more.0) (sym c.in_ok-push.ensures.items),
            subst (λ i. AreShares n i more.0 streams) (sym turn) more.2,
          );
    }

pub turns-smaller : goal.turns-smaller
turns-smaller g c =
    let within : c.turns.turn < length c.turns.streams.items = c.turns.invariant.in_turn in
    let before = c.index_mut-stream.result.now in
    let changed = sum_by-set into_iter_len c.turns.streams.items c.turns.turn c.next.new.self before within in
    let was : into_iter_len before ≡ into_iter_len (get_or c.turns.streams.items c.turns.turn before) = ap into_iter_len c.index_mut-stream.ensures.value in
    omega (arith, changed, was, c.in-Some.ensures.cases.1)

pub returns : goal.returns
returns g c = record {
  merged = λ outputs shares.
      let old = c.turns.invariant.left outputs shares in
      let none = AreShares-end (length c.args.streams.items) c.turns.turn c.turns.streams.items old.0 c.index_mut-stream.result.now old.2 c.index_mut-stream.ensures.value
      (into_iter-end c.index_mut-stream.result.now c.next.new.self c.next.result c.in_default.not-Some c.next.ensures.cases) in
      sym (old.1 ∙ ap (λ l. c.turns.in_order.items ++ l) none ∙ append-nil c.turns.in_order.items);
}
