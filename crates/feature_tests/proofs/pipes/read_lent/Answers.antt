-- What is copied is the front of the buffered bytes, and these were used.
use Rattle.std.proofs.Common.{◌≡◌, [], ◌++◌, List, ℕ, length, map, take, drop, min, sym, ap, ◌∙◌, subst, arith}
use Rattle.std.proofs.lemmas.List.{take_at, length-take}
use Rattle.gix_features_channel.specs.Pipe.{Byte, Reads, at_hand}
use Rattle.gix_features_channel.proofs.PipeLemmas.{Reads-then}
use Rattle.feature_tests.proofs.pipes.read_lent.Goals as goal

pub returns-clause-given : goal.returns-clause-given
returns-clause-given g c =
    let n = c.min-count.result in
    let copied = c.copy_from_slice.new.self in
    let left = drop n c.args.out.now in
    let fits : length copied ≡ n = c.copy_from_slice.ensures.len ∙ length-take n c.args.out.now ∙ (let h : min n (length c.args.out.now) ≡ n = omega (arith, c.min-count.ensures) in h) in
    let front : take n (copied ++ left) ≡ take n (at_hand c.fill.new.self) = take_at copied left n fits ∙ c.copy_from_slice.ensures.after ∙ ap (take n) c.front-front.ensures.bytes in
    subst (λ (l : List ℕ). Reads c.args.reader.now c.consume.new.self (map Byte l)) (sym front)
    (Reads-then c.args.reader.now c.fill.new.self c.consume.new.self [] (map Byte (take n (at_hand c.fill.new.self))) c.in_ok-fill.ensures.filled c.consume.ensures.given)
