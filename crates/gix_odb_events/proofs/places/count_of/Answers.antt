use Rattle.std.proofs.Common.{ℕ, ◌+◌, ◌<◌, ◌≤◌, get_or, take, sym, arith}
use Rattle.std.specs.Ordering.{nat_cmp, ord_max}
use Rattle.std.proofs.lemmas.Bool.Decides.{nat_tests}
use Rattle.std.proofs.lemmas.List.{take_all}
use Rattle.std.proofs.lemmas.List.Elements.{All-more, All-same, All-weaker}
use Rattle.gix_odb_events.proofs.places.count_of.Goals as goal

left-ord_max : (a b : ℕ) → a ≤ ord_max nat_cmp a b
left-ord_max a b = grind (arith, nat_tests)

right-ord_max : (a b : ℕ) → b ≤ ord_max nat_cmp a b
right-ord_max a b = grind (arith, nat_tests)

pub loop-place-preserved : goal.loop-place-preserved
loop-place-preserved c =
    let places = c.args.places.now in
    let count = c.loop-place.count in
    let next = get_or places c.loop-place.place-index 0 + 1 in
    let above = left-ord_max count next in
    let so_far = All-weaker (λ place. place < count) (λ place. place < c.max-count.result) (λ place small. omega (arith, above)) (take c.loop-place.place-index places) c.loop-place.invariant in
    All-more (λ place. place < c.max-count.result) places c.loop-place.place-index 0 (omega arith) so_far (omega (arith, right-ord_max count next))

pub returns : goal.returns
returns c =
    let places = c.args.places.now in
    record { above = All-same (λ place. place < c.loop-place.count) places (take c.loop-place.place-index places) (sym (take_all c.loop-place.place-index places (omega arith))) c.loop-place.invariant }
