-- An item that came follows those before it, also if memory runs out for it.
use Rattle.std.proofs.Common.{◌∷◌, ◌++◌, [], ◌<◌, ◌≤◌, length, arith, length-append}
use Rattle.std.proofs.lemmas.Result.{err_from_is_err_and}
use Rattle.gix_features_parts.proofs.ChunksLemmas.{Runs-push, Runs-leaves}
use Rattle.gix_features_parts.proofs.iter.fill.Goals as goal

pub filling-preserved : goal.filling-preserved
filling-preserved g c =
    let run = Runs-push g.I.Iterator.next_gives g.I.Iterator.can_next g.I.Iterator.remaining c.filling.chunk.items _ _ _ c.in-Some.item
    c.filling.invariant.run c.in-Some.ensures.steps c.in-Some.ensures.goes in
    let n = length-append c.filling.chunk.items (c.in-Some.item ∷ []) in
    let short : length (c.filling.chunk.items ++ c.in-Some.item ∷ []) ≤ c.args.size = omega (arith, n, c.filling-test.true, c.len.ensures) in
    rw c.in_ok-push.ensures.items (record { run = run; short = short })

pub returns-in_err-push-clause-lost : goal.returns-in_err-push-clause-lost
returns-in_err-push-clause-lost g c =
    let run = Runs-push g.I.Iterator.next_gives g.I.Iterator.can_next g.I.Iterator.remaining c.filling.chunk.items _ _ _ c.in-Some.item
    c.filling.invariant.run c.in-Some.ensures.steps c.in-Some.ensures.goes in
    let n = length-append c.filling.chunk.items (c.in-Some.item ∷ []) in
    let lost = c.filling.chunk.items ++ c.in-Some.item ∷ [] in
    let some : 0 < length lost = omega (arith, n) in
    let few : length lost ≤ c.args.size = omega (arith, n, c.filling-test.true, c.len.ensures) in
    let failed = err_from_is_err_and c.from_residual.result c.from_residual.ensures.1 in
    rw failed.1 (lost, some, few, Runs-leaves g.I.Iterator.next_gives g.I.Iterator.can_next g.I.Iterator.remaining lost _ _ run, run.yields)
