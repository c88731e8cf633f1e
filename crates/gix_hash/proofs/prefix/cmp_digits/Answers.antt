use Rattle.std.proofs.Common.{ap, ◌∙◌, arith}
use Rattle.std.specs.Ordering.{ordering_then}
use Rattle.gix_hash.proofs.PrefixLemmas.Order.{first_digits}
use Rattle.gix_hash.proofs.prefix.cmp_digits.Goals as goal

pub returns : goal.returns
returns c =
    let decided = first_digits c.args.digits c.args.own.now c.args.its.now c.cmp_half.result (λ i. omega (arith, c.type_inv.own i)) (λ i. omega (arith, c.type_inv.its i)) c.requires.own c.requires.its
    c.cmp_half.ensures.odd c.cmp_half.ensures.even in
    record { order = c.then.ensures ∙ ap (λ o. ordering_then o c.cmp_half.result) c.cmp.ensures ∙ decided }
