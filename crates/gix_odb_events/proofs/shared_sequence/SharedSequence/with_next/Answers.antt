use Rattle.std.proofs.Common.{◌+◌, ◌++◌, ◌∙◌, ◌∷◌, [], ap, arith, length-append}
use Rattle.std.specs.Option.{some_prefix}
use Rattle.gix_odb_events.proofs.ValuesLemmas.{HasValues-from_spare, next-values, values-from_spare}
use Rattle.gix_odb_events.proofs.shared_sequence.SharedSequence.with_next.Goals as goal

-- the first place that was left has the value
pub invariant_of-result : goal.invariant_of-result
invariant_of-result g c =
    let values = some_prefix c.self.inside.places in
    HasValues-from_spare (c.self.inside.len + 1) c.in_ok-with.field-0 (values ++ c.args.value ∷ []) c.in_ok-places.ensures.left.0
    (next-values values c.in_ok-places.places c.in_ok-with.field-0 c.self.inside.len c.args.value c.in_ok-places.ensures.left c.self.invariant.count c.in_ok-with.ensures.items)
    (omega (arith, length-append values (c.args.value ∷ []), c.self.invariant.count))

pub returns : goal.returns
returns g c =
    let values = some_prefix c.self.inside.places in
    record {
      values = values-from_spare (c.self.inside.len + 1) c.in_ok-with.field-0 (values ++ c.args.value ∷ []) c.in_ok-places.ensures.left.0
          (next-values values c.in_ok-places.places c.in_ok-with.field-0 c.self.inside.len c.args.value c.in_ok-places.ensures.left c.self.invariant.count c.in_ok-with.ensures.items)
          ∙ ap (λ all. all ++ c.args.value ∷ []) c.self.view_is;
    }
