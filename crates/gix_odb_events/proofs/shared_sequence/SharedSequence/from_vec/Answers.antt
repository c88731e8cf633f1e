use Rattle.std.proofs.Common.{arith, ◌∙◌}
use Rattle.gix_odb_events.proofs.ValuesLemmas.{HasValues-from_spare, values-from_spare, without_spare}
use Rattle.gix_odb_events.proofs.shared_sequence.SharedSequence.from_vec.Goals as goal

-- all places have values
pub invariant_of-result : goal.invariant_of-result
invariant_of-result g c =
    HasValues-from_spare c.len-len.result c.in_ok-from_vec.field-0 c.args.values.items 0
    (without_spare c.args.values.items (c.in_ok-from_vec.ensures.items ∙ c.in_ok-places.ensures.places))
    (omega arith)

pub returns : goal.returns
returns g c = record {
  values = values-from_spare c.len-len.result c.in_ok-from_vec.field-0 c.args.values.items 0
      (without_spare c.args.values.items (c.in_ok-from_vec.ensures.items ∙ c.in_ok-places.ensures.places));
}
