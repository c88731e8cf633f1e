use Rattle.std.proofs.Common.{◌-◌, ◌∙◌, ap, length, length-set, set}
use Rattle.std.specs.Option.{some_prefix}
use Rattle.gix_odb_events.proofs.ValuesLemmas.{HasValues-from_spare, set-values, values-from_spare}
use Rattle.gix_odb_events.proofs.shared_sequence.SharedSequence.with.Goals as goal

-- the place has the new value, and the others are as they were
pub invariant_of-result : goal.invariant_of-result
invariant_of-result g c =
    let values = some_prefix c.self.inside.places in
    HasValues-from_spare c.self.inside.len c.in_ok-with.field-0 (set values c.args.place c.args.value) (length c.self.inside.places - c.self.inside.len)
    (set-values c.self.inside.len c.self.inside.places c.self.invariant c.args.place c.args.value c.in_ok-with.field-0 c.if-place-self.false c.in_ok-with.ensures.items)
    (length-set values c.args.place c.args.value ∙ c.self.invariant.count)

pub returns : goal.returns
returns g c =
    let values = some_prefix c.self.inside.places in
    record {
      values = values-from_spare c.self.inside.len c.in_ok-with.field-0 (set values c.args.place c.args.value) (length c.self.inside.places - c.self.inside.len)
          (set-values c.self.inside.len c.self.inside.places c.self.invariant c.args.place c.args.value c.in_ok-with.field-0 c.if-place-self.false c.in_ok-with.ensures.items)
          ∙ ap (λ all. set all c.args.place c.args.value) c.self.view_is;
    }
