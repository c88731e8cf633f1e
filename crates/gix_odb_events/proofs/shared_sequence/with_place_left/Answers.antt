use Rattle.std.proofs.Common.{◌≡◌, ◌++◌, ◌∙◌, None, ap, arith, replicate}
use Rattle.std.specs.Option.{some_prefix}
use Rattle.std.proofs.lemmas.Result.{IfOk-weaker}
use Rattle.gix_odb_events.specs.Values.{HasPlaceLeft}
use Rattle.gix_odb_events.proofs.ValuesLemmas.{HasPlaceLeft-from_empty}
use Rattle.gix_odb_events.proofs.shared_sequence.with_place_left.Goals as goal

-- the empty places that were added are left
pub returns-clause-left : goal.returns-clause-left
returns-clause-left g c =
    IfOk-weaker c.from_vec.result (λ list. list ≡ c.in_ok-items.items.items) (HasPlaceLeft (some_prefix c.args.places.now))
    (λ list e.
    HasPlaceLeft-from_empty c.args.len c.args.places.now c.requires.values list c.max.result (omega arith) (omega arith)
    (e ∙ c.in_ok-items.ensures.items ∙ ap (λ front. front ++ replicate c.max.result None) c.in_ok-to_vec.ensures.items))
    c.from_vec.ensures.items
