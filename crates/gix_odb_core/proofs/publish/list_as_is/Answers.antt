use Rattle.std.proofs.Common.{◌≡◌, ℕ, IfOk, List, Option, ap, subst, ◌∙◌}
use Rattle.std.specs.List.{filter_map}
use Rattle.gix_odb_core.proofs.MatchedLemmas.{list_after-places}
use Rattle.gix_odb_core.proofs.publish.list_as_is.Goals as goal

pub returns : goal.returns
returns c = record {
  list = subst (λ (places : List ℕ). IfOk c.listed.result (λ list. list ≡ places))
      (ap (filter_map (λ (place : Option ℕ). place)) c.places.ensures.places ∙ list_after-places c.args.matched.now.slots.now c.args.matched.now.rows.now) c.listed.ensures.list;
}
