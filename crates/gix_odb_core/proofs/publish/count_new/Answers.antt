use Rattle.std.proofs.Common.{List, Option, ℕ, filter, is_none, length, ap, ◌∙◌}
use Rattle.gix_odb_core.proofs.MatchedLemmas.{count_new-none}
use Rattle.gix_odb_core.proofs.publish.count_new.Goals as goal

pub returns : goal.returns
returns c = record {
  count = c.count_without.ensures.count ∙ ap (λ (places : List (Option ℕ)). length (filter is_none places)) c.places.ensures.places
      ∙ count_new-none c.args.matched.now.slots.now c.args.matched.now.rows.now;
}
