use Rattle.std.proofs.Common.{◌∙◌, ap, rules}
use Rattle.std.specs.List.{filter}
use Rattle.std.specs.List.Sorted.{ties}
use Rattle.std.proofs.lemmas.List.Sorted.{answers_always}
use Rattle.gix_odb_search.proofs.LongestFirstLemmas.{compares_as, is_longer, longer_ranks, stable_is}
use Rattle.gix_odb_search.proofs.longest_first.longest_first.Goals as goal

pub returns : goal.returns
returns c =
    let sorted = c.in_ok-sort_by.ensures.sorted is_longer longer_ranks (answers_always _ _ _ (λ f a r g called. search (rules, compares_as))) in
    let stable = c.in_ok-sort_by.ensures.stable is_longer longer_ranks (answers_always _ _ _ (λ f a r g called. search (rules, compares_as))) in
    record {
      ordered =
          c.from_vec.ensures.items
          ∙ stable_is c.args.rows c.sort_by.new.self.items sorted (λ row. stable row ∙ ap (filter (ties is_longer row)) c.into_vec-rows.ensures.items);
    }
