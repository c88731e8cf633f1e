use Rattle.std.proofs.Common.{ap, ◌∙◌}
use Rattle.std.specs.FinMap.{get}
use Rattle.gix_odb_calls.specs.Replacements.{Replacements}
use Rattle.gix_odb_calls.proofs.ReplacementsLemmas.{replacement_is}
use Rattle.gix_odb_calls.proofs.replacements.Replacements.get.Goals as goal

pub returns : goal.returns
returns c = record {
  replacement =
      c.copied.ensures ∙ c.get.ensures.value ∙ replacement_is c.self.inside.by_id c.args.id.now
      ∙ ap (λ (own : Replacements). get own c.args.id.now) c.self.view_is;
}
