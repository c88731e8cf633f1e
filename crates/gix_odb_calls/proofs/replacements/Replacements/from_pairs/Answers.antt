use Rattle.gix_odb_calls.proofs.ReplacementsLemmas.{same_replacements}
use Rattle.gix_odb_calls.proofs.replacements.Replacements.from_pairs.Goals as goal

pub returns : goal.returns
returns c = record { made = same_replacements c.in_ok-by_id.by_id c.args.pairs.now c.in_ok-by_id.ensures.made }
