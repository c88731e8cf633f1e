use Rattle.core_tests.proofs.ApartLemmas.{HasDifferentPaths-from}
use Rattle.std.proofs.Common.{sym, ◌∙◌}
use Rattle.core_tests.proofs.apart.can_be_published.Goals as goal

-- rows that are apart one by one have different paths
pub returns : goal.returns
returns c = record { apart = λ yes. HasDifferentPaths-from _ (sym c.are_apart.ensures.apart ∙ yes) }
