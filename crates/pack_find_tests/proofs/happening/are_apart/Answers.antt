use Rattle.pack_find_tests.proofs.TwoRowsLemmas.{HasDifferentPaths-few, HasDifferentPaths-two}
use Rattle.std.proofs.Common.{sym, ◌∙◌}
use Rattle.pack_find_tests.proofs.happening.are_apart.Goals as goal

-- at most one row
pub returns-in-empty : goal.returns-in-empty
returns-in-empty c = record { apart = λ yes. HasDifferentPaths-few _ c.in-empty.len_below }

-- two rows, which were compared
pub returns-in-len2 : goal.returns-in-len2
returns-in-len2 c = record { apart = λ yes. HasDifferentPaths-two _ _ _ c.in-len2.len_at_least c.in-len2.len_below c.first-item.is c.second-item.is (sym c.ne.ensures ∙ yes) }
