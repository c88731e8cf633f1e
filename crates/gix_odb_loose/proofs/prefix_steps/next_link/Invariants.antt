use Rattle.std.proofs.Common.{◌≡◌, length}
use Rattle.gix_odb_loose.specs.PrefixOrder.{next}
use Rattle.gix_odb_loose.proofs.prefix_steps.next_link.Given as goal

-- the matches that are left lead where all did
abbrev pub invariant-matches : goal.invariant-matches
invariant-matches l = next l.head l.left ≡ next l.fn.head l.fn.left

abbrev pub decreases-matches : goal.decreases-matches
decreases-matches l = length l.left
