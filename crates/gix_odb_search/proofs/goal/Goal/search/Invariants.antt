use Rattle.std.proofs.Common.{◌≡◌, length}
use Rattle.gix_odb_search.specs.Search.{rest_behind, search}
use Rattle.gix_odb_search.proofs.goal.Goal.search.Given as goal

abbrev pub invariant-loop-index : goal.invariant-loop-index
invariant-loop-index l = (search l.self l.notes.absent l.indices ≡ search l.self l.notes.absent l.fn.indices)
    × (rest_behind l.self l.notes.absent l.indices ≡ rest_behind l.self l.notes.absent l.fn.indices)

abbrev pub decreases-loop-index : goal.decreases-loop-index
decreases-loop-index l = length l.indices
