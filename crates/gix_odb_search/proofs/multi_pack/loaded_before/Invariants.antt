use Rattle.std.proofs.Common.{length}
use Rattle.gix_odb_search.proofs.multi_pack.loaded_before.Given as goal

abbrev pub decreases-loop-index : goal.decreases-loop-index
decreases-loop-index l = length l.rest
