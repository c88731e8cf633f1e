use Rattle.gix_odb_watch.specs.Revealed.{HasUnder, IsUnder}
use Rattle.gix_odb_watch.specs.Touched.{AddsEach}
use Rattle.gix_odb_watch.proofs.revealed.list_all.Given as goal

-- what is read of those so far is added
abbrev pub invariant-loop-folder : goal.invariant-loop-folder
invariant-loop-folder l = AddsEach IsUnder (HasUnder l.sight) l.yielded l.fn.spots.items l.spots.items
