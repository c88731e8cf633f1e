use Rattle.gix_odb_watch.specs.Touched.{AreTouched}
use Rattle.gix_odb_watch.proofs.touched.touched_by.Given as goal

-- what the places so far touch
abbrev pub invariant-loop-place : goal.invariant-loop-place
invariant-loop-place l = AreTouched l.watched.keys l.linked.keys l.yielded l.spots.items
