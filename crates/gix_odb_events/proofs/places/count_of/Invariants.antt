use Rattle.std.proofs.Common.{◌<◌, All, take}
use Rattle.gix_odb_events.proofs.places.count_of.Given as goal

abbrev pub invariant-loop-place : goal.invariant-loop-place
invariant-loop-place l = All (λ place. place < l.count) (take l.place-index l.places)
