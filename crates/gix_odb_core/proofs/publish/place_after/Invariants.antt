use Rattle.std.proofs.Common.{◌≡◌, drop, max}
use Rattle.gix_odb_core.specs.Publish.{place_after}
use Rattle.gix_odb_core.proofs.publish.place_after.Given as goal

abbrev pub invariant-loop-place : goal.invariant-loop-place
invariant-loop-place l = max l.after (place_after (drop l.place-index l.list)) ≡ place_after l.list
