use Rattle.std.proofs.Common.{◌≡◌, map, take}
use Rattle.gix_odb_core.specs.Publish.{settled}
use Rattle.gix_odb_core.proofs.publish.all_settled.Given as goal

abbrev pub invariant-loop-place : goal.invariant-loop-place
invariant-loop-place l = l.after.items ≡ map (settled l.stable l.matched.rows.now) (take l.place l.matched.slots.now)
