use Rattle.std.proofs.Common.{◌≡◌, false, take}
use Rattle.std.specs.List.{list_any}
use Rattle.gix_odb_core.specs.Publish.{is_unsettled}
use Rattle.gix_odb_core.proofs.unsettled.is_any_unsettled.Given as goal

abbrev pub invariant-loop-place : goal.invariant-loop-place
invariant-loop-place l = list_any (is_unsettled l.stable l.matched.rows.now) (take l.place l.matched.slots.now) ≡ false
