use Rattle.std.proofs.Common.{◌≡◌, false, take}
use Rattle.std.specs.List.{list_any}
use Rattle.gix_odb_core.specs.Publish.{is_trashable}
use Rattle.gix_odb_core.proofs.unsettled.is_any_trashable.Given as goal

abbrev pub invariant-loop-place : goal.invariant-loop-place
invariant-loop-place l = list_any (λ pack. is_trashable pack.state) (take l.place l.packs) ≡ false
