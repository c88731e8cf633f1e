use Rattle.std.proofs.Common.{◌≡◌, false, take}
use Rattle.std.specs.List.{list_any}
use Rattle.gix_odb_events.specs.OnDiskFile.{is_disposable}
use Rattle.gix_odb_events.proofs.slot.is_any_disposable.Given as goal

abbrev pub invariant-loop-place : goal.invariant-loop-place
invariant-loop-place l = list_any (λ pack. is_disposable pack.state) (take l.place l.packs) ≡ false
