use Rattle.std.proofs.Common.{◌≡◌, false, take}
use Rattle.std.specs.List.{list_any}
use Rattle.gix_odb_core.specs.Files.{turns_missing}
use Rattle.gix_odb_core.proofs.pass.is_one_turning_missing.Given as goal

abbrev pub invariant-loop-place : goal.invariant-loop-place
invariant-loop-place l = list_any (turns_missing l.path) (take l.place l.packs) ≡ false
