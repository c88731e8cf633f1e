use Rattle.std.proofs.Common.{◌≡◌, false, take}
use Rattle.std.specs.List.{list_any}
use Rattle.gix_odb_core.specs.Files.{takes}
use Rattle.gix_odb_core.proofs.put.is_taken.Given as goal

abbrev pub invariant-loop-pack : goal.invariant-loop-pack
invariant-loop-pack l = list_any (takes l.path) (take l.pack-index l.packs) ≡ false
