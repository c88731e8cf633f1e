use Rattle.std.proofs.Common.{◌≡◌, map, take}
use Rattle.gix_odb_core.specs.Files.{passed_at}
use Rattle.gix_odb_core.proofs.pass.all_passed.Given as goal

abbrev pub invariant-loop-pack : goal.invariant-loop-pack
invariant-loop-pack l = l.copies.items ≡ map (passed_at l.path) (take l.pack-index l.pack-items)
