use Rattle.std.proofs.Common.{◌≡◌, map, take}
use Rattle.gix_odb_core.specs.Files.{stored_at}
use Rattle.gix_odb_core.proofs.put.each_with.Given as goal

abbrev pub invariant-loop-pack : goal.invariant-loop-pack
invariant-loop-pack l = l.copies.items ≡ map (stored_at l.path l.read) (take l.pack-index l.packs)
