use Rattle.std.proofs.Common.{◌≡◌, map, take}
use Rattle.gix_odb_events.specs.PackFiles.{new_pack}
use Rattle.gix_odb_events.proofs.pack_file.named_packs.Given as goal

abbrev pub invariant-loop-name : goal.invariant-loop-name
invariant-loop-name l = l.packs.items ≡ map (new_pack l.folder) (take l.name-index l.name-items)
