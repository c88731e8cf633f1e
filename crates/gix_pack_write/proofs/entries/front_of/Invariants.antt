use Rattle.std.proofs.Common.{◌≡◌, ◌++◌, codes, length, map, take}
use Rattle.std.specs.List.{flat_map}
use Rattle.std.specs.Int.{w32, to_be_bytes}
use Rattle.gix_pack_write.specs.WrittenPack.{entry_of, object_seen}
use Rattle.gix_pack_write.proofs.entries.front_of.Given as goal

abbrev pub invariant-loop-object : goal.invariant-loop-object
invariant-loop-object l = l.front ≡ codes "PACK" ++ to_be_bytes w32 2 ++ to_be_bytes w32 (length l.objects) ++ flat_map entry_of (map object_seen (take l.object-index l.objects))
