use Rattle.std.proofs.Common.{◌≡◌, ◌++◌, drop, map}
use Rattle.gix_pack_write.specs.WrittenMultiIndex.{name_bytes, named_seen, names_of}
use Rattle.gix_pack_write.proofs.multi_index.writing.put_names.Given as goal

abbrev pub invariant-loop-pack : goal.invariant-loop-pack
invariant-loop-pack l = l.list ++ name_bytes (names_of (map named_seen (drop l.pack-index l.packs))) ≡ l.initial.list ++ name_bytes (names_of (map named_seen l.packs))
