use Rattle.std.proofs.Common.{◌≡◌, drop, map}
use Rattle.gix_pack_read.specs.MultiIndex.Held.{are_names}
use Rattle.gix_pack_write.specs.WrittenMultiIndex.{named_seen, names_of}
use Rattle.gix_pack_write.proofs.multi_index.writing.have_names.Given as goal

abbrev pub invariant-loop-i : goal.invariant-loop-i
invariant-loop-i l = are_names (names_of (map named_seen l.packs)) ≡ are_names (names_of (map named_seen (drop l.i l.packs)))
