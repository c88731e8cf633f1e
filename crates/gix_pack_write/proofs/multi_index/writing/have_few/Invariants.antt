use Rattle.std.proofs.Common.{◌≡◌, ◌+◌, ◌-◌, ◌^◌, ◌≤◌, drop, map}
use Rattle.gix_pack_write.specs.MultiIndexChunks.{objects_over}
use Rattle.gix_pack_write.specs.WrittenMultiIndex.{named_seen}
use Rattle.gix_pack_write.proofs.multi_index.writing.have_few.Given as goal

-- the rest of the limit
abbrev pub invariant-loop-pack : goal.invariant-loop-pack
invariant-loop-pack l =
    record {
      left : objects_over (map named_seen l.packs) + l.left ≡ 2 ^ 31 - 1 + objects_over (map named_seen (drop l.pack-index l.packs));
      within : l.left ≤ 2 ^ 31 - 1;
    }
