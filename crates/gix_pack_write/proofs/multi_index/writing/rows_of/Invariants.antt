use Rattle.std.proofs.Common.{◌≡◌, ◌++◌, map, drop}
use Rattle.std.specs.List.{AllByRecursion}
use Rattle.gix_pack_write.specs.PlacedPackRow.{placed_in}
use Rattle.gix_pack_write.specs.PlacedRow.{IsPlaced}
use Rattle.gix_pack_write.specs.WrittenMultiIndex.{named_seen}
use Rattle.gix_pack_write.proofs.multi_index.writing.rows_of.Given as goal

abbrev pub invariant-loop-pack : goal.invariant-loop-pack
invariant-loop-pack l =
    record {
      rows : l.rows.items ++ placed_in l.kind l.number (map named_seen (drop l.pack-index l.packs)) ≡ placed_in l.kind 0 (map named_seen l.packs);
      number : l.number ≡ l.pack-index;
      placed : AllByRecursion (IsPlaced l.kind) l.rows.items;
    }
