use Rattle.std.proofs.Common.{◌≡◌, ◌++◌, map, drop}
use Rattle.std.specs.List.{AllByRecursion}
use Rattle.gix_pack_write.specs.PlacedRow.{placed_from, IsPlaced}
use Rattle.gix_pack_read.specs.Pack.{entries_place}
use Rattle.gix_pack_write.specs.WrittenPack.{object_seen}
use Rattle.gix_pack_write.proofs.rows.put_rows.Given as goal

-- the rows so far with those of the objects that are left are all, and what is known of the rows so far
abbrev pub invariant-loop-object : goal.invariant-loop-object
invariant-loop-object l =
    record {
      rows : l.rows.items ++ placed_from l.kind l.pack l.offset (map object_seen (drop l.object-index l.objects)) ≡ l.initial.rows.items
          ++ placed_from l.kind l.pack entries_place (map object_seen l.objects);
      placed : AllByRecursion (IsPlaced l.kind) l.initial.rows.items → AllByRecursion (IsPlaced l.kind) l.rows.items;
    }
