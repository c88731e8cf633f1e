use Rattle.std.proofs.Common.{◌≡◌, ◌++◌, drop, map}
use Rattle.std.specs.List.{flat_map}
use Rattle.gix_hash.specs.ObjectId.{bytes_of}
use Rattle.gix_pack_write.specs.PlacedRow.{id_of}
use Rattle.gix_pack_write.proofs.tables.put_ids.Given as goal

abbrev pub invariant-loop-row : goal.invariant-loop-row
invariant-loop-row l = l.list ++ flat_map bytes_of (map id_of (drop l.row-index l.rows)) ≡ l.initial.list ++ flat_map bytes_of (map id_of l.rows)
