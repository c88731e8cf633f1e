use Rattle.std.proofs.Common.{◌≡◌, length, map}
use Rattle.gix_pack_write.specs.PlacedRow.{id_of, placed_of}
use Rattle.gix_pack_write.specs.WrittenTables.{put_all, table_of}
use Rattle.gix_pack_write.proofs.rows.places_of.Given as goal

-- the rows that are left, put among those of the map, are the table
abbrev pub invariant-loop-row : goal.invariant-loop-row
invariant-loop-row l = put_all id_of l.rows.items (map placed_of l.places.entries) ≡ table_of id_of l.initial.rows.items

abbrev pub decreases-loop-row : goal.decreases-loop-row
decreases-loop-row l = length l.rows.items
