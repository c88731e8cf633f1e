-- No public clause cites this module: the rows of one pack as the encoder of indices keeps them.
use Rattle.std.specs.Prelude.{ℕ, ◌*◌, List, ◌++◌, length, map, replicate}
use Rattle.std.specs.List.{filter, flat_map}
use Rattle.gix_hash.specs.ObjectId.{bytes_of}
use Rattle.gix_hash.specs.declared.kind.Kind.{Kind as HashKind}
use Rattle.gix_object.specs.Data.{Object}
use Rattle.gix_pack_write.specs.PlacedRow.{id_of, offset_of, placed_from}
use Rattle.gix_pack_read.specs.Rows.{counts_of}
use Rattle.gix_pack_write.specs.WrittenTables.{is_wide, long_number_bytes, narrow_from, number_bytes, table_of}
use Rattle.gix_pack_read.specs.Pack.{entries_place}
use Rattle.gix_pack_write.specs.declared.rows.Placed.{Placed}
use Rattle.gix_pack_read.specs.Index.{signature}

-- the rows of an index of objects
abbrev pub index_placed : HashKind → List Object → List Placed
index_placed hash objects = table_of id_of (placed_from hash 0 entries_place objects)

-- an index without its own hash, as it is written of rows
abbrev pub front_of_rows : List Placed → List ℕ → List ℕ
front_of_rows rows pack =
    signature ++ number_bytes (counts_of (map id_of rows)) ++ flat_map bytes_of (map id_of rows) ++ replicate (4 * length rows) 0
    ++ number_bytes (narrow_from 0 (map offset_of rows)) ++ long_number_bytes (filter is_wide (map offset_of rows)) ++ pack
