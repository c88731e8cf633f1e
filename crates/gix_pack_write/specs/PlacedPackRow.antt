-- No public clause cites this module: the rows of several packs as the encoder of multi-pack indices keeps them.
use Rattle.std.specs.Prelude.{ℕ, ◌+◌, List, [], ◌∷◌, ◌++◌, map}
use Rattle.gix_hash.specs.declared.kind.Kind.{Kind as HashKind}
use Rattle.gix_pack_write.specs.PlacedRow.{id_of, placed_from}
use Rattle.gix_pack_read.specs.Rows.{PackRow}
use Rattle.gix_pack_read.specs.Pack.{entries_place}
use Rattle.gix_pack_write.specs.WrittenTables.{table_of}
use Rattle.gix_pack_write.specs.declared.rows.Placed.{Placed}
use Rattle.gix_pack_write.specs.declared.multi_index.named_pack.NamedPack as given
use Rattle.gix_pack_write.specs.WrittenMultiIndex.{Named, named_seen}

abbrev pub pack_row_of : Placed → PackRow
pack_row_of row = record { id = row.id; pack = row.pack; offset = row.offset }

-- the rows of packs, the first of which has this number
abbrev pub placed_in : HashKind → ℕ → List Named → List Placed
placed_in hash number [] = []
placed_in hash number (pack ∷ packs) = placed_from hash number entries_place pack.objects ++ placed_in hash (number + 1) packs

-- the rows of a multi-index of packs
abbrev pub multi_placed : HashKind → List Named → List Placed
multi_placed hash packs = table_of id_of (placed_in hash 0 packs)

-- the rows of a multi-index of packs that are given
abbrev pub rows_given : HashKind → List given.NamedPack → List PackRow
rows_given hash packs = map pack_row_of (multi_placed hash (map named_seen packs))
