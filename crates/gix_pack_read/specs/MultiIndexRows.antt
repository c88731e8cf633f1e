-- The rows that are left in an iteration over a multi-pack index.
use Rattle.std.specs.Prelude.{List, drop}
use Rattle.gix_pack_read.specs.MultiIndex.{told}
use Rattle.gix_pack_read.specs.Rows.{PackRow}
use Rattle.gix_pack_read.specs.declared.multi_index.file.Entry as seen
use Rattle.gix_pack_read.specs.declared.multi_index.walk.Iter as walk

-- a row that was returned
abbrev pub row_seen : seen.Entry → PackRow
row_seen entry = record { id = entry.oid; pack = entry.pack_index; offset = entry.pack_offset }

abbrev pub rows_left : walk.Iter → List PackRow
rows_left iter = drop iter.row (told iter.index.now).rows
