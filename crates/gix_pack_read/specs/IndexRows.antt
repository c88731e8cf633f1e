-- The rows that are left in an iteration over an index.
use Rattle.std.specs.Prelude.{ℕ, List, Option, None, drop, map}
use Rattle.gix_pack_read.specs.Index.{index_rows}
use Rattle.gix_pack_read.specs.Rows.{Row}
use Rattle.gix_pack_read.specs.declared.index.Entry as seen
use Rattle.gix_pack_read.specs.declared.index.walk.Iter as walk

-- a row that was returned, and its checksum
abbrev pub row_seen : seen.Entry → Row × Option ℕ
row_seen entry = (record { id = entry.oid; offset = entry.pack_offset }, entry.crc32)

abbrev pub rows_left : walk.Iter → List Row
rows_left iter = drop iter.row (index_rows iter.index.now.kind iter.index.now.bytes)

-- a row without a checksum
abbrev pub unchecked : Row → Row × Option ℕ
unchecked row = (row, None)

-- what is returned from here on: the rows that are left, without checksums
abbrev pub entries_left : walk.Iter → List (Row × Option ℕ)
entries_left iter = map unchecked (rows_left iter)
