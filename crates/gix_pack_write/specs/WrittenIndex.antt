-- What the encoder of indices writes: a row for each different id, CRC values of zero, and the two hashes.
use Rattle.std.specs.Prelude.{◌≡◌, ℕ, ◌*◌, List, ◌++◌, length, map, replicate, Some}
use Rattle.std.specs.List.{flat_map, filter}
use Rattle.gix_hash.specs.Hash.{hash_of}
use Rattle.gix_hash.specs.ObjectId.{bytes_of}
use Rattle.gix_hash.specs.declared.kind.Kind.{Kind as HashKind}
use Rattle.gix_hash.specs.declared.object_id.ObjectId.{ObjectId}
use Rattle.gix_object.specs.Data.{Object}
use Rattle.gix_pack_read.specs.Index.{rows_of_index, signature}
use Rattle.gix_pack_read.specs.Rows.{Row, counts_of}
use Rattle.gix_pack_write.specs.WrittenPack.{pack_hash, rows_in_order}
use Rattle.gix_pack_write.specs.WrittenTables.{IsTableOf, is_wide, long_number_bytes, narrow_from, number_bytes, table_of}

-- an index without its own hash, of these ids and offsets, for a pack with this trailing hash
unfoldable pub index_front : List ObjectId → List ℕ → List ℕ → List ℕ
index_front ids offsets pack =
    signature ++ number_bytes (counts_of ids) ++ flat_map bytes_of ids ++ replicate (4 * length ids) 0 ++ number_bytes (narrow_from 0 offsets)
    ++ long_number_bytes (filter is_wide offsets) ++ pack

-- an index with its hash
unfoldable pub index_bytes : HashKind → List Row → List ℕ → List ℕ
index_bytes hash rows pack =
    let front = index_front (map (λ row. row.id) rows) (map (λ row. row.offset) rows) pack in
    front ++ bytes_of (hash_of hash front)

-- the index of a pack of some objects
unfoldable pub index_of : HashKind → List Object → List ℕ
index_of hash objects = index_bytes hash (table_of (λ (row : Row). row.id) (rows_in_order hash objects)) (pack_hash hash objects)

-- the bytes are the index of a pack of these objects: its rows are the table of their offsets
pub record IsIndexOf (hash : HashKind) (objects : List Object) (bytes : List ℕ) : Type 0 where
  pub rows : List Row
  pub table : IsTableOf (λ row. row.id) (rows_in_order hash objects) rows
  pub bytes_are : bytes ≡ index_bytes hash rows (pack_hash hash objects)

-- the bytes are read as an index whose rows are the table of these objects' offsets
pub record ReadsIndex (hash : HashKind) (objects : List Object) (bytes : List ℕ) : Type 0 where
  pub rows : List Row
  pub table : IsTableOf (λ row. row.id) (rows_in_order hash objects) rows
  pub read : rows_of_index hash bytes ≡ Some rows
