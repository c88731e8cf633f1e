-- Rows as the encoders of indices and multi-pack indices keep them.
use Rattle.std.specs.Prelude.{◌≡◌, ℕ, ◌+◌, ◌^◌, ◌<◌, List, [], ◌∷◌, length}
use Rattle.std.specs.List.{AllByRecursion}
use Rattle.gix_hash.specs.ObjectId.{kind_of, IsId}
use Rattle.gix_hash.specs.declared.kind.Kind.{Kind as HashKind}
use Rattle.gix_hash.specs.declared.object_id.ObjectId.{ObjectId}
use Rattle.gix_object.specs.Data.{Object}
use Rattle.gix_pack_read.specs.Rows.{Row}
use Rattle.gix_pack_write.specs.WrittenPack.{entry_of as pack_entry, id_of_object}
use Rattle.gix_pack_write.specs.declared.rows.Placed.{Placed}

abbrev pub row_of : Placed → Row
row_of row = record { id = row.id; offset = row.offset }

abbrev pub id_of : Placed → ObjectId
id_of row = row.id

abbrev pub pack_of : Placed → ℕ
pack_of row = row.pack

abbrev pub offset_of : Placed → ℕ
offset_of row = row.offset

-- an entry of a map by ids, as a row
abbrev pub placed_of : ObjectId × (ℕ × ℕ) → Placed
placed_of entry = record { id = entry.0; pack = entry.1.0; offset = entry.1.1 }

-- the rows of objects in the pack of this number, the first of which is at this offset
abbrev pub placed_from : HashKind → ℕ → ℕ → List Object → List Placed
placed_from hash pack place [] = []
placed_from hash pack place (object ∷ objects) =
    record { id = id_of_object hash object; pack = pack; offset = place } ∷ placed_from hash pack (place + length (pack_entry object)) objects

-- what is known of a row: its id is one of this hash, and its numbers fit
pub record IsPlaced (hash : HashKind) (row : Placed) : Type 0 where
  pub id : IsId row.id
  pub kind : kind_of row.id ≡ hash
  pub pack : row.pack < 2 ^ 32
  pub offset : row.offset < 2 ^ 64

-- all rows are such, for some hash
abbrev pub ArePlaced : List Placed → Type 0
ArePlaced rows = (hash : HashKind) × AllByRecursion (IsPlaced hash) rows
