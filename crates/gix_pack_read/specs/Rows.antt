-- The rows of an index or a multi-index, and look-ups in them: the row of an id, and the rows of a prefix.
use Rattle.std.specs.Prelude.{◌≡◌, ◌==◌, ℕ, ◌-◌, ◌^◌, ◌<◌, ◌≤◌, ◌↔◌, ◌&&◌, ◌||◌, Bool, true, List, [], ◌∷◌, length, map}
use Rattle.std.specs.Prelude.{slice_get, slice_index, count_by, Contains, Option, Some, None, nat_le, nat_lt, if◌then◌else◌}
use Rattle.std.specs.List.{range_with_len}
use Rattle.std.specs.Ordering.{is_lt}
use Rattle.gix_hash.specs.Kind.{len_in_bytes_of}
use Rattle.gix_hash.specs.ObjectId.{bytes_of, id_cmp}
use Rattle.gix_hash.specs.Prefix.{PrefixOf, HasPrefix}
use Rattle.gix_hash.specs.declared.kind.Kind.{Kind}
use Rattle.gix_hash.specs.declared.kind.Kind.TheVariants as kind
use Rattle.gix_hash.specs.declared.object_id.ObjectId.{ObjectId}
use Rattle.gix_hash.specs.declared.object_id.ObjectId.TheVariants.{Sha1, Sha256}
use Rattle.gix_pack_read.specs.Bytes.{numbers, same, table}

-- a row of an index: an id, and the offset of its entry in the pack
pub record Row : Type 0 where
  pub id : ObjectId
  pub offset : ℕ

-- a row of a multi-index: an id, the number of its pack among the names, and the offset of its entry there
pub record PackRow : Type 0 where
  pub id : ObjectId
  pub pack : ℕ
  pub offset : ℕ

-- the id with these bytes
abbrev pub id_from : Kind → List ℕ → ObjectId
id_from kind.Sha1 bytes = Sha1 bytes
id_from kind.Sha256 bytes = Sha256 bytes

-- a table of n ids
abbrev pub ids_of : Kind → ℕ → List ℕ → List ObjectId
ids_of kind n bytes = map (id_from kind) (table (len_in_bytes_of kind) n bytes)

-- whether the ids rise strictly: each is below the next
unfoldable pub is_rising : List ObjectId → Bool
is_rising [] = true
is_rising (id ∷ []) = true
is_rising (id ∷ next ∷ ids) = is_lt (id_cmp id next) && is_rising (next ∷ ids)

-- how many ids begin with this byte or a lower one
abbrev pub count_to : List ObjectId → ℕ → ℕ
count_to ids first = count_by (λ id. nat_le (slice_index (bytes_of id) 0) first) ids

-- how many begin with a lower byte, and below how many with this one
abbrev pub count_below : List ObjectId → ℕ → ℕ
count_below ids first = count_by (λ id. nat_lt (slice_index (bytes_of id) 0) first) ids

abbrev pub begin_with : List ObjectId → ℕ → ℕ
begin_with ids first = count_by (λ id. slice_index (bytes_of id) 0 == first) ids

-- the length of the counts in a file: 256 of four bytes each
abbrev pub counts_len : ℕ
counts_len = 1024

-- the 256 cumulative counts of ids, by their first byte
abbrev pub counts_of : List ObjectId → List ℕ
counts_of ids = map (count_to ids) (range_with_len 0 256)

-- whether 256 counts are those of ids
unfoldable pub counts_fit : List ℕ → List ObjectId → Bool
counts_fit counts ids = same (numbers 256 counts) (counts_of ids)

-- the length of a wide offset in its table
abbrev pub wide_len : ℕ
wide_len = 8

-- the high bit of four bytes: it marks those that refer to a wide offset
abbrev pub high_bit : ℕ
high_bit = 2 ^ 31

-- an index has fewer rows than this, so that the 31 bits beside the high bit can refer to each of its wide offsets
abbrev pub rows_limit : ℕ
rows_limit = 2 ^ 31

-- the offset of four bytes, if there is a table of wide ones: with the high bit set, the other 31 bits are a row of that table
abbrev pub offset_in : List ℕ → ℕ → ℕ
offset_in wides narrow = if nat_lt narrow high_bit then narrow else slice_index wides (narrow - high_bit)

-- whether four bytes refer to one of the first n rows of the table of wide offsets, if they refer to one
abbrev pub is_named_below : ℕ → ℕ → Bool
is_named_below n narrow = nat_lt narrow high_bit || nat_lt (narrow - high_bit) n

-- ---- look-ups

-- the row of an id, or None if it has none
abbrev pub IsRowOf : List ObjectId → ObjectId → Option ℕ → Type 0
IsRowOf ids id None = ¬ (Contains ids id)
IsRowOf ids id (Some row) = slice_get ids row ≡ Some id

-- the rows of a prefix: a range of rows, in which a row is iff its id has the prefix
pub record IsPrefixRun (ids : List ObjectId) (prefix : PrefixOf) (start behind : ℕ) : Type 0 where
  pub order : start ≤ behind
  pub within : behind ≤ length ids
  pub exact : (row : ℕ) (id : ObjectId) → slice_get ids row ≡ Some id → ((start ≤ row) × (row < behind)) ↔ HasPrefix prefix id
