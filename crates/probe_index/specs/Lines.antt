-- What a line says of an id, and the lines of all ids that are asked for.
use Rattle.std.specs.Prelude.{◌≡◌, ◌⊎◌, ℕ, List, [], ◌++◌, map, codes, slice_get, unwrap_or, Contains, All}
use Rattle.std.specs.List.{flat_map}
use Rattle.std.specs.Fmt.{decimal}
use Rattle.gix_hash.specs.ObjectId.{hex_of}
use Rattle.gix_hash.specs.declared.object_id.ObjectId.{ObjectId}
use Rattle.gix_pack.specs.MultiIndex.{MultiIndex}
use Rattle.gix_pack.specs.Rows.{Row, PackRow}

-- `HEX absent`
abbrev pub absent_line : ObjectId → List ℕ
absent_line id = hex_of id ++ codes " absent\n"

-- `HEX OFFSET`
abbrev pub offset_line : ObjectId → ℕ → List ℕ
offset_line id offset = hex_of id ++ codes " " ++ decimal offset ++ codes "\n"

-- `HEX OFFSET NAME`
abbrev pub pack_line : ObjectId → ℕ → List ℕ → List ℕ
pack_line id offset name = hex_of id ++ codes " " ++ decimal offset ++ codes " " ++ name ++ codes "\n"

-- a row of an index has the id, and the line is its offset
pub record IsFoundIn (rows : List Row) (id : ObjectId) (line : List ℕ) : Type 0 where
  pub row : Row
  pub is_there : Contains rows row
  pub has_id : row.id ≡ id
  pub line_is : line ≡ offset_line id row.offset

-- no row has the id, and the line says so
pub record IsAbsentFrom (ids : List ObjectId) (id : ObjectId) (line : List ℕ) : Type 0 where
  pub none : ¬ (Contains ids id)
  pub line_is : line ≡ absent_line id

-- the line of an id by the rows of an index
abbrev pub IsIndexLine : List Row → ObjectId → List ℕ → Type 0
IsIndexLine rows id line = IsFoundIn rows id line ⊎ IsAbsentFrom (map (λ (row : Row). row.id) rows) id line

-- the name of the pack with a number
abbrev pub name_at : List (List ℕ) → ℕ → List ℕ
name_at names pack = unwrap_or (slice_get names pack) []

-- a row of a multi-index has the id, and the line is its offset and its pack's name
pub record IsFoundInPack (index : MultiIndex) (id : ObjectId) (line : List ℕ) : Type 0 where
  pub row : PackRow
  pub is_there : Contains index.rows row
  pub has_id : row.id ≡ id
  pub line_is : line ≡ pack_line id row.offset (name_at index.names row.pack)

-- the line of an id by the names and rows of a multi-index
abbrev pub IsPackLine : MultiIndex → ObjectId → List ℕ → Type 0
IsPackLine index id line = IsFoundInPack index id line ⊎ IsAbsentFrom (map (λ (row : PackRow). row.id) index.rows) id line

-- a line was added after a text
abbrev pub AddsLine : (List ℕ → Type 0) → List ℕ → List ℕ → Type 0
AddsLine IsLine before now = (line : List ℕ) × IsLine line × (now ≡ before ++ line)

-- an id with its line
pub record Answered : Type 0 where
  pub id : ObjectId
  pub line : List ℕ

-- a text is the lines of these ids, one for each and in their order
pub record AreLines (IsLine : ObjectId → List ℕ → Type 0) (ids : List ObjectId) (text : List ℕ) : Type 0 where
  pub answers : List Answered
  pub ids_are : map (λ (answer : Answered). answer.id) answers ≡ ids
  pub each : All (λ (answer : Answered). IsLine answer.id answer.line) answers
  pub text_is : text ≡ flat_map (λ (answer : Answered). answer.line) answers
