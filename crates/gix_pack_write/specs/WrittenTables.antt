-- The tables of the encoders of indices and multi-pack indices: a row for each different id, and offsets as four and as eight bytes.
use Rattle.std.specs.Prelude.{◌≡◌, ℕ, ◌+◌, Bool, true, List, [], ◌∷◌, map, not, nat_lt, Contains, Some, if◌then◌else◌}
use Rattle.std.specs.List.{flat_map, find, All}
use Rattle.std.specs.Int.{w32, w64, to_be_bytes}
use Rattle.std.specs.Ordering.{is_eq, match_ordering}
use Rattle.gix_hash.specs.ObjectId.{id_cmp}
use Rattle.gix_hash.specs.declared.object_id.ObjectId.{ObjectId}
use Rattle.gix_pack_read.specs.Rows.{high_bit, is_rising}

-- rows in a table: their ids rise strictly, each id of the given rows is there, and of given rows with the same id the first is taken
pub record IsTableOf {R : Type 0} (id_in : R → ObjectId) (given rows : List R) : Type 0 where
  pub rising : is_rising (map id_in rows) ≡ true
  pub each : All (λ row. Contains (map id_in rows) (id_in row)) given
  pub first : All (λ row. find (λ other. is_eq (id_cmp (id_in other) (id_in row))) given ≡ Some row) rows

-- a row inserted among rows whose ids rise: at its place, or instead of the row with its id
abbrev pub put_row : {R : Type 0} → (R → ObjectId) → R → List R → List R
put_row id_in row [] = row ∷ []
put_row id_in row (other ∷ rows) =
    match_ordering (id_cmp (id_in row) (id_in other)) (row ∷ other ∷ rows) (row ∷ rows) (other ∷ put_row id_in row rows)

-- given rows inserted among others, the last of them first, so that each replaces later ones with its id
abbrev pub put_all : {R : Type 0} → (R → ObjectId) → List R → List R → List R
put_all id_in [] rows = rows
put_all id_in (row ∷ given) rows = put_row id_in row (put_all id_in given rows)

-- the table of given rows
abbrev pub table_of : {R : Type 0} → (R → ObjectId) → List R → List R
table_of id_in given = put_all id_in given []

-- whether an offset has a row in the table of wide ones
abbrev pub is_wide : ℕ → Bool
is_wide offset = not (nat_lt offset high_bit)

-- offsets in four bytes: a wide one is the high bit and its number among the wide ones, counted from this one
unfoldable pub narrow_from : ℕ → List ℕ → List ℕ
narrow_from wide [] = []
narrow_from wide (offset ∷ offsets) =
    if is_wide offset then (high_bit + wide) ∷ narrow_from (wide + 1) offsets
    else offset ∷ narrow_from wide offsets

abbrev pub number_bytes : List ℕ → List ℕ
number_bytes = flat_map (to_be_bytes w32)

abbrev pub long_number_bytes : List ℕ → List ℕ
long_number_bytes = flat_map (to_be_bytes w64)
