-- The rows of a multi-pack index, at their places.
use Rattle.std.proofs.Common.{◌≡◌, ℕ, ◌+◌, ◌-◌, ◌*◌, ◌/◌, ◌^◌, ◌<◌, ◌≤◌, true, List, [], ◌∷◌, length, drop, map, slice_get}
use Rattle.std.proofs.Common.{slice_index, Some, option_map, refl, sym, ap, ◌∙◌, arith, length-take, length-drop}
use Rattle.std.specs.List.{zip}
use Rattle.std.specs.Int.{w64, from_be_bytes}
use Rattle.std.proofs.lemmas.List.{length-map}
use Rattle.std.proofs.lemmas.Option.{get_or_from_slice_get, slice_get-map}
use Rattle.gix_hash.specs.Kind.{len_in_bytes_of}
use Rattle.gix_hash.specs.declared.kind.Kind.{Kind}
use Rattle.gix_hash.specs.declared.object_id.ObjectId.{ObjectId}
use Rattle.gix_pack_read.specs.Bytes.{long_number_at, long_numbers, number_at, part, table}
use Rattle.gix_pack_read.specs.Rows.{PackRow, id_from}
use Rattle.gix_pack_read.specs.MultiIndex.Held.{has_offset, offset_of_bytes}
use Rattle.gix_pack_read.specs.MultiIndex.{pack_row}
use Rattle.gix_pack_read.specs.MultiIndexLayout.{ids_at, offset_rows_at, rows_at, span_of, wides_at, IsIn, IsLaidOut}
use Rattle.gix_pack_read.specs.declared.multi_index.layout.Layout.{Layout}
use Rattle.gix_pack_read.specs.declared.multi_index.layout.Span.{Span}
use Rattle.gix_pack_read.proofs.ListLemmas.{of_row, zip_get}
use Rattle.gix_pack_read.proofs.RowsLemmas.{length-table, slice_get-table}
use Rattle.gix_pack_read.proofs.SearchLemmas.{length-ids_of, row_id}
use Rattle.gix_pack_read.proofs.OffsetLaws.{named_below, offset_in-wide}

-- ---- an offset

wide_number : (n : ℕ) (bytes : List ℕ) (row : ℕ) → row < n → slice_index (long_numbers n bytes) row ≡ long_number_at (row * 8) bytes
wide_number n bytes row h =
    get_or_from_slice_get (long_numbers n bytes) row (long_number_at (row * 8) bytes) 0
    (slice_get-map (from_be_bytes w64) (table 8 n bytes) row ∙ ap (option_map (from_be_bytes w64)) (slice_get-table 8 n bytes row h))

pub wide_offset : (wides : List ℕ) (narrow : ℕ) → 2 ^ 31 ≤ narrow → has_offset (Some wides) narrow ≡ true → long_number_at ((narrow - 2 ^ 31) * 8) wides ≡ offset_of_bytes (Some wides) narrow
wide_offset wides narrow high named =
    sym (offset_in-wide (long_numbers (length wides / 8) wides) narrow high ∙ wide_number (length wides / 8) wides (narrow - 2 ^ 31) (named_below (length wides / 8) narrow named high))

-- ---- a row

length-zip : {X Y : Type 0} (xs : List X) (ys : List Y) → length xs ≡ length ys → length (zip xs ys) ≡ length xs
length-zip [] ys same = refl
length-zip (a ∷ xs) [] same = absurd (omega arith)
length-zip (a ∷ xs) (b ∷ ys) same = let less = length-zip xs ys (omega arith) in omega arith

-- a function of the first of each pair
firsts : {X Y Z : Type 0} (f : X × Y → Z) (g : Z → X) → ((pair : X × Y) → g (f pair) ≡ pair.0) → (xs : List X) (ys : List Y) → length xs ≡ length ys → map g (map f (zip xs ys)) ≡ xs
firsts f g own [] ys same = refl
firsts f g own (x ∷ xs) [] same = absurd (omega arith)
firsts {X} f g own (x ∷ xs) (y ∷ ys) same =
    ap (λ (first : X). first ∷ map g (map f (zip xs ys))) (own (x, y)) ∙ ap (λ (rest : List X). x ∷ rest) (firsts f g own xs ys (omega arith))

module _ (kind : Kind) (places : Layout) (bytes : List ℕ) where
  abbrev ids : List ObjectId
  ids = ids_at kind places bytes

  abbrev offsets : List (List ℕ)
  offsets = offset_rows_at places bytes

  same_length : length ids ≡ length offsets
  same_length = length-ids_of kind places.count (span_of bytes places.ids) ∙ sym (length-table 8 places.count (span_of bytes places.offsets))

  pub length-rows : length (rows_at kind places bytes) ≡ places.count
  unfolding rows_at
  length-rows = length-map (zip ids offsets) (pack_row (wides_at places bytes)) ∙ length-zip ids offsets same_length ∙ length-ids_of kind places.count (span_of bytes places.ids)

  pub ids_in_rows : map (λ (row : PackRow). row.id) (rows_at kind places bytes) ≡ ids
  unfolding rows_at
  ids_in_rows = firsts (pack_row (wides_at places bytes)) (λ (row : PackRow). row.id) (λ _. refl) ids offsets same_length

  -- the eight bytes of a row
  abbrev row_bytes : ℕ → List ℕ
  row_bytes n = part (n * 8) 8 (span_of bytes places.offsets)

  pub row_offsets : (n : ℕ) → n < places.count → slice_get offsets n ≡ Some (row_bytes n)
  row_offsets n below = slice_get-table 8 places.count (span_of bytes places.offsets) n below

  pub row_is : (n : ℕ) (id : ObjectId) → n < places.count → slice_get ids n ≡ Some id → slice_get (rows_at kind places bytes) n ≡ Some (pack_row (wides_at places bytes) (id, row_bytes n))
  unfolding rows_at
  row_is n id below own =
      slice_get-map (pack_row (wides_at places bytes)) (zip ids offsets) n ∙ ap (option_map (pack_row (wides_at places bytes))) (zip_get ids offsets n id (row_bytes n) own (row_offsets n below))

  pub id_in_row : (n : ℕ) (id : ObjectId) → n < places.count → slice_get ids n ≡ Some id → option_map (λ (row : PackRow). row.id) (slice_get (rows_at kind places bytes) n) ≡ Some id
  id_in_row n id below own = ap (option_map (λ (row : PackRow). row.id)) (row_is n id below own)

  -- the id of a row, by its bytes
  some_id : (n : ℕ) → n < places.count → slice_get ids n ≡ Some (id_from kind (part (n * len_in_bytes_of kind) (len_in_bytes_of kind) (span_of bytes places.ids)))
  some_id n below = row_id kind places.count (span_of bytes places.ids) n below

  pub pack_in_row : (n : ℕ) → n < places.count → option_map (λ (row : PackRow). row.pack) (slice_get (rows_at kind places bytes) n) ≡ Some (number_at 0 (row_bytes n))
  pack_in_row n below = ap (option_map (λ (row : PackRow). row.pack)) (row_is n _ below (some_id n below))

  pub offset_in_row : (n : ℕ) → n < places.count
      → option_map (λ (row : PackRow). row.offset) (slice_get (rows_at kind places bytes) n) ≡ Some (offset_of_bytes (wides_at places bytes) (number_at 4 (row_bytes n)))
  offset_in_row n below = ap (option_map (λ (row : PackRow). row.offset)) (row_is n _ below (some_id n below))

-- the id of a row, in the ids of the rows
pub id_of_row : (rows : List PackRow) (ids : List ObjectId) (n : ℕ) (id : ObjectId) → ids ≡ map (λ (row : PackRow). row.id) rows → slice_get ids n ≡ Some id
    → option_map (λ (row : PackRow). row.id) (slice_get rows n) ≡ Some id
id_of_row rows ids n id are own =
    sym (slice_get-map (λ (row : PackRow). row.id) rows n) ∙ ap (λ (its : List ObjectId). slice_get its n) (sym are) ∙ own

-- ---- where the tables are

pub length_span : (bytes : List ℕ) (place : Span) → IsIn bytes place → length (span_of bytes place) ≡ place.len
length_span bytes place within = omega (arith, length-take place.len (drop place.start bytes), length-drop place.start bytes)

module _ (kind : Kind) (places : Layout) (bytes : List ℕ) (laid : IsLaidOut kind places bytes) where
  pub ids_room : places.count * len_in_bytes_of kind ≤ length (span_of bytes places.ids)
  ids_room = let long = length_span bytes places.ids laid.ids_in in let all = laid.ids_len in omega arith

  pub counts_room : 1024 ≤ length (span_of bytes places.counts)
  counts_room = let long = length_span bytes places.counts laid.counts_in in let all = laid.counts_len in omega arith

  pub row_room : (n : ℕ) → n < places.count → n * 8 + 8 ≤ length (span_of bytes places.offsets)
  row_room n below = let long = length_span bytes places.offsets laid.offsets_in in let all = laid.offsets_len in omega arith

  pub row_named : (n : ℕ) → n < places.count → has_offset (wides_at places bytes) (number_at 4 (part (n * 8) 8 (span_of bytes places.offsets))) ≡ true
  row_named n below =
      of_row (λ (row : List ℕ). has_offset (wides_at places bytes) (number_at 4 row)) (offset_rows_at places bytes) n (part (n * 8) 8 (span_of bytes places.offsets)) laid.named
      (row_offsets kind places bytes n below)
