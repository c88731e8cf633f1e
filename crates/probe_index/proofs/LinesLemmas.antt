-- Lemmas on the lines of ids: one more line, and what a row that was looked up says.
use Rattle.std.proofs.Common.{◌≡◌, ℕ, zero, suc, ◌+◌, ◌<◌, List, [], ◌∷◌, ◌++◌, length, map, take, drop, get_or, Contains}
use Rattle.std.proofs.Common.{Option, Some, None, Result, Ok, Err, option_map, refl, sym, ap, ◌∙◌, subst, inl, inr, arith}
use Rattle.std.specs.Prelude.{slice_get}
use Rattle.std.specs.List.{flat_map, zip}
use Rattle.std.specs.Result.{OnOk}
use Rattle.std.proofs.lemmas.List.{append-nil, length-map, map-append, take_more}
use Rattle.std.proofs.lemmas.List.Elements.{All-append, All-cons, All-nil}
use Rattle.std.proofs.lemmas.Grind.{flat_map-append}
use Rattle.std.proofs.lemmas.Option.{slice_get_within, slice_get-map, slice_get-get_or, get_or_from_slice_get}
use Rattle.std.proofs.lemmas.Slice.Zip.{get_or-zip, length-zip}
use Rattle.gix_hash.specs.declared.kind.Kind.{Kind}
use Rattle.gix_hash.specs.declared.object_id.ObjectId.{ObjectId}
use Rattle.gix_hash.specs.Kind.{len_in_bytes_of}
use Rattle.gix_pack.specs.Bytes.{table}
use Rattle.gix_pack.specs.Index.{index_ids, index_offsets, index_rows, objects_in}
use Rattle.gix_pack.specs.MultiIndex.{MultiIndex}
use Rattle.gix_pack.specs.Rows.{PackRow, Row, IsRowOf, id_from}
use Rattle.probe_index.specs.Lines.{Answered, AreLines, IsIndexLine, IsPackLine, absent_line, name_at, offset_line, pack_line}

-- ---- lines one after another

pub AreLines-nothing : (IsLine : ObjectId → List ℕ → Type 0) → AreLines IsLine [] []
AreLines-nothing IsLine = record { answers = []; ids_are = refl; each = All-nil _; text_is = refl }

pub AreLines-more : (IsLine : ObjectId → List ℕ → Type 0) (ids : List ObjectId) (i : ℕ) (d : ObjectId) (text line next : List ℕ) → i < length ids
    → AreLines IsLine (take i ids) text → IsLine (get_or ids i d) line → next ≡ text ++ line → AreLines IsLine (take (i + 1) ids) next
AreLines-more IsLine ids i d text line next within lines is added =
    let answer : Answered = record { id = get_or ids i d; line = line } in
    let holds : Answered → Type 0 = λ a. IsLine a.id a.line in
    record {
      answers = lines.answers ++ answer ∷ [];
      ids_are = map-append (λ (a : Answered). a.id) lines.answers (answer ∷ []) ∙ ap (λ front. front ++ get_or ids i d ∷ []) lines.ids_are ∙ sym (take_more ids i d within);
      each = All-append holds lines.answers (answer ∷ []) lines.each (All-cons holds answer [] is (All-nil holds));
      text_is = added ∙ ap (λ t. t ++ line) lines.text_is ∙ ap (λ t. flat_map (λ (a : Answered). a.line) lines.answers ++ t) (sym (append-nil line))
          ∙ sym (flat_map-append (λ (a : Answered). a.line) lines.answers (answer ∷ []));
    }

-- a call that succeeded added a line
pub added-line : {T E : Type 0} (r : Result T E) (IsLine : List ℕ → Type 0) (before now line : List ℕ) → IsLine line → OnOk r (now ≡ before ++ line)
    → OnOk r ((x : List ℕ) × IsLine x × (now ≡ before ++ x))
added-line (Ok x) IsLine before now line is added = (line, is, added)
added-line (Err e) IsLine before now line is added = added

-- ---- rows that were looked up

length-table : (size n : ℕ) (bytes : List ℕ) → length (table size n bytes) ≡ n
unfolding table
length-table size zero bytes = refl
length-table size (suc n) bytes = ap suc (length-table size n (drop size bytes))

length-index_ids : (kind : Kind) (bytes : List ℕ) → length (index_ids kind bytes) ≡ objects_in bytes
length-index_ids kind bytes = length-map (table (len_in_bytes_of kind) (objects_in bytes) (drop 1032 bytes)) (id_from kind) ∙ length-table (len_in_bytes_of kind) (objects_in bytes) (drop 1032 bytes)

Contains-slice_get : {A : Type 0} (xs : List A) (k : ℕ) (x : A) → slice_get xs k ≡ Some x → Contains xs x
Contains-slice_get xs k x at = (k, slice_get_within xs k x at, get_or_from_slice_get xs k x x at)

slice_get-zip : {A B : Type 0} (xs : List A) (ys : List B) (k : ℕ) (x : A) (y : B) → slice_get xs k ≡ Some x → slice_get ys k ≡ Some y → slice_get (zip xs ys) k ≡ Some (x, y)
slice_get-zip xs ys k x y left right =
    let in_left : k < length xs = slice_get_within xs k x left in
    let in_right : k < length ys = slice_get_within ys k y right in
    let within : k < length (zip xs ys) = omega (arith, length-zip xs ys, in_left, in_right) in
    let first = get_or_from_slice_get xs k x x left in
    let second = get_or_from_slice_get ys k y y right in
    slice_get-get_or (zip xs ys) k (x, y) within ∙ ap Some (get_or-zip xs ys k (x, y) in_left in_right ∙ cc (first, second))

-- the ids of rows that are made of ids and offsets are those ids
row_ids : (ids : List ObjectId) (offsets : List ℕ) (k : ℕ) (d : ObjectId) → k < length (zip ids offsets)
    → get_or (map (λ (row : Row). row.id) (map (λ (pair : ObjectId × ℕ). record { id = pair.0; offset = pair.1 }) (zip ids offsets))) k d ≡ get_or ids k d
row_ids [] offsets k d within = absurd (omega arith)
row_ids (id ∷ ids) [] k d within = absurd (omega arith)
row_ids (id ∷ ids) (offset ∷ offsets) zero d within = refl
row_ids (id ∷ ids) (offset ∷ offsets) (suc k) d within = row_ids ids offsets k d (omega arith)

Contains-row_ids : (ids : List ObjectId) (offsets : List ℕ) (id : ObjectId) → Contains
    (map (λ (row : Row). row.id) (map (λ (pair : ObjectId × ℕ). record { id = pair.0; offset = pair.1 }) (zip ids offsets))) id → Contains ids id
Contains-row_ids ids offsets id there =
    let pairs : List (ObjectId × ℕ) = zip ids offsets in
    let rows : List Row = map (λ (pair : ObjectId × ℕ). record { id = pair.0; offset = pair.1 }) pairs in
    let as_many_rows : length rows ≡ length pairs = length-map pairs (λ (pair : ObjectId × ℕ). record { id = pair.0; offset = pair.1 }) in
    let as_many_ids : length (map (λ (row : Row). row.id) rows) ≡ length rows = length-map rows (λ (row : Row). row.id) in
    let within : there.0 < length pairs = omega (arith, there.1, as_many_rows, as_many_ids) in
    let in_ids : there.0 < length ids = omega (arith, within, length-zip ids offsets) in
    (there.0, in_ids, sym (row_ids ids offsets there.0 id within) ∙ there.2)

module _ (kind : Kind) (bytes : List ℕ) (id : ObjectId) where
  -- the row of an id is below the number of objects
  pub row_below : (row : ℕ) → IsRowOf (index_ids kind bytes) id (Some row) → row < objects_in bytes
  row_below row is = let P : ℕ → Type 0 = λ n. row < n in
      subst P (length-index_ids kind bytes) (slice_get_within (index_ids kind bytes) row id is)

  -- the line of an id by the row that it has in an index, or that it has none
  pub IsIndexLine-found : (row offset : ℕ) → IsRowOf (index_ids kind bytes) id (Some row) → slice_get (index_offsets kind bytes) row ≡ Some offset
      → IsIndexLine (index_rows kind bytes) id (offset_line id offset)
  IsIndexLine-found row offset is at =
      let found : Row = record { id = id; offset = offset } in
      let pairs = zip (index_ids kind bytes) (index_offsets kind bytes) in
      let place = slice_get-map (λ (pair : ObjectId × ℕ). record { id = pair.0; offset = pair.1 }) pairs row
      ∙ ap (option_map (λ (pair : ObjectId × ℕ). record { id = pair.0; offset = pair.1 }))
      (slice_get-zip (index_ids kind bytes) (index_offsets kind bytes) row id offset is at) in
      inl (record { row = found; is_there = Contains-slice_get (index_rows kind bytes) row found place; has_id = refl; line_is = refl })

  pub IsIndexLine-absent : IsRowOf (index_ids kind bytes) id None → IsIndexLine (index_rows kind bytes) id (absent_line id)
  IsIndexLine-absent none =
      inr (record { none = λ there. none (Contains-row_ids (index_ids kind bytes) (index_offsets kind bytes) id there); line_is = refl })

module _ (index : MultiIndex) (id : ObjectId) where
  -- the row of an id is below the number of rows
  pub pack_row_below : (row : ℕ) → IsRowOf (map (λ (row : PackRow). row.id) index.rows) id (Some row) → row < length index.rows
  pack_row_below row is = let P : ℕ → Type 0 = λ n. row < n in
      subst P (length-map index.rows (λ (row : PackRow). row.id)) (slice_get_within (map (λ (row : PackRow). row.id) index.rows) row id is)

  by_row : (row pack offset : ℕ) (found : Option PackRow) → slice_get index.rows row ≡ found → option_map (λ (row : PackRow). row.id) found ≡ Some id
      → option_map (λ (row : PackRow). row.pack) found ≡ Some pack → option_map (λ (row : PackRow). row.offset) found ≡ Some offset
      → IsPackLine index id (pack_line id offset (name_at index.names pack))
  by_row row pack offset None at ids packs offsets = absurd (cc ids)
  by_row row pack offset (Some found) at ids packs offsets =
      let same_id : found.id ≡ id = cc ids in
      let same_pack : found.pack ≡ pack = cc packs in
      let same_offset : found.offset ≡ offset = cc offsets in
      inl (record { row = found; is_there = Contains-slice_get index.rows row found at; has_id = same_id; line_is = cc (same_pack, same_offset) })

  -- the line of an id by the row that it has in a multi-index, or that it has none
  pub IsPackLine-found : (row pack offset : ℕ) → IsRowOf (map (λ (row : PackRow). row.id) index.rows) id (Some row)
      → option_map (λ (row : PackRow). row.pack) (slice_get index.rows row) ≡ Some pack → option_map (λ (row : PackRow). row.offset) (slice_get index.rows row) ≡ Some offset
      → IsPackLine index id (pack_line id offset (name_at index.names pack))
  IsPackLine-found row pack offset is packs offsets =
      by_row row pack offset (slice_get index.rows row) refl (sym (slice_get-map (λ (row : PackRow). row.id) index.rows row) ∙ is) packs offsets

  pub IsPackLine-absent : IsRowOf (map (λ (row : PackRow). row.id) index.rows) id None → IsPackLine index id (absent_line id)
  IsPackLine-absent none = inr (record { none = none; line_is = refl })
