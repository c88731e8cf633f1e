-- Offsets as four and as eight bytes, row by row as they are written.
use Rattle.std.proofs.Common.{◌≡◌, ℕ, ◌+◌, ◌^◌, ◌<◌, ◌≤◌, true, false, List, [], ◌∷◌, ◌++◌, length, map, drop, get_or, append_assoc, refl, sym, ap, ◌∙◌}
use Rattle.std.specs.List.{filter}
use Rattle.std.specs.Int.{w32, w64, to_be_bytes}
use Rattle.std.proofs.lemmas.List.{append-nil, drop_all, drop_more}
use Rattle.gix_pack_write.specs.PlacedRow.{offset_of}
use Rattle.gix_pack_write.specs.WrittenTables.{is_wide, narrow_from, number_bytes, long_number_bytes}
use Rattle.gix_pack_write.specs.declared.rows.Placed.{Placed}

-- ---- wide offsets

-- the wide offsets that are written, one row on
abbrev pub wides : List Placed → List ℕ
wides rows = long_number_bytes (filter is_wide (map offset_of rows))

pub wides_yes : (row : Placed) (rows : List Placed) → is_wide row.offset ≡ true → wides (row ∷ rows) ≡ to_be_bytes w64 row.offset ++ wides rows
wides_yes row rows wide = rw wide refl

pub wides_no : (row : Placed) (rows : List Placed) → is_wide row.offset ≡ false → wides (row ∷ rows) ≡ wides rows
wides_no row rows narrow = rw narrow refl

abbrev pub narrows : ℕ → List Placed → List ℕ
narrows wide rows = number_bytes (narrow_from wide (map offset_of rows))

pub narrows_yes : (wide : ℕ) (row : Placed) (rows : List Placed) → is_wide row.offset ≡ true → narrows wide (row ∷ rows) ≡ to_be_bytes w32 (2 ^ 31 + wide) ++ narrows (wide + 1) rows
unfolding narrow_from
narrows_yes wide row rows is = rw is refl

pub narrows_no : (wide : ℕ) (row : Placed) (rows : List Placed) → is_wide row.offset ≡ false → narrows wide (row ∷ rows) ≡ to_be_bytes w32 row.offset ++ narrows wide rows
unfolding narrow_from
narrows_no wide row rows is = rw is refl

-- ---- offsets that are written

narrows_at : (wide : ℕ) (rows : List Placed) (i : ℕ) (d : Placed) → i < length rows → narrows wide (drop i rows) ≡ narrows wide (get_or rows i d ∷ drop (i + 1) rows)
narrows_at wide rows i d below = ap (narrows wide) (drop_more rows i d below)

pub narrow_on_wide : (list new whole : List ℕ) (rows : List Placed) (i wide next : ℕ) (d : Placed) → i < length rows → is_wide (get_or rows i d).offset ≡ true
    → new ≡ list ++ to_be_bytes w32 (2 ^ 31 + wide) → next ≡ wide + 1
    → list ++ narrows wide (drop i rows) ≡ whole → new ++ narrows next (drop (i + 1) rows) ≡ whole
narrow_on_wide list new whole rows i wide next d below is new_is next_is so_far =
    ap (λ (n : ℕ). new ++ narrows n (drop (i + 1) rows)) next_is ∙ ap (λ (l : List ℕ). l ++ narrows (wide + 1) (drop (i + 1) rows)) new_is
    ∙ append_assoc list (to_be_bytes w32 (2 ^ 31 + wide)) (narrows (wide + 1) (drop (i + 1) rows))
    ∙ ap (λ (rest : List ℕ). list ++ rest) (sym (narrows_at wide rows i d below ∙ narrows_yes wide (get_or rows i d) (drop (i + 1) rows) is)) ∙ so_far

pub narrow_on_low : (list new whole : List ℕ) (rows : List Placed) (i wide next : ℕ) (d : Placed) → i < length rows → is_wide (get_or rows i d).offset ≡ false
    → new ≡ list ++ to_be_bytes w32 (get_or rows i d).offset → next ≡ wide
    → list ++ narrows wide (drop i rows) ≡ whole → new ++ narrows next (drop (i + 1) rows) ≡ whole
narrow_on_low list new whole rows i wide next d below is new_is next_is so_far =
    ap (λ (n : ℕ). new ++ narrows n (drop (i + 1) rows)) next_is ∙ ap (λ (l : List ℕ). l ++ narrows wide (drop (i + 1) rows)) new_is
    ∙ append_assoc list (to_be_bytes w32 (get_or rows i d).offset) (narrows wide (drop (i + 1) rows))
    ∙ ap (λ (rest : List ℕ). list ++ rest) (sym (narrows_at wide rows i d below ∙ narrows_no wide (get_or rows i d) (drop (i + 1) rows) is)) ∙ so_far

narrows_none : (wide : ℕ) → narrows wide [] ≡ []
unfolding narrow_from
narrows_none wide = refl

pub narrow_end : (list whole : List ℕ) (rows : List Placed) (i wide : ℕ) → length rows ≤ i → list ++ narrows wide (drop i rows) ≡ whole → list ≡ whole
narrow_end list whole rows i wide past so_far =
    sym (append-nil list) ∙ ap (λ (rest : List ℕ). list ++ rest) (sym (ap (narrows wide) (drop_all i rows past) ∙ narrows_none wide)) ∙ so_far
