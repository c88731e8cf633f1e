-- Indices: the places of their tables, and the offset of a row.
use Rattle.std.proofs.Common.{◌≡◌, ◌==◌, ℕ, ◌+◌, ◌-◌, ◌*◌, ◌^◌, ◌<◌, ◌≤◌, ◌&&◌, Bool, true, false, List, length, take}
use Rattle.std.proofs.Common.{drop, slice_get, Option, Some, option_map, length-drop, refl, sym, ap, ◌∙◌, arith}
use Rattle.gix_pack_read.proofs.ListLemmas.{of_row}
use Rattle.std.specs.List.{list_all}
use Rattle.std.specs.Int.{w32, w64, from_be_bytes}
use Rattle.std.proofs.lemmas.Bool.{and_parts, eqb-true}
use Rattle.std.proofs.lemmas.List.{drop-drop}
use Rattle.std.proofs.lemmas.Option.{get_or_from_slice_get, slice_get-map}
use Rattle.gix_hash.specs.Kind.{len_in_bytes_of}
use Rattle.gix_hash.specs.declared.kind.Kind.{Kind}
use Rattle.gix_pack_read.specs.Bytes.{long_number_at, number_at, numbers, part, same, table}
use Rattle.gix_pack_read.specs.Rows.{counts_fit, counts_len, counts_of, ids_of, is_named_below, is_rising, offset_in}
use Rattle.gix_pack_read.specs.Index.{counts_place, has_length, ids_place, index_ids, index_offsets, is_index}
use Rattle.gix_pack_read.specs.Index.{narrow_offsets, objects_in, offsets_place, tables_agree, wide_offsets, wides_in, wides_place}
use Rattle.gix_pack_read.proofs.RowsLemmas.{slice_get-table}
use Rattle.gix_pack_read.proofs.OffsetLaws.{named_below, offset_in-low, offset_in-wide}

-- ---- an index's length

length_of-fits : (kind : Kind) (bytes : List ℕ) → has_length kind bytes ≡ true → length bytes ≡ wides_place kind (objects_in bytes) + 8 * wides_in kind bytes + 2 * len_in_bytes_of kind
length_of-fits kind bytes h = eqb-true _ _ h

below_differs : (a b : ℕ) → a < b → (a == b) ≡ false
below_differs a b h = grind arith

below_fixed : (long n w h : ℕ) → long < ids_place → long < ids_place + n * (h + 8) + 8 * w + 2 * h
below_fixed long n w h short = omega arith

-- fewer bytes than the fixed parts have
pub short_file : (kind : Kind) (bytes : List ℕ) → length bytes < ids_place → has_length kind bytes ≡ false
short_file kind bytes short =
    below_differs (length bytes) (wides_place kind (objects_in bytes) + 8 * wides_in kind bytes + 2 * len_in_bytes_of kind)
    (below_fixed (length bytes) (objects_in bytes) (wides_in kind bytes) (len_in_bytes_of kind) short)

-- the tables of a file of the right length are in it
module _ (kind : Kind) (bytes : List ℕ) (fits : has_length kind bytes ≡ true) where
  whole : ids_place + objects_in bytes * (len_in_bytes_of kind + 8) ≤ length bytes
  whole = let long = length_of-fits kind bytes fits in omega arith

  pub front_room : ids_place ≤ length bytes
  front_room = let all = whole in omega arith

  pub counts_room : counts_len ≤ length (drop counts_place bytes)
  counts_room = let all = whole in let rest = length-drop counts_place bytes in omega arith

  pub table_room : objects_in bytes * len_in_bytes_of kind ≤ length (drop ids_place bytes)
  table_room = let all = whole in let rest = length-drop ids_place bytes in omega arith

  pub offsets_place_room : offsets_place kind (objects_in bytes) ≤ length bytes
  offsets_place_room = let all = whole in omega arith

  pub offsets_room : objects_in bytes * 4 ≤ length (drop (offsets_place kind (objects_in bytes)) bytes)
  offsets_room = let all = whole in let rest = length-drop (offsets_place kind (objects_in bytes)) bytes in omega arith

-- the length that each table needs
pub ruleset table_rooms = (front_room, counts_room, table_room, offsets_place_room, offsets_room)

-- what is checked before the tables of such a file are read
pub rows_in_file : (kind : Kind) (bytes : List ℕ) (n : ℕ) (ids : List ℕ) → has_length kind bytes ≡ true → n ≡ objects_in bytes → ids ≡ drop ids_place bytes → n * len_in_bytes_of kind ≤ length ids
rows_in_file kind bytes n ids fits n_is ids_is = rw (n_is, ids_is) (table_room kind bytes fits)

pub counts_in_file : (kind : Kind) (bytes counts : List ℕ) → has_length kind bytes ≡ true → counts ≡ drop counts_place bytes → counts_len ≤ length counts
counts_in_file kind bytes counts fits counts_is = rw counts_is (counts_room kind bytes fits)

-- ---- tables that agree, by what was read of each

all_three : (a b c : Bool) → a ≡ true → b ≡ true → c ≡ (a && b && c)
all_three true true c first second = refl
all_three true false c first second = cc second
all_three false b c first second = cc first

not_first : (a b c : Bool) → a ≡ false → false ≡ (a && b && c)
not_first true b c h = cc h
not_first false b c h = refl

not_second : (a b c : Bool) → b ≡ false → false ≡ (a && b && c)
not_second true true c h = cc h
not_second true false c h = refl
not_second false b c h = refl

-- the three checks of the tables
abbrev rises_in : Kind → List ℕ → Bool
rises_in kind bytes = is_rising (index_ids kind bytes)

abbrev counts_in : Kind → List ℕ → Bool
counts_in kind bytes = same (numbers 256 (drop counts_place bytes)) (counts_of (index_ids kind bytes))

abbrev names_in : Kind → List ℕ → Bool
names_in kind bytes = list_all (is_named_below (wides_in kind bytes)) (narrow_offsets kind bytes)

pub tables_fall : (kind : Kind) (bytes : List ℕ) (n : ℕ) (ids : List ℕ) (rising : Bool) → n ≡ objects_in bytes → ids ≡ drop ids_place bytes → rising ≡ is_rising (ids_of kind n ids) → rising ≡ false
    → false ≡ tables_agree kind bytes
unfolding tables_agree
tables_fall kind bytes n ids rising n_is ids_is read falls =
    not_first (rises_in kind bytes) (counts_in kind bytes) (names_in kind bytes)
    (rw (n_is, ids_is) at (sym read ∙ falls))

pub tables_miscount : (kind : Kind) (bytes : List ℕ) (n : ℕ) (ids counts : List ℕ) (agree : Bool) → n ≡ objects_in bytes → ids ≡ drop ids_place bytes → counts ≡ drop counts_place bytes
    → agree ≡ same (numbers 256 counts) (counts_of (ids_of kind n ids)) → agree ≡ false → false ≡ tables_agree kind bytes
unfolding tables_agree
tables_miscount kind bytes n ids counts agree n_is ids_is counts_is read differ =
    not_second (rises_in kind bytes) (counts_in kind bytes) (names_in kind bytes)
    (rw (n_is, ids_is, counts_is) at (sym read ∙ differ))

pub tables_told : (kind : Kind) (bytes : List ℕ) (n : ℕ) (ids counts offsets : List ℕ) (wides : ℕ) (rising agree named : Bool) → n ≡ objects_in bytes → ids ≡ drop ids_place bytes
    → counts ≡ drop counts_place bytes
    → offsets ≡ drop (offsets_place kind n) bytes → wides ≡ wides_in kind bytes → rising ≡ is_rising (ids_of kind n ids) → agree ≡ same (numbers 256 counts) (counts_of (ids_of kind n ids))
    → named ≡ list_all (is_named_below wides) (numbers n offsets) → rising ≡ true → agree ≡ true → named ≡ tables_agree kind bytes
unfolding tables_agree
tables_told kind bytes n ids counts offsets wides rising agree named n_is ids_is counts_is offsets_is wides_is rising_read agree_read named_read rises agrees =
    rw (offsets_is, n_is, wides_is) at named_read
    ∙ all_three (rises_in kind bytes) (counts_in kind bytes) (names_in kind bytes)
    (rw (n_is, ids_is) at (sym rising_read ∙ rises)) (rw (n_is, ids_is, counts_is) at (sym agree_read ∙ agrees))

-- ---- properties of an index

has_length_of : (kind : Kind) (bytes : List ℕ) → is_index kind bytes ≡ true → has_length kind bytes ≡ true
unfolding is_index
has_length_of kind bytes h = (and_parts _ _ (and_parts _ _ h).0).1

tables_of : (kind : Kind) (bytes : List ℕ) → is_index kind bytes ≡ true → tables_agree kind bytes ≡ true
unfolding is_index
tables_of kind bytes h = (and_parts _ _ h).1

-- it is long enough for its counts and for its ids
pub has_ids : (kind : Kind) (bytes : List ℕ) → is_index kind bytes ≡ true → ids_place ≤ length bytes
has_ids kind bytes h = front_room kind bytes (has_length_of kind bytes h)

pub ids_room : (kind : Kind) (bytes : List ℕ) → is_index kind bytes ≡ true → objects_in bytes * len_in_bytes_of kind ≤ length (drop ids_place bytes)
ids_room kind bytes h = table_room kind bytes (has_length_of kind bytes h)

counts_agree_in : (kind : Kind) (bytes : List ℕ) → is_index kind bytes ≡ true → counts_fit (drop counts_place bytes) (index_ids kind bytes) ≡ true
unfolding counts_fit tables_agree
counts_agree_in kind bytes h = (and_parts _ _ (and_parts _ _ (tables_of kind bytes h)).0).1

pub ids_rise : (kind : Kind) (bytes : List ℕ) → is_index kind bytes ≡ true → is_rising (index_ids kind bytes) ≡ true
unfolding tables_agree
ids_rise kind bytes h = (and_parts _ _ (and_parts _ _ (tables_of kind bytes h)).0).0

offsets_named : (kind : Kind) (bytes : List ℕ) → is_index kind bytes ≡ true → list_all (is_named_below (wides_in kind bytes)) (narrow_offsets kind bytes) ≡ true
unfolding tables_agree
offsets_named kind bytes h = (and_parts _ _ (tables_of kind bytes h)).1

-- a count and two tables that were read are what a table of ids takes
module _ (kind : Kind) (bytes : List ℕ) (n : ℕ) (counts ids : List ℕ) (is : is_index kind bytes ≡ true) (n_is : n ≡ objects_in bytes) (counts_are : counts ≡ drop counts_place bytes)
    (ids_are : ids ≡ drop ids_place bytes) where
  pub counts_read_room : counts_len ≤ length counts
  counts_read_room = rw counts_are (counts_room kind bytes (has_length_of kind bytes is))

  pub ids_read_room : n * len_in_bytes_of kind ≤ length ids
  ids_read_room = rw (n_is, ids_are) (ids_room kind bytes is)

  pub ids_read_rise : is_rising (ids_of kind n ids) ≡ true
  ids_read_rise = rw (n_is, ids_are) (ids_rise kind bytes is)

  pub counts_read_agree : counts_fit counts (ids_of kind n ids) ≡ true
  counts_read_agree = rw (counts_are, n_is, ids_are) (counts_agree_in kind bytes is)

  pub ids_read : ids_of kind n ids ≡ index_ids kind bytes
  ids_read = rw (n_is, ids_are) refl

-- ---- a row's offset

-- a row of a table that begins at a place
row_at : (place size n : ℕ) (bytes : List ℕ) (i : ℕ) → i < n → slice_get (table size n (drop place bytes)) i ≡ Some (part (place + i * size) size bytes)
row_at place size n bytes i h = slice_get-table size n (drop place bytes) i h ∙ ap (λ (rest : List ℕ). Some (take size rest)) (drop-drop (i * size) place bytes)

-- the four bytes of a row, as a number
abbrev narrow_at : Kind → List ℕ → ℕ → ℕ
narrow_at kind bytes row = number_at (offsets_place kind (objects_in bytes) + row * 4) bytes

pub row_narrow : (kind : Kind) (bytes : List ℕ) (row : ℕ) → row < objects_in bytes → slice_get (narrow_offsets kind bytes) row ≡ Some (narrow_at kind bytes row)
row_narrow kind bytes row h =
    slice_get-map (from_be_bytes w32) (table 4 (objects_in bytes) (drop (offsets_place kind (objects_in bytes)) bytes)) row
    ∙ ap (option_map (from_be_bytes w32)) (row_at (offsets_place kind (objects_in bytes)) 4 (objects_in bytes) bytes row h)

-- the four bytes of a row in what was read
pub narrow_read : (kind : Kind) (bytes : List ℕ) (row n place number : ℕ) → n ≡ objects_in bytes → place ≡ offsets_place kind n → number ≡ number_at (place + row * 4) bytes → row < objects_in bytes
    → slice_get (narrow_offsets kind bytes) row ≡ Some number
narrow_read kind bytes row n place number n_is place_is read below =
    let own : number ≡ narrow_at kind bytes row = read ∙ ap (λ (p : ℕ). number_at (p + row * 4) bytes) (place_is ∙ ap (offsets_place kind) n_is) in
    row_narrow kind bytes row below ∙ ap (λ (x : ℕ). Some x) (sym own)

pub row_wide : (kind : Kind) (bytes : List ℕ) (wide : ℕ) → wide < wides_in kind bytes
    → slice_get (wide_offsets kind bytes) wide ≡ Some (long_number_at (wides_place kind (objects_in bytes) + wide * 8) bytes)
row_wide kind bytes wide h =
    slice_get-map (from_be_bytes w64) (table 8 (wides_in kind bytes) (drop (wides_place kind (objects_in bytes)) bytes)) wide
    ∙ ap (option_map (from_be_bytes w64)) (row_at (wides_place kind (objects_in bytes)) 8 (wides_in kind bytes) bytes wide h)

pub wide_read : (kind : Kind) (bytes : List ℕ) (wide n place number : ℕ) → n ≡ objects_in bytes → place ≡ wides_place kind n → number ≡ long_number_at (place + wide * 8) bytes
    → wide < wides_in kind bytes
    → slice_get (wide_offsets kind bytes) wide ≡ Some number
wide_read kind bytes wide n place number n_is place_is read below =
    let own : number ≡ long_number_at (wides_place kind (objects_in bytes) + wide * 8) bytes = read ∙ ap (λ (p : ℕ). long_number_at (p + wide * 8) bytes) (place_is ∙ ap (wides_place kind) n_is) in
    row_wide kind bytes wide below ∙ ap (λ (x : ℕ). Some x) (sym own)

narrow_fits : (size n row room : ℕ) → row < n → ids_place + n * (size + 8) ≤ room → ids_place + n * (size + 4) + row * 4 + 4 ≤ room
narrow_fits size n row room below fits = omega arith

pub narrow_room : (kind : Kind) (bytes : List ℕ) (row : ℕ) → is_index kind bytes ≡ true → row < objects_in bytes → offsets_place kind (objects_in bytes) + row * 4 + 4 ≤ length bytes
narrow_room kind bytes row h below = narrow_fits (len_in_bytes_of kind) (objects_in bytes) row (length bytes) below (whole kind bytes (has_length_of kind bytes h))

pub wide_room : (kind : Kind) (bytes : List ℕ) (wide : ℕ) → is_index kind bytes ≡ true → wide < wides_in kind bytes → wides_place kind (objects_in bytes) + wide * 8 + 8 ≤ length bytes
wide_room kind bytes wide h below = let long = length_of-fits kind bytes (has_length_of kind bytes h) in omega arith

pub narrow_read_room : (kind : Kind) (bytes : List ℕ) (row n place : ℕ) → is_index kind bytes ≡ true → row < objects_in bytes → n ≡ objects_in bytes → place ≡ offsets_place kind n
    → place + row * 4 + 4 ≤ length bytes
narrow_read_room kind bytes row n place h below n_is place_is =
    rw (place_is ∙ ap (offsets_place kind) n_is) (narrow_room kind bytes row h below)

pub wide_read_room : (kind : Kind) (bytes : List ℕ) (wide n place : ℕ) → is_index kind bytes ≡ true → wide < wides_in kind bytes → n ≡ objects_in bytes → place ≡ wides_place kind n
    → place + wide * 8 + 8 ≤ length bytes
wide_read_room kind bytes wide n place h below n_is place_is =
    rw (place_is ∙ ap (wides_place kind) n_is) (wide_room kind bytes wide h below)

-- the row of the wide offsets that a narrow one refers to exists
pub wide_below : (kind : Kind) (bytes : List ℕ) (row narrow : ℕ) → is_index kind bytes ≡ true → slice_get (narrow_offsets kind bytes) row ≡ Some narrow → 2 ^ 31 ≤ narrow
    → narrow - 2 ^ 31 < wides_in kind bytes
wide_below kind bytes row narrow h own high =
    named_below (wides_in kind bytes) narrow (of_row (is_named_below (wides_in kind bytes)) (narrow_offsets kind bytes) row narrow (offsets_named kind bytes h) own) high

row_offset : (kind : Kind) (bytes : List ℕ) (row narrow : ℕ) → slice_get (narrow_offsets kind bytes) row ≡ Some narrow
    → slice_get (index_offsets kind bytes) row ≡ Some (offset_in (wide_offsets kind bytes) narrow)
row_offset kind bytes row narrow own = slice_get-map (offset_in (wide_offsets kind bytes)) (narrow_offsets kind bytes) row ∙ ap (option_map (offset_in (wide_offsets kind bytes))) own

pub narrow_offset : (kind : Kind) (bytes : List ℕ) (row narrow : ℕ) → slice_get (narrow_offsets kind bytes) row ≡ Some narrow → narrow < 2 ^ 31 → slice_get (index_offsets kind bytes) row ≡ Some narrow
narrow_offset kind bytes row narrow own low = row_offset kind bytes row narrow own ∙ ap (λ (offset : ℕ). Some offset) (offset_in-low (wide_offsets kind bytes) narrow low)

pub wide_offset : (kind : Kind) (bytes : List ℕ) (row narrow offset : ℕ) → slice_get (narrow_offsets kind bytes) row ≡ Some narrow → 2 ^ 31 ≤ narrow
    → slice_get (wide_offsets kind bytes) (narrow - 2 ^ 31) ≡ Some offset → slice_get (index_offsets kind bytes) row ≡ Some offset
wide_offset kind bytes row narrow offset own high named =
    row_offset kind bytes row narrow own
    ∙ ap (λ (place : ℕ). Some place) (offset_in-wide (wide_offsets kind bytes) narrow high ∙ get_or_from_slice_get (wide_offsets kind bytes) (narrow - 2 ^ 31) offset 0 named)
