-- Indices as they are written: each is that of its objects, and is read back.
pub mod Written
use Rattle.std.proofs.Common.{◌≡◌, ℕ, ◌+◌, ◌-◌, ◌*◌, ◌/◌, ◌^◌, ◌<◌, ◌≤◌, ◌&&◌, nat_eq, Bool, true, cond, List, [], ◌∷◌, ◌++◌, length}
use Rattle.std.proofs.Common.{map, drop, replicate, Some, None, append_assoc, length-append, refl, sym, ap, ◌∙◌, arith, eq-eqb}
use lib.Pointwise.{pointwise}
use Rattle.std.specs.List.{AllByRecursion, filter, flat_map, list_all, starts_with, zip}
use Rattle.std.proofs.lemmas.List.{drop_at, length-map, length-replicate, take_at}
use Rattle.gix_hash.specs.Kind.{len_in_bytes_of}
use Rattle.gix_hash.specs.ObjectId.{bytes_of}
use Rattle.gix_hash.specs.declared.kind.Kind.{Kind}
use Rattle.gix_hash.specs.declared.object_id.ObjectId.{ObjectId}
use Rattle.gix_pack_read.specs.Bytes.{long_numbers, numbers, same}
use Rattle.gix_pack_read.specs.Index.{counts_place, has_length, ids_place, index_ids, index_offsets, index_rows, is_index, last_count_place}
use Rattle.gix_pack_read.specs.Index.{narrow_offsets, objects_in, offsets_place, rows_of_index, signature, tables_agree, wide_offsets, wides_in, wides_place}
use Rattle.gix_pack_write.specs.PlacedRow.{id_of, offset_of, row_of, IsPlaced}
use Rattle.gix_pack_read.specs.Rows.{Row, counts_len, counts_of, ids_of, is_named_below, is_rising, offset_in}
use Rattle.gix_pack_write.specs.WrittenTables.{is_wide, long_number_bytes, narrow_from, number_bytes}
use Rattle.gix_pack_write.specs.declared.rows.Placed.{Placed}
use Rattle.gix_pack_write.proofs.WrittenTableLemmas.{counts_back, ids_back, last_count, length-counts, length-ids, length-long_number_bytes, length-narrow_from}
use Rattle.gix_pack_write.proofs.WrittenTableLemmas.{length-number_bytes, long_numbers_back, narrow_named, narrow_small, numbers_back, offsets_back, same_itself, wide_small}

-- ---- an index is read back

rows_zipped : (rows : List Placed) → map (λ (row : ObjectId × ℕ). record { id = row.0; offset = row.1 }) (zip (map id_of rows) (map offset_of rows)) ≡ map row_of rows
rows_zipped [] = refl
rows_zipped (row ∷ rows) = ap (λ (rest : List Row). row_of row ∷ rest) (rows_zipped rows)

room : (n h w all : ℕ) → all ≡ ids_place + n * h + 8 * n + 8 * w + 2 * h → (all - (ids_place + n * (h + 8) + 2 * h)) / 8 ≡ w
room n h w all long = omega arith

whole_length : (n h w all : ℕ) → all ≡ ids_place + n * h + 8 * n + 8 * w + 2 * h → all ≡ ids_place + n * (h + 8) + 8 * w + 2 * h
whole_length n h w all long = omega arith

-- ---- lists one after another

two_long : (a b : List ℕ) (x y z : ℕ) → length a ≡ x → length b ≡ y → x + y ≡ z → length (a ++ b) ≡ z
two_long a b x y z one two is = let both = length-append a b in omega arith

all_long : (s c i z n w p o : List ℕ) (rows size wide : ℕ) → length s ≡ counts_place → length c ≡ counts_len → length i ≡ rows * size → length z ≡ 4 * rows → length n ≡ rows * 4
    → length w ≡ wide * 8 → length p ≡ size → length o ≡ size
    → length (s ++ (c ++ (i ++ (z ++ (n ++ (w ++ (p ++ o))))))) ≡ ids_place + rows * size + 8 * rows + 8 * wide + 2 * size
all_long s c i z n w p o rows size wide one two three four five six seven eight =
    let a = length-append s (c ++ (i ++ (z ++ (n ++ (w ++ (p ++ o)))))) in
    let b = length-append c (i ++ (z ++ (n ++ (w ++ (p ++ o))))) in
    let d = length-append i (z ++ (n ++ (w ++ (p ++ o)))) in
    let e = length-append z (n ++ (w ++ (p ++ o))) in
    let f = length-append n (w ++ (p ++ o)) in
    let g = length-append w (p ++ o) in
    let h = length-append p o in
    omega arith

to_ids : (s c i rest : List ℕ) → s ++ (c ++ (i ++ rest)) ≡ (s ++ c) ++ (i ++ rest)
to_ids s c i rest = sym (append_assoc s c (i ++ rest))

to_narrow_part : (s c i z rest : List ℕ) → s ++ (c ++ (i ++ (z ++ rest))) ≡ ((s ++ c) ++ (i ++ z)) ++ rest
to_narrow_part s c i z rest = simp append_assoc

to_wide_part : (s c i z n rest : List ℕ) → s ++ (c ++ (i ++ (z ++ (n ++ rest)))) ≡ (((s ++ c) ++ (i ++ z)) ++ n) ++ rest
to_wide_part s c i z n rest = simp append_assoc

pub all_nested : (s c i z n w p o : List ℕ) → ((((((s ++ c) ++ i) ++ z) ++ n) ++ w) ++ p) ++ o ≡ s ++ (c ++ (i ++ (z ++ (n ++ (w ++ (p ++ o))))))
all_nested s c i z n w p o = simp append_assoc

narrow_place : (n h : ℕ) → ids_place + (n * h + 4 * n) ≡ ids_place + n * (h + 4)
narrow_place n h = omega arith

wide_place : (n h : ℕ) → ids_place + n * (h + 4) + n * 4 ≡ ids_place + n * (h + 8)
wide_place n h = omega arith

module _ (hash : Kind) (rows : List Placed) (pack own : List ℕ) (placed : AllByRecursion (IsPlaced hash) rows) (few : length rows < 2 ^ 31) (rising : is_rising (map id_of rows) ≡ true)
    (pack_long : length pack ≡ len_in_bytes_of hash) (own_long : length own ≡ len_in_bytes_of hash) where
  abbrev n : ℕ
  n = length rows

  abbrev h : ℕ
  h = len_in_bytes_of hash

  abbrev offsets : List ℕ
  offsets = map offset_of rows

  abbrev wide : List ℕ
  wide = filter is_wide offsets

  abbrev counts_part : List ℕ
  counts_part = number_bytes (counts_of (map id_of rows))

  abbrev ids_part : List ℕ
  ids_part = flat_map bytes_of (map id_of rows)

  abbrev zeros : List ℕ
  zeros = replicate (4 * n) 0

  abbrev narrow_part : List ℕ
  narrow_part = number_bytes (narrow_from 0 offsets)

  abbrev wide_part : List ℕ
  wide_part = long_number_bytes wide

  abbrev end : List ℕ
  end = pack ++ own

  abbrev bytes : List ℕ
  bytes = signature ++ (counts_part ++ (ids_part ++ (zeros ++ (narrow_part ++ (wide_part ++ end)))))

  counts_long : length counts_part ≡ counts_len
  counts_long = length-number_bytes (counts_of (map id_of rows)) ∙ ap (λ (k : ℕ). k * 4) (length-counts rows)

  ids_long : length ids_part ≡ n * h
  ids_long = length-ids hash rows placed

  zeros_long : length zeros ≡ 4 * n
  zeros_long = length-replicate (4 * n) 0

  narrow_many : length (narrow_from 0 offsets) ≡ n
  narrow_many = length-narrow_from 0 offsets ∙ length-map rows offset_of

  narrow_long : length narrow_part ≡ n * 4
  narrow_long = length-number_bytes (narrow_from 0 offsets) ∙ ap (λ (k : ℕ). k * 4) narrow_many

  wide_long : length wide_part ≡ length wide * 8
  wide_long = length-long_number_bytes wide

  long : length bytes ≡ ids_place + n * h + 8 * n + 8 * length wide + 2 * h
  long = all_long signature counts_part ids_part zeros narrow_part wide_part pack own n h (length wide) refl counts_long ids_long zeros_long narrow_long wide_long pack_long own_long

  count_is : objects_in bytes ≡ n
  count_is = last_count hash signature rows (ids_part ++ (zeros ++ (narrow_part ++ (wide_part ++ end)))) last_count_place placed few refl

  wides_are : wides_in hash bytes ≡ length wide
  wides_are =
      ap (λ (k : ℕ). (length bytes - (wides_place hash k + 2 * h)) / 8) count_is ∙ room n h (length wide) (length bytes) long

  length_fits : has_length hash bytes ≡ true
  length_fits =
      eq-eqb (length bytes) (wides_place hash (objects_in bytes) + 8 * wides_in hash bytes + 2 * h)
      (whole_length n h (length wide) (length bytes) long
      ∙ sym (ap (λ (k : ℕ). wides_place hash k + 8 * wides_in hash bytes + 2 * h) count_is ∙ ap (λ (k : ℕ). wides_place hash n + 8 * k + 2 * h) wides_are))

  ids_are : index_ids hash bytes ≡ map id_of rows
  ids_are =
      let behind = zeros ++ (narrow_part ++ (wide_part ++ end)) in
      ap (λ (k : ℕ). ids_of hash k (drop ids_place bytes)) count_is
      ∙ ap (λ (rest : List ℕ). ids_of hash n rest)
      (ap (drop ids_place) (to_ids signature counts_part ids_part behind) ∙ drop_at (signature ++ counts_part) (ids_part ++ behind) ids_place
      (two_long signature counts_part counts_place counts_len ids_place refl counts_long refl))
      ∙ ids_back hash rows behind placed

  counts_are : numbers 256 (drop counts_place bytes) ≡ counts_of (map id_of rows)
  counts_are =
      ap (numbers 256) (drop_at signature (counts_part ++ (ids_part ++ (zeros ++ (narrow_part ++ (wide_part ++ end))))) 8 refl)
      ∙ counts_back rows (ids_part ++ (zeros ++ (narrow_part ++ (wide_part ++ end)))) few

  abbrev to_narrow : List ℕ
  to_narrow = (signature ++ counts_part) ++ (ids_part ++ zeros)

  to_narrow_long : length to_narrow ≡ offsets_place hash n
  to_narrow_long =
      two_long (signature ++ counts_part) (ids_part ++ zeros) ids_place (n * h + 4 * n) (offsets_place hash n) (two_long signature counts_part counts_place counts_len ids_place refl counts_long refl)
      (two_long ids_part zeros (n * h) (4 * n) (n * h + 4 * n) ids_long zeros_long refl) (narrow_place n h)

  narrow_are : narrow_offsets hash bytes ≡ narrow_from 0 offsets
  narrow_are =
      let behind = wide_part ++ end in
      let few_offsets : 0 + length offsets ≤ 2 ^ 31 = omega (arith, length-map rows offset_of) in
      ap (λ (k : ℕ). numbers k (drop (offsets_place hash k) bytes)) count_is
      ∙ ap (λ (rest : List ℕ). numbers n rest) (ap (drop (offsets_place hash n)) (to_narrow_part signature counts_part ids_part zeros (narrow_part ++ behind))
      ∙ drop_at to_narrow (narrow_part ++ behind) (offsets_place hash n) to_narrow_long)
      ∙ ap (λ (k : ℕ). numbers k (narrow_part ++ behind)) (sym narrow_many)
      ∙ numbers_back (narrow_from 0 offsets) behind (narrow_small 0 offsets few_offsets)

  abbrev to_wide : List ℕ
  to_wide = to_narrow ++ narrow_part

  to_wide_long : length to_wide ≡ wides_place hash n
  to_wide_long = two_long to_narrow narrow_part (offsets_place hash n) (n * 4) (wides_place hash n) to_narrow_long narrow_long (wide_place n h)

  wide_are : wide_offsets hash bytes ≡ wide
  wide_are =
      ap (λ (k : ℕ). long_numbers (wides_in hash bytes) (drop (wides_place hash k) bytes)) count_is
      ∙ ap (λ (rest : List ℕ). long_numbers (wides_in hash bytes) rest)
      (ap (drop (wides_place hash n)) (to_wide_part signature counts_part ids_part zeros narrow_part (wide_part ++ end)) ∙ drop_at to_wide (wide_part ++ end) (wides_place hash n) to_wide_long)
      ∙ ap (λ (k : ℕ). long_numbers k (wide_part ++ end)) wides_are
      ∙ long_numbers_back wide end (wide_small hash rows placed)

  starts : starts_with nat_eq bytes signature ≡ true
  starts = ap (pointwise nat_eq signature) (take_at signature (counts_part ++ (ids_part ++ (zeros ++ (narrow_part ++ (wide_part ++ end))))) 8 refl) ∙ same_itself signature

  all_named : list_all (is_named_below (wides_in hash bytes)) (narrow_offsets hash bytes) ≡ true
  all_named =
      ap (λ (k : ℕ). list_all (is_named_below k) (narrow_offsets hash bytes)) wides_are
      ∙ ap (list_all (is_named_below (length wide))) narrow_are
      ∙ narrow_named (length wide) 0 offsets (omega arith)

  tables_fit : tables_agree hash bytes ≡ true
  unfolding tables_agree
  tables_fit =
      let one : is_rising (index_ids hash bytes) ≡ true = ap is_rising ids_are ∙ rising in
      let two : same (numbers 256 (drop counts_place bytes)) (counts_of (index_ids hash bytes)) ≡ true =
      ap (λ (ids : List ObjectId). same (numbers 256 (drop counts_place bytes)) (counts_of ids)) ids_are
      ∙ ap (λ (xs : List ℕ). same xs (counts_of (map id_of rows))) counts_are ∙ same_itself (counts_of (map id_of rows)) in
      all_three (is_rising (index_ids hash bytes)) (same (numbers 256 (drop counts_place bytes)) (counts_of (index_ids hash bytes)))
      (list_all (is_named_below (wides_in hash bytes)) (narrow_offsets hash bytes)) one two all_named
    where
      all_three : (a b c : Bool) → a ≡ true → b ≡ true → c ≡ true → (a && b && c) ≡ true
      all_three a b c x y z = rw (x, y, z) refl

  is_one : is_index hash bytes ≡ true
  unfolding is_index
  is_one = all_three (starts_with nat_eq bytes signature) (has_length hash bytes) (tables_agree hash bytes) starts length_fits tables_fit
    where
      all_three : (a b c : Bool) → a ≡ true → b ≡ true → c ≡ true → (a && b && c) ≡ true
      all_three a b c x y z = rw (x, y, z) refl

  offsets_are : index_offsets hash bytes ≡ offsets
  offsets_are =
      ap (λ (xs : List ℕ). map (offset_in xs) (narrow_offsets hash bytes)) wide_are ∙ ap (map (offset_in wide)) narrow_are ∙ offsets_back [] 0 offsets refl

  rows_are : index_rows hash bytes ≡ map row_of rows
  rows_are =
      ap (λ (ids : List ObjectId). map (λ (row : ObjectId × ℕ). record { id = row.0; offset = row.1 }) (zip ids (index_offsets hash bytes))) ids_are
      ∙ ap (λ (xs : List ℕ). map (λ (row : ObjectId × ℕ). record { id = row.0; offset = row.1 }) (zip (map id_of rows) xs)) offsets_are
      ∙ rows_zipped rows

  pub index_read : rows_of_index hash bytes ≡ Some (map row_of rows)
  index_read = ap (λ (is : Bool). cond is (Some (index_rows hash bytes)) None) is_one ∙ ap (λ (seen : List Row). Some seen) rows_are
