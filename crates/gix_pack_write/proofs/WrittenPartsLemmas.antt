-- The parts of a multi-pack index, as they are written, are read back.
pub mod Rows
use Rattle.std.proofs.Common.{◌≡◌, ℕ, ◌-◌, ◌*◌, ◌/◌, ◌%◌, ◌^◌, ◌<◌, ◌==◌, ◌||◌, ◌&&◌, nat_lt, not, Bool, true, false, cond, List}
use Rattle.std.proofs.Common.{[], ◌∷◌, length, map, take, Option, Some, None, unwrap_or, refl, sym, ap, ◌∙◌, arith, eq-eqb}
use Rattle.std.specs.List.{AllByRecursion, filter, flat_map, list_all, zip}
use Rattle.std.proofs.lemmas.List.{append-nil, length-map}
use Rattle.gix_hash.specs.Kind.{len_in_bytes_of}
use Rattle.gix_hash.specs.ObjectId.{bytes_of}
use Rattle.gix_hash.specs.declared.kind.Kind.{Kind}
use Rattle.gix_hash.specs.declared.object_id.ObjectId.{ObjectId}
use Rattle.gix_pack_read.specs.Bytes.{long_numbers, number_at, numbers, same, table}
use Rattle.gix_pack_read.specs.MultiIndex.Chunks.{last_count_place}
use Rattle.gix_pack_read.specs.MultiIndex.{MultiIndex, Parts, are_parts, have_lengths, multi_index_from, objects_in, offset_rows, pack_row, part_ids}
use Rattle.gix_pack_read.specs.MultiIndex.Held.{are_names, has_offset, name_parts, offset_of_bytes}
use Rattle.gix_pack_write.specs.PlacedRow.{id_of, offset_of, pack_of, IsPlaced}
use Rattle.gix_pack_write.specs.PlacedPackRow.{pack_row_of}
use Rattle.gix_pack_read.specs.Rows.{PackRow, counts_of, ids_of, is_named_below, is_rising, offset_in}
use Rattle.gix_pack_write.specs.WrittenTables.{is_wide, long_number_bytes, narrow_from, number_bytes}
use Rattle.gix_pack_write.specs.WrittenMultiIndex.{name_bytes, needs_wide, offsets_written, pack_and_offset, padded}
use Rattle.gix_pack_write.specs.declared.rows.Placed.{Placed}
use Rattle.gix_pack_write.proofs.WrittenChunkLemmas.{names_held, names_taken}
use Rattle.gix_pack_write.proofs.WrittenTableLemmas.{counts_back, ids_back, last_count, length-counts, length-ids, length-long_number_bytes}
use Rattle.gix_pack_write.proofs.WrittenTableLemmas.{length-narrow_from, length-number_bytes, long_numbers_back, narrow_named, narrow_small, offsets_back, same_itself, wide_small}
use Rattle.gix_pack_write.proofs.WrittenPartsLemmas.Rows.{IsInPack, Pair, length-pairs, length-zip, pairs_back, rows_named, rows_paired}

-- ---- the parts

record AreWritten (wides : Option (List ℕ)) (offsets offs : List ℕ) : Type 0 where
  as_many : length offs ≡ length offsets
  small : AllByRecursion (λ (x : ℕ). x < 2 ^ 32) offs
  named : list_all (has_offset wides) offs ≡ true
  back : map (offset_of_bytes wides) offs ≡ offsets
  whole_rows : length (unwrap_or wides []) % 8 ≡ 0

abbrev pub wides_of : List ℕ → Option (List ℕ)
wides_of offsets = cond (needs_wide offsets) (Some (long_number_bytes (filter is_wide offsets))) None

eighths : (w : ℕ) → (w * 8) / 8 ≡ w
eighths w = omega arith

none_over : (w : ℕ) → (w * 8) % 8 ≡ 0
none_over w = omega arith

with_wide : (offsets : List ℕ) → length offsets < 2 ^ 31 → AllByRecursion (λ (x : ℕ). x < 2 ^ 64) (filter is_wide offsets)
    → AreWritten (Some (long_number_bytes (filter is_wide offsets))) offsets (narrow_from 0 offsets)
with_wide offsets few small =
    let w = length (filter is_wide offsets) in
    let bytes = long_number_bytes (filter is_wide offsets) in
    let long : length bytes ≡ w * 8 = length-long_number_bytes (filter is_wide offsets) in
    let rows : length bytes / 8 ≡ w = ap (λ (n : ℕ). n / 8) long ∙ eighths w in
    let read : long_numbers (length bytes / 8) bytes ≡ filter is_wide offsets =
    ap (λ (n : ℕ). long_numbers n bytes) rows ∙ ap (long_numbers w) (sym (append-nil bytes)) ∙ long_numbers_back (filter is_wide offsets) [] small in
    record {
      as_many = length-narrow_from 0 offsets;
      small = narrow_small 0 offsets (omega arith);
      named = ap (λ (n : ℕ). list_all (is_named_below n) (narrow_from 0 offsets)) rows ∙ narrow_named w 0 offsets (omega arith);
      back = ap (λ (wide : List ℕ). map (offset_in wide) (narrow_from 0 offsets)) read ∙ offsets_back [] 0 offsets refl;
      whole_rows = ap (λ (n : ℕ). n % 8) long ∙ none_over w;
    }

none_named : (offsets : List ℕ) → list_all (has_offset None) offsets ≡ true
none_named [] = refl
none_named (offset ∷ offsets) = none_named offsets

none_back : (offsets : List ℕ) → map (offset_of_bytes None) offsets ≡ offsets
none_back [] = refl
none_back (offset ∷ offsets) = ap (λ (rest : List ℕ). offset ∷ rest) (none_back offsets)

low : (offset : ℕ) (rest : Bool) → (not (nat_lt offset (2 ^ 32)) || rest) ≡ false → (offset < 2 ^ 32) × (rest ≡ false)
low offset rest h = by_test (nat_lt offset (2 ^ 32)) refl h
  where
    by_test : (t : Bool) → nat_lt offset (2 ^ 32) ≡ t → (not t || rest) ≡ false → (offset < 2 ^ 32) × (rest ≡ false)
    by_test true is h = (grind arith, h)
    by_test false is h = cc h

none_small : (offsets : List ℕ) → needs_wide offsets ≡ false → AllByRecursion (λ (x : ℕ). x < 2 ^ 32) offsets
none_small [] h = tt
none_small (offset ∷ offsets) h =
    let apart = low offset (needs_wide offsets) h in
    (apart.0, none_small offsets apart.1)

without_wide : (offsets : List ℕ) → needs_wide offsets ≡ false → AreWritten None offsets offsets
without_wide offsets none =
    record {
      as_many = refl;
      small = none_small offsets none;
      named = none_named offsets;
      back = none_back offsets;
      whole_rows = refl;
    }

written_by : (wide : Bool) (offsets : List ℕ) → needs_wide offsets ≡ wide → length offsets < 2 ^ 31 → AllByRecursion (λ (x : ℕ). x < 2 ^ 64) (filter is_wide offsets)
    → AreWritten (cond wide (Some (long_number_bytes (filter is_wide offsets))) None) offsets (cond wide (narrow_from 0 offsets) offsets)
written_by true offsets is few small = with_wide offsets few small
written_by false offsets is few small = without_wide offsets is

all_five : (a b c d e : Bool) → a ≡ true → b ≡ true → c ≡ true → d ≡ true → e ≡ true → (a && b && c && d && e) ≡ true
all_five a b c d e u v w x y = rw (u, v, w, x, y) refl

all_four : (a b c d : Bool) → a ≡ true → b ≡ true → c ≡ true → d ≡ true → (a && b && c && d) ≡ true
all_four a b c d u v w x = rw (u, v, w, x) refl

module _ (hash : Kind) (names : List (List ℕ)) (rows : List Placed) (placed : AllByRecursion (IsPlaced hash) rows) (known : AllByRecursion (IsInPack (length names)) rows) (few : length rows < 2 ^ 31)
    (rising : is_rising (map id_of rows) ≡ true) (are : are_names names ≡ true) where
  abbrev offsets : List ℕ
  offsets = map offset_of rows

  abbrev offs : List ℕ
  offs = offsets_written offsets

  abbrev pairs : List Pair
  pairs = zip (map pack_of rows) offs

  abbrev pub parts_written : Parts
  parts_written =
      record {
        names = padded (name_bytes names);
        counts = number_bytes (counts_of (map id_of rows));
        ids = flat_map bytes_of (map id_of rows);
        offsets = flat_map pack_and_offset pairs;
        wides = wides_of offsets;
      }

  written : AreWritten (wides_of offsets) offsets offs
  written =
      let many = length-map rows offset_of in
      written_by (needs_wide offsets) offsets refl (omega arith) (wide_small hash rows placed)

  as_many_offs : length offs ≡ length rows
  as_many_offs = written.as_many ∙ length-map rows offset_of

  as_many_pairs : length pairs ≡ length rows
  as_many_pairs = length-zip rows offs as_many_offs

  count_is : objects_in parts_written ≡ length rows
  count_is = ap (number_at last_count_place) (sym (append-nil (number_bytes (counts_of (map id_of rows))))) ∙ last_count hash [] rows [] last_count_place placed few refl

  ids_are : part_ids hash parts_written ≡ map id_of rows
  ids_are =
      ap (λ (n : ℕ). ids_of hash n (flat_map bytes_of (map id_of rows))) count_is
      ∙ ap (ids_of hash (length rows)) (sym (append-nil (flat_map bytes_of (map id_of rows)))) ∙ ids_back hash rows [] placed

  rows_are : offset_rows parts_written ≡ map pack_and_offset pairs
  rows_are = ap (λ (n : ℕ). table 8 n (flat_map pack_and_offset pairs)) (count_is ∙ sym as_many_pairs) ∙ pairs_back pairs

  lengths : have_lengths hash parts_written ≡ true
  lengths =
      let n = length rows in
      let one : (length (number_bytes (counts_of (map id_of rows))) == 1024) ≡ true =
      eq-eqb (length (number_bytes (counts_of (map id_of rows)))) 1024 (length-number_bytes (counts_of (map id_of rows)) ∙ ap (λ (k : ℕ). k * 4) (length-counts rows)) in
      let two : (length (flat_map bytes_of (map id_of rows)) == objects_in parts_written * len_in_bytes_of hash) ≡ true =
      eq-eqb (length (flat_map bytes_of (map id_of rows))) (objects_in parts_written * len_in_bytes_of hash) (length-ids hash rows placed ∙ ap (λ (k : ℕ). k * len_in_bytes_of hash) (sym count_is)) in
      let three : (length (flat_map pack_and_offset pairs) == objects_in parts_written * 8) ≡ true =
      eq-eqb (length (flat_map pack_and_offset pairs)) (objects_in parts_written * 8) (length-pairs pairs ∙ ap (λ (k : ℕ). k * 8) (as_many_pairs ∙ sym count_is)) in
      let four : (length (unwrap_or (wides_of offsets) []) % 8 == 0) ≡ true = eq-eqb (length (unwrap_or (wides_of offsets) []) % 8) 0 written.whole_rows in
      all_four _ _ _ _ one two three four

  counts_are : same (numbers 256 (number_bytes (counts_of (map id_of rows)))) (counts_of (part_ids hash parts_written)) ≡ true
  counts_are =
      ap (λ (ids : List ObjectId). same (numbers 256 (number_bytes (counts_of (map id_of rows)))) (counts_of ids)) ids_are
      ∙ ap (λ (bytes : List ℕ). same (numbers 256 bytes) (counts_of (map id_of rows))) (sym (append-nil (number_bytes (counts_of (map id_of rows)))))
      ∙ ap (λ (xs : List ℕ). same xs (counts_of (map id_of rows))) (counts_back rows [] few) ∙ same_itself (counts_of (map id_of rows))

  all_named : list_all (λ row. nat_lt (number_at 0 row) (length names) && has_offset (wides_of offsets) (number_at 4 row)) (offset_rows parts_written) ≡ true
  all_named =
      ap (list_all (λ (row : List ℕ). nat_lt (number_at 0 row) (length names) && has_offset (wides_of offsets) (number_at 4 row))) rows_are
      ∙ rows_named (length names) (wides_of offsets) hash rows offs as_many_offs placed known written.small written.named

  pub parts_agree : are_parts hash (length names) parts_written ≡ true
  unfolding are_parts
  parts_agree =
      all_five _ _ _ _ _ lengths (names_held names ((4 - length (name_bytes names) % 4) % 4) are) (ap is_rising ids_are ∙ rising) counts_are all_named

  pub told : multi_index_from hash (length names) parts_written ≡ Some (record { kind = hash; names = names; rows = map pack_row_of rows })
  unfolding multi_index_from
  told =
      let taken : take (length names) (name_parts (padded (name_bytes names))) ≡ names = names_taken names ((4 - length (name_bytes names) % 4) % 4) are in
      let seen : map (pack_row (wides_of offsets)) (zip (part_ids hash parts_written) (offset_rows parts_written)) ≡ map pack_row_of rows =
      ap (λ (ids : List ObjectId). map (pack_row (wides_of offsets)) (zip ids (offset_rows parts_written))) ids_are
      ∙ ap (λ (zs : List (List ℕ)). map (pack_row (wides_of offsets)) (zip (map id_of rows) zs)) rows_are
      ∙ rows_paired (length names) (wides_of offsets) hash rows offs placed written.small written.back in
      let index : List (List ℕ) → List PackRow → MultiIndex = λ (n : List (List ℕ)) (r : List PackRow). record { kind = hash; names = n; rows = r } in
      ap (λ (is : Bool). cond is (Some (index (take (length names) (name_parts (padded (name_bytes names))))
      (map (pack_row (wides_of offsets)) (zip (part_ids hash parts_written) (offset_rows parts_written))))) None) parts_agree
      ∙ ap (λ (n : List (List ℕ)). Some (index n (map (pack_row (wides_of offsets)) (zip (part_ids hash parts_written) (offset_rows parts_written))))) taken
      ∙ ap (λ (r : List PackRow). Some (index names r)) seen
