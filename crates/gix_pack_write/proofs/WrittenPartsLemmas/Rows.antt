-- Rows of packs and offsets, as they are written, are read back.
use Rattle.std.proofs.Common.{◌≡◌, ℕ, suc, ◌*◌, ◌^◌, ◌<◌, ◌&&◌, nat_lt, Bool, true, false, List, [], ◌∷◌, length, map, take, Option, refl, sym, ap, ◌∙◌, arith}
use Rattle.std.proofs.lemmas.Bool.{lt-ltb}
use Rattle.std.specs.List.{AllByRecursion, flat_map, list_all, zip}
use Rattle.std.specs.Int.{w32, from_be_bytes, to_be_bytes}
use Rattle.std.proofs.lemmas.List.{append-nil, drop_at, take_at}
use Rattle.std.proofs.lemmas.Nat.{from_be_bytes-to_be_bytes_4}
use Rattle.gix_hash.specs.declared.kind.Kind.{Kind}
use Rattle.gix_pack_read.specs.Bytes.{number_at, table}
use Rattle.gix_pack_read.specs.MultiIndex.Held.{has_offset, offset_of_bytes}
use Rattle.gix_pack_read.specs.MultiIndex.{pack_row}
use Rattle.gix_pack_write.specs.PlacedRow.{id_of, offset_of, pack_of, IsPlaced}
use Rattle.gix_pack_write.specs.PlacedPackRow.{pack_row_of}
use Rattle.gix_pack_read.specs.Rows.{PackRow}
use Rattle.gix_pack_write.specs.WrittenMultiIndex.{pack_and_offset}
use Rattle.gix_pack_write.specs.declared.rows.Placed.{Placed}
use Rattle.gix_pack_write.proofs.WrittenTableLemmas.{length_flat, table_back}

-- ---- rows of packs and offsets

abbrev pub Pair : Type 0
Pair = ℕ × ℕ

pair_size : (z : Pair) → length (pack_and_offset z) ≡ 8
pair_size z = refl

first_number : (z : Pair) → z.0 < 2 ^ 32 → number_at 0 (pack_and_offset z) ≡ z.0
first_number z small = ap (from_be_bytes w32) (take_at (to_be_bytes w32 z.0) (to_be_bytes w32 z.1) 4 refl) ∙ from_be_bytes-to_be_bytes_4 z.0 small

second_number : (z : Pair) → z.1 < 2 ^ 32 → number_at 4 (pack_and_offset z) ≡ z.1
second_number z small =
    ap (λ (bytes : List ℕ). from_be_bytes w32 (take 4 bytes)) (drop_at (to_be_bytes w32 z.0) (to_be_bytes w32 z.1) 4 refl)
    ∙ ap (from_be_bytes w32) (ap (take 4) (sym (append-nil (to_be_bytes w32 z.1))) ∙ take_at (to_be_bytes w32 z.1) [] 4 refl) ∙ from_be_bytes-to_be_bytes_4 z.1 small

sizes : (zs : List Pair) → AllByRecursion (λ (z : Pair). length (pack_and_offset z) ≡ 8) zs
sizes [] = tt
sizes (z ∷ zs) = (refl, sizes zs)

pub pairs_back : (zs : List Pair) → table 8 (length zs) (flat_map pack_and_offset zs) ≡ map pack_and_offset zs
pairs_back zs = ap (table 8 (length zs)) (sym (append-nil (flat_map pack_and_offset zs))) ∙ table_back 8 pack_and_offset zs [] (sizes zs)

pub length-pairs : (zs : List Pair) → length (flat_map pack_and_offset zs) ≡ length zs * 8
length-pairs zs = length_flat 8 pack_and_offset zs (sizes zs)

pub length-zip : (rows : List Placed) (offs : List ℕ) → length offs ≡ length rows → length (zip (map pack_of rows) offs) ≡ length rows
length-zip [] offs same_length = refl
length-zip (row ∷ rows) [] same_length = absurd (omega arith)
length-zip (row ∷ rows) (off ∷ offs) same_length = ap (λ (n : ℕ). suc n) (length-zip rows offs (omega arith))

-- what is known of a row: its pack is one of `packs`
pub record IsInPack (packs : ℕ) (row : Placed) : Type 0 where
  pub known : row.pack < packs

module _ (packs : ℕ) (wides : Option (List ℕ)) where
  -- each row has a pack and an offset
  pub rows_named : (hash : Kind) (rows : List Placed) (offs : List ℕ) → length offs ≡ length rows → AllByRecursion (IsPlaced hash) rows → AllByRecursion (IsInPack packs) rows
      → AllByRecursion (λ (x : ℕ). x < 2 ^ 32) offs
      → list_all (has_offset wides) offs ≡ true
      → list_all (λ row. nat_lt (number_at 0 row) packs && has_offset wides (number_at 4 row)) (map pack_and_offset (zip (map pack_of rows) offs)) ≡ true
  rows_named hash [] offs same_length placed known small named = refl
  rows_named hash (row ∷ rows) [] same_length placed known small named = absurd (omega arith)
  rows_named hash (row ∷ rows) (off ∷ offs) same_length placed known small named =
      let apart = test_apart (has_offset wides off) (list_all (has_offset wides) offs) named in
      let pack = first_number (row.pack, off) placed.0.pack in
      let offset = second_number (row.pack, off) small.0 in
      let one : nat_lt (number_at 0 (pack_and_offset (row.pack, off))) packs ≡ true = ap (λ (n : ℕ). nat_lt n packs) pack ∙ lt-ltb row.pack packs known.0.known in
      let two : has_offset wides (number_at 4 (pack_and_offset (row.pack, off))) ≡ true = ap (has_offset wides) offset ∙ apart.0 in
      let rest = rows_named hash rows offs (omega arith) placed.1 known.1 small.1 apart.1 in
      rw (one, two, rest) refl
    where
      test_apart : (a b : Bool) → (a && b) ≡ true → (a ≡ true) × (b ≡ true)
      test_apart true b h = (refl, h)
      test_apart false b h = cc h

  -- the rows are read back from their packs and offsets
  pub rows_paired : (hash : Kind) (rows : List Placed) (offs : List ℕ) → AllByRecursion (IsPlaced hash) rows → AllByRecursion (λ (x : ℕ). x < 2 ^ 32) offs
      → map (offset_of_bytes wides) offs ≡ map offset_of rows
      → map (pack_row wides) (zip (map id_of rows) (map pack_and_offset (zip (map pack_of rows) offs))) ≡ map pack_row_of rows
  rows_paired hash [] offs placed small are = refl
  rows_paired hash (row ∷ rows) [] placed small are = cc are
  rows_paired hash (row ∷ rows) (off ∷ offs) placed small are =
      let own : offset_of_bytes wides off ≡ row.offset = cc are in
      let others : map (offset_of_bytes wides) offs ≡ map offset_of rows = cc are in
      let pack = first_number (row.pack, off) placed.0.pack in
      let offset = second_number (row.pack, off) small.0 in
      ap (λ (p : ℕ). record { id = row.id; pack = p; offset = offset_of_bytes wides (number_at 4 (pack_and_offset (row.pack, off))) } ∷ map (pack_row wides)
      (zip (map id_of rows) (map pack_and_offset (zip (map pack_of rows) offs)))) pack
      ∙ ap (λ (o : ℕ). record { id = row.id; pack = row.pack; offset = o } ∷ map (pack_row wides) (zip (map id_of rows) (map pack_and_offset (zip (map pack_of rows) offs))))
      (ap (offset_of_bytes wides) offset ∙ own)
      ∙ ap (λ (seen : List PackRow). pack_row_of row ∷ seen) (rows_paired hash rows offs placed.1 small.1 others)
