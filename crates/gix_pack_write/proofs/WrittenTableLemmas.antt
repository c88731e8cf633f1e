-- Tables that were written, read back: numbers, ids, counts and offsets.
use Rattle.std.proofs.Common.{◌≡◌, ℕ, Bool, cond, suc, ◌+◌, ◌-◌, ◌*◌, ◌^◌, ◌<◌, ◌≤◌, ◌⊎◌, inl, inr, nat_lt, nat_eq, true, false, List, [], ◌∷◌}
use Rattle.std.proofs.Common.{◌++◌, length, map, take, drop, slice_index, append_assoc, length-append, refl, sym, ap, ◌∙◌, arith}
use Rattle.std.specs.List.{AllByRecursion, filter, flat_map, list_all, range_with_len}
use Rattle.std.specs.Int.{w32, w64, from_be_bytes, to_be_bytes}
use Rattle.std.proofs.lemmas.List.{append-nil, drop_at, get_or_at, length-map, take_at}
use Rattle.std.proofs.lemmas.List.FromFn.{length-map-range_with_len, map-range_with_len_more}
use Rattle.std.proofs.lemmas.Nat.{from_be_bytes-to_be_bytes_4, from_be_bytes-to_be_bytes_8}
use Rattle.gix_hash.specs.Kind.{len_in_bytes_of}
use Rattle.gix_hash.specs.Hash.{hash_of}
use Rattle.gix_hash.specs.ObjectId.{bytes_of, kind_of, IsId}
use Rattle.gix_hash.specs.declared.kind.Kind.{Kind}
use Rattle.gix_hash.specs.declared.object_id.ObjectId.{ObjectId}
use Rattle.gix_hash.specs.declared.object_id.ObjectId.TheVariants.{Sha1, Sha256}
use Rattle.gix_hash.proofs.HashLemmas.{kind_of-hash_of}
use Rattle.gix_pack_read.specs.Bytes.{long_numbers, number_at, numbers, same, table}
use Rattle.gix_pack_write.specs.PlacedRow.{id_of, offset_of, IsPlaced}
use Rattle.gix_pack_read.specs.Rows.{count_to, counts_of, high_bit, id_from, ids_of, is_named_below, offset_in}
use Rattle.gix_pack_write.specs.WrittenTables.{is_wide, long_number_bytes, narrow_from, number_bytes}
use Rattle.gix_pack_write.specs.declared.rows.Placed.{Placed}
use Rattle.gix_pack_write.proofs.PlacedLemmas.Counts.{counts_all, counts_within}
use Rattle.gix_pack_read.proofs.OffsetLaws.{offset_in-low}

-- ---- lists

pub same_itself : (xs : List ℕ) → same xs xs ≡ true
same_itself [] = refl
same_itself (x ∷ xs) =
    let one : nat_eq x x ≡ true = grind arith in
    rw (one, same_itself xs) refl

-- a table of pieces of equal size
pub table_back : {X : Type 0} (size : ℕ) (f : X → List ℕ) (xs : List X) (rest : List ℕ) → AllByRecursion (λ (x : X). length (f x) ≡ size) xs → table size (length xs) (flat_map f xs ++ rest) ≡ map f xs
unfolding table
table_back size f [] rest sizes = refl
table_back size f (x ∷ xs) rest sizes =
    let whole : (f x ++ flat_map f xs) ++ rest ≡ f x ++ (flat_map f xs ++ rest) = append_assoc (f x) (flat_map f xs) rest in
    let first : take size (f x ++ (flat_map f xs ++ rest)) ≡ f x = take_at (f x) (flat_map f xs ++ rest) size sizes.0 in
    let others : drop size (f x ++ (flat_map f xs ++ rest)) ≡ flat_map f xs ++ rest = drop_at (f x) (flat_map f xs ++ rest) size sizes.0 in
    rw (whole, first, others, table_back size f xs rest sizes.1) refl

pub length_flat : {X : Type 0} (size : ℕ) (f : X → List ℕ) (xs : List X) → AllByRecursion (λ (x : X). length (f x) ≡ size) xs → length (flat_map f xs) ≡ length xs * size
length_flat size f [] sizes = omega arith
length_flat size f (x ∷ xs) sizes =
    let one = sizes.0 in
    let both = length-append (f x) (flat_map f xs) in
    let rest = length_flat size f xs sizes.1 in
    omega arith

map_back : {X Y : Type 0} (f : X → Y) (g : Y → X) (xs : List X) → AllByRecursion (λ (x : X). g (f x) ≡ x) xs → map g (map f xs) ≡ xs
map_back f g [] all = refl
map_back f g (x ∷ xs) all = rw (all.0, map_back f g xs all.1) refl

each_by : {X : Type 0} (P Q : X → Type 0) → ((x : X) → P x → Q x) → (xs : List X) → AllByRecursion P xs → AllByRecursion Q xs
each_by P Q gives [] all = tt
each_by P Q gives (x ∷ xs) all = (gives x all.0, each_by P Q gives xs all.1)

each_is : {X : Type 0} (Q : X → Type 0) → ((x : X) → Q x) → (xs : List X) → AllByRecursion Q xs
each_is Q holds [] = tt
each_is Q holds (x ∷ xs) = (holds x, each_is Q holds xs)

each_map : {X Y : Type 0} (f : X → Y) (Q : Y → Type 0) → ((x : X) → Q (f x)) → (xs : List X) → AllByRecursion Q (map f xs)
each_map f Q holds [] = tt
each_map f Q holds (x ∷ xs) = (holds x, each_map f Q holds xs)

-- ---- numbers

four : (n : ℕ) → length (to_be_bytes w32 n) ≡ 4
four n = refl

eight : (n : ℕ) → length (to_be_bytes w64 n) ≡ 8
eight n = refl

pub length-number_bytes : (xs : List ℕ) → length (number_bytes xs) ≡ length xs * 4
length-number_bytes xs = length_flat 4 (to_be_bytes w32) xs (each_is (λ (x : ℕ). length (to_be_bytes w32 x) ≡ 4) four xs)

pub length-long_number_bytes : (xs : List ℕ) → length (long_number_bytes xs) ≡ length xs * 8
length-long_number_bytes xs = length_flat 8 (to_be_bytes w64) xs (each_is (λ (x : ℕ). length (to_be_bytes w64 x) ≡ 8) eight xs)

pub numbers_back : (xs : List ℕ) (rest : List ℕ) → AllByRecursion (λ (x : ℕ). x < 2 ^ 32) xs → numbers (length xs) (number_bytes xs ++ rest) ≡ xs
numbers_back xs rest small =
    ap (map (from_be_bytes w32)) (table_back 4 (to_be_bytes w32) xs rest (each_is (λ (x : ℕ). length (to_be_bytes w32 x) ≡ 4) four xs))
    ∙ map_back (to_be_bytes w32) (from_be_bytes w32) xs (each_by (λ (x : ℕ). x < 2 ^ 32) (λ (x : ℕ). from_be_bytes w32 (to_be_bytes w32 x) ≡ x) from_be_bytes-to_be_bytes_4 xs small)

pub long_numbers_back : (xs : List ℕ) (rest : List ℕ) → AllByRecursion (λ (x : ℕ). x < 2 ^ 64) xs → long_numbers (length xs) (long_number_bytes xs ++ rest) ≡ xs
long_numbers_back xs rest small =
    ap (map (from_be_bytes w64)) (table_back 8 (to_be_bytes w64) xs rest (each_is (λ (x : ℕ). length (to_be_bytes w64 x) ≡ 8) eight xs))
    ∙ map_back (to_be_bytes w64) (from_be_bytes w64) xs (each_by (λ (x : ℕ). x < 2 ^ 64) (λ (x : ℕ). from_be_bytes w64 (to_be_bytes w64 x) ≡ x) from_be_bytes-to_be_bytes_8 xs small)

-- a number after some bytes
pub number_back : (front : List ℕ) (n : ℕ) (rest : List ℕ) (place : ℕ) → length front ≡ place → n < 2 ^ 32 → number_at place (front ++ (to_be_bytes w32 n ++ rest)) ≡ n
number_back front n rest place long small =
    ap (λ (bytes : List ℕ). from_be_bytes w32 (take 4 bytes)) (drop_at front (to_be_bytes w32 n ++ rest) place long)
    ∙ ap (from_be_bytes w32) (take_at (to_be_bytes w32 n) rest 4 (four n))
    ∙ from_be_bytes-to_be_bytes_4 n small

-- ---- ids

id_back : (hash : Kind) (id : ObjectId) → kind_of id ≡ hash → id_from hash (bytes_of id) ≡ id
id_back hash (Sha1 bytes) kind = rw (← kind) refl
id_back hash (Sha256 bytes) kind = rw (← kind) refl

module _ (hash : Kind) where
  id_sizes : (rows : List Placed) → AllByRecursion (IsPlaced hash) rows → AllByRecursion (λ (id : ObjectId). length (bytes_of id) ≡ len_in_bytes_of hash) (map id_of rows)
  id_sizes [] placed = tt
  id_sizes (row ∷ rows) placed = (placed.0.id.size ∙ ap len_in_bytes_of placed.0.kind, id_sizes rows placed.1)

  id_kinds : (rows : List Placed) → AllByRecursion (IsPlaced hash) rows → AllByRecursion (λ (id : ObjectId). id_from hash (bytes_of id) ≡ id) (map id_of rows)
  id_kinds [] placed = tt
  id_kinds (row ∷ rows) placed = (id_back hash row.id placed.0.kind, id_kinds rows placed.1)

  pub length-ids : (rows : List Placed) → AllByRecursion (IsPlaced hash) rows → length (flat_map bytes_of (map id_of rows)) ≡ length rows * len_in_bytes_of hash
  length-ids rows placed =
      length_flat (len_in_bytes_of hash) bytes_of (map id_of rows) (id_sizes rows placed) ∙ ap (λ (n : ℕ). n * len_in_bytes_of hash) (length-map rows id_of)

  pub ids_back : (rows : List Placed) (rest : List ℕ) → AllByRecursion (IsPlaced hash) rows → ids_of hash (length rows) (flat_map bytes_of (map id_of rows) ++ rest) ≡ map id_of rows
  ids_back rows rest placed =
      ap (λ (n : ℕ). ids_of hash n (flat_map bytes_of (map id_of rows) ++ rest)) (sym (length-map rows id_of))
      ∙ ap (map (id_from hash)) (table_back (len_in_bytes_of hash) bytes_of (map id_of rows) rest (id_sizes rows placed))
      ∙ map_back bytes_of (id_from hash) (map id_of rows) (id_kinds rows placed)

-- ---- counts

pub length-counts : (rows : List Placed) → length (counts_of (map id_of rows)) ≡ 256
length-counts rows = length-map-range_with_len (count_to (map id_of rows)) 0 256

counts_small : (rows : List Placed) → length rows < 2 ^ 31 → AllByRecursion (λ (x : ℕ). x < 2 ^ 32) (counts_of (map id_of rows))
counts_small rows few =
    each_map (count_to (map id_of rows)) (λ (x : ℕ). x < 2 ^ 32) (λ (first : ℕ). let within = counts_within rows first in omega arith) (range_with_len 0 256)

pub counts_back : (rows : List Placed) (rest : List ℕ) → length rows < 2 ^ 31 → numbers 256 (number_bytes (counts_of (map id_of rows)) ++ rest) ≡ counts_of (map id_of rows)
counts_back rows rest few =
    ap (λ (n : ℕ). numbers n (number_bytes (counts_of (map id_of rows)) ++ rest)) (sym (length-counts rows)) ∙ numbers_back (counts_of (map id_of rows)) rest (counts_small rows few)

flat_append : {X : Type 0} (f : X → List ℕ) (xs : List X) (x : X) → flat_map f (xs ++ x ∷ []) ≡ flat_map f xs ++ (f x ++ [])
flat_append f [] x = refl
flat_append f (y ∷ xs) x = ap (λ (rest : List ℕ). f y ++ rest) (flat_append f xs x) ∙ sym (append_assoc (f y) (flat_map f xs) (f x ++ []))

last_moved : (front a b rest : List ℕ) → front ++ ((a ++ (b ++ [])) ++ rest) ≡ (front ++ a) ++ (b ++ rest)
last_moved front a b rest =
    ap (λ (l : List ℕ). front ++ ((a ++ l) ++ rest)) (append-nil b) ∙ ap (λ (l : List ℕ). front ++ l) (append_assoc a b rest) ∙ sym (append_assoc front a (b ++ rest))

-- the last count is that of all rows
pub last_count : (hash : Kind) (front : List ℕ) (rows : List Placed) (rest : List ℕ) (place : ℕ) → AllByRecursion (IsPlaced hash) rows → length rows < 2 ^ 31 → length front + 1020 ≡ place
    → number_at place (front ++ (number_bytes (counts_of (map id_of rows)) ++ rest)) ≡ length rows
last_count hash front rows rest place placed few long =
    let ids = map id_of rows in
    let firsts = map (count_to ids) (range_with_len 0 255) in
    let split : counts_of ids ≡ firsts ++ count_to ids 255 ∷ [] = map-range_with_len_more (count_to ids) 0 255 255 refl in
    let apart : number_bytes (counts_of ids) ≡ number_bytes firsts ++ (to_be_bytes w32 (count_to ids 255) ++ []) = ap number_bytes split ∙ flat_append (to_be_bytes w32) firsts (count_to ids 255) in
    let size : length (number_bytes firsts) ≡ 1020 = length-number_bytes firsts ∙ ap (λ (n : ℕ). n * 4) (length-map-range_with_len (count_to ids) 0 255) in
    let both = length-append front (number_bytes firsts) in
    let all : count_to ids 255 ≡ length rows = counts_all hash rows placed in
    ap (number_at place) (ap (λ (bytes : List ℕ). front ++ (bytes ++ rest)) apart ∙ last_moved front (number_bytes firsts) (to_be_bytes w32 (count_to ids 255)) rest)
    ∙ number_back (front ++ number_bytes firsts) (count_to ids 255) rest place (omega arith) (omega arith) ∙ all

-- ---- offsets

wide_or_low : (offset : ℕ) → ((is_wide offset ≡ true) × (high_bit ≤ offset)) ⊎ ((is_wide offset ≡ false) × (offset < high_bit))
wide_or_low offset = grind arith

pub length-narrow_from : (wide : ℕ) (offsets : List ℕ) → length (narrow_from wide offsets) ≡ length offsets
unfolding narrow_from
length-narrow_from wide [] = refl
length-narrow_from wide (offset ∷ offsets) =
    elim (wide_or_low offset) [
      | inl is ↦ rw is.0 (ap (λ (n : ℕ). suc n) (length-narrow_from (wide + 1) offsets))
      | inr is ↦ rw is.0 (ap (λ (n : ℕ). suc n) (length-narrow_from wide offsets))
    ]

pub narrow_small : (wide : ℕ) (offsets : List ℕ) → wide + length offsets ≤ 2 ^ 31 → AllByRecursion (λ (x : ℕ). x < 2 ^ 32) (narrow_from wide offsets)
unfolding narrow_from
narrow_small wide [] few = tt
narrow_small wide (offset ∷ offsets) few =
    elim (wide_or_low offset) [
      | inl is ↦ rw is.0 (omega arith, narrow_small (wide + 1) offsets (omega arith))
      | inr is ↦ rw is.0 (omega arith, narrow_small wide offsets (omega arith))
    ]

named_wide : (n wide : ℕ) → wide < n → is_named_below n (2 ^ 31 + wide) ≡ true
named_wide n wide below = grind arith

named_low : (n offset : ℕ) → offset < 2 ^ 31 → is_named_below n offset ≡ true
named_low n offset low = grind arith

-- each wide offset is referred to by its row
pub narrow_named : (n wide : ℕ) (offsets : List ℕ) → wide + length (filter is_wide offsets) ≤ n → list_all (is_named_below n) (narrow_from wide offsets) ≡ true
unfolding narrow_from
narrow_named n wide [] room = refl
narrow_named n wide (offset ∷ offsets) room =
    elim (wide_or_low offset) [
      | inl is ↦
          let counted : wide + suc (length (filter is_wide offsets)) ≤ n = rw is.0 at room in
          rw (is.0, named_wide n wide (omega arith), narrow_named n (wide + 1) offsets (omega arith)) refl
      | inr is ↦
          let counted : wide + length (filter is_wide offsets) ≤ n = rw is.0 at room in
          rw (is.0, named_low n offset is.1, narrow_named n wide offsets counted) refl
    ]

offset_wide : (front : List ℕ) (offset : ℕ) (rest : List ℕ) (wide : ℕ) → length front ≡ wide → offset_in (front ++ offset ∷ rest) (2 ^ 31 + wide) ≡ offset
offset_wide front offset rest wide long =
    let high : nat_lt (2 ^ 31 + wide) (2 ^ 31) ≡ false = grind arith in
    let place : (2 ^ 31 + wide) - 2 ^ 31 ≡ wide = omega arith in
    rw high (ap (slice_index (front ++ offset ∷ rest)) place ∙ get_or_at front offset rest 0 wide long)

-- the offsets are read back from the narrow and the wide ones
pub offsets_back : (front : List ℕ) (wide : ℕ) (offsets : List ℕ) → length front ≡ wide → map (offset_in (front ++ filter is_wide offsets)) (narrow_from wide offsets) ≡ offsets
unfolding narrow_from
offsets_back front wide [] long = refl
offsets_back front wide (offset ∷ offsets) long =
    elim (wide_or_low offset) [
      | inl is ↦
          let longer : length (front ++ offset ∷ []) ≡ wide + 1 = length-append front (offset ∷ []) ∙ omega arith in
          let moved : front ++ offset ∷ filter is_wide offsets ≡ (front ++ offset ∷ []) ++ filter is_wide offsets = sym (append_assoc front (offset ∷ []) (filter is_wide offsets)) in
          let rest : map (offset_in (front ++ offset ∷ filter is_wide offsets)) (narrow_from (wide + 1) offsets) ≡ offsets = rw moved (offsets_back (front ++ offset ∷ []) (wide + 1) offsets longer) in
          rw (is.0, offset_wide front offset (filter is_wide offsets) wide long, rest) refl
      | inr is ↦ rw (is.0, offset_in-low (front ++ filter is_wide offsets) offset is.1, offsets_back front wide offsets long) refl
    ]

-- ---- hashes

-- a hash has its length
pub length-hash_of : (hash : Kind) (bytes : List ℕ) → IsId (hash_of hash bytes) → length (bytes_of (hash_of hash bytes)) ≡ len_in_bytes_of hash
length-hash_of hash bytes is = is.size ∙ ap len_in_bytes_of (kind_of-hash_of hash bytes)

-- ---- wide offsets

pub wide_small : (hash : Kind) (rows : List Placed) → AllByRecursion (IsPlaced hash) rows → AllByRecursion (λ (offset : ℕ). offset < 2 ^ 64) (filter is_wide (map offset_of rows))
wide_small hash [] placed = tt
wide_small hash (row ∷ rows) placed = by_test (is_wide row.offset) row.offset (filter is_wide (map offset_of rows)) placed.0.offset (wide_small hash rows placed.1)
  where
    by_test : (wide : Bool) (offset : ℕ) (rest : List ℕ) → offset < 2 ^ 64 → AllByRecursion (λ (o : ℕ). o < 2 ^ 64) rest → AllByRecursion (λ (o : ℕ). o < 2 ^ 64) (cond wide (offset ∷ rest) rest)
    by_test true offset rest small all = (small, all)
    by_test false offset rest small all = all
