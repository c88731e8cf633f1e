-- Tables, ids and their counts, read row by row.
use Rattle.std.proofs.Common.{◌≡◌, ℕ, zero, suc, ◌+◌, ◌-◌, ◌*◌, ◌<◌, ◌≤◌, ◌==◌, ◌&&◌, Bool, true, false, List, [], ◌∷◌, length, take}
use Rattle.std.proofs.Common.{drop, map, slice_get, slice_index, Some, Ordering, Less, Equal, Greater, refl, sym, ap, ◌∙◌, arith}
use Rattle.std.specs.List.{list_all, range_with_len}
use Rattle.std.specs.Ordering.{is_lt, nat_cmp, ordering_then}
use Rattle.std.specs.Cmp.{ranked}
use Rattle.std.specs.Cmp.Lexicographic.{slice_cmp}
use Rattle.std.proofs.lemmas.Bool.{eq-eqb, ne_eqb}
use Rattle.std.proofs.lemmas.List.{drop-drop}
use Rattle.gix_hash.specs.Kind.{len_in_bytes_of}
use Rattle.gix_hash.specs.ObjectId.{id_cmp}
use Rattle.gix_hash.specs.declared.kind.Kind.{Kind}
use Rattle.gix_hash.specs.declared.kind.Kind.TheVariants.{Sha1, Sha256}
use Rattle.gix_hash.specs.declared.object_id.ObjectId.{ObjectId}
use Rattle.gix_pack_read.specs.Bytes.{number_at, numbers, part, same, table}
use Rattle.gix_pack_read.specs.Rows.{count_to, id_from, ids_of, is_rising}

-- ---- tables

-- a row of a table
pub slice_get-table : (size n : ℕ) (bytes : List ℕ) (i : ℕ) → i < n → slice_get (table size n bytes) i ≡ Some (part (i * size) size bytes)
unfolding table
slice_get-table size zero bytes i h = absurd (omega arith)
slice_get-table size (suc n) bytes zero h =
    let start : 0 ≡ 0 * size = omega arith in
    ap (λ (place : ℕ). Some (part place size bytes)) start
slice_get-table size (suc n) bytes (suc i) h =
    let next : size + i * size ≡ suc i * size = omega arith in
    slice_get-table size n (drop size bytes) i (omega arith) ∙ ap (λ (rest : List ℕ). Some (take size rest)) (drop-drop (i * size) size bytes)
    ∙ ap (λ (place : ℕ). Some (part place size bytes)) next

pub length-table : (size n : ℕ) (bytes : List ℕ) → length (table size n bytes) ≡ n
unfolding table
length-table size zero bytes = refl
length-table size (suc n) bytes = let less = length-table size n (drop size bytes) in omega arith

-- ---- ids of one kind

abbrev size_of : Kind → ℕ
size_of = len_in_bytes_of

pub id_cmp-from : (kind : Kind) (a b : List ℕ) → id_cmp (id_from kind a) (id_from kind b) ≡ slice_cmp nat_cmp a b
id_cmp-from Sha1 a b = refl
id_cmp-from Sha256 a b = refl

-- the first two ids, and those from the second on
pub rising_step : (kind : Kind) (left : ℕ) (rest : List ℕ) → 1 < left
    → is_rising (ids_of kind left rest)
    ≡ (is_lt (slice_cmp nat_cmp (take (len_in_bytes_of kind) rest) (take (len_in_bytes_of kind) (drop (len_in_bytes_of kind) rest))) && is_rising
    (ids_of kind (left - 1) (drop (len_in_bytes_of kind) rest)))
unfolding table is_rising
rising_step kind zero rest h = absurd (omega arith)
rising_step kind (suc zero) rest h = absurd (omega arith)
rising_step kind (suc (suc m)) rest h =
    let less : suc (suc m) - 1 ≡ suc m = omega arith in
    rw less (ap (λ (o : Ordering). is_lt o && is_rising (ids_of kind (suc m) (drop (size_of kind) rest)))
    (id_cmp-from kind (take (size_of kind) rest) (take (size_of kind) (drop (size_of kind) rest))))

-- one id, or none
pub rising_short : (kind : Kind) (left : ℕ) (rest : List ℕ) → left ≤ 1 → is_rising (ids_of kind left rest) ≡ true
unfolding table is_rising
rising_short kind zero rest h = refl
rising_short kind (suc zero) rest h = refl
rising_short kind (suc (suc m)) rest h = absurd (omega arith)

-- ---- first bytes

by_first : (o p : Ordering) (x y : ℕ) → o ≡ nat_cmp x y → is_lt (ordering_then o p) ≡ true → x ≤ y
by_first Less p x y is h = let below = ranked x y Less is in omega arith
by_first Equal p x y is h = let tied = ranked x y Equal is in omega arith
by_first Greater p x y is h = cc h

-- of two lists in order, the first begins with a byte that is no higher
pub first_no_higher : (xs ys : List ℕ) → is_lt (slice_cmp nat_cmp xs ys) ≡ true → slice_index xs 0 ≤ slice_index ys 0
first_no_higher [] [] h = cc h
first_no_higher [] (y ∷ ys) h = omega arith
first_no_higher (x ∷ xs) [] h = cc h
first_no_higher (x ∷ xs) (y ∷ ys) h = by_first (nat_cmp x y) (slice_cmp nat_cmp xs ys) x y refl h

-- ---- tables of numbers

-- the first count, and the others
pub counts_step : (ids : List ObjectId) (m first : ℕ) (rest : List ℕ)
    → same (numbers (suc m) rest) (map (count_to ids) (range_with_len first (suc m)))
    ≡ ((number_at 0 rest == count_to ids first) && same (numbers m (drop 4 rest)) (map (count_to ids) (range_with_len (first + 1) m)))
unfolding table
counts_step ids m first rest = refl

pub named_step : (test : ℕ → Bool) (left : ℕ) (rest : List ℕ) → 0 < left
    → list_all test (numbers left rest) ≡ (test (number_at 0 rest) && list_all test (numbers (left - 1) (drop 4 rest)))
unfolding table
named_step test zero rest h = absurd (omega arith)
named_step test (suc m) rest h = let less : suc m - 1 ≡ m = omega arith in rw less refl

pub named_none : (test : ℕ → Bool) (left : ℕ) (rest : List ℕ) → left ≤ 0 → list_all test (numbers left rest) ≡ true
unfolding table
named_none test zero rest h = refl
named_none test (suc m) rest h = absurd (omega arith)

-- the count at a byte, and those of the bytes after it
pub counts_next : (ids : List ObjectId) (first : ℕ) (rest : List ℕ) → first < 256
    → same (numbers (256 - first) rest) (map (count_to ids) (range_with_len first (256 - first)))
    ≡ ((number_at 0 rest == count_to ids first) && same (numbers (256 - (first + 1)) (drop 4 rest)) (map (count_to ids) (range_with_len (first + 1) (256 - (first + 1)))))
counts_next ids first rest h =
    let more : 256 - first ≡ suc (256 - (first + 1)) = omega arith in
    rw more (counts_step ids (256 - (first + 1)) first rest)

pub counts_done : (ids : List ObjectId) (first : ℕ) (rest : List ℕ) → 256 ≤ first → same (numbers (256 - first) rest) (map (count_to ids) (range_with_len first (256 - first))) ≡ true
unfolding table
counts_done ids first rest h =
    let none : 256 - first ≡ 0 = omega arith in
    rw none refl

-- a count that differs from that of the ids
false_first : (b c : Bool) → b ≡ false → false ≡ (b && c)
false_first true c h = cc h
false_first false c h = refl

true_first : (b c : Bool) → b ≡ true → (b && c) ≡ c
true_first true c h = refl
true_first false c h = cc h

pub wrong_count : (ids : List ObjectId) (first : ℕ) (rest : List ℕ) (whole : Bool) (count : ℕ) → first < 256
    → whole ≡ same (numbers (256 - first) rest) (map (count_to ids) (range_with_len first (256 - first))) → count ≡ number_at 0 rest → (count ≡ count_to ids first → ⊥) → false ≡ whole
wrong_count ids first rest whole count below is count_is other =
    false_first _ _ (ne_eqb (number_at 0 rest) (count_to ids first) (λ h. other (count_is ∙ h))) ∙ sym (is ∙ counts_next ids first rest below)

pub right_count : (ids : List ObjectId) (first : ℕ) (rest : List ℕ) (whole : Bool) (count : ℕ) → first < 256
    → whole ≡ same (numbers (256 - first) rest) (map (count_to ids) (range_with_len first (256 - first))) → count ≡ number_at 0 rest → count ≡ count_to ids first
    → whole ≡ same (numbers (256 - (first + 1)) (drop 4 rest)) (map (count_to ids) (range_with_len (first + 1) (256 - (first + 1))))
right_count ids first rest whole count below is count_is own =
    is ∙ counts_next ids first rest below ∙ true_first _ _ (eq-eqb (number_at 0 rest) (count_to ids first) (sym count_is ∙ own))
