-- The rows of the ids that begin with a byte, by the counts of ids that rise.
use Rattle.std.proofs.Common.{◌≡◌, ℕ, zero, suc, ◌+◌, ◌-◌, ◌*◌, ◌<◌, ◌≤◌, ◌==◌, ◌&&◌, ◌⊎◌, ◌↔◌, inl, inr, nat_le, nat_lt, Bool, true, IsTrue, cond, List, [], ◌∷◌, length}
use Rattle.std.proofs.Common.{take, drop, map, slice_get, slice_index, Some, Less, refl, sym, ap, subst, ◌∙◌, arith}
use Rattle.std.specs.Int.{w32, from_be_bytes}
use Rattle.std.specs.List.{count_by, range_with_len}
use Rattle.std.specs.Ordering.{is_lt, nat_cmp}
use Rattle.std.specs.Cmp.Lexicographic.{slice_cmp}
use Rattle.std.proofs.lemmas.Bool.{and_parts, eqb-true, le-leb}
use Rattle.std.proofs.lemmas.Bool.Decides.{nat_tests}
use Rattle.std.proofs.lemmas.List.{drop-drop}
use Rattle.std.proofs.lemmas.List.Sums.{count_by-le-length, sum_by-cons}
use Rattle.std.proofs.lemmas.Option.{same_Some, slice_get_within}
use Rattle.gix_hash.specs.ObjectId.{bytes_of, first_byte_of, id_cmp, kind_of}
use Rattle.gix_hash.specs.declared.kind.Kind.{Kind}
use Rattle.gix_hash.specs.declared.kind.Kind.TheVariants as kind
use Rattle.gix_hash.specs.declared.object_id.ObjectId.{ObjectId}
use Rattle.gix_hash.proofs.IdOrderLaws.{id_cmp-of_kind}
use Rattle.gix_pack_read.specs.Bytes.{number_at, numbers, same}
use Rattle.gix_pack_read.specs.Rows.{begin_with, count_below, count_to, counts_fit, id_from, ids_of, is_rising}
use Rattle.gix_pack_read.proofs.RisingLemmas.{rows_rise}
use Rattle.gix_pack_read.proofs.RowsLemmas.{counts_step, first_no_higher}
use Rattle.gix_pack_read.proofs.SearchLemmas.{length-ids_of, row_id}

-- ---- ids whose first bytes don't fall

abbrev DontFall : List ObjectId → Type 0
DontFall ids = (row later : ℕ) (id other : ObjectId) → row < later → slice_get ids row ≡ Some id → slice_get ids later ≡ Some other → first_byte_of id ≤ first_byte_of other

kind_from : (own : Kind) (bytes : List ℕ) → kind_of (id_from own bytes) ≡ own
kind_from kind.Sha1 bytes = refl
kind_from kind.Sha256 bytes = refl

-- the ids of a table are of its kind
kind_in : (own : Kind) (n : ℕ) (bytes : List ℕ) (row : ℕ) (id : ObjectId) → slice_get (ids_of own n bytes) row ≡ Some id → kind_of id ≡ own
kind_in own n bytes row id get =
    let inside : row < length (ids_of own n bytes) = slice_get_within (ids_of own n bytes) row id get in
    let long = length-ids_of own n bytes in
    ap kind_of (sym (same_Some _ id (sym (row_id own n bytes row (omega arith)) ∙ get))) ∙ kind_from own _

dont_fall : (own : Kind) (n : ℕ) (bytes : List ℕ) → is_rising (ids_of own n bytes) ≡ true → DontFall (ids_of own n bytes)
dont_fall own n bytes rising row later id other order its next =
    let below : id_cmp id other ≡ Less = rows_rise (ids_of own n bytes) row later id other rising order its next in
    let kinds : kind_of id ≡ kind_of other = kind_in own n bytes row id its ∙ sym (kind_in own n bytes later other next) in
    let texts : slice_cmp nat_cmp (bytes_of id) (bytes_of other) ≡ Less = sym (id_cmp-of_kind id other kinds) ∙ below in
    first_no_higher (bytes_of id) (bytes_of other) (ap is_lt texts)

-- the first begins with no higher byte than another
lowest : (x : ObjectId) (ids : List ObjectId) (row : ℕ) (id : ObjectId) → DontFall (x ∷ ids) → slice_get ids row ≡ Some id → first_byte_of x ≤ first_byte_of id
lowest x ids row id fall get = fall zero (suc row) x id (omega arith) refl get

rest_dont : (x : ObjectId) (ids : List ObjectId) → DontFall (x ∷ ids) → DontFall ids
rest_dont x ids fall row later id other order own its = fall (suc row) (suc later) id other (omega arith) own its

-- ---- how many begin with a byte

-- 1 for a byte that is counted, and 0 for others
abbrev to : ℕ → ℕ → ℕ
to byte first = cond (nat_le byte first) 1 0

abbrev below : ℕ → ℕ → ℕ
below byte first = cond (nat_lt byte first) 1 0

abbrev own : ℕ → ℕ → ℕ
own byte first = cond (byte == first) 1 0

to_counted : (byte first : ℕ) → byte ≤ first → to byte first ≡ 1
to_counted byte first h = grind arith

below_uncounted : (byte first : ℕ) → first ≤ byte → below byte first ≡ 0
below_uncounted byte first h = grind arith

below_at_most : (byte first : ℕ) → below byte first ≤ 1
below_at_most byte first = grind arith

to_parts : (byte first : ℕ) → to byte first ≡ below byte first + own byte first
to_parts byte first = grind arith

below_to : (byte first : ℕ) → below byte (first + 1) ≡ to byte first
below_to byte first = grind arith

to_cons : (x : ObjectId) (ids : List ObjectId) (first : ℕ) → count_to (x ∷ ids) first ≡ to (first_byte_of x) first + count_to ids first
to_cons x ids first = sum_by-cons (λ (id : ObjectId). to (first_byte_of id) first) x ids

below_cons : (x : ObjectId) (ids : List ObjectId) (first : ℕ) → count_below (x ∷ ids) first ≡ below (first_byte_of x) first + count_below ids first
below_cons x ids first = sum_by-cons (λ (id : ObjectId). below (first_byte_of id) first) x ids

own_cons : (x : ObjectId) (ids : List ObjectId) (first : ℕ) → begin_with (x ∷ ids) first ≡ own (first_byte_of x) first + begin_with ids first
own_cons x ids first = sum_by-cons (λ (id : ObjectId). own (first_byte_of id) first) x ids

-- those that begin with a byte come after those that begin with a lower one
pub to_parted : (ids : List ObjectId) (first : ℕ) → count_to ids first ≡ count_below ids first + begin_with ids first
to_parted [] first = refl
to_parted (x ∷ ids) first =
    let less : count_to ids first ≡ count_below ids first + begin_with ids first = to_parted ids first in
    let one : to (first_byte_of x) first ≡ below (first_byte_of x) first + own (first_byte_of x) first = to_parts (first_byte_of x) first in
    let all = to_cons x ids first in
    let lower = below_cons x ids first in
    let its = own_cons x ids first in
    omega (arith, all, lower, its, one, less)

below_after : (ids : List ObjectId) (first : ℕ) → count_below ids (first + 1) ≡ count_to ids first
below_after [] first = refl
below_after (x ∷ ids) first =
    below_cons x ids (first + 1) ∙ ap (λ (n : ℕ). n + count_below ids (first + 1)) (below_to (first_byte_of x) first) ∙ ap (λ (n : ℕ). to (first_byte_of x) first + n) (below_after ids first)
    ∙ sym (to_cons x ids first)

-- those that begin with a lower byte are those up to the byte before it
pub below_next : (ids : List ObjectId) (first before : ℕ) → first ≡ before + 1 → count_below ids first ≡ count_to ids before
below_next ids first before next = ap (count_below ids) next ∙ below_after ids before

none_below : (ids : List ObjectId) (first : ℕ) → ((row : ℕ) (id : ObjectId) → slice_get ids row ≡ Some id → first ≤ first_byte_of id) → count_below ids first ≡ 0
none_below [] first high = refl
none_below (x ∷ ids) first high =
    let none : count_below ids first ≡ 0 = none_below ids first (λ row id get. high (suc row) id get) in
    let one : below (first_byte_of x) first ≡ 0 = below_uncounted (first_byte_of x) first (high zero x refl) in
    let all = below_cons x ids first in
    omega (arith, all, one, none)

-- none begins with a byte below 0
pub none_below_zero : (ids : List ObjectId) (first : ℕ) → first ≡ 0 → count_below ids first ≡ 0
none_below_zero ids first zero_is = none_below ids first (λ row id get. omega arith)

-- no more than there are
pub count_within : (own : Kind) (n : ℕ) (bytes : List ℕ) (first : ℕ) → count_to (ids_of own n bytes) first ≤ n
count_within own n bytes first =
    let long = length-ids_of own n bytes in
    omega (arith, count_by-le-length (λ (id : ObjectId). nat_le (first_byte_of id) first) (ids_of own n bytes))

-- ---- the rows of the ids that begin with a byte

row_counted : (ids : List ObjectId) (first row : ℕ) (id : ObjectId) → DontFall ids → slice_get ids row ≡ Some id → first_byte_of id ≤ first → row < count_to ids first
row_counted [] first row id fall get low = cc get
row_counted (x ∷ ids) first zero id fall get low =
    let at : first_byte_of x ≤ first = subst (λ (y : ObjectId). first_byte_of y ≤ first) (sym (same_Some x id get)) low in
    let one : to (first_byte_of x) first ≡ 1 = to_counted (first_byte_of x) first at in
    let all = to_cons x ids first in
    omega (arith, all, one)
row_counted (x ∷ ids) first (suc row) id fall get low =
    let before : first_byte_of x ≤ first_byte_of id = lowest x ids row id fall get in
    let one : to (first_byte_of x) first ≡ 1 = to_counted (first_byte_of x) first (omega arith) in
    let less : row < count_to ids first = row_counted ids first row id (rest_dont x ids fall) get low in
    let all = to_cons x ids first in
    omega (arith, all, one, less)

row_not_below : (ids : List ObjectId) (first row : ℕ) (id : ObjectId) → DontFall ids → slice_get ids row ≡ Some id → first ≤ first_byte_of id → count_below ids first ≤ row
row_not_below [] first row id fall get high = cc get
row_not_below (x ∷ ids) first zero id fall get high =
    let at : first ≤ first_byte_of x = subst (λ (y : ObjectId). first ≤ first_byte_of y) (sym (same_Some x id get)) high in
    let one : below (first_byte_of x) first ≡ 0 = below_uncounted (first_byte_of x) first at in
    let none : count_below ids first ≡ 0 = none_below ids first (λ row other its. le_through at (lowest x ids row other fall its)) in
    let all = below_cons x ids first in
    omega (arith, all, one, none)
  where
    le_through : {a b c : ℕ} → a ≤ b → b ≤ c → a ≤ c
    le_through h k = omega arith
row_not_below (x ∷ ids) first (suc row) id fall get high =
    let less : count_below ids first ≤ row = row_not_below ids first row id (rest_dont x ids fall) get high in
    let one : below (first_byte_of x) first ≤ 1 = below_at_most (first_byte_of x) first in
    let all = below_cons x ids first in
    omega (arith, all, one, less)

-- they are between the two counts
pub row_of_byte : (own : Kind) (n : ℕ) (bytes : List ℕ) (first row : ℕ) (id : ObjectId) → is_rising (ids_of own n bytes) ≡ true → slice_get (ids_of own n bytes) row ≡ Some id
    → first_byte_of id ≡ first → (count_below (ids_of own n bytes) first ≤ row) × (row < count_to (ids_of own n bytes) first)
row_of_byte own n bytes first row id rising get is = (
  row_not_below (ids_of own n bytes) first row id (dont_fall own n bytes rising) get (omega arith),
  row_counted (ids_of own n bytes) first row id (dont_fall own n bytes rising) get (omega arith),
)

-- a row is counted where its id begins with the byte or a lower one
pub row_counted_by : (own : Kind) (n : ℕ) (bytes : List ℕ) (first row : ℕ) (id : ObjectId) → is_rising (ids_of own n bytes) ≡ true → slice_get (ids_of own n bytes) row ≡ Some id
    → (first_byte_of id ≤ first) ↔ (row < count_to (ids_of own n bytes) first)
row_counted_by own n bytes first row id rising get = (
  λ low. row_counted (ids_of own n bytes) first row id (dont_fall own n bytes rising) get low,
  λ counted. elim (up_to_or_above (first_byte_of id) first) [
    | inl low ↦ low
    | inr high ↦
        let past = row_not_below (ids_of own n bytes) (first + 1) row id (dont_fall own n bytes rising) get high in
        let after = below_after (ids_of own n bytes) first in
        absurd (omega arith)
  ],
)
  where
    up_to_or_above : (byte first : ℕ) → (byte ≤ first) ⊎ (first + 1 ≤ byte)
    up_to_or_above byte first = grind arith

test_le : (a b : ℕ) → nat_le a b ≡ true → a ≤ b
test_le a b h = grind (arith, nat_tests)

-- by a test of the byte that was read
pub counted_by_test : (own : Kind) (n : ℕ) (bytes : List ℕ) (first row byte : ℕ) (id : ObjectId) → is_rising (ids_of own n bytes) ≡ true → slice_get (ids_of own n bytes) row ≡ Some id
    → byte ≡ first_byte_of id → IsTrue (nat_le byte first) ↔ (row < count_to (ids_of own n bytes) first)
counted_by_test own n bytes first row byte id rising get is =
    let by = row_counted_by own n bytes first row id rising get in
    (λ h. let low = test_le byte first h in by.0 (omega arith), λ counted. let low = by.1 counted in le-leb byte first (omega arith))

-- ---- the counts in a file

counts_at : (ids : List ObjectId) (m first : ℕ) (counts : List ℕ) (i : ℕ) → same (numbers m counts) (map (count_to ids) (range_with_len first m)) ≡ true → i < m
    → number_at (i * 4) counts ≡ count_to ids (first + i)
counts_at ids zero first counts i agree inside = absurd (omega arith)
counts_at ids (suc m) first counts zero agree inside =
    let parts = and_parts (number_at 0 counts == count_to ids first) (same (numbers m (drop 4 counts)) (map (count_to ids) (range_with_len (first + 1) m)))
    (sym (counts_step ids m first counts) ∙ agree) in
    let start : 0 * 4 ≡ 0 = omega arith in
    let all : first ≡ first + 0 = omega arith in
    ap (λ (place : ℕ). number_at place counts) start ∙ eqb-true _ _ parts.0 ∙ ap (count_to ids) all
counts_at ids (suc m) first counts (suc i) agree inside =
    let parts = and_parts (number_at 0 counts == count_to ids first) (same (numbers m (drop 4 counts)) (map (count_to ids) (range_with_len (first + 1) m)))
    (sym (counts_step ids m first counts) ∙ agree) in
    let place : suc i * 4 ≡ 4 + i * 4 = omega arith in
    let next : first + 1 + i ≡ first + suc i = omega arith in
    ap (λ (p : ℕ). number_at p counts) place ∙ ap (λ (rest : List ℕ). from_be_bytes w32 (take 4 rest)) (sym (drop-drop (i * 4) 4 counts))
    ∙ counts_at ids m (first + 1) (drop 4 counts) i parts.1 (omega arith) ∙ ap (count_to ids) next

-- the count at a byte
pub count_at : (ids : List ObjectId) (counts : List ℕ) (first : ℕ) → counts_fit counts ids ≡ true → first < 256 → number_at (first * 4) counts ≡ count_to ids first
unfolding counts_fit
count_at ids counts first agree inside =
    let all : 0 + first ≡ first = omega arith in
    counts_at ids 256 0 counts first agree inside ∙ ap (count_to ids) all
