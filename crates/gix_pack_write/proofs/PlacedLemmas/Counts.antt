-- Counts of ids that rise: those of the rows of a table, as they are written.
use Rattle.std.proofs.Common.{◌≡◌, ℕ, zero, suc, ◌+◌, ◌-◌, ◌<◌, ◌≤◌, nat_le, true, cond, List, [], ◌∷◌, ◌++◌, length, map, get_or, slice_index, append_assoc, refl, sym, ap, ◌∙◌, arith}
use Rattle.std.specs.List.{AllByRecursion, range_with_len}
use Rattle.std.specs.Int.{w32, to_be_bytes}
use Rattle.std.specs.Ordering.{is_lt}
use Rattle.std.proofs.lemmas.Bool.{and_parts}
use Rattle.std.proofs.lemmas.List.Sums.{sum_by-cons}
use Rattle.gix_hash.specs.ObjectId.{bytes_of, id_cmp, kind_of}
use Rattle.gix_hash.specs.declared.kind.Kind.{Kind}
use Rattle.gix_hash.specs.declared.object_id.ObjectId.{ObjectId}
use Rattle.gix_hash.specs.declared.object_id.ObjectId.TheVariants.{Sha1, Sha256}
use Rattle.gix_pack_write.specs.PlacedRow.{id_of, IsPlaced}
use Rattle.gix_pack_read.specs.Rows.{count_to, is_rising}
use Rattle.gix_pack_write.specs.WrittenTables.{number_bytes}
use Rattle.gix_pack_write.specs.declared.rows.Placed.{Placed}
use Rattle.gix_pack_read.proofs.RowsLemmas.{first_no_higher}

-- ---- counts of ids that rise

abbrev pub first_of : Placed → ℕ
first_of row = slice_index (bytes_of row.id) 0

abbrev counts : List Placed → ℕ → ℕ
counts rows first = count_to (map id_of rows) first

-- 1 for a byte that is counted, and 0 for others
abbrev counted : ℕ → ℕ → ℕ
counted byte first = cond (nat_le byte first) 1 0

counts_more : (row : Placed) (rows : List Placed) (first : ℕ) → counts (row ∷ rows) first ≡ counted (first_of row) first + counts rows first
counts_more row rows first = sum_by-cons (λ (id : ObjectId). cond (nat_le (slice_index (bytes_of id) 0) first) 1 0) row.id (map id_of rows)

is_counted : (byte first : ℕ) → byte ≤ first → counted byte first ≡ 1
is_counted byte first low = grind arith

not_counted : (byte first : ℕ) → first < byte → counted byte first ≡ 0
not_counted byte first high = grind arith

at_most_one : (byte first : ℕ) → counted byte first ≤ 1
at_most_one byte first = grind arith

counted_more : (byte first later : ℕ) → first ≤ later → counted byte first ≤ counted byte later
counted_more byte first later up = grind arith

pub counts_within : (rows : List Placed) (first : ℕ) → counts rows first ≤ length rows
counts_within [] first = omega arith
counts_within (row ∷ rows) first =
    let more = counts_more row rows first in
    let one = at_most_one (first_of row) first in
    let rest = counts_within rows first in
    omega arith

pub counts_grow : (rows : List Placed) (first later : ℕ) → first ≤ later → counts rows first ≤ counts rows later
counts_grow [] first later up = omega arith
counts_grow (row ∷ rows) first later up =
    let one = counts_more row rows first in
    let two = counts_more row rows later in
    let own = counted_more (first_of row) first later up in
    let rest = counts_grow rows first later up in
    omega arith

-- every id begins with some byte
pub counts_all : (hash : Kind) (rows : List Placed) → AllByRecursion (IsPlaced hash) rows → counts rows 255 ≡ length rows
counts_all hash [] placed = refl
counts_all hash (row ∷ rows) placed =
    let byte : first_of row < 256 = placed.0.id.bytes 0 in
    let own = is_counted (first_of row) 255 (omega arith) in
    let more = counts_more row rows 255 in
    let rest = counts_all hash rows placed.1 in
    omega arith

-- ids of the same kind in order begin with bytes in order
order_by : (a b : ObjectId) → kind_of a ≡ kind_of b → is_lt (id_cmp a b) ≡ true → slice_index (bytes_of a) 0 ≤ slice_index (bytes_of b) 0
order_by (Sha1 a) (Sha1 b) kinds h = first_no_higher a b h
order_by (Sha1 a) (Sha256 b) kinds h = cc kinds
order_by (Sha256 a) (Sha1 b) kinds h = cc kinds
order_by (Sha256 a) (Sha256 b) kinds h = first_no_higher a b h

rising_apart : (a b : ObjectId) (more : List ObjectId) → is_rising (a ∷ b ∷ more) ≡ true → (is_lt (id_cmp a b) ≡ true) × (is_rising (b ∷ more) ≡ true)
unfolding is_rising
rising_apart a b more h = and_parts (is_lt (id_cmp a b)) (is_rising (b ∷ more)) h

none_rise : is_rising [] ≡ true
unfolding is_rising
none_rise = refl

rising_rest : (row : Placed) (rows : List Placed) → is_rising (map id_of (row ∷ rows)) ≡ true → is_rising (map id_of rows) ≡ true
rising_rest row [] rising = none_rise
rising_rest row (next ∷ rows) rising = (rising_apart row.id next.id (map id_of rows) rising).1

module _ (hash : Kind) where
  later_no_lower : (row : Placed) (rows : List Placed) (i : ℕ) (d : Placed) → is_rising (map id_of (row ∷ rows)) ≡ true → AllByRecursion (IsPlaced hash) (row ∷ rows) → i < length rows
      → first_of row ≤ first_of (get_or rows i d)
  later_no_lower row [] i d rising placed below = absurd (omega arith)
  later_no_lower row (next ∷ rows) zero d rising placed below =
      order_by row.id next.id (placed.0.kind ∙ sym placed.1.0.kind) (rising_apart row.id next.id (map id_of rows) rising).0
  later_no_lower row (next ∷ rows) (suc i) d rising placed below =
      let here = order_by row.id next.id (placed.0.kind ∙ sym placed.1.0.kind) (rising_apart row.id next.id (map id_of rows) rising).0 in
      let rest = later_no_lower next rows i d (rising_apart row.id next.id (map id_of rows) rising).1 placed.1 (omega arith) in
      omega (arith, here, rest)

  none_above : (row : Placed) (rows : List Placed) (first : ℕ) → is_rising (map id_of (row ∷ rows)) ≡ true → AllByRecursion (IsPlaced hash) (row ∷ rows) → first < first_of row
      → counts (row ∷ rows) first ≡ 0
  none_above row [] first rising placed high =
      let more = counts_more row [] first in
      let own = not_counted (first_of row) first high in
      omega (arith, more, own)
  none_above row (next ∷ rows) first rising placed high =
      let more = counts_more row (next ∷ rows) first in
      let own = not_counted (first_of row) first high in
      let up = order_by row.id next.id (placed.0.kind ∙ sym placed.1.0.kind) (rising_apart row.id next.id (map id_of rows) rising).0 in
      let rest = none_above next rows first (rising_apart row.id next.id (map id_of rows) rising).1 placed.1 (omega arith) in
      omega (arith, more, own, rest)

  -- a row that begins with this byte or a lower one is one of those that are counted
  pub counts_low : (rows : List Placed) (i first : ℕ) (d : Placed) → is_rising (map id_of rows) ≡ true → AllByRecursion (IsPlaced hash) rows → i < length rows → first_of (get_or rows i d) ≤ first
      → i < counts rows first
  counts_low [] i first d rising placed below low = absurd (omega arith)
  counts_low (row ∷ rows) zero first d rising placed below low =
      let more = counts_more row rows first in
      let own = is_counted (first_of row) first low in
      omega (arith, more, own)
  counts_low (row ∷ rows) (suc i) first d rising placed below low =
      let up = later_no_lower row rows i d rising placed (omega arith) in
      let more = counts_more row rows first in
      let own = is_counted (first_of row) first (omega arith) in
      let rest = counts_low rows i first d (rising_rest row rows rising) placed.1 (omega arith) low in
      omega (arith, more, own, rest)

  -- and a row that begins with a higher one is none of them
  pub counts_high : (rows : List Placed) (i first : ℕ) (d : Placed) → is_rising (map id_of rows) ≡ true → AllByRecursion (IsPlaced hash) rows → i < length rows → first < first_of (get_or rows i d)
      → counts rows first ≤ i
  counts_high [] i first d rising placed below high = absurd (omega arith)
  counts_high (row ∷ rows) zero first d rising placed below high =
      let none = none_above row rows first rising placed high in
      omega (arith, none)
  counts_high (row ∷ rows) (suc i) first d rising placed below high =
      let more = counts_more row rows first in
      let one = at_most_one (first_of row) first in
      let rest = counts_high rows i first d (rising_rest row rows rising) placed.1 (omega arith) high in
      omega (arith, more, one, rest)

-- ---- counts that are written

-- the count of a byte, and those of the bytes after it
abbrev pub counts_from : List Placed → ℕ → List ℕ
counts_from rows first = number_bytes (map (count_to (map id_of rows)) (range_with_len first (256 - first)))

counts_next : (rows : List Placed) (first : ℕ) → first < 256 → counts_from rows first ≡ to_be_bytes w32 (counts rows first) ++ counts_from rows (first + 1)
counts_next rows first below =
    let more : 256 - first ≡ suc (256 - (first + 1)) = omega arith in
    ap (λ (n : ℕ). number_bytes (map (count_to (map id_of rows)) (range_with_len first n))) more

pub counts_on : (list new whole : List ℕ) (rows : List Placed) (first count : ℕ) → first < 256 → new ≡ list ++ to_be_bytes w32 count → count ≡ counts rows first
    → list ++ counts_from rows first ≡ whole → new ++ counts_from rows (first + 1) ≡ whole
counts_on list new whole rows first count below new_is own so_far =
    ap (λ (l : List ℕ). l ++ counts_from rows (first + 1)) new_is ∙ append_assoc list (to_be_bytes w32 count) (counts_from rows (first + 1))
    ∙ ap (λ (rest : List ℕ). list ++ rest) (ap (λ (n : ℕ). to_be_bytes w32 n ++ counts_from rows (first + 1)) own ∙ sym (counts_next rows first below)) ∙ so_far
