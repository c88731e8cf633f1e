-- The table of slots: its rows are the filled slots, in the order of their keys.
use Rattle.std.proofs.Common.{◌≡◌, ℕ, zero, suc, ◌+◌, ◌<◌, ◌≤◌, ◌⊎◌, inl, inr, Bool, true, false, ◌&&◌, List, [], ◌∷◌, length, get_or, filter, cond, Contains}
use Rattle.std.proofs.Common.{Option, Some, None, is_some, position, Ordering, Less, Equal, Greater, refl, sym, ap, subst, ◌∙◌, arith}
use Rattle.std.specs.Cmp.{IsTotalOrder, nat_cmp_is, unsigned_ties}
use Rattle.std.specs.Cmp.Lexicographic.{lists_total, nat_list_cmp_total, options_total}
use Rattle.std.specs.List.{count_by, range_with_len}
use Rattle.std.specs.Option.{option_cmp}
use Rattle.std.specs.Ordering.{is_eq, is_lt, nat_cmp}
use Rattle.std.proofs.lemmas.Bool.{cases_lt}
use Rattle.std.proofs.lemmas.Cmp.{nat_cmp_total, on_total, then_total}
use Rattle.std.proofs.lemmas.List.{get_or_default, get_or_past}
use Rattle.std.proofs.lemmas.List.Elements.{All-get_or, filter_passes}
use Rattle.std.proofs.lemmas.List.Sums.{length-filter, sum_by-cons}
use Rattle.std.proofs.lemmas.List.Sorted.{All-permutation, Contains-permutation, length_permutation, ranks_by, sorted_far}
use Rattle.odb_base.specs.Path.{Path}
use Rattle.gix_odb_events.specs.PackFiles.{same_path}
use Rattle.gix_odb_events.specs.Slots.{Slot, holds, index_path, is_index_of, slot_at}
use Rattle.gix_odb_events.specs.declared.listing.ListingRow.{ListingRow}
use Rattle.gix_odb_events.specs.declared.slot.IndexFile.{IndexFile}
use Rattle.gix_odb_events.specs.declared.slot.IndexFile.TheVariants.{Single, Multi}
use Rattle.gix_odb_core.specs.IndexKeys.{index_time, row_time}
use Rattle.gix_odb_core.specs.SlotTable.{IsTable, Key, filled_count, filled_places, has_index, is_index_at, key_at, keys_of, pair_cmp, place_cmp, slot_key, slot_of}
use Rattle.gix_odb_core.proofs.IndexKeysLemmas.{and_false, and_true, same_parts}
use Rattle.gix_odb_core.proofs.OrderedLemmas.{both_tied, greater_later, less_earlier, not_less-then, not_less-tied}
use Rattle.gix_odb_core.proofs.PositionLemmas.{position-agree}
use Rattle.gix_odb_core.proofs.SlotsAfterLemmas.{slot_at-get_or}

-- ---- keys and slots

abbrev pub option_key_cmp : Option Key → Option Key → Ordering
option_key_cmp = option_cmp pair_cmp

key_total : IsTotalOrder option_key_cmp
key_total = options_total (then_total (on_total (λ (k : Key). k.0) (lists_total nat_list_cmp_total)) (on_total (λ (k : Key). k.1) (options_total nat_cmp_total)))

place_total : (keys : List (Option Key)) → IsTotalOrder (place_cmp keys)
place_total keys = then_total (on_total (key_at keys) key_total) nat_cmp_total

-- the key of a place is that of the slot there
pub key_at-slot : (slots : List Slot) (place : ℕ) → key_at (keys_of slots) place ≡ slot_key (slot_at slots place)
key_at-slot [] place = get_or_past {X = Option Key} [] place None (omega arith) ∙ ap slot_key (sym (slot_at-get_or [] place ∙ get_or_past {X = Slot} [] place None (omega arith)))
key_at-slot (slot ∷ slots) zero = refl
key_at-slot (slot ∷ slots) (suc place) = key_at-slot slots place

-- a slot holds the index of a path where its key ties with that of the path
pub has_index-key : (path : Path) (time : Option ℕ) (slot : Slot) → has_index path time slot ≡ is_eq (option_key_cmp (slot_key slot) (Some (path, time)))
has_index-key path time None = refl
has_index-key path time (Some filled) = by time filled.index ∙ sym (same_parts (index_path filled.index) (index_time filled.index filled.time) path time)
  where
    by : (time : Option ℕ) (index : IndexFile)
        → is_index_at path time index filled.time ≡ (same_path (index_path index) path && is_eq (option_cmp nat_cmp (index_time index filled.time) time))
    by None (Single file) = sym (and_true (same_path file.path path))
    by None (Multi file) = sym (and_false (same_path file.path path))
    by (Some time) (Single file) = sym (and_false (same_path file.path path))
    by (Some time) (Multi file) = ap (λ (b : Bool). same_path file.path path && b) (unsigned_ties filled.time time)

-- a slot holds a row where it holds the index of its path and time
holds-has_index : (row : ListingRow) (slot : Slot) → has_index row.path (row_time row.multi row.time) slot ≡ holds row slot
holds-has_index row None = refl
holds-has_index row (Some filled) = by row.multi filled.index
  where
    by : (multi : Option (List ℕ)) (index : IndexFile) → is_index_at row.path (row_time multi row.time) index filled.time ≡ is_index_of row multi index filled.time
    by None (Single file) = refl
    by None (Multi file) = refl
    by (Some multi) (Single file) = refl
    by (Some multi) (Multi file) = refl

pub slot_of-row : (row : ListingRow) (slots : List Slot) → slot_of row.path (row_time row.multi row.time) slots ≡ position (holds row) slots
slot_of-row row slots = position-agree (has_index row.path (row_time row.multi row.time)) (holds row) (holds-has_index row) slots

-- ---- the rows of a table

is_some-within : (keys : List (Option Key)) (place : ℕ) → is_some (key_at keys place) ≡ true → place < length keys
is_some-within keys place filled = elim (cases_lt place (length keys)) [
  | inl within ↦ within
  | inr past ↦ let none : key_at keys place ≡ None = get_or_past keys place None past in absurd cc
]

same_or_later : (a b : ℕ) → a ≤ b → (a ≡ b) ⊎ (a < b)
same_or_later a b h = grind arith

here_kept : (b : Bool) (x : ℕ) (xs : List ℕ) → b ≡ true → Contains (cond b (x ∷ xs) xs) x
here_kept true x xs is = (0, omega arith, refl)
here_kept false x xs is = absurd cc

more_kept : (b : Bool) (x y : ℕ) (xs : List ℕ) → Contains xs y → Contains (cond b (x ∷ xs) xs) y
more_kept true x y xs has = (suc has.0, omega (arith, has.1), has.2)
more_kept false x y xs has = has

-- a number of a range that passes a test is kept by it
in_filter : (p : ℕ → Bool) (at n place : ℕ) → at ≤ place → place < at + n → p place ≡ true → Contains (filter p (range_with_len at n)) place
in_filter p at zero place from to pass = absurd (omega arith)
in_filter p at (suc n) place from to pass = elim (same_or_later at place from) [
  | inl same ↦
      subst (λ (q : ℕ). Contains (cond (p at) (at ∷ filter p (range_with_len (at + 1) n)) (filter p (range_with_len (at + 1) n))) q) same
      (here_kept (p at) at (filter p (range_with_len (at + 1) n)) (ap p same ∙ pass))
  | inr later ↦ more_kept (p at) at place (filter p (range_with_len (at + 1) n)) (in_filter p (at + 1) n place (omega (arith, later)) (omega (arith, to)) pass)
]

-- a slot has a key where it is filled
pub some_key : (slot : Slot) → is_some (slot_key slot) ≡ is_some slot
some_key None = refl
some_key (Some filled) = refl

-- as many places are filled as keys are present
count_keys : (keys : List (Option Key)) (p : ℕ → Bool) (at : ℕ) → ((i : ℕ) → i < length keys → p (at + i) ≡ is_some (get_or keys i None))
    → count_by p (range_with_len at (length keys)) ≡ count_by is_some keys
count_keys [] p at agree = refl
count_keys (key ∷ keys) p at agree =
    let zero_on : at ≡ at + 0 = omega arith in
    let first : p at ≡ is_some key = ap p zero_on ∙ agree 0 (omega arith) in
    let rest : count_by p (range_with_len (at + 1) (length keys)) ≡ count_by is_some keys =
    count_keys keys p (at + 1) (λ i within. let next : (at + 1) + i ≡ at + suc i = omega arith in ap p next ∙ agree (suc i) (omega (arith, within))) in
    sum_by-cons (λ (place : ℕ). cond (p place) 1 0) at (range_with_len (at + 1) (length keys))
    ∙ ap (λ (b : Bool). cond b 1 0 + count_by p (range_with_len (at + 1) (length keys))) first
    ∙ ap (λ (n : ℕ). cond (is_some key) 1 0 + n) rest
    ∙ sym (sum_by-cons (λ (k : Option Key). cond (is_some k) 1 0) key keys)

count_slots : (slots : List Slot) → count_by is_some (keys_of slots) ≡ filled_count slots
count_slots [] = refl
count_slots (slot ∷ slots) =
    sum_by-cons (λ (k : Option Key). cond (is_some k) 1 0) (slot_key slot) (keys_of slots)
    ∙ ap (λ (n : ℕ). cond (is_some (slot_key slot)) 1 0 + n) (count_slots slots)
    ∙ ap (λ (b : Bool). cond b 1 0 + filled_count slots) (some_key slot)
    ∙ sym (sum_by-cons (λ (s : Slot). cond (is_some s) 1 0) slot slots)

pub table_len : (slots : List Slot) (table : List ℕ) → IsTable (keys_of slots) table → length table ≡ filled_count slots
table_len slots table is =
    length_permutation (filled_places (keys_of slots)) table is.places
    ∙ length-filter (λ place. is_some (key_at (keys_of slots) place)) (range_with_len 0 (length (keys_of slots)))
    ∙ count_keys (keys_of slots) (λ place. is_some (key_at (keys_of slots) place)) 0 (λ i within. let same : 0 + i ≡ i = omega arith in ap (λ (p : ℕ). is_some (key_at (keys_of slots) p)) same)
    ∙ count_slots slots

less_from_lt : (a b : ℕ) → a < b → nat_cmp a b ≡ Less
less_from_lt a b less = sym (nat_cmp_is a b Less less)

module _ (keys : List (Option Key)) (table : List ℕ) (is : IsTable keys table) where
  -- each row is filled
  pub row_filled : (i : ℕ) → i < length table → is_some (key_at keys (get_or table i 0)) ≡ true
  row_filled i within =
      All-get_or (λ place. is_some (key_at keys place) ≡ true) table i 0 within
      (All-permutation (λ place. is_some (key_at keys place) ≡ true) (filled_places keys) table is.places
      (filter_passes (λ place. is_some (key_at keys place)) (range_with_len 0 (length keys))))

  -- each filled place has its row
  row_of : (place : ℕ) → is_some (key_at keys place) ≡ true → (i : ℕ) × (i < length table) × (get_or table i 0 ≡ place)
  row_of place filled =
      let within : place < length keys = is_some-within keys place filled in
      let has = Contains-permutation (filled_places keys) table place is.places (in_filter (λ p. is_some (key_at keys p)) 0 (length keys) place (omega arith) (omega arith) filled) in
      (has.0, has.1, get_or_default table has.0 0 place has.1 ∙ has.2)

  -- a row isn't below an earlier one
  in_order : (i j : ℕ) → i ≤ j → j < length table → is_lt (place_cmp keys (get_or table j 0) (get_or table i 0)) ≡ false
  in_order i j order within = sorted_far (λ a b. is_lt (place_cmp keys a b)) (ranks_by (place_total keys) (λ (p : ℕ). p)) table is.rises i j 0 order within

  module _ (key : Key) where
    abbrev pub row_cmp : ℕ → Ordering
    row_cmp i = option_key_cmp (key_at keys (get_or table i 0)) (Some key)

    pub rows_above : (i j : ℕ) → i ≤ j → j < length table → row_cmp i ≡ Greater → row_cmp j ≡ Greater
    rows_above i j order within = greater_later option_key_cmp key_total (key_at keys (get_or table i 0)) (key_at keys (get_or table j 0)) (Some key)
        (not_less-then (option_key_cmp (key_at keys (get_or table j 0)) (key_at keys (get_or table i 0))) (nat_cmp (get_or table j 0) (get_or table i 0)) (in_order i j order within))

    pub rows_below : (i j : ℕ) → i ≤ j → j < length table → row_cmp j ≡ Less → row_cmp i ≡ Less
    rows_below i j order within = less_earlier option_key_cmp key_total (key_at keys (get_or table i 0)) (key_at keys (get_or table j 0)) (Some key)
        (not_less-then (option_key_cmp (key_at keys (get_or table j 0)) (key_at keys (get_or table i 0))) (nat_cmp (get_or table j 0) (get_or table i 0)) (in_order i j order within))

    -- a place whose key ties has a row that ties
    pub row_tied : (place : ℕ) → is_eq (option_key_cmp (key_at keys place) (Some key)) ≡ true → (i : ℕ) × (i < length table) × (get_or table i 0 ≡ place) × (row_cmp i ≡ Equal)
    row_tied place tied =
        let row = row_of place (filled (key_at keys place) tied) in
        (row.0, row.1, row.2, ap (λ (p : ℕ). option_key_cmp (key_at keys p) (Some key)) row.2 ∙ equal (option_key_cmp (key_at keys place) (Some key)) tied)
      where
        filled : (o : Option Key) → is_eq (option_key_cmp o (Some key)) ≡ true → is_some o ≡ true
        filled None h = absurd cc
        filled (Some own) h = refl

        equal : (o : Ordering) → is_eq o ≡ true → o ≡ Equal
        equal Less h = absurd cc
        equal Equal h = refl
        equal Greater h = absurd cc

    -- no earlier place ties, where the rows before one that ties are below
    pub none_before : (i place : ℕ) → i < length table → row_cmp i ≡ Equal → ((k : ℕ) → k < i → row_cmp k ≡ Less) → place < get_or table i 0
        → is_eq (option_key_cmp (key_at keys place) (Some key)) ≡ false
    none_before i place within tie below before = by (is_eq (option_key_cmp (key_at keys place) (Some key))) refl
      where
        other : (row : (k : ℕ) × (k < length table) × (get_or table k 0 ≡ place) × (row_cmp k ≡ Equal)) → ⊥
        other row = elim (cases_lt row.0 i) [
          | inl earlier ↦ let less = below row.0 earlier in let equal = row.3 in cc
          | inr later ↦
              not_less-tied (option_key_cmp (key_at keys (get_or table row.0 0)) (key_at keys (get_or table i 0))) (nat_cmp (get_or table row.0 0) (get_or table i 0))
              (in_order i row.0 later row.1) (both_tied option_key_cmp key_total (key_at keys (get_or table row.0 0)) (key_at keys (get_or table i 0)) (Some key) row.3 tie)
              (less_from_lt (get_or table row.0 0) (get_or table i 0) (omega (arith, row.2)))
        ]

        by : (b : Bool) → is_eq (option_key_cmp (key_at keys place) (Some key)) ≡ b → is_eq (option_key_cmp (key_at keys place) (Some key)) ≡ false
        by true is_true = absurd (other (row_tied place is_true))
        by false is_false = is_false
