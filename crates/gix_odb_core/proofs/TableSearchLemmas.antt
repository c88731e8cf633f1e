-- A binary search in the table of slots, and the tables that other slots have.
use Rattle.std.proofs.Common.{◌≡◌, ℕ, ◌+◌, ◌-◌, ◌*◌, ◌/◌, ◌<◌, ◌≤◌, Bool, true, false, List, length, get_or, Option, Some, None, is_some, Less, Equal, Greater, inl, inr, refl, sym, ap, ◌∙◌, arith}
use Rattle.std.specs.Ordering.{is_eq}
use Rattle.std.proofs.lemmas.Bool.{cases_lt}
use Rattle.std.proofs.lemmas.List.{get_or_past}
use Rattle.odb_base.specs.Path.{Path}
use Rattle.gix_odb_events.specs.Slots.{Slot, slot_at}
use Rattle.gix_odb_core.specs.SlotTable.{IsTable, Key, has_index, key_at, keys_of, slot_key, slot_of}
use Rattle.gix_odb_core.proofs.PositionLemmas.{position-first, position-nowhere}
use Rattle.gix_odb_core.proofs.SlotTableLemmas.{has_index-key, key_at-slot, none_before, option_key_cmp, row_cmp, row_filled, row_tied, rows_above, rows_below, some_key}
use Rattle.gix_odb_core.proofs.SlotsAfterLemmas.{slot_at-get_or}

-- what was found where the rows from `high` on aren't below a key: the first of these, if it ties
abbrev pub IsFound : List (Option Key) → List ℕ → Key → (high : ℕ) → Option ℕ → Type 0
IsFound keys table key high None = (i : ℕ) → high ≤ i → i < length table → option_key_cmp (key_at keys (get_or table i 0)) (Some key) ≡ Greater
IsFound keys table key high (Some place) = (high < length table) × (place ≡ get_or table high 0) × (option_key_cmp (key_at keys (get_or table high 0)) (Some key) ≡ Equal)

-- only places within the slots are filled
filled_inside : (slots : List Slot) (place : ℕ) → is_some (slot_at slots place) ≡ true → place < length slots
filled_inside slots place filled = elim (cases_lt place (length slots)) [
  | inl inside ↦ inside
  | inr past ↦ let none : slot_at slots place ≡ None = slot_at-get_or slots place ∙ get_or_past slots place None past in absurd cc
]

-- ---- halves of a range

pub middle_below : (low high : ℕ) → low < high → low + (high - low) / 2 < high
middle_below low high some = omega arith

pub lower_half : (low high : ℕ) → 2 * (low + (high - low) / 2 - low) ≤ high - low
lower_half low high = omega arith

pub upper_half : (low high : ℕ) → low < high → 2 * (high - (low + (high - low) / 2 + 1)) ≤ high - low
upper_half low high some = omega arith

-- ---- a search

module _ (keys : List (Option Key)) (table : List ℕ) (is : IsTable keys table) (key : Key) where
  -- a row that is above the key
  pub found-above : (middle high : ℕ) (found : Option ℕ) → middle < high → high ≤ length table → row_cmp keys table is key middle ≡ Greater
      → IsFound keys table key high found → IsFound keys table key middle found
  found-above middle high None below within above found = λ i from inside. rows_above keys table is key middle i from inside above
  found-above middle high (Some place) below within above found =
      let later = rows_above keys table is key middle high (omega (arith, below)) found.0 above in
      let tie = found.2 in
      absurd cc

  -- a row that is below it
  pub lower-below : (middle : ℕ) → middle < length table → row_cmp keys table is key middle ≡ Less → (i : ℕ) → i < middle + 1 → row_cmp keys table is key i ≡ Less
  lower-below middle within below i before = rows_below keys table is key i middle (omega (arith, before)) within below

module _ (slots : List Slot) (table : List ℕ) (is : IsTable (keys_of slots) table) (path : Path) (time : Option ℕ) where
  tied : (place : ℕ) → has_index path time (get_or slots place None) ≡ is_eq (option_key_cmp (key_at (keys_of slots) place) (Some (path, time)))
  tied place =
      has_index-key path time (get_or slots place None)
      ∙ ap (λ (o : Option Key). is_eq (option_key_cmp o (Some (path, time)))) (sym (key_at-slot slots place ∙ ap slot_key (slot_at-get_or slots place)))

  ties : (place : ℕ) → has_index path time (get_or slots place None) ≡ true → (i : ℕ) × (i < length table) × (get_or table i 0 ≡ place) × (row_cmp (keys_of slots) table is (path, time) i ≡ Equal)
  ties place has = row_tied (keys_of slots) table is (path, time) place (sym (tied place) ∙ has)

  -- the slot of a row is filled
  pub slot_filled : (i : ℕ) → i < length table → is_some (slot_at slots (get_or table i 0)) ≡ true
  slot_filled i within =
      sym (some_key (slot_at slots (get_or table i 0))) ∙ ap is_some (sym (key_at-slot slots (get_or table i 0))) ∙ row_filled (keys_of slots) table is i within

  -- where the rows that aren't below a key are above it, no slot has it
  ends-none : (low high : ℕ) → high ≤ low → ((i : ℕ) → i < low → row_cmp (keys_of slots) table is (path, time) i ≡ Less) → IsFound (keys_of slots) table (path, time) high None
      → None ≡ slot_of path time slots
  ends-none low high over lower above =
      sym (position-nowhere (has_index path time) slots None (λ place inside. fails place (has_index path time (get_or slots place None)) refl))
    where
      not_tied : (i : ℕ) → i < length table → ¬ (row_cmp (keys_of slots) table is (path, time) i ≡ Equal)
      not_tied i inside tie = elim (cases_lt i low) [
        | inl before ↦ let less = lower i before in cc
        | inr after ↦ let greater = above i (omega (arith, after, over)) inside in cc
      ]

      fails : (place : ℕ) (b : Bool) → has_index path time (get_or slots place None) ≡ b → has_index path time (get_or slots place None) ≡ false
      fails place true has = let row = ties place has in absurd (not_tied row.0 row.1 row.3)
      fails place false has = has

  -- where the first of them ties, it is the first slot that has it
  ends-some : (low high place : ℕ) → high ≤ low → ((i : ℕ) → i < low → row_cmp (keys_of slots) table is (path, time) i ≡ Less) → IsFound (keys_of slots) table (path, time) high (Some place)
      → Some place ≡ slot_of path time slots
  ends-some low high place over lower found =
      ap (λ (p : ℕ). Some p) found.1 ∙ sym (position-first (has_index path time) slots (get_or table high 0) None inside holds before)
    where
      holds : has_index path time (get_or slots (get_or table high 0) None) ≡ true
      holds = tied (get_or table high 0) ∙ ap is_eq found.2

      inside : get_or table high 0 < length slots
      inside = filled_inside slots (get_or table high 0) (slot_filled high found.0)

      before : (k : ℕ) → k < get_or table high 0 → has_index path time (get_or slots k None) ≡ false
      before k earlier = tied k ∙ none_before (keys_of slots) table is (path, time) high k found.0 found.2 (λ i below. lower i (omega (arith, below, over))) earlier

  -- what a search finds is the slot of the path
  pub table_search-ends : (low high : ℕ) (found : Option ℕ) → high ≤ low → ((i : ℕ) → i < low → row_cmp (keys_of slots) table is (path, time) i ≡ Less)
      → IsFound (keys_of slots) table (path, time) high found → found ≡ slot_of path time slots
  table_search-ends low high None over lower found = ends-none low high over lower found
  table_search-ends low high (Some place) over lower found = ends-some low high place over lower found
