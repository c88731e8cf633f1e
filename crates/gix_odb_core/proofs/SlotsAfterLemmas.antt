-- The slot at a place after a publish: filled by the row that takes it, or settled.
use Rattle.std.proofs.Common.{Contains, ◌≡◌, ℕ, ◌<◌, ◌≤◌, Bool, true, false, not, ◌&&◌, cond, nat_eq, List, [], ◌∷◌, length, map, set, get_or, slice_get, Option, Some}
use Rattle.std.proofs.Common.{None, unwrap_or, option_map, ◌⊎◌, inl, inr, ⊎_elim, refl, sym, ap, subst, ◌∙◌, eqb-true, get_or-set_same, get_or-set_other, length-set}
use Rattle.std.specs.List.{AllByRecursion, IsDistinct}
use Rattle.std.proofs.lemmas.Bool.{cases_lt, eqb-false}
use Rattle.std.proofs.lemmas.List.{length-map}
use Rattle.std.proofs.lemmas.List.Elements.{All-contains_itself, recursion_from_All}
use Rattle.std.proofs.lemmas.Option.{slice_get-map, slice_get_past, unwrap_or-slice_get}
use Rattle.gix_odb_core.specs.Publish.{free_places, is_free, is_kept, is_new, new_rows, place_after, ring_from, settled, slots_after, taken, with_taken}
use Rattle.gix_odb_events.specs.Slots.{slot_at, Slot, filled_put_back, new_filled}
use Rattle.gix_odb_events.specs.declared.listing.ListingRow.{ListingRow}
use Rattle.gix_odb_events.specs.declared.slot.Filled.{Filled}
use Rattle.gix_odb_core.proofs.DistinctLemmas.{IsDistinct-filter, IsDistinct-firsts, IsDistinct-ring, each_filter, each_in_ring, each_passes, each_true, each_zip}
use Rattle.gix_odb_core.proofs.TakenLemmas.{taker, taker-none, taker_gives}

-- ---- a slot by its place

pub slot_at-get_or : (slots : List Slot) (place : ℕ) → slot_at slots place ≡ get_or slots place None
slot_at-get_or slots place = unwrap_or-slice_get slots place None

pub slot_at-set_same : (slots : List Slot) (place : ℕ) (slot : Slot) → place < length slots → slot_at (set slots place slot) place ≡ slot
slot_at-set_same slots place slot within = slot_at-get_or (set slots place slot) place ∙ get_or-set_same slots place slot None within

pub slot_at-set_other : (slots : List Slot) (place other : ℕ) (slot : Slot) → nat_eq other place ≡ false → slot_at (set slots place slot) other ≡ slot_at slots other
slot_at-set_other slots place other slot differ =
    slot_at-get_or (set slots place slot) other ∙ get_or-set_other slots place other slot None (eqb-false other place differ) ∙ sym (slot_at-get_or slots other)

-- only places within the slots are filled
pub filled_within : (slots : List Slot) (place : ℕ) (filled : Filled) → slot_at slots place ≡ Some filled → place < length slots
filled_within slots place filled is =
    ⊎_elim (λ (h : place < length slots). h)
    (λ (h : length slots ≤ place). let none : slot_at slots place ≡ None = ap (λ (o : Option Slot). unwrap_or o None) (slice_get_past slots place h) in absurd cc)
    (cases_lt place (length slots))

-- ---- the slots with the new rows

-- what a slot holds, by the row that takes it
abbrev pub seated : Option ListingRow → Slot → Slot
seated None slot = slot
seated (Some row) slot = Some (new_filled row)

length-with_taken : (pairs : List (ℕ × ListingRow)) (slots : List Slot) → length (with_taken pairs slots) ≡ length slots
length-with_taken [] slots = refl
length-with_taken (pair ∷ pairs) slots =
    length-with_taken pairs (set slots pair.0 (Some (new_filled pair.1))) ∙ length-set slots pair.0 (Some (new_filled pair.1))

with_taken-at : (pairs : List (ℕ × ListingRow)) (slots : List Slot) (place : ℕ) → IsDistinct (λ (p q : ℕ × ListingRow). nat_eq p.0 q.0) pairs → place < length slots
    → slot_at (with_taken pairs slots) place ≡ seated (taker pairs place) (slot_at slots place)
unfolding IsDistinct
with_taken-at [] slots place d within = refl
with_taken-at (pair ∷ pairs) slots place d within =
    by (nat_eq place pair.0) refl (with_taken-at pairs (set slots pair.0 (Some (new_filled pair.1))) place d.1 (rw (length-set slots pair.0 (Some (new_filled pair.1))) within))
  where
    by : (b : Bool) → nat_eq place pair.0 ≡ b
        → slot_at (with_taken pairs (set slots pair.0 (Some (new_filled pair.1)))) place ≡ seated (taker pairs place) (slot_at (set slots pair.0 (Some (new_filled pair.1))) place)
        → slot_at (with_taken pairs (set slots pair.0 (Some (new_filled pair.1)))) place ≡ seated (cond b (Some pair.1) (taker pairs place)) (slot_at slots place)
    by true at rest =
        let here : place ≡ pair.0 = eqb-true place pair.0 at in
        let none : taker pairs place ≡ None = taker-none pairs place (subst (λ (k : ℕ). AllByRecursion (λ (q : ℕ × ListingRow). nat_eq k q.0 ≡ false) pairs) (sym here) d.0) in
        let set_here : slot_at (set slots pair.0 (Some (new_filled pair.1))) place ≡ Some (new_filled pair.1) =
        subst (λ (k : ℕ). slot_at (set slots k (Some (new_filled pair.1))) place ≡ Some (new_filled pair.1)) here (slot_at-set_same slots place (Some (new_filled pair.1)) within) in
        rest ∙ ap (λ (o : Option ListingRow). seated o (slot_at (set slots pair.0 (Some (new_filled pair.1))) place)) none ∙ set_here
    by false at rest = rest ∙ ap (seated (taker pairs place)) (slot_at-set_other slots pair.0 place (Some (new_filled pair.1)) at)

-- ---- after a publish

module _ (stable : Bool) (rows : List ListingRow) (slots : List Slot) (list : List ℕ) where
  pub length-slots_after : length (slots_after stable rows slots list) ≡ length slots
  length-slots_after = length-with_taken (taken stable rows slots list) (map (settled stable rows) slots) ∙ length-map slots (settled stable rows)

  slot_at-settled : (place : ℕ) → slot_at (map (settled stable rows) slots) place ≡ settled stable rows (slot_at slots place)
  slot_at-settled place = ap (λ (o : Option Slot). unwrap_or o None) (slice_get-map (settled stable rows) slots place) ∙ by (slice_get slots place)
    where
      by : (o : Option Slot) → unwrap_or (option_map (settled stable rows) o) None ≡ settled stable rows (unwrap_or o None)
      by None = refl
      by (Some slot) = refl

  pub IsDistinct-free : IsDistinct nat_eq (free_places stable rows slots list)
  IsDistinct-free = IsDistinct-filter nat_eq (λ place. is_free stable rows (slot_at slots place)) (ring_from (place_after list) (length slots)) (IsDistinct-ring (place_after list) (length slots))

  pub slots_after-at : (place : ℕ) → place < length slots
      → slot_at (slots_after stable rows slots list) place ≡ seated (taker (taken stable rows slots list) place) (settled stable rows (slot_at slots place))
  slots_after-at place within =
      with_taken-at (taken stable rows slots list) (map (settled stable rows) slots) place
      (IsDistinct-firsts nat_eq (free_places stable rows slots list) (new_rows slots rows) IsDistinct-free) (rw (length-map slots (settled stable rows)) within)
      ∙ ap (seated (taker (taken stable rows slots list) place)) (slot_at-settled place)

  -- a place that a row takes was free, and the row is new
  pub taken_free : (place : ℕ) (row : ListingRow) → taker (taken stable rows slots list) place ≡ Some row → is_free stable rows (slot_at slots place) ≡ true
  taken_free place row is =
      (taker_gives (λ k. is_free stable rows (slot_at slots k) ≡ true) (λ _. Unit {0}) (taken stable rows slots list)
      (each_zip (λ k. is_free stable rows (slot_at slots k) ≡ true) (λ _. Unit {0}) (free_places stable rows slots list) (new_rows slots rows)
      (each_passes (λ k. is_free stable rows (slot_at slots k)) (ring_from (place_after list) (length slots))) (each_true (new_rows slots rows))) place row is).0

  pub taken_within : (place : ℕ) (row : ListingRow) → taker (taken stable rows slots list) place ≡ Some row → place < length slots
  taken_within place row is =
      (taker_gives (λ k. k < length slots) (λ _. Unit {0}) (taken stable rows slots list)
      (each_zip (λ k. k < length slots) (λ _. Unit {0}) (free_places stable rows slots list) (new_rows slots rows)
      (each_filter (λ k. k < length slots) (λ k. is_free stable rows (slot_at slots k)) (ring_from (place_after list) (length slots)) (each_in_ring (place_after list) (length slots)))
      (each_true (new_rows slots rows))) place row is).0

  pub taken_new : (place : ℕ) (row : ListingRow) → taker (taken stable rows slots list) place ≡ Some row → is_new slots row ≡ true
  taken_new place row is =
      (taker_gives (λ _. Unit {0}) (λ r. is_new slots r ≡ true) (taken stable rows slots list)
      (each_zip (λ _. Unit {0}) (λ r. is_new slots r ≡ true) (free_places stable rows slots list) (new_rows slots rows)
      (each_true (free_places stable rows slots list)) (each_passes (is_new slots) rows)) place row is).1

  -- and it is one of the listing's
  pub taken_listed : (place : ℕ) (row : ListingRow) → taker (taken stable rows slots list) place ≡ Some row → Contains rows row
  taken_listed place row is =
      (taker_gives (λ _. Unit {0}) (Contains rows) (taken stable rows slots list)
      (each_zip (λ _. Unit {0}) (Contains rows) (free_places stable rows slots list) (new_rows slots rows)
      (each_true (free_places stable rows slots list))
      (each_filter (Contains rows) (is_new slots) rows (recursion_from_All (Contains rows) rows (All-contains_itself rows)))) place row is).1

  -- a filled place that isn't free is not taken: the settled slot is there
  pub unfree_after : (place : ℕ) (filled : Filled) → slot_at slots place ≡ Some filled → is_free stable rows (Some filled) ≡ false
      → slot_at (slots_after stable rows slots list) place ≡ settled stable rows (Some filled)
  unfree_after place filled is unfree = slots_after-at place (filled_within slots place filled is)
      ∙ ap (λ (s : Slot). seated (taker (taken stable rows slots list) place) (settled stable rows s)) is ∙ by (taker (taken stable rows slots list) place) refl
    where
      by : (o : Option ListingRow) → taker (taken stable rows slots list) place ≡ o → seated o (settled stable rows (Some filled)) ≡ settled stable rows (Some filled)
      by None at = refl
      by (Some row) at = let free : is_free stable rows (Some filled) ≡ true = rw is at (taken_free place row at) in let no : true ≡ false = sym free ∙ unfree in absurd cc

  -- a slot that a row keeps is put back
  pub kept_after : (place : ℕ) (filled : Filled) → slot_at slots place ≡ Some filled → is_kept rows (Some filled) ≡ true
      → slot_at (slots_after stable rows slots list) place ≡ Some (filled_put_back filled)
  kept_after place filled is kept = unfree_after place filled is (by stable (is_kept rows (Some filled)) kept) ∙ rw kept refl
    where
      by : (s k : Bool) → k ≡ true → (not s && not k) ≡ false
      by true k kept = refl
      by false true kept = refl
      by false false kept = absurd cc

  -- a filled slot afterwards was taken by a new row, or settled
  pub after_cases : (place : ℕ) (after : Filled) → slot_at (slots_after stable rows slots list) place ≡ Some after
      → ((row : ListingRow) × (taker (taken stable rows slots list) place ≡ Some row) × (new_filled row ≡ after))
      ⊎ ((before : Filled) × (slot_at slots place ≡ Some before) × (settled stable rows (Some before) ≡ Some after))
  after_cases place after is = by (taker (taken stable rows slots list) place) (slot_at slots place) refl refl (sym (slots_after-at place within) ∙ is)
    where
      within : place < length slots
      within = subst (λ n. place < n) length-slots_after (filled_within (slots_after stable rows slots list) place after is)

      by : (o : Option ListingRow) (s : Slot) → taker (taken stable rows slots list) place ≡ o → slot_at slots place ≡ s → seated o (settled stable rows s) ≡ Some after
          → ((row : ListingRow) × (taker (taken stable rows slots list) place ≡ Some row) × (new_filled row ≡ after))
          ⊎ ((before : Filled) × (slot_at slots place ≡ Some before) × (settled stable rows (Some before) ≡ Some after))
      by None None at was gives = absurd cc
      by None (Some before) at was gives = inr (before, was, gives)
      by (Some row) s at was gives = inl (row, at, cc)
