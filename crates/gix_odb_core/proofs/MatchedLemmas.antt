-- The rows and slots that were looked up, by their places.
use Rattle.std.proofs.Common.{◌≡◌, ℕ, suc, ◌+◌, ◌<◌, Bool, true, false, cond, not, ◌||◌, List, [], ◌∷◌, ◌++◌, length, get_or}
use Rattle.std.proofs.Common.{take, filter, map, Some, None, Option, is_none, is_some, position, refl, sym, ap, ◌∙◌}
use Rattle.std.specs.List.{cons_option, filter_map, list_any, position_from}
use Rattle.std.proofs.lemmas.Iterator.Adapters.{position_from-zero}
use Rattle.std.proofs.lemmas.List.{get_or-map, map_push, take_more}
use Rattle.std.proofs.lemmas.List.Folds.{list_any_at, list_any_more}
use Rattle.gix_odb_core.specs.Publish.{is_new, new_rows}
use Rattle.gix_odb_events.specs.Slots.{slot_at, Slot, holds}
use Rattle.gix_odb_events.specs.declared.listing.ListingRow.{ListingRow}
use Rattle.gix_odb_core.proofs.SlotsAfterLemmas.{slot_at-get_or}

-- ---- a slot by its place

-- a slot that passes a test
pub any_slot-here : (p : Slot → Bool) (slots : List Slot) (place : ℕ) (passes : Bool) → place < length slots → passes ≡ p (slot_at slots place) → passes ≡ true → true ≡ list_any p slots
any_slot-here p slots place passes within is pass = sym (list_any_at p slots place None within (ap p (sym (slot_at-get_or slots place)) ∙ sym is ∙ pass))

-- one more slot, which fails it
pub any_slot-more : (p : Slot → Bool) (slots : List Slot) (place : ℕ) (passes : Bool) → place < length slots → passes ≡ p (slot_at slots place) → passes ≡ false
    → list_any p (take place slots) ≡ false → list_any p (take (place + 1) slots) ≡ false
any_slot-more p slots place passes within is fails so_far =
    list_any_more p slots place None within
    ∙ ap (λ (b : Bool). b || p (get_or slots place None)) so_far
    ∙ ap p (sym (slot_at-get_or slots place)) ∙ sym is ∙ fails

-- one more slot that a function is applied to
pub map_slots-step : {Y : Type 0} (h : Slot → Y) (slots : List Slot) (place : ℕ) (y : Y) (old new : List Y) → place < length slots → y ≡ h (slot_at slots place)
    → old ≡ map h (take place slots) → new ≡ old ++ y ∷ [] → new ≡ map h (take (place + 1) slots)
map_slots-step {Y = Y} h slots place y old new within gives so_far put =
    put
    ∙ ap (λ (l : List Y). l ++ y ∷ []) so_far
    ∙ ap (λ (z : Y). map h (take place slots) ++ z ∷ []) (gives ∙ ap h (slot_at-get_or slots place))
    ∙ sym (map_push h (take place slots) (get_or slots place None))
    ∙ ap (map h) (sym (take_more slots place None within))

-- ---- rows that no slot holds

module _ {X : Type 0} (p : X → Bool) where
  none_from : (xs : List X) (i : ℕ) → is_none (position_from p i xs) ≡ not (list_any p xs)
  none_from [] i = refl
  none_from (x ∷ xs) i = by (p x) (none_from xs (i + 1))
    where
      by : (b : Bool) → is_none (position_from p (i + 1) xs) ≡ not (list_any p xs) → is_none (cond b (Some i) (position_from p (i + 1) xs)) ≡ not (b || list_any p xs)
      by true rest = refl
      by false rest = rest

  -- there is no first place where no element passes
  pub position-none : (xs : List X) → is_none (position p xs) ≡ not (list_any p xs)
  position-none xs = ap is_none (position_from-zero p xs) ∙ none_from xs 0

module _ (slots : List Slot) where
  abbrev place_of : ListingRow → Option ℕ
  place_of row = position (holds row) slots

  -- whether a row is new
  pub new_at : (rows : List ListingRow) (places : List (Option ℕ)) (i : ℕ) (row : ListingRow) (place : Option ℕ) (new : Bool) → i < length rows
      → places ≡ map (λ r. position (holds r) slots) rows → row ≡ get_or rows i row → place ≡ get_or places i place → is_some place ≡ not new → new ≡ is_new slots row
  new_at rows places i row place new within is at found tests =
      by place new tests
      ∙ ap is_none found
      ∙ ap (λ (l : List (Option ℕ)). is_none (get_or l i place)) is
      ∙ ap is_none (get_or-map place_of rows i row place within)
      ∙ ap (λ (r : ListingRow). is_none (place_of r)) (sym at)
      ∙ position-none (holds row) slots
    where
      by : (o : Option ℕ) (b : Bool) → is_some o ≡ not b → b ≡ is_none o
      by None true h = refl
      by None false h = absurd cc
      by (Some k) true h = absurd cc
      by (Some k) false h = refl

  -- how many are new
  pub count_new-none : (rows : List ListingRow) → length (filter is_none (map (λ row. position (holds row) slots) rows)) ≡ length (new_rows slots rows)
  count_new-none [] = refl
  count_new-none (row ∷ rows) =
      ap (λ (b : Bool). length (cond b (place_of row ∷ filter is_none (map place_of rows)) (filter is_none (map place_of rows)))) (position-none (holds row) slots)
      ∙ by (is_new slots row) (count_new-none rows)
    where
      by : (b : Bool) → length (filter is_none (map place_of rows)) ≡ length (new_rows slots rows)
          → length (cond b (place_of row ∷ filter is_none (map place_of rows)) (filter is_none (map place_of rows))) ≡ length (cond b (row ∷ new_rows slots rows) (new_rows slots rows))
      by true rest = ap suc rest
      by false rest = rest

  -- the places that are present are the list
  pub list_after-places : (rows : List ListingRow) → filter_map (λ (place : Option ℕ). place) (map (λ row. position (holds row) slots) rows) ≡ filter_map (λ row. position (holds row) slots) rows
  list_after-places [] = refl
  list_after-places (row ∷ rows) = ap (cons_option (place_of row)) (list_after-places rows)
