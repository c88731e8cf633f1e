-- Counts summed one slot at a time are counts over the filled slots.
use Rattle.std.proofs.Common.{◌≡◌, ℕ, ◌+◌, ◌<◌, Bool, true, false, cond, inl, inr, List, [], ◌∷◌, length, get_or, drop, take, Option, Some, None, is_none, refl, sym, ap, subst, ◌∙◌, arith}
use Rattle.std.specs.List.{cons_option, count_by, slice_get, sum_by}
use Rattle.std.specs.Option.{option_map_or}
use Rattle.std.proofs.lemmas.List.{drop_more}
use Rattle.std.proofs.lemmas.Option.{get_or_from_slice_get, slice_get_cases}
use Rattle.std.proofs.lemmas.List.Sums.{count_by_more_no, count_by_more_yes, sum_by-cons}
use Rattle.gix_odb_core.proofs.SlotsAfterLemmas.{slot_at-get_or}
use Rattle.gix_odb_core.specs.Tally.{IsSmall, no_tally, tally_of, with_disposable, with_filled, with_places, with_slot}
use Rattle.gix_odb_core.specs.Counts.{disposable_in, disposable_slot, listed_in, loaded_packs}
use Rattle.gix_odb_events.specs.Slots.{is_index_loaded, slot_at, Slot}
use Rattle.gix_odb_core.specs.declared.counts.Tally.{Tally}
use Rattle.gix_odb_events.specs.declared.slot.Filled.{Filled}

-- ---- what is small at the end was small before

filled_small : (tally : Tally) (filled : Filled) → IsSmall (with_filled tally filled) → IsSmall tally
filled_small tally filled small =
    record {
      indices = omega (arith, small.indices);
      open_indices = omega (arith, small.open_indices);
      packs = omega (arith, small.packs);
      open_packs = omega (arith, small.open_packs);
    }

slot_small : (tally : Tally) (slot : Slot) → IsSmall (with_slot tally slot) → IsSmall tally
slot_small tally None small = small
slot_small tally (Some filled) small = filled_small tally filled small

places_small : (slots : List Slot) (tally : Tally) (places : List ℕ) → IsSmall (with_places slots tally places) → IsSmall tally
places_small slots tally [] small = small
places_small slots tally (place ∷ places) small = slot_small tally (slot_at slots place) (places_small slots (with_slot tally (slot_at slots place)) places small)

disposable_small : (tally : Tally) (slots : List Slot) → IsSmall (with_disposable tally slots) → IsSmall tally
disposable_small tally [] small = small
disposable_small tally (slot ∷ slots) small = slot_small tally (disposable_slot slot) (disposable_small (with_slot tally (disposable_slot slot)) slots small)

-- ---- one more slot

module _ (slots : List Slot) (list : List ℕ) (i : ℕ) (tally : Tally) (within : i < length list) (so_far : with_places slots tally (drop i list) ≡ with_places slots no_tally list) where
  pub listed_tally-step : with_places slots (with_slot tally (slot_at slots (get_or list i 0))) (drop (i + 1) list) ≡ with_places slots no_tally list
  listed_tally-step = ap (with_places slots tally) (sym (drop_more list i 0 within)) ∙ so_far

  pub listed_tally-small : IsSmall (with_places slots no_tally list) → IsSmall (with_slot tally (slot_at slots (get_or list i 0)))
  listed_tally-small small = places_small slots (with_slot tally (slot_at slots (get_or list i 0))) (drop (i + 1) list) (subst IsSmall (sym listed_tally-step) small)

module _ (slots : List Slot) (place : ℕ) (tally : Tally) (within : place < length slots)
    (so_far : with_disposable tally (drop place slots) ≡ with_disposable no_tally slots) where
  pub disposable_tally-step : with_disposable (with_slot tally (disposable_slot (slot_at slots place))) (drop (place + 1) slots) ≡ with_disposable no_tally slots
  disposable_tally-step =
      let here : drop place slots ≡ slot_at slots place ∷ drop (place + 1) slots =
      drop_more slots place None within ∙ ap (λ (s : Slot). s ∷ drop (place + 1) slots) (sym (slot_at-get_or slots place)) in
      ap (with_disposable tally) (sym here) ∙ so_far

  pub disposable_tally-small : IsSmall (with_disposable no_tally slots) → IsSmall (with_slot tally (disposable_slot (slot_at slots place)))
  disposable_tally-small small =
      disposable_small (with_slot tally (disposable_slot (slot_at slots place))) (drop (place + 1) slots) (subst IsSmall (sym disposable_tally-step) small)

-- ---- empty slots

module _ (slots : List Slot) (place : ℕ) (within : place < length slots) where
  pub count_unused-yes : true ≡ is_none (slot_at slots place) → count_by is_none (take (place + 1) slots) ≡ count_by is_none (take place slots) + 1
  count_unused-yes empty = count_by_more_yes is_none slots place None within (ap is_none (sym (slot_at-get_or slots place)) ∙ sym empty)

  pub count_unused-no : false ≡ is_none (slot_at slots place) → count_by is_none (take (place + 1) slots) ≡ count_by is_none (take place slots)
  count_unused-no filled = count_by_more_no is_none slots place None within (ap is_none (sym (slot_at-get_or slots place)) ∙ sym filled)

-- ---- items that pass a test

module _ {X : Type 0} (test : X → Bool) (xs : List X) (i : ℕ) (within : i < length xs) (passes : Bool) (is : passes ≡ option_map_or test (slice_get xs i) false) where
  at : (x : X) → slice_get xs i ≡ Some x → passes ≡ test (get_or xs i x)
  at x there = is ∙ ap (λ (o : Option X). option_map_or test o false) there ∙ ap test (sym (get_or_from_slice_get xs i x x there))

  item : (x : X) × (slice_get xs i ≡ Some x)
  item = elim (slice_get_cases xs i).1 [ inl there ↦ (there.0, there.2) | inr past ↦ absurd (omega (arith, past.0)) ]

  pub count_by-yes : passes ≡ true → count_by test (take (i + 1) xs) ≡ count_by test (take i xs) + 1
  count_by-yes pass = count_by_more_yes test xs i item.0 within (sym (at item.0 item.1) ∙ pass)

  pub count_by-no : passes ≡ false → count_by test (take (i + 1) xs) ≡ count_by test (take i xs)
  count_by-no fail = count_by_more_no test xs i item.0 within (sym (at item.0 item.1) ∙ fail)

-- ---- the counts

abbrev made : ℕ → ℕ → ℕ → ℕ → Tally
made indices open_indices packs open_packs = record { indices = indices; open_indices = open_indices; packs = packs; open_packs = open_packs }

same_made : {a b c d e f g h : ℕ} → a ≡ e → b ≡ f → c ≡ g → d ≡ h → made a b c d ≡ made e f g h
same_made {b = b} {c = c} {d = d} {e = e} {f = f} {g = g} p q r s = ap (λ n. made n b c d) p ∙ ap (λ n. made e n c d) q ∙ ap (λ n. made e f n d) r ∙ ap (λ n. made e f g n) s

-- the counts over filled slots, added to others
abbrev over : Tally → List Filled → Tally
over tally filled =
    made (tally.indices + length filled) (tally.open_indices + count_by (λ f. is_index_loaded f.index) filled) (tally.packs + sum_by (λ f. length f.packs) filled)
    (tally.open_packs + sum_by (λ f. loaded_packs f.packs) filled)

over-nil : (tally : Tally) → tally ≡ over tally []
over-nil tally = same_made (omega arith) (omega arith) (omega arith) (omega arith)

over-cons : (tally : Tally) (filled : Filled) (more : List Filled) → over (with_filled tally filled) more ≡ over tally (filled ∷ more)
over-cons tally filled more =
    same_made (omega arith)
    (omega (arith, sum_by-cons (λ (f : Filled). cond (is_index_loaded f.index) 1 0) filled more))
    (omega (arith, sum_by-cons (λ (f : Filled). length f.packs) filled more))
    (omega (arith, sum_by-cons (λ (f : Filled). loaded_packs f.packs) filled more))

over-option : (tally : Tally) (slot : Slot) (more : List Filled) → over (with_slot tally slot) more ≡ over tally (cons_option slot more)
over-option tally None more = refl
over-option tally (Some filled) more = over-cons tally filled more

over-places : (slots : List Slot) (tally : Tally) (places : List ℕ) → with_places slots tally places ≡ over tally (listed_in slots places)
over-places slots tally [] = over-nil tally
over-places slots tally (place ∷ places) = over-places slots (with_slot tally (slot_at slots place)) places ∙ over-option tally (slot_at slots place) (listed_in slots places)

over-disposable : (tally : Tally) (slots : List Slot) → with_disposable tally slots ≡ over tally (disposable_in slots)
over-disposable tally [] = over-nil tally
over-disposable tally (slot ∷ slots) = over-disposable (with_slot tally (disposable_slot slot)) slots ∙ over-option tally (disposable_slot slot) (disposable_in slots)

over_none : (filled : List Filled) → over no_tally filled ≡ tally_of filled
over_none filled = same_made (omega arith) (omega arith) (omega arith) (omega arith)

pub listed_tally-counts : (slots : List Slot) (list : List ℕ) → with_places slots no_tally list ≡ tally_of (listed_in slots list)
listed_tally-counts slots list = over-places slots no_tally list ∙ over_none (listed_in slots list)

pub disposable_tally-counts : (slots : List Slot) → with_disposable no_tally slots ≡ tally_of (disposable_in slots)
disposable_tally-counts slots = over-disposable no_tally slots ∙ over_none (disposable_in slots)
