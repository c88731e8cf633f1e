-- Laws of publishing a listing: slots that hold different indices hold different indices after it.
use Rattle.std.proofs.Common.{◌≡◌, ℕ, ◌<◌, Bool, true, false, List, Some, ◌⊎◌, inl, inr, refl, sym, subst, ◌∙◌, arith, ne_eqb}
use Rattle.std.specs.List.{list_any}
use Rattle.std.proofs.lemmas.Bool.{not-true}
use Rattle.gix_odb_core.specs.Publish.{free_places, is_new, new_rows, settled, slots_after, taken}
use Rattle.gix_odb_events.specs.Slots.{slot_at, IsApart, Slot, holds, new_filled}
use Rattle.gix_odb_events.specs.PackFiles.{same_path, HasDifferentPaths}
use Rattle.gix_odb_events.specs.declared.listing.ListingRow.{ListingRow}
use Rattle.gix_odb_events.specs.declared.slot.Filled.{Filled}
use Rattle.gix_odb_core.proofs.ApartLemmas.{apart_at, apart_from}
use Rattle.gix_odb_core.proofs.DistinctLemmas.{IsDistinct-filter, IsDistinct-map, IsDistinct-seconds}
use Rattle.gix_odb_core.proofs.PublishLaws.{any_from_place}
use Rattle.gix_odb_core.proofs.SameIndexLemmas.{same_filled, same_filled-settled, same_filled_flip, same_index-new, same_index-rows}
use Rattle.gix_odb_events.proofs.SamePathLaws.{same_path_flip}
use Rattle.gix_odb_core.proofs.SlotsAfterLemmas.{after_cases, taken_new}
use Rattle.gix_odb_core.proofs.TakenLemmas.{taker, taker_apart}

-- a slot that is filled doesn't hold a new row
new_row_not_held : (slots : List Slot) (row : ListingRow) (place : ℕ) (filled : Filled) → is_new slots row ≡ true → slot_at slots place ≡ Some filled → holds row (Some filled) ≡ false
new_row_not_held slots row place filled new is = by (holds row (Some filled)) refl
  where
    by : (b : Bool) → holds row (Some filled) ≡ b → b ≡ false
    by true held = let any = any_from_place row slots place filled is held in let none = not-true (list_any (holds row) slots) new in let no : true ≡ false = sym any ∙ none in absurd cc
    by false held = refl

module _ (stable : Bool) (rows : List ListingRow) (slots : List Slot) (list : List ℕ) (differ : HasDifferentPaths rows) (apart : IsApart slots) where
  -- the slot that a new row takes differs from each settled slot
  settled_and_taken : (place : ℕ) (row : ListingRow) (there : ℕ) (before after : Filled) → taker (taken stable rows slots list) place ≡ Some row
      → slot_at slots there ≡ Some before → settled stable rows (Some before) ≡ Some after → same_filled after (new_filled row) ≡ false
  settled_and_taken place row there before after at was is =
      same_filled-settled stable rows before after (new_filled row) is
      ∙ same_index-new before row
      ∙ new_row_not_held slots row there before (taken_new stable rows slots list place row at) was

  both_taken : (i j : ℕ) (one other : ListingRow) → i < j → taker (taken stable rows slots list) i ≡ Some one → taker (taken stable rows slots list) j ≡ Some other
      → same_filled (new_filled one) (new_filled other) ≡ false
  both_taken i j one other order at its =
      same_index-rows one other
      (taker_apart (λ x y. same_path x.path y.path) (λ x y. same_path_flip x.path y.path) (taken stable rows slots list)
      (IsDistinct-seconds (λ x y. same_path x.path y.path) (free_places stable rows slots list) (new_rows slots rows)
      (IsDistinct-filter (λ x y. same_path x.path y.path) (is_new slots) rows (IsDistinct-map same_path (λ row. row.path) rows differ)))
      i j one other (ne_eqb i j (λ e. omega arith)) at its)

  pub publish_keeps_slots_apart : IsApart (slots_after stable rows slots list)
  publish_keeps_slots_apart =
      apart_from same_filled (slots_after stable rows slots list)
      (λ i j one other order is its. by i j one other order (after_cases stable rows slots list i one is) (after_cases stable rows slots list j other its))
    where
      by : (i j : ℕ) (one other : Filled) → i < j
          → ((row : ListingRow) × (taker (taken stable rows slots list) i ≡ Some row) × (new_filled row ≡ one))
          ⊎ ((before : Filled) × (slot_at slots i ≡ Some before) × (settled stable rows (Some before) ≡ Some one))
          → ((row : ListingRow) × (taker (taken stable rows slots list) j ≡ Some row) × (new_filled row ≡ other))
          ⊎ ((before : Filled) × (slot_at slots j ≡ Some before) × (settled stable rows (Some before) ≡ Some other))
          → same_filled one other ≡ false
      by i j one other order (inl (row, at, is)) (inl (line, its, same)) =
          subst (λ (f : Filled). same_filled f other ≡ false) is (subst (λ (f : Filled). same_filled (new_filled row) f ≡ false) same (both_taken i j row line order at its))
      by i j one other order (inl (row, at, is)) (inr (before, was, settles)) =
          same_filled_flip other one (subst (λ (f : Filled). same_filled other f ≡ false) is (settled_and_taken i row j before other at was settles))
      by i j one other order (inr (before, was, settles)) (inl (row, at, is)) =
          subst (λ (f : Filled). same_filled one f ≡ false) is (settled_and_taken j row i before one at was settles)
      by i j one other order (inr (before, was, settles)) (inr (former, had, settled_too)) =
          same_filled-settled stable rows before one other settles
          ∙ same_filled_flip other before (same_filled-settled stable rows former other before settled_too ∙ same_filled_flip before former
          (apart_at same_filled slots apart i j before former order was had))
