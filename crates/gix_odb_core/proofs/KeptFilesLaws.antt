-- Laws of publishing a listing: which slots keep their files.
use Rattle.std.proofs.Common.{nat_eq, Contains, ◌≡◌, ℕ, Bool, true, false, List, [], length, Some, None, ◌⊎◌, inl, inr, zip, refl, ap, ◌∙◌}
use Rattle.std.specs.List.{list_any}
use Rattle.std.proofs.lemmas.List.{nil_from_length}
use Rattle.gix_odb_core.specs.Publish.{free_places, is_free, is_kept, is_new, list_after, new_rows, settled, slots_after, taken}
use Rattle.gix_odb_events.specs.Slots.{slot_at, KeepsFiles, Slot, filled_put_back, filled_trashed, index_path, new_filled}
use Rattle.gix_odb_events.specs.declared.listing.ListingRow.{ListingRow}
use Rattle.gix_odb_events.specs.declared.slot.Filled.{Filled}
use Rattle.gix_odb_core.proofs.KeptFilesLemmas.{keeps-settled, keeps_path}
use Rattle.gix_odb_core.proofs.PublishLaws.{listed_slot_is_filled}
use Rattle.gix_odb_core.proofs.PublishLemmas.{nothing}
use Rattle.gix_odb_core.proofs.SlotsAfterLemmas.{after_cases, kept_after, length-slots_after, taken_free, taken_listed, taken_new, unfree_after}
use Rattle.gix_odb_core.proofs.TakenLemmas.{taker}

-- a slot that keeps its files keeps its index path
pub kept_files_have_the_index_path : (before after : Filled) → KeepsFiles before after → index_path after.index ≡ index_path before.index
kept_files_have_the_index_path before after keeps = keeps_path before after keeps

-- while a handle is stable, whatever is published, a filled slot stays filled and keeps its files
pub stable_publish_keeps_files : (rows : List ListingRow) (slots : List Slot) (list : List ℕ) (place : ℕ) (before : Filled) → slot_at slots place ≡ Some before
    → (after : Filled) × (slot_at (slots_after true rows slots list) place ≡ Some after) × KeepsFiles before after
stable_publish_keeps_files rows slots list place before was = by (is_kept rows (Some before)) refl
  where
    by : (b : Bool) → is_kept rows (Some before) ≡ b → (after : Filled) × (slot_at (slots_after true rows slots list) place ≡ Some after) × KeepsFiles before after
    by true kept =
        let is : settled true rows (Some before) ≡ Some (filled_put_back before) = rw kept refl in
        (filled_put_back before, unfree_after true rows slots list place before was refl ∙ is, keeps-settled true rows before (filled_put_back before) is)
    by false kept =
        let is : settled true rows (Some before) ≡ Some (filled_trashed before) = rw kept refl in
        (filled_trashed before, unfree_after true rows slots list place before was refl ∙ is, keeps-settled true rows before (filled_trashed before) is)

module _ (stable : Bool) (rows : List ListingRow) (slots : List Slot) (list : List ℕ) where
  -- a slot that a row keeps stays filled and keeps its files, whether or not a handle is stable
  pub kept_slot_keeps_files : (place : ℕ) (before : Filled) → slot_at slots place ≡ Some before → is_kept rows (Some before) ≡ true
      → (after : Filled) × (slot_at (slots_after stable rows slots list) place ≡ Some after) × KeepsFiles before after
  kept_slot_keeps_files place before was kept =
      (filled_put_back before, kept_after stable rows slots list place before was kept, keeps-settled stable rows before (filled_put_back before) (rw kept refl))

  -- where no row is new, each slot that is filled afterwards was filled before, and keeps its files
  pub no_new_row_changes_no_files : length (new_rows slots rows) ≡ 0 → (place : ℕ) (after : Filled) → slot_at (slots_after stable rows slots list) place ≡ Some after
      → (before : Filled) × (slot_at slots place ≡ Some before) × KeepsFiles before after
  no_new_row_changes_no_files none place after is = by (after_cases stable rows slots list place after is)
    where
      untaken : taken stable rows slots list ≡ []
      untaken = ap (λ (news : List ListingRow). zip (free_places stable rows slots list) news) (nil_from_length (new_rows slots rows) none) ∙ nothing (free_places stable rows slots list)

      by : ((row : ListingRow) × (taker (taken stable rows slots list) place ≡ Some row) × (new_filled row ≡ after))
          ⊎ ((before : Filled) × (slot_at slots place ≡ Some before) × (settled stable rows (Some before) ≡ Some after))
          → (before : Filled) × (slot_at slots place ≡ Some before) × KeepsFiles before after
      by (inl (row, at, gives)) = let nobody : taker (taken stable rows slots list) place ≡ None = ap (λ (pairs : List (ℕ × ListingRow)). taker pairs place) untaken in absurd cc
      by (inr (before, was, settles)) = (before, was, keeps-settled stable rows before after settles)

  -- so a listing that only confirms the list leaves the files of the listed slots
  pub no_new_row_changes_no_listed_slot : length (new_rows slots rows) ≡ 0 → (place : ℕ) → list_any (nat_eq place) (list_after rows (slots_after stable rows slots list)) ≡ true
      → (before : Filled) × (after : Filled) × (slot_at slots place ≡ Some before) × (slot_at (slots_after stable rows slots list) place ≡ Some after) × KeepsFiles before after
  no_new_row_changes_no_listed_slot none place listed =
      let there = listed_slot_is_filled rows (slots_after stable rows slots list) place listed in
      let kept = no_new_row_changes_no_files none place there.0 there.1 in
      (kept.0, there.0, kept.1, there.1, kept.2)

  -- a slot that is filled afterwards was free and is taken by a new row of the listing, or was filled before and keeps its files
  pub filled_slot_is_taken_or_kept : (place : ℕ) (after : Filled) → slot_at (slots_after stable rows slots list) place ≡ Some after
      → ((row : ListingRow) × Contains rows row × (is_new slots row ≡ true) × (is_free stable rows (slot_at slots place) ≡ true) × (new_filled row ≡ after))
      ⊎ ((before : Filled) × (slot_at slots place ≡ Some before) × KeepsFiles before after)
  filled_slot_is_taken_or_kept place after is = by (after_cases stable rows slots list place after is)
    where
      by : ((row : ListingRow) × (taker (taken stable rows slots list) place ≡ Some row) × (new_filled row ≡ after))
          ⊎ ((before : Filled) × (slot_at slots place ≡ Some before) × (settled stable rows (Some before) ≡ Some after))
          → ((row : ListingRow) × Contains rows row × (is_new slots row ≡ true) × (is_free stable rows (slot_at slots place) ≡ true) × (new_filled row ≡ after))
          ⊎ ((before : Filled) × (slot_at slots place ≡ Some before) × KeepsFiles before after)
      by (inl (row, at, gives)) =
          inl (row, taken_listed stable rows slots list place row at, taken_new stable rows slots list place row at, taken_free stable rows slots list place row at, gives)
      by (inr (before, was, settles)) = inr (before, was, keeps-settled stable rows before after settles)

  pub publish_keeps_the_number_of_slots : length (slots_after stable rows slots list) ≡ length slots
  publish_keeps_the_number_of_slots = length-slots_after stable rows slots list
