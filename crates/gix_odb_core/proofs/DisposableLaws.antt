-- Laws of publishing a listing: a listed slot has no garbage and no missing file.
use Rattle.std.proofs.Common.{◌≡◌, ℕ, Bool, true, false, ◌||◌, nat_eq, List, [], ◌∷◌, map, Option, Some, None, ◌⊎◌, inl, inr, refl, sym, ap, subst, ◌∙◌}
use Rattle.std.specs.List.{list_any}
use Rattle.std.proofs.lemmas.Bool.{or_from}
use Rattle.odb_base.specs.Path.{Path}
use Rattle.gix_pack_read.specs.MultiIndex.{told}
use Rattle.gix_odb_events.specs.OnDiskFile.{is_disposable, put_back, with_state}
use Rattle.gix_odb_core.specs.Publish.{is_kept, list_after, settled, slots_after, taken}
use Rattle.gix_odb_events.specs.Slots.{slot_at, Slot, filled_put_back, filled_trashed, has_disposable, index_put_back, is_index_disposable, new_filled, new_index}
use Rattle.gix_odb_events.specs.PackFiles.{PackFile, new_pack, new_packs}
use Rattle.gix_odb_events.specs.declared.listing.ListingRow.{ListingRow}
use Rattle.gix_odb_events.specs.declared.on_disk_file.FileState.{FileState}
use Rattle.gix_odb_events.specs.declared.on_disk_file.FileState.TheVariants.{Unloaded, Loaded, Garbage, Missing}
use Rattle.gix_odb_events.specs.declared.slot.Filled.{Filled}
use Rattle.gix_odb_events.specs.declared.slot.IndexFile.{IndexFile}
use Rattle.gix_odb_events.specs.declared.slot.IndexFile.TheVariants.{Single, Multi}
use Rattle.gix_odb_core.proofs.PublishLaws.{listed_slot_is_kept}
use Rattle.gix_odb_core.proofs.SettledLemmas.{holds-settled, settled_cases}
use Rattle.gix_odb_core.proofs.SlotsAfterLemmas.{after_cases}
use Rattle.gix_odb_core.proofs.TakenLemmas.{taker}

-- ---- a slot that a new row takes, and one that is put back

none-new : (folder : Path) (names : List (List ℕ)) → list_any (λ pack. is_disposable pack.state) (map (new_pack folder) names) ≡ false
none-new folder [] = refl
none-new folder (name ∷ names) = none-new folder names

disposable-new : (row : ListingRow) → has_disposable (new_filled row) ≡ false
disposable-new row = by row.multi
  where
    by : (multi : Option (List ℕ)) → (is_index_disposable (new_index row.path multi) || list_any (λ pack. is_disposable pack.state) (new_packs row.path multi)) ≡ false
    by None = refl
    by (Some multi) = none-new _ (told multi).names

disposable-put_back : {A : Type 0} (state : FileState A) → is_disposable (put_back state) ≡ false
disposable-put_back Unloaded = refl
disposable-put_back (Loaded file) = refl
disposable-put_back (Garbage file) = refl
disposable-put_back Missing = refl

none-put_back : (packs : List PackFile) → list_any (λ pack. is_disposable pack.state) (map (with_state put_back) packs) ≡ false
none-put_back [] = refl
none-put_back (pack ∷ packs) = or_from _ _ (disposable-put_back pack.state) (none-put_back packs)

disposable-filled_put_back : (filled : Filled) → has_disposable (filled_put_back filled) ≡ false
disposable-filled_put_back filled = or_from _ _ (by filled.index) (none-put_back filled.packs)
  where
    by : (index : IndexFile) → is_index_disposable (index_put_back index) ≡ false
    by (Single file) = disposable-put_back file.state
    by (Multi file) = disposable-put_back file.state

-- ---- listed slots

module _ (stable : Bool) (rows : List ListingRow) (slots : List Slot) (list : List ℕ) where
  -- a slot that holds a row after a publish has no garbage and no missing file
  pub slot_of_a_row_has_no_disposable : (place : ℕ) (after : Filled) → slot_at (slots_after stable rows slots list) place ≡ Some after → is_kept rows (Some after) ≡ true → has_disposable after ≡ false
  slot_of_a_row_has_no_disposable place after is kept = by (after_cases stable rows slots list place after is)
    where
      settles : (before : Filled) → settled stable rows (Some before) ≡ Some after
          → ((is_kept rows (Some before) ≡ true) × (filled_put_back before ≡ after)) ⊎ ((is_kept rows (Some before) ≡ false) × (filled_trashed before ≡ after)) → has_disposable after ≡ false
      settles before gives (inl (was_kept, to)) = subst (λ (f : Filled). has_disposable f ≡ false) to (disposable-filled_put_back before)
      settles before gives (inr (unkept, to)) =
          let same : is_kept rows (Some after) ≡ is_kept rows (Some before) = λ i. list_any (λ row. holds-settled stable rows before after gives row i) rows in
          let wrong : true ≡ false = sym kept ∙ same ∙ unkept in
          absurd cc

      by : ((row : ListingRow) × (taker (taken stable rows slots list) place ≡ Some row) × (new_filled row ≡ after))
          ⊎ ((before : Filled) × (slot_at slots place ≡ Some before) × (settled stable rows (Some before) ≡ Some after)) → has_disposable after ≡ false
      by (inl (row, at, gives)) = subst (λ (f : Filled). has_disposable f ≡ false) gives (disposable-new row)
      by (inr (before, was, gives)) = settles before gives (settled_cases stable rows before after gives)

  pub listed_slot_has_no_disposable : (place : ℕ) (after : Filled) → slot_at (slots_after stable rows slots list) place ≡ Some after
      → list_any (nat_eq place) (list_after rows (slots_after stable rows slots list)) ≡ true → has_disposable after ≡ false
  listed_slot_has_no_disposable place after is listed =
      slot_of_a_row_has_no_disposable place after is (ap (λ (s : Slot). is_kept rows s) (sym is) ∙ listed_slot_is_kept rows (slots_after stable rows slots list) place listed)

  -- so a slot with garbage, or with a missing file, isn't listed
  pub disposable_slot_is_not_listed : (place : ℕ) (after : Filled) → slot_at (slots_after stable rows slots list) place ≡ Some after → has_disposable after ≡ true
      → list_any (nat_eq place) (list_after rows (slots_after stable rows slots list)) ≡ false
  disposable_slot_is_not_listed place after is disposable = by (list_any (nat_eq place) (list_after rows (slots_after stable rows slots list))) refl
    where
      by : (b : Bool) → list_any (nat_eq place) (list_after rows (slots_after stable rows slots list)) ≡ b → b ≡ false
      by true listed = let wrong : true ≡ false = sym disposable ∙ listed_slot_has_no_disposable place after is listed in absurd cc
      by false listed = refl
