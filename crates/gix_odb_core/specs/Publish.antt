-- What publishing a listing does to the slots and the list.
use Rattle.std.specs.Prelude.{ℕ, ◌+◌, ◌-◌, Bool, true, false, ◌&&◌, ◌||◌, not, List, [], ◌∷◌, ◌++◌, length, map, filter, Some, None, max, nat_eq, slice_set, if◌then◌else◌}
use Rattle.std.specs.List.{list_any, filter_map, position, range_with_len, zip}
use lib.Pointwise.{pointwise}
use Rattle.gix_odb_events.specs.OnDiskFile.{is_disposable, is_loaded}
use Rattle.gix_odb_events.specs.Slots.{Slot, has_disposable, holds, slot_at, new_filled, filled_put_back, filled_trashed}
use Rattle.gix_odb_events.specs.declared.listing.ListingRow.{ListingRow}
use Rattle.gix_odb_events.specs.declared.on_disk_file.FileState.{FileState}
use Rattle.gix_odb_events.specs.declared.slot.Filled.{Filled}
use Rattle.gix_odb_events.specs.declared.slot.IndexFile.{IndexFile}
use Rattle.gix_odb_events.specs.declared.slot.IndexFile.TheVariants.{Single, Multi}

-- ---- rows and slots

-- whether a row is new: no slot holds it. The others are kept
abbrev pub is_new : List Slot → ListingRow → Bool
is_new slots row = not (list_any (holds row) slots)

abbrev pub new_rows : List Slot → List ListingRow → List ListingRow
new_rows slots rows = filter (is_new slots) rows

-- whether a row keeps what a slot holds
abbrev pub is_kept : List ListingRow → Slot → Bool
is_kept rows slot = list_any (λ row. holds row slot) rows

-- whether a slot is free: it is empty, or no handle is stable and no row keeps it
abbrev pub is_free : Bool → List ListingRow → Slot → Bool
is_free stable rows None = true
is_free stable rows (Some filled) = not stable && not (is_kept rows (Some filled))

-- ---- which slot a new row takes

-- the place after the greatest of a list, and 0 where it is empty
abbrev pub place_after : List ℕ → ℕ
place_after [] = 0
place_after (place ∷ places) = max (place + 1) (place_after places)

-- the places of `count` slots, upwards from `start`, wrapping around
abbrev pub ring_from : ℕ → ℕ → List ℕ
ring_from start count = range_with_len start (count - start) ++ range_with_len 0 (count - (count - start))

-- the free slots, in the order in which they are taken
abbrev pub free_places : Bool → List ListingRow → List Slot → List ℕ → List ℕ
free_places stable rows slots list =
    filter (λ place. is_free stable rows (slot_at slots place)) (ring_from (place_after list) (length slots))

-- the k-th new row takes the k-th free slot
abbrev pub taken : Bool → List ListingRow → List Slot → List ℕ → List (ℕ × ListingRow)
taken stable rows slots list = zip (free_places stable rows slots list) (new_rows slots rows)

-- ---- the slots and the list afterwards

-- what is kept is put back; what isn't is trashed while a handle is stable, and emptied otherwise
abbrev pub settled : Bool → List ListingRow → Slot → Slot
settled stable rows None = None
settled stable rows (Some filled) =
    if is_kept rows (Some filled) then Some (filled_put_back filled) else (if stable then Some (filled_trashed filled) else None)

-- whether a file changes when its slot is trashed: it is loaded, and isn't garbage yet
abbrev pub is_trashable : {A : Type 0} → FileState A → Bool
is_trashable state = is_loaded state && not (is_disposable state)

abbrev pub is_index_trashable : IndexFile → Bool
is_index_trashable (Single file) = is_trashable file.state
is_index_trashable (Multi file) = is_trashable file.state

-- whether a file of a slot changes when the slot is trashed
abbrev pub has_trashable : Filled → Bool
has_trashable filled = is_index_trashable filled.index || list_any (λ pack. is_trashable pack.state) filled.packs

-- whether a listing changes a slot: a kept one has a file that is garbage or missing; another one is emptied, or while a handle
-- is stable has a file that becomes garbage
abbrev pub is_unsettled : Bool → List ListingRow → Slot → Bool
is_unsettled stable rows None = false
is_unsettled stable rows (Some filled) = if is_kept rows (Some filled) then has_disposable filled else (not stable || has_trashable filled)

-- each taken slot holds its row
abbrev pub with_taken : List (ℕ × ListingRow) → List Slot → List Slot
with_taken [] slots = slots
with_taken (pair ∷ pairs) slots = with_taken pairs (slice_set slots pair.0 (Some (new_filled pair.1)))

abbrev pub slots_after : Bool → List ListingRow → List Slot → List ℕ → List Slot
slots_after stable rows slots list = with_taken (taken stable rows slots list) (map (settled stable rows) slots)

-- the new list: for each row, the slot that then holds it
abbrev pub list_after : List ListingRow → List Slot → List ℕ
list_after rows slots = filter_map (λ row. position (holds row) slots) rows

abbrev pub same_list : List ℕ → List ℕ → Bool
same_list = pointwise nat_eq
