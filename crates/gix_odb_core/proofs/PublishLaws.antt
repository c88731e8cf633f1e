-- Laws of publishing a listing: after it each row of the listing has a slot, and no slot is listed twice.
use Rattle.std.proofs.Common.{eqb-true, eq-eqb, false, ◌≡◌, ℕ, ◌<◌, ◌≤◌, Bool, true, nat_eq, List, [], ◌∷◌, length, get_or, Option, Some, None, is_some, position, refl, sym, ap, subst, ◌∙◌, ne_eqb}
use Rattle.std.specs.List.{AllPass, IsDistinct, list_any}
use Rattle.std.proofs.lemmas.Bool.{not-false}
use Rattle.std.proofs.lemmas.List.{get_or_default}
use Rattle.std.proofs.lemmas.List.Elements.{All-from_recursion, recursion_from_All}
use Rattle.std.proofs.lemmas.List.Folds.{Any-from_list_any, list_any_at}
use Rattle.std.proofs.lemmas.List.Quantifiers.{position-Some}
use Rattle.odb_base.specs.Path.{Path}
use Rattle.gix_odb_core.specs.Publish.{free_places, is_kept, is_new, list_after, new_rows, settled, slots_after, taken}
use Rattle.gix_odb_events.specs.Slots.{slot_at, Slot, filled_put_back, holds, index_path, new_filled}
use Rattle.gix_odb_events.specs.PackFiles.{same_path, HasDifferentPaths}
use Rattle.gix_odb_events.specs.declared.listing.ListingRow.{ListingRow}
use Rattle.gix_odb_events.specs.declared.slot.Filled.{Filled}
use Rattle.gix_odb_core.proofs.DistinctLemmas.{IsDistinct-map, each_that_passes}
use Rattle.gix_odb_core.proofs.FilterMapLemmas.{any-filter_map, IsDistinct-filter_map, get_or-filter_map, length-filter_map}
use Rattle.gix_odb_core.proofs.PositionLemmas.{position-from_any}
use Rattle.gix_odb_core.proofs.SlotLemmas.{holds-new, holds-put_back, holds_path}
use Rattle.gix_odb_events.proofs.SamePathLaws.{same_path-self}
use Rattle.gix_odb_core.proofs.SlotsAfterLemmas.{IsDistinct-free, filled_within, kept_after, seated, slot_at-get_or, slots_after-at, taken_within}
use Rattle.gix_odb_core.proofs.TakenLemmas.{each_taken, taker}

-- ---- slots that hold a row

-- a filled slot holds it, and has its path
pub filled_from_holds : (row : ListingRow) (slot : Slot) → holds row slot ≡ true → (filled : Filled) × (slot ≡ Some filled) × (index_path filled.index ≡ row.path)
filled_from_holds row None is = absurd cc
filled_from_holds row (Some filled) is = (filled, refl, holds_path row filled is)

-- some slot holds the row, by its place
place_from_any : (row : ListingRow) (slots : List Slot) → list_any (holds row) slots ≡ true → (place : ℕ) × (filled : Filled) × (slot_at slots place ≡ Some filled) × (holds row (Some filled) ≡ true)
place_from_any row slots any =
    let found = Any-from_list_any (holds row) slots any in
    let at : slot_at slots found.0 ≡ found.1 = slot_at-get_or slots found.0 ∙ get_or_default slots found.0 None found.1 found.2 ∙ found.3 in
    let held = filled_from_holds row found.1 found.4 in
    (found.0, held.0, at ∙ held.1, subst (λ (s : Slot). holds row s ≡ true) held.1 found.4)

pub any_from_place : (row : ListingRow) (slots : List Slot) (place : ℕ) (filled : Filled) → slot_at slots place ≡ Some filled → holds row (Some filled) ≡ true → list_any (holds row) slots ≡ true
any_from_place row slots place filled is held =
    list_any_at (holds row) slots place None (filled_within slots place filled is) (ap (λ (s : Slot). holds row s) (sym (slot_at-get_or slots place) ∙ is) ∙ held)

-- ---- each row has a slot

module _ (stable : Bool) (rows : List ListingRow) (slots : List Slot) (list : List ℕ) (room : length (new_rows slots rows) ≤ length (free_places stable rows slots list)) where
  -- where there is room, each row is held by some slot afterwards: a kept row by the slot that held it, a new row by the slot that it takes
  pub each_row_is_held : AllPass (λ row. list_any (holds row) (slots_after stable rows slots list)) rows
  each_row_is_held k d within = by (is_new slots (get_or rows k d)) refl
    where
      by : (b : Bool) → is_new slots (get_or rows k d) ≡ b → list_any (holds (get_or rows k d)) (slots_after stable rows slots list) ≡ true
      by true new =
          let seats = All-from_recursion _ rows (each_that_passes (λ row. (place : ℕ) × (taker (taken stable rows slots list) place ≡ Some row)) (is_new slots) rows
          (each_taken (free_places stable rows slots list) (new_rows slots rows) (IsDistinct-free stable rows slots list) room)) in
          let seat = seats k d within new in
          let at : slot_at (slots_after stable rows slots list) seat.0 ≡ Some (new_filled (get_or rows k d)) =
          slots_after-at stable rows slots list seat.0 (taken_within stable rows slots list seat.0 (get_or rows k d) seat.1)
          ∙ ap (λ (o : Option ListingRow). seated o (settled stable rows (slot_at slots seat.0))) seat.1 in
          any_from_place (get_or rows k d) (slots_after stable rows slots list) seat.0 (new_filled (get_or rows k d)) at (holds-new (get_or rows k d))
      by false old =
          let found = place_from_any (get_or rows k d) slots (not-false (list_any (holds (get_or rows k d)) slots) old) in
          let kept : is_kept rows (Some found.1) ≡ true = list_any_at (λ row. holds row (Some found.1)) rows k d within found.3 in
          any_from_place (get_or rows k d) (slots_after stable rows slots list) found.0 (filled_put_back found.1)
          (kept_after stable rows slots list found.0 found.1 found.2 kept) (holds-put_back (get_or rows k d) found.1 ∙ found.3)

  pub each_row_has_a_place : AllPass (λ row. is_some (position (holds row) (slots_after stable rows slots list))) rows
  each_row_has_a_place k d within =
      ap (λ (o : Option ℕ). is_some o) (position-from_any (holds (get_or rows k d)) (slots_after stable rows slots list) (each_row_is_held k d within))

  -- the new list is as long as the listing
  pub length-list_after : length (list_after rows (slots_after stable rows slots list)) ≡ length rows
  length-list_after = length-filter_map (λ row. position (holds row) (slots_after stable rows slots list)) rows (recursion_from_All _ rows each_row_has_a_place)

  -- the slot at the k-th place of the new list holds the k-th row
  pub listed_slot_holds_its_row : (k : ℕ) (d : ListingRow) → k < length rows
      → holds (get_or rows k d) (slot_at (slots_after stable rows slots list) (get_or (list_after rows (slots_after stable rows slots list)) k 0)) ≡ true
  listed_slot_holds_its_row k d within =
      let at = get_or-filter_map (λ row. position (holds row) (slots_after stable rows slots list)) rows (recursion_from_All _ rows each_row_has_a_place) k d 0 within in
      let place : ℕ = get_or (list_after rows (slots_after stable rows slots list)) k 0 in
      ap (holds (get_or rows k d)) (slot_at-get_or (slots_after stable rows slots list) place)
      ∙ (position-Some (holds (get_or rows k d)) (slots_after stable rows slots list) place None at).1

  -- so it is filled, and has the row's path
  pub listed_slot_has_its_path : (k : ℕ) (d : ListingRow) → k < length rows
      → (filled : Filled) × (slot_at (slots_after stable rows slots list) (get_or (list_after rows (slots_after stable rows slots list)) k 0) ≡ Some filled)
      × (index_path filled.index ≡ (get_or rows k d).path)
  listed_slot_has_its_path k d within =
      filled_from_holds (get_or rows k d) (slot_at (slots_after stable rows slots list) (get_or (list_after rows (slots_after stable rows slots list)) k 0)) (listed_slot_holds_its_row k d within)

-- ---- no slot is listed twice

-- a slot holds only rows of one path
rows_of_a_slot : (one other : ListingRow) (slot : Slot) → holds one slot ≡ true → holds other slot ≡ true → one.path ≡ other.path
rows_of_a_slot one other None h k = absurd cc
rows_of_a_slot one other (Some filled) h k = sym (holds_path one filled h) ∙ holds_path other filled k

-- the list of rows with different paths has no place twice, whatever the slots are
pub IsDistinct-list_after : (rows : List ListingRow) (slots : List Slot) → HasDifferentPaths rows → IsDistinct nat_eq (list_after rows slots)
IsDistinct-list_after rows slots differ =
    IsDistinct-filter_map (λ row. position (holds row) slots) (λ x y. same_path x.path y.path) nat_eq tells rows (IsDistinct-map same_path (λ (row : ListingRow). row.path) rows differ)
  where
    tells : (x z : ListingRow) (y w : ℕ) → same_path x.path z.path ≡ false → position (holds x) slots ≡ Some y → position (holds z) slots ≡ Some w → nat_eq y w ≡ false
    tells x z y w apart isx isz = ne_eqb y w (λ same.
        let one = (position-Some (holds x) slots y None isx).1 in
        let other = (position-Some (holds z) slots w None isz).1 in
        let path : x.path ≡ z.path = rows_of_a_slot x z (get_or slots y None) one (subst (λ (k : ℕ). holds z (get_or slots k None) ≡ true) (sym same) other) in
        let no : true ≡ false = sym (subst (λ (p : Path). same_path x.path p ≡ true) path (same_path-self x.path)) ∙ apart in
        cc)

-- ---- listed places, whatever the slots are

-- the slot at a listed place holds one of the rows
pub listed_slot_is_kept : (rows : List ListingRow) (slots : List Slot) (place : ℕ) → list_any (nat_eq place) (list_after rows slots) ≡ true → is_kept rows (slot_at slots place) ≡ true
listed_slot_is_kept rows slots place listed = any-filter_map (λ row. position (holds row) slots) nat_eq place (λ row. holds row (slot_at slots place)) held rows listed
  where
    held : (row : ListingRow) (other : ℕ) → position (holds row) slots ≡ Some other → nat_eq place other ≡ true → holds row (slot_at slots place) ≡ true
    held row other is same =
        let here : other ≡ place = sym (eqb-true place other same) in
        subst (λ (k : ℕ). holds row (slot_at slots k) ≡ true) here (ap (λ (s : Slot). holds row s) (slot_at-get_or slots other) ∙ (position-Some (holds row) slots other None is).1)

-- so it is filled
pub listed_slot_is_filled : (rows : List ListingRow) (slots : List Slot) (place : ℕ) → list_any (nat_eq place) (list_after rows slots) ≡ true → (filled : Filled) × (slot_at slots place ≡ Some filled)
listed_slot_is_filled rows slots place listed = by (slot_at slots place) (listed_slot_is_kept rows slots place listed)
  where
    empty : (lines : List ListingRow) → is_kept lines None ≡ false
    empty [] = refl
    empty (line ∷ lines) = empty lines

    by : (slot : Slot) → is_kept rows slot ≡ true → (filled : Filled) × (slot ≡ Some filled)
    by None kept = let wrong : true ≡ false = sym kept ∙ empty rows in absurd cc
    by (Some filled) kept = (filled, refl)

pub listed_slots_are_filled : (rows : List ListingRow) (slots : List Slot) → AllPass (λ place. is_some (slot_at slots place)) (list_after rows slots)
listed_slots_are_filled rows slots k d within =
    let place : ℕ = get_or (list_after rows slots) k d in
    let listed : list_any (nat_eq place) (list_after rows slots) ≡ true = list_any_at (nat_eq place) (list_after rows slots) k d within (eq-eqb place place refl) in
    ap (λ (s : Slot). is_some s) (listed_slot_is_filled rows slots place listed).1
