-- How many indices a shape shows and has still to load, and how great its numbers are.
use Rattle.std.proofs.Common.{◌≡◌, ℕ, ◌+◌, ◌-◌, ◌<◌, ◌≤◌, Bool, true, false, cond, not, ◌&&◌, ◌||◌, ◌==◌, nat_eq, nat_lt, List, [], ◌∷◌, length, set}
use Rattle.std.proofs.Common.{Option, Some, None, is_some, option_map, Ok, Err, refl, arith, eqb-true}
use Rattle.std.specs.List.{cons_option}
use Rattle.std.proofs.lemmas.Bool.{eqb-false}
use Rattle.std.proofs.lemmas.List.Elements.{All-contains}
use Rattle.std.proofs.lemmas.Map.Steps.{length-le_from_distinct_below}
use Rattle.std.proofs.lemmas.Map.Views.{Contains-from_any}
use Rattle.gix_odb_core.specs.Files.{slot_with_index, slot_with_pack}
use Rattle.gix_odb_core.specs.Publish.{free_places, list_after, new_rows, slots_after, taken}
use Rattle.gix_odb_events.specs.Slots.{slot_at, Slot, index_path}
use Rattle.gix_odb_events.specs.Shown.{loaded_index, shown_indices, shown_slot, shown_todo, todo_of, unloaded_slot}
use Rattle.gix_odb_events.specs.declared.listing.Listing.{Listing}
use Rattle.gix_odb_events.specs.declared.listing.ListingRow.{ListingRow}
use Rattle.gix_odb_events.specs.declared.loaded.LoadedIndex.{LoadedIndex}
use Rattle.gix_odb_events.specs.declared.loaded.SnapshotIndex.{SnapshotIndex}
use Rattle.gix_odb_events.specs.declared.loaded.Todo.{Todo}
use Rattle.gix_odb_events.specs.declared.slot.Filled.{Filled}
use Rattle.gix_odb_core.proofs.SlotsAfterLemmas.{filled_within}
use Rattle.gix_odb_core.specs.Handles.{is_any_stable}
use Rattle.gix_odb_core.specs.Replay.{after_answer, after_entry, replay}
use Rattle.gix_odb_events.specs.Answers.{Answer}
use Rattle.gix_odb_core.specs.Steps.{IsShape, Publishing, Outdated, TooFew, Overflows, Unchanged, Published, after, is_confirmed}
use Rattle.gix_odb_events.specs.View.{last_generation, last_state}
use Rattle.gix_odb_core.specs.Steps.{publishing, shape_published, shape_stored, takes_over, with_list}
use Rattle.gix_odb_events.specs.declared.event.Event.{Event}
use Rattle.gix_odb_events.specs.declared.event.Event.TheVariants as events
use Rattle.gix_odb_events.specs.declared.event.Refusal.TheVariants as refusals
use Rattle.gix_odb_core.specs.declared.journal.Entry.{Entry}
use Rattle.gix_odb_core.specs.declared.shape.Shape.{Shape}

-- ---- what is shown, and what is still to be loaded

-- a listed slot is at most one of both
module _ (slots : List Slot) where
  shown_or_to_be_loaded : (list : List ℕ) → length (shown_indices slots list) + length (shown_todo slots list) ≤ length list
  shown_or_to_be_loaded [] = omega arith
  shown_or_to_be_loaded (place ∷ list) = by (slot_at slots place) (shown_or_to_be_loaded list)
    where
      shows : List SnapshotIndex
      shows = shown_indices slots list

      todo : List Todo
      todo = shown_todo slots list

      of : (filled : Filled) (o : Option LoadedIndex) → length shows + length todo ≤ length list
          → length (cons_option (option_map (λ index. record { slot = place; path = index_path filled.index; index = index; packs = filled.packs }) o) shows)
          + length (cons_option (todo_of place o filled) todo)
          ≤ length (place ∷ list)
      of filled None rest = omega arith
      of filled (Some loaded) rest = omega arith

      by : (slot : Slot) → length shows + length todo ≤ length list
          → length (cons_option (shown_slot place slot) shows) + length (cons_option (unloaded_slot place slot) todo) ≤ length (place ∷ list)
      by None rest = omega arith
      by (Some filled) rest = of filled (loaded_index filled.index) rest

  filled_is_within : (place : ℕ) (slot : Slot) → slot_at slots place ≡ slot → is_some slot ≡ true → place < length slots
  filled_is_within place None at is = absurd (cc is)
  filled_is_within place (Some filled) at is = filled_within slots place filled at

-- a list names each filled slot once, so it is no longer than there are slots
list_is_short : (shape : Shape) → IsShape shape → length shape.list ≤ length shape.slots
list_is_short shape is =
    length-le_from_distinct_below shape.list (length shape.slots) is.distinct
    (λ place any. filled_is_within shape.slots place (slot_at shape.slots place) refl
    (All-contains (λ (p : ℕ). is_some (slot_at shape.slots p) ≡ true) shape.list place is.listed
    (Contains-from_any {eq = nat_eq} eqb-true place shape.list any)))

-- no more indices are shown of listed slots, or still to be loaded, than there are slots
pub shape_shows_few : (shape : Shape) → IsShape shape
    → length (shown_indices shape.slots shape.list) + length (shown_todo shape.slots shape.list) ≤ length shape.slots
shape_shows_few shape is = omega (arith, shown_or_to_be_loaded shape.slots shape.list, list_is_short shape is)

-- ---- the results of publishing a listing

-- What holds of each possible result holds of the result. A listing is outdated only by its base, and a list is only published
-- where the state number can rise.
pub publishing_comes_to : (P : Publishing → Type 0) (shape : Shape) (listing : Listing)
    → ((listing.base ≡ shape.list_no → ⊥) → P Outdated) → ((needed : ℕ) → P (TooFew needed)) → P Overflows
    → ((slots : List Slot) → listing.base ≡ shape.list_no → P (Unchanged (record shape { slots = slots })))
    → ((slots : List Slot) (list : List ℕ) (renewed : Bool) → listing.base ≡ shape.list_no → (shape.state_id ≡ last_state → ⊥)
    → P (Published (with_list shape slots list renewed)))
    → P (publishing shape listing)
publishing_comes_to P shape listing outdated few overflows unchanged published =
    by (listing.base == shape.list_no) (nat_lt (length free) (length news)) (is_confirmed shape listing.rows list) (shape.state_id == last_state)
    (renewed && shape.generation == last_generation) refl refl
  where
    stable : Bool
    stable = is_any_stable shape.handles

    free : List ℕ
    free = free_places stable listing.rows shape.slots shape.list

    news : List ListingRow
    news = new_rows shape.slots listing.rows

    slots : List Slot
    slots = slots_after stable listing.rows shape.slots shape.list

    list : List ℕ
    list = list_after listing.rows slots

    renewed : Bool
    renewed = takes_over shape.slots (taken stable listing.rows shape.slots shape.list)

    by : (based less confirmed last full : Bool) → (listing.base == shape.list_no) ≡ based → (shape.state_id == last_state) ≡ last
        → P (cond (not based) Outdated (cond less (TooFew (length news - length free)) (cond ((not confirmed && last) || full) Overflows
        (cond confirmed (Unchanged (record shape { slots = slots })) (Published (with_list shape slots list renewed))))))
    by false less confirmed last full is at = outdated (eqb-false listing.base shape.list_no is)
    by true true confirmed last full is at = few (length news - length free)
    by true false true last true is at = overflows
    by true false true last false is at = unchanged slots (eqb-true listing.base shape.list_no is)
    by true false false true full is at = overflows
    by true false false false true is at = overflows
    by true false false false false is at = published slots list renewed (eqb-true listing.base shape.list_no is) (eqb-false shape.state_id last_state at)

-- ---- the state number

-- it never passes its greatest value
abbrev IsBelowLast : Shape → Type 0
IsBelowLast shape = shape.state_id ≤ last_state

rises_below : (number last : ℕ) → number ≤ last → (number ≡ last → ⊥) → number + 1 ≤ last
rises_below number last below differs = omega arith

stored_below : (shape : Shape) (slot : ℕ) (filled : Option Filled) → IsBelowLast shape → IsBelowLast (shape_stored shape slot filled)
stored_below shape slot None below = below
stored_below shape slot (Some filled) below = by (shape.state_id == last_state) refl
  where
    by : (b : Bool) → (shape.state_id == last_state) ≡ b
        → IsBelowLast (cond b shape (record shape { slots = set shape.slots slot (Some filled); state_id = shape.state_id + 1 }))
    by true at = below
    by false at = rises_below shape.state_id last_state below (eqb-false shape.state_id last_state at)

event_stays_below : (shape : Shape) (seat : ℕ) (event : Event) → IsBelowLast shape → IsBelowLast (after shape seat event)
event_stays_below shape seat (events.PutIndex slot path file) below =
    stored_below shape slot (slot_with_index path file (slot_at shape.slots slot)) below
event_stays_below shape seat (events.PutPack pack path file) below =
    stored_below shape pack.index (slot_with_pack path file (slot_at shape.slots pack.index)) below
event_stays_below shape seat (events.Publish listing) below =
    publishing_comes_to (λ p. IsBelowLast (shape_published shape p)) shape listing (λ differs. below) (λ needed. below) below (λ slots same. below)
    (λ slots list renewed same differs. rises_below shape.state_id last_state below differs)
event_stays_below shape seat event below = below

entry_stays_below : (shape : Shape) (entry : Entry) → IsBelowLast shape → IsBelowLast (after_entry shape entry)
entry_stays_below shape entry below = by entry.answer
  where
    changed : IsBelowLast (after shape entry.seat entry.event)
    changed = event_stays_below shape entry.seat entry.event below

    by : (answer : Answer) → IsBelowLast (after_answer shape entry answer)
    by (Ok effect) = changed
    by (Err refusals.NoMemory) = below
    by (Err refusals.GenerationOverflow) = changed
    by (Err (refusals.InsufficientSlots current needed)) = changed

pub entries_stay_below : (entries : List Entry) (shape : Shape) → shape.state_id ≤ last_state → (replay shape entries).state_id ≤ last_state
entries_stay_below [] shape below = below
entries_stay_below (entry ∷ entries) shape below = entries_stay_below entries (after_entry shape entry) (entry_stays_below shape entry below)
