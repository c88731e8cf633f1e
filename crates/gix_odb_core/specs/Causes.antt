-- Why a core refuses an event.
use Rattle.std.specs.Prelude.{◌≡◌, ℕ, ◌+◌, ◌<◌, Bool, true, List, length, Option, is_some}
use Rattle.gix_odb_core.specs.Handles.{is_any_stable}
use Rattle.gix_odb_core.specs.Files.{slot_with_index, slot_with_pack}
use Rattle.gix_odb_core.specs.Publish.{free_places, list_after, new_rows, slots_after, taken}
use Rattle.gix_odb_events.specs.Slots.{slot_at}
use Rattle.gix_odb_core.specs.Steps.{is_confirmed, takes_over, would_overflow}
use Rattle.gix_odb_events.specs.View.{last_state}
use Rattle.gix_odb_events.specs.declared.event.Event.{Event}
use Rattle.gix_odb_events.specs.declared.event.Event.TheVariants as event
use Rattle.gix_odb_events.specs.declared.event.Refusal.{Refusal}
use Rattle.gix_odb_events.specs.declared.event.Refusal.TheVariants as refusals
use Rattle.gix_odb_events.specs.declared.listing.Listing.{Listing}
use Rattle.gix_odb_events.specs.declared.listing.ListingRow.{ListingRow}
use Rattle.gix_odb_core.specs.declared.shape.Shape.{Shape}
use Rattle.gix_odb_events.specs.declared.slot.Filled.{Filled}

-- a file would be stored, and the state number is at its greatest value
pub record PutOverflows (shape : Shape) (filled : Option Filled) : Type 0 where
  pub stores : is_some filled ≡ true
  pub last : shape.state_id ≡ last_state

-- whether a counter that a listing would raise is at its greatest value: the state number rises unless the list is confirmed,
-- and the generation rises if a slot is taken over
abbrev pub rows_overflow : Shape → List ListingRow → Bool
rows_overflow shape rows =
    let stable = is_any_stable shape.handles in
    let list = list_after rows (slots_after stable rows shape.slots shape.list) in
    would_overflow shape (is_confirmed shape rows list) (takes_over shape.slots (taken stable rows shape.slots shape.list))

-- a listing of the newest list would raise such a counter
pub record ListingOverflows (shape : Shape) (listing : Listing) : Type 0 where
  pub base : listing.base ≡ shape.list_no
  pub overflows : rows_overflow shape listing.rows ≡ true

-- a counter that the event would raise is at its greatest value. Only files that are read and listings raise one
abbrev pub StandsAtLast : Shape → Event → Type 0
StandsAtLast shape (event.PutIndex slot path file) = PutOverflows shape (slot_with_index path file (slot_at shape.slots slot))
StandsAtLast shape (event.PutPack pack path file) = PutOverflows shape (slot_with_pack path file (slot_at shape.slots pack.index))
StandsAtLast shape (event.Publish listing) = ListingOverflows shape listing
StandsAtLast shape other = ⊥

-- a listing of the newest list has `missing` more new rows than there are free slots
pub record IsShortBy (shape : Shape) (listing : Listing) (slots missing : ℕ) : Type 0 where
  pub base : listing.base ≡ shape.list_no
  pub current : slots ≡ length shape.slots
  pub needed : length (free_places (is_any_stable shape.handles) listing.rows shape.slots shape.list) + missing ≡ length (new_rows shape.slots listing.rows)
  pub some : 0 < missing

-- only a listing can have too few slots
abbrev pub HasTooFewSlots : Shape → Event → (current needed : ℕ) → Type 0
HasTooFewSlots shape (event.Publish listing) current needed = IsShortBy shape listing current needed
HasTooFewSlots shape other current needed = ⊥

-- why a shape refuses an event with this refusal. Running out of memory has no cause in the shape
abbrev pub RefusalCause : Shape → Event → Refusal → Type 0
RefusalCause shape happens (refusals.InsufficientSlots current needed) = HasTooFewSlots shape happens current needed
RefusalCause shape happens refusals.GenerationOverflow = StandsAtLast shape happens
RefusalCause shape happens refusals.NoMemory = ⊥
