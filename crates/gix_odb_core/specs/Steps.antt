-- The shape after an event, and its answer.
use Rattle.std.specs.Prelude.{ℕ, ◌+◌, ◌-◌, Bool, true, false, ◌&&◌, ◌||◌, ◌==◌, not, List, [], length, replicate, ◌≤◌, Option, Some, None, is_some, nat_eq, nat_lt, slice_set, if◌then◌else◌}
use Rattle.std.specs.List.{AllPass, IsDistinct, filter_map, list_any}
use Rattle.gix_odb_events.specs.View.{last_generation, last_state}
use Rattle.gix_odb_core.specs.Handles.{is_any_stable, with_seat, without_seat}
use Rattle.gix_odb_core.specs.Files.{slot_passed, slot_with_index, slot_with_pack}
use Rattle.gix_odb_events.specs.OnDiskFile.{is_loaded}
use Rattle.gix_odb_core.specs.Publish.{free_places, list_after, new_rows, same_list, slots_after, taken}
use Rattle.gix_odb_events.specs.Slots.{slot_at, IsApart, Slot}
use Rattle.gix_odb_events.specs.declared.event.Event.{Event}
use Rattle.gix_odb_events.specs.declared.event.Event.TheVariants as event
use Rattle.gix_odb_events.specs.declared.listing.Listing.{Listing}
use Rattle.gix_odb_events.specs.declared.listing.ListingRow.{ListingRow}
use Rattle.gix_odb_core.specs.declared.shape.Shape.{Shape}
use Rattle.gix_odb_events.specs.declared.slot.Filled.{Filled}
use Rattle.gix_odb_events.specs.declared.slot.IndexFile.{IndexFile}
use Rattle.gix_odb_events.specs.declared.slot.IndexFile.TheVariants.{Single, Multi}

-- the shape of a new core: all slots are empty, and nothing was read
abbrev pub opening_shape : ℕ → ℕ → ℕ → ℕ → Shape
opening_shape slots folders generation state =
    record { folders = folders; slots = replicate slots None; list = []; read = false; list_no = 0; generation = generation; state_id = state; handles = [] }

-- ---- the answer to a listing

-- the outcomes of publishing a listing
pub data Publishing : Type 0 where
  Outdated : Publishing
  TooFew : (needed : ℕ) → Publishing
  Overflows : Publishing
  Unchanged : Shape → Publishing
  Published : Shape → Publishing

-- whether a slot that held something is taken over
abbrev pub takes_over : List Slot → List (ℕ × ListingRow) → Bool
takes_over slots pairs = list_any (λ pair. is_some (slot_at slots pair.0)) pairs

-- the list is unchanged, and no slot was newly taken
abbrev pub is_confirmed : Shape → List ListingRow → List ℕ → Bool
is_confirmed shape rows list = shape.read && same_list list shape.list && length (new_rows shape.slots rows) == 0

-- whether a counter that would have to rise is at its greatest value
abbrev pub would_overflow : Shape → (confirmed renewed : Bool) → Bool
would_overflow shape confirmed renewed = (not confirmed && shape.state_id == last_state) || (renewed && shape.generation == last_generation)

-- the shape with a new list
abbrev pub with_list : Shape → List Slot → List ℕ → (renewed : Bool) → Shape
with_list shape slots list renewed =
    record shape {
      slots = slots;
      list = list;
      read = true;
      list_no = shape.list_no + 1;
      state_id = shape.state_id + 1;
      generation = shape.generation + (if renewed then 1 else 0);
    }

-- the outcome for a listing that there is room for: by its slots and its list, and whether a slot was taken over
abbrev pub settled_as : Shape → List ListingRow → List Slot → List ℕ → (renewed : Bool) → Publishing
settled_as shape rows slots list renewed =
    if would_overflow shape (is_confirmed shape rows list) renewed then Overflows
    else if is_confirmed shape rows list then Unchanged (record shape { slots = slots })
    else Published (with_list shape slots list renewed)

abbrev pub with_room : Shape → List ListingRow → Publishing
with_room shape rows =
    let stable = is_any_stable shape.handles in
    let slots = slots_after stable rows shape.slots shape.list in
    settled_as shape rows slots (list_after rows slots) (takes_over shape.slots (taken stable rows shape.slots shape.list))

-- the listing began before the newest list; or there are more new rows than free slots
abbrev pub publishing : Shape → Listing → Publishing
publishing shape listing =
    let free = free_places (is_any_stable shape.handles) listing.rows shape.slots shape.list in
    let news = new_rows shape.slots listing.rows in
    if not (listing.base == shape.list_no) then Outdated
    else if nat_lt (length free) (length news) then TooFew (length news - length free)
    else with_room shape listing.rows

abbrev pub shape_published : Shape → Publishing → Shape
shape_published shape (Unchanged after) = after
shape_published shape (Published after) = after
shape_published shape publishing = shape

-- ---- the shape after an event

-- a file is stored in its slot, if there is one, and the state number rises; at its greatest value nothing happens
abbrev pub shape_stored : Shape → ℕ → Option Filled → Shape
shape_stored shape slot None = shape
shape_stored shape slot (Some filled) =
    if shape.state_id == last_state then shape else record shape { slots = slice_set shape.slots slot (Some filled); state_id = shape.state_id + 1 }

abbrev pub after : Shape → (seat : ℕ) → Event → Shape
after shape seat (event.Register stable) = record shape { handles = with_seat shape.handles seat stable }
after shape seat event.Upgrade = record shape { handles = with_seat shape.handles seat true }
after shape seat event.Remove = record shape { handles = without_seat shape.handles seat }
after shape seat event.Look = shape
after shape seat event.Report = shape
after shape seat (event.PutIndex slot path file) = shape_stored shape slot (slot_with_index path file (slot_at shape.slots slot))
after shape seat (event.PutPack pack path file) = shape_stored shape pack.index (slot_with_pack path file (slot_at shape.slots pack.index))
after shape seat (event.PassOver slot path why) = record shape { slots = slice_set shape.slots slot (slot_passed path (slot_at shape.slots slot)) }
after shape seat (event.Publish listing) = shape_published shape (publishing shape listing)

-- ---- the invariant of every shape that events lead to

abbrev pub is_read : IndexFile → Bool
is_read (Single file) = true
is_read (Multi file) = is_loaded file.state

pub record IsShape (shape : Shape) : Type 0 where
  -- no two slots hold the same single index, or the same multi-index of one time
  pub apart : IsApart shape.slots
  -- the list has only filled slots, and none twice
  pub listed : AllPass (λ place. is_some (slot_at shape.slots place)) shape.list
  pub distinct : IsDistinct nat_eq shape.list
  pub multis : AllPass (λ filled. is_read filled.index) (filter_map (λ slot. slot) shape.slots)
  pub numbered : shape.list_no ≤ shape.state_id
