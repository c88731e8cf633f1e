-- A property of each outcome of a publishing is a property of the publishing.
use Rattle.std.proofs.Common.{◌≡◌, ℕ, ◌-◌, Bool, true, false, cond, not, ◌==◌, nat_lt, List, length, refl}
use Rattle.gix_odb_core.specs.Handles.{is_any_stable}
use Rattle.gix_odb_core.specs.Publish.{free_places, list_after, new_rows, slots_after, taken}
use Rattle.gix_odb_events.specs.Slots.{Slot}
use Rattle.gix_odb_core.specs.Steps.{Publishing, Outdated, TooFew, Overflows, Unchanged, Published, is_confirmed, publishing, takes_over, with_list, with_room, would_overflow}
use Rattle.gix_odb_events.specs.declared.listing.Listing.{Listing}
use Rattle.gix_odb_events.specs.declared.listing.ListingRow.{ListingRow}
use Rattle.gix_odb_core.specs.declared.shape.Shape.{Shape}

-- the slots that a listing leaves, and the list
abbrev pub listed_slots : Shape → List ListingRow → List Slot
listed_slots shape rows = slots_after (is_any_stable shape.handles) rows shape.slots shape.list

abbrev pub listed_places : Shape → List ListingRow → List ℕ
listed_places shape rows = list_after rows (listed_slots shape rows)

-- how many slots are free for a listing, and how many of its rows are new
abbrev pub free_count : Shape → List ListingRow → ℕ
free_count shape rows = length (free_places (is_any_stable shape.handles) rows shape.slots shape.list)

abbrev pub new_count : Shape → List ListingRow → ℕ
new_count shape rows = length (new_rows shape.slots rows)

module _
    (P : Publishing → Type 0) (shape : Shape) (listing : Listing) (outdated : P Outdated)
    (few : (listing.base == shape.list_no) ≡ true → nat_lt (free_count shape listing.rows) (new_count shape listing.rows) ≡ true
    → P (TooFew (new_count shape listing.rows - free_count shape listing.rows)))
    (overflows : (confirmed renewed : Bool) → would_overflow shape confirmed renewed ≡ true → P Overflows)
    (unchanged : P (Unchanged (record shape { slots = listed_slots shape listing.rows })))
    (published : (renewed : Bool) → P (Published (with_list shape (listed_slots shape listing.rows) (listed_places shape listing.rows) renewed)))
  where
    by_counters : (over confirmed renewed : Bool) → would_overflow shape confirmed renewed ≡ over
        → P (cond over Overflows (cond confirmed (Unchanged (record shape { slots = listed_slots shape listing.rows }))
        (Published (with_list shape (listed_slots shape listing.rows) (listed_places shape listing.rows) renewed))))
    by_counters true confirmed renewed is = overflows confirmed renewed is
    by_counters false true renewed is = unchanged
    by_counters false false renewed is = published renewed

    roomy : P (with_room shape listing.rows)
    roomy =
        let renewed = takes_over shape.slots (taken (is_any_stable shape.handles) listing.rows shape.slots shape.list) in
        let confirmed = is_confirmed shape listing.rows (listed_places shape listing.rows) in
        by_counters (would_overflow shape confirmed renewed) confirmed renewed refl

    by_tests : (same short : Bool) → (listing.base == shape.list_no) ≡ same → nat_lt (free_count shape listing.rows) (new_count shape listing.rows) ≡ short
        → P (cond (not same) Outdated (cond short (TooFew (new_count shape listing.rows - free_count shape listing.rows)) (with_room shape listing.rows)))
    by_tests false short base tells = outdated
    by_tests true true base tells = few base tells
    by_tests true false base tells = roomy

    pub publishing_rule : P (publishing shape listing)
    publishing_rule = by_tests (listing.base == shape.list_no) (nat_lt (free_count shape listing.rows) (new_count shape listing.rows)) refl refl
