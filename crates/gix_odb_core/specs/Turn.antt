-- The result of an event, without the handles and before its view is made. No public clause cites this.
use Rattle.std.specs.Prelude.{ℕ, ◌+◌, Bool, ◌&&◌, ◌==◌, true, false, not, List, length, Option, Some, None, Ok, Err, slice_set, if◌then◌else◌}
use Rattle.std.specs.List.{list_any}
use Rattle.odb_base.specs.Path.{Path}
use Rattle.gix_odb_core.specs.Handles.{Handles, is_any_stable, with_seat, without_seat}
use Rattle.gix_odb_core.specs.Publish.{is_unsettled, list_after}
use Rattle.gix_odb_events.specs.Slots.{slot_at}
use Rattle.gix_odb_core.specs.Replay.{report_of}
use Rattle.gix_odb_events.specs.Answers.{Answer}
use Rattle.gix_odb_core.specs.Shelf.{shelf_of}
use Rattle.gix_odb_core.specs.Steps.{Publishing, Outdated, TooFew, Overflows, Unchanged, Published, is_confirmed, publishing}
use Rattle.gix_odb_events.specs.View.{last_state}
use Rattle.gix_odb_core.specs.Files.{slot_passed, slot_turns_missing, slot_with_index, slot_with_pack}
use Rattle.gix_odb_events.specs.declared.event.Effect.TheVariants as effects
use Rattle.gix_odb_events.specs.declared.event.Event.{Event}
use Rattle.gix_odb_events.specs.declared.event.Event.TheVariants as event
use Rattle.gix_odb_events.specs.declared.event.Refusal.TheVariants as refusals
use Rattle.gix_odb_core.specs.declared.journal.Entry.{Entry}
use Rattle.gix_odb_events.specs.declared.listing.ListingRow.{ListingRow}
use Rattle.gix_odb_core.specs.declared.shape.Shape.{Shape}
use Rattle.gix_odb_core.specs.declared.shape.Shelf.{Shelf}
use Rattle.gix_odb_events.specs.declared.slot.Filled.{Filled}
use Rattle.gix_odb_core.specs.declared.turn.Told.{Told}
use Rattle.gix_odb_core.specs.declared.turn.Told.TheVariants as told
use Rattle.gix_odb_core.specs.declared.turn.Turn.{Turn}
use Rattle.gix_odb_events.specs.declared.view.View.{View}

-- an answer, with its view
abbrev pub answer_with : Told → View → Answer
answer_with told.Seen view = Ok (effects.Seen view)
answer_with (told.Reported report) view = Ok (effects.Reported view report)
answer_with told.Removed view = Ok effects.Removed
answer_with (told.Put stored) view = Ok (effects.Put view stored)
answer_with told.Published view = Ok (effects.Published view)
answer_with told.Unchanged view = Ok (effects.Unchanged view)
answer_with (told.Outdated list_no) view = Ok (effects.Outdated list_no)
answer_with (told.Refused refusal) view = Err refusal

abbrev pub quiet : Told → Turn
quiet told = record { shelf = None; told = told }

abbrev pub changes_to : Shelf → Told → Turn
changes_to shelf told = record { shelf = Some shelf; told = told }

-- the handles after an event
abbrev pub handles_after : Handles → ℕ → Event → Handles
handles_after handles seat (event.Register stable) = with_seat handles seat stable
handles_after handles seat event.Upgrade = with_seat handles seat true
handles_after handles seat event.Remove = without_seat handles seat
handles_after handles seat other = handles

-- ---- turns

abbrev pub put_turn : Shape → (slot : ℕ) → Option Filled → Turn
put_turn shape slot None = quiet (told.Put false)
put_turn shape slot (Some filled) =
    if shape.state_id == last_state then quiet (told.Refused refusals.GenerationOverflow)
    else changes_to (record (shelf_of shape) { slots = slice_set shape.slots slot (Some filled); state_id = shape.state_id + 1 }) (told.Put true)

-- a file that is passed over changes the slots if it becomes missing, and nothing otherwise
abbrev pub pass_turn : Shape → (slot : ℕ) → Path → Turn
pass_turn shape slot path =
    if slot_turns_missing path (slot_at shape.slots slot)
    then changes_to (record (shelf_of shape) { slots = slice_set shape.slots slot (slot_passed path (slot_at shape.slots slot)) }) told.Seen
    else quiet told.Seen

-- whether a listing leaves the slots and the list unchanged: no slot is unsettled, and the list is confirmed
abbrev pub stands : Shape → List ListingRow → Bool
stands shape rows = not (list_any (is_unsettled (is_any_stable shape.handles) rows) shape.slots) && is_confirmed shape rows (list_after rows shape.slots)

abbrev pub publish_turn : Shape → List ListingRow → Publishing → Turn
publish_turn shape rows Outdated = quiet (told.Outdated shape.list_no)
publish_turn shape rows (TooFew needed) = quiet (told.Refused (refusals.InsufficientSlots (length shape.slots) needed))
publish_turn shape rows Overflows = quiet (told.Refused refusals.GenerationOverflow)
publish_turn shape rows (Unchanged now) = if stands shape rows then quiet told.Unchanged else changes_to (shelf_of now) told.Unchanged
publish_turn shape rows (Published now) = changes_to (shelf_of now) told.Published

abbrev pub turn_of : List Entry → Shape → Event → Turn
turn_of entries shape (event.Register stable) = quiet told.Seen
turn_of entries shape event.Upgrade = quiet told.Seen
turn_of entries shape event.Remove = quiet told.Removed
turn_of entries shape event.Look = quiet told.Seen
turn_of entries shape event.Report = quiet (told.Reported (report_of shape entries))
turn_of entries shape (event.PutIndex slot path file) = put_turn shape slot (slot_with_index path file (slot_at shape.slots slot))
turn_of entries shape (event.PutPack pack path file) = put_turn shape pack.index (slot_with_pack path file (slot_at shape.slots pack.index))
turn_of entries shape (event.PassOver slot path why) = pass_turn shape slot path
turn_of entries shape (event.Publish listing) = publish_turn shape listing.rows (publishing shape listing)
