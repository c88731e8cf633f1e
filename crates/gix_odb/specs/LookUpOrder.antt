-- The order of work of a look-up: the handle's snapshot, the loose folders, the list of the store's core, and listings of the folders
-- of packs until the list that was tried is the newest one. A handle that never refreshes its list lists the folders only where the core's
-- list was never read, and is at the end once a list was tried. The locations of objects are left out.
pub mod Replies
pub mod Store
pub mod Listing
pub mod Loose
pub mod Trying
pub mod Checking
pub mod Refreshing
use Rattle.std.specs.Prelude.{ℕ, true, false, [], Option, Some, None, if◌then◌else◌, Result, Ok, Err}
use Rattle.gix_hash.specs.declared.object_id.ObjectId.{ObjectId}
use Rattle.gix_odb_calls.specs.declared.call.Reply.{Reply}
use Rattle.gix_object.specs.declared.want.Want.{Want}
use Rattle.gix_odb_events.specs.declared.answer.Answer.{Answer}
use Rattle.gix_odb_events.specs.declared.answer.Answer.TheVariants as told
use Rattle.gix_odb_events.specs.declared.answer.Ask.{Ask}
use Rattle.gix_odb_events.specs.declared.answer.Ask.TheVariants as asks
use Rattle.gix_odb_events.specs.declared.event.Event.TheVariants as events
use Rattle.gix_odb_events.specs.declared.view.View.{View}
use Rattle.gix_odb.specs.LoadIndex.{of_refusal}
use Rattle.gix_odb.specs.RefreshOrder as refreshes
use Rattle.gix_odb.specs.declared.refresh.Refresh.TheVariants as fronts
use Rattle.gix_odb.specs.declared.look_up.LookHead.{LookHead}
use Rattle.gix_odb.specs.declared.look_up.LookStage.{LookStage}
use Rattle.gix_odb.specs.declared.look_up.LookStage.TheVariants as stages
use Rattle.gix_odb.specs.declared.look_up.LookUp.{LookUp}
use Rattle.gix_odb.specs.declared.refresh_mode.RefreshMode.{RefreshMode}
use Rattle.gix_odb.specs.declared.look_up.Part.TheVariants as parts
use Rattle.gix_odb.specs.declared.look_up.Purpose.TheVariants as purposes
use Rattle.gix_odb_calls.specs.Verdict.{folder_ask, folder_verdict}
use Rattle.gix_odb_search.specs.TryOrder as tries
use Rattle.gix_odb_search.specs.declared.search.Notes.{Notes}
use Rattle.odb_base.specs.Path.{Path}
pub use Rattle.gix_odb.specs.LookUpOrder.Replies.{load_refused, find_error, reply_found, not_found, ended}
pub use Rattle.gix_odb.specs.LookUpOrder.Store.{Setting, setting_of}
pub use Rattle.gix_odb.specs.LookUpOrder.Listing.{after_core_list, listing_from}
pub use Rattle.gix_odb.specs.LookUpOrder.Loose.{loose_from, after_loose, at_folder, by_verdict}
pub use Rattle.gix_odb.specs.LookUpOrder.Trying.{goal_of, after_list, by_tried, try_view, trier_fed}
pub use Rattle.gix_odb.specs.LookUpOrder.Checking.{is_unsettled, unsettled, counted, by_check, by_checked}
pub use Rattle.gix_odb.specs.LookUpOrder.Refreshing.{again, by_read, with_own, own_by, without_absent, by_current, by_refresh}
pub use Rattle.gix_odb.specs.RefreshOrder.{view_of, view_shown}
use Rattle.gix_odb.specs.Store.{listed_for}

abbrev pub without_notes : Notes
without_notes = record { failed = false; absent = [] }

abbrev pub new_head : RefreshMode → Want → ObjectId → LookHead
new_head mode want id = record { mode = mode; want = want; id = id; begun = None; own = 0 }

-- a snapshot that is of a list that was read is tried first, without the indices that it doesn't have loaded
abbrev pub started : Setting → RefreshMode → View → Want → ObjectId → LookUp
started setting mode view want id = record {
  head = new_head mode want id;
  stage = if view.read then try_view setting (new_head mode want id) parts.Snapshot view [] without_notes else stages.Refreshing fronts.Reading (purposes.First true) without_notes;
}

abbrev pub ask_at : LookStage → Option Ask
ask_at (stages.Trying trier part) = Some (tries.ask_of trier)
ask_at (stages.Loose round call) = Some (asks.Disk (folder_ask call))
ask_at (stages.Refreshing refresh purpose notes) = Some (refreshes.ask_of refresh)
ask_at (stages.Checking list_no notes) = Some (asks.Core events.Look)
ask_at (stages.Done reply) = None

abbrev pub ask_of : LookUp → Option Ask
ask_of look = ask_at look.stage

-- the directory of the open stream that a call of the disk may read
abbrev pub opened_at : LookStage → Option Path
opened_at (stages.Refreshing refresh purpose notes) = refreshes.opened_in refresh
opened_at stage = None

abbrev pub opened_in : LookUp → Option Path
opened_in look = opened_at look.stage

abbrev pub first_of : Option ℕ → Option View → Option ℕ
first_of (Some begun) view = Some begun
first_of None None = None
first_of None (Some view) = Some view.list_no

-- the first view that a call gets says where it began
abbrev pub seen : LookHead → Answer → LookHead
seen head answer = record head { begun = first_of head.begun (view_of answer) }

abbrev pub at : LookHead → LookStage → LookUp
at head stage = record { head = head; stage = stage }

-- what is fed answers the ask: the last row only makes the function total
abbrev pub fed_at : Setting → LookHead → LookStage → Answer → LookUp
fed_at setting head (stages.Trying trier part) answer = at head (by_tried setting head part (trier_fed trier answer))
fed_at setting head (stages.Loose round call) (told.Disk answer) = at head (by_verdict setting head round (folder_verdict call answer))
fed_at setting head (stages.Refreshing refresh purpose notes) answer =
    by_refresh setting head purpose notes (refreshes.fed setting.parts.objects (listed_for setting.parts) refresh answer)
fed_at setting head (stages.Checking list_no notes) (told.Core (Ok effect)) = at head (by_checked setting head list_no notes (view_shown effect))
fed_at setting head (stages.Checking list_no notes) (told.Core (Err refusal)) = at head (stages.Done (load_refused (of_refusal refusal)))
fed_at setting head stage answer = at head stage

abbrev pub fed : Setting → LookUp → Answer → LookUp
fed setting look answer = fed_at setting (seen look.head answer) look.stage answer

abbrev pub result_at : LookHead → LookStage → Result Reply LookUp
result_at head (stages.Done reply) = Ok reply
result_at head stage = Err (at head stage)

-- the reply of a look-up that is done, or the look-up
abbrev pub result_of : LookUp → Result Reply LookUp
result_of look = result_at look.head look.stage
