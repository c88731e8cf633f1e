-- The list of the core is read, or brought up to date.
use Rattle.std.specs.Prelude.{ℕ, ◌+◌, min, Bool, true, false, []}
use Rattle.gix_odb_events.specs.View.{last_state}
use Rattle.gix_odb_events.specs.declared.view.View.{View}
use Rattle.gix_odb.specs.declared.look_up.LookHead.{LookHead}
use Rattle.gix_odb.specs.declared.look_up.LookStage.{LookStage}
use Rattle.gix_odb.specs.declared.look_up.LookStage.TheVariants as stages
use Rattle.gix_odb.specs.declared.look_up.LookUp.{LookUp}
use Rattle.gix_odb.specs.declared.look_up.Part.TheVariants as parts
use Rattle.gix_odb.specs.declared.look_up.Purpose.{Purpose}
use Rattle.gix_odb.specs.declared.look_up.Purpose.TheVariants as purposes
use Rattle.gix_odb_search.specs.declared.search.Notes.{Notes}
use Rattle.gix_odb.specs.declared.refresh.Refresh.TheVariants as fronts
use Rattle.gix_odb.specs.declared.refresh.RefreshStep.{RefreshStep}
use Rattle.gix_odb.specs.declared.refresh.RefreshStep.TheVariants as steps
use Rattle.gix_odb.specs.RefreshMode.{by_mode}
use Rattle.gix_odb.specs.LookUpOrder.Store.{Setting}
use Rattle.gix_odb.specs.LookUpOrder.Listing.{listing_from}
use Rattle.gix_odb.specs.LookUpOrder.Replies.{load_refused}
use Rattle.gix_odb.specs.LookUpOrder.Trying.{try_view}
use Rattle.gix_odb.specs.LookUpOrder.Checking.{counted}

-- After a listing that came too late and a look at the core the folders are listed again. A handle that never refreshes its list looks at the core
-- once more and tries its list: it listed the folders since it had no snapshot, so that the loose folders are still to be asked.
abbrev pub again : Setting → LookHead → (list_no : ℕ) → Notes → LookStage
again setting head list_no notes = by_mode (stages.Refreshing fronts.Reading (purposes.First true) notes) (listing_from setting list_no notes) head.mode

-- the core has a list that was read before: the first one is tried
abbrev pub by_read : Setting → LookHead → Purpose → View → Notes → LookStage
by_read setting head (purposes.First loose) view notes = try_view setting head (parts.List view.list_no loose) view view.todo notes
by_read setting head purposes.Again view notes = again setting head view.list_no notes

-- one more list is the call's own
abbrev pub with_own : LookHead → LookHead
with_own head = record head { own = min (head.own + 1) last_state }

abbrev pub own_by : LookHead → (own : Bool) → LookHead
own_by head true = with_own head
own_by head false = head

-- which packs were absent before a listing is forgotten
abbrev pub without_absent : Notes → Notes
without_absent notes = record notes { absent = [] }

-- the listing is the core's list, which is tried
abbrev pub by_current : Setting → LookHead → View → (own : Bool) → Notes → LookUp
by_current setting head view own notes = record {
  head = own_by head own;
  stage = try_view setting (own_by head own) (parts.Published view.list_no) view view.todo (without_absent notes);
}

-- After a step of a refresh: the next one; a list to be tried; or why there is none. Another list that was published since the core was
-- read is counted, and the core is read again.
abbrev pub by_refresh : Setting → LookHead → Purpose → Notes → RefreshStep → LookUp
by_refresh setting head purpose notes (steps.More refresh) = record { head = head; stage = stages.Refreshing refresh purpose notes }
by_refresh setting head purpose notes (steps.Read view) = record { head = head; stage = by_read setting head purpose view notes }
by_refresh setting head purpose notes (steps.Current view own) = by_current setting head view own notes
by_refresh setting head purpose notes (steps.Outdated list_no) =
    record { head = head; stage = counted setting head list_no (stages.Refreshing fronts.Reading purposes.Again notes) }
by_refresh setting head purpose notes (steps.Refused error) = record { head = head; stage = stages.Done (load_refused error) }
