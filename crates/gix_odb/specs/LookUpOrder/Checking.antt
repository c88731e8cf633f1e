-- Whether the list that was tried is the newest, and how many lists of others a look-up met.
use Rattle.std.specs.Prelude.{ℕ, ◌-◌, Bool, nat_lt, Option, Some, None, unwrap_or, if◌then◌else◌, ◌==◌}
use Rattle.gix_odb_calls.specs.declared.load_index.Error.TheVariants as load_errors
use Rattle.gix_odb_events.specs.declared.view.View.{View}
use Rattle.gix_odb.specs.declared.look_up.LookHead.{LookHead}
use Rattle.gix_odb.specs.declared.look_up.LookStage.{LookStage}
use Rattle.gix_odb.specs.declared.look_up.LookStage.TheVariants as stages
use Rattle.gix_odb_search.specs.declared.search.Notes.{Notes}
use Rattle.gix_odb.specs.LookUpOrder.Store.{Setting}
use Rattle.gix_odb.specs.LookUpOrder.Listing.{listing_from}
use Rattle.gix_odb.specs.LookUpOrder.Replies.{load_refused, ended}

-- more lists were published by others since the call's first event than it may meet
abbrev pub is_unsettled : Setting → LookHead → (now : ℕ) → Bool
is_unsettled setting head now = nat_lt setting.most (now - unwrap_or head.begun now - head.own)

-- the look-up ends, and reports at which list it began, how many it published itself, and which is the newest
abbrev pub unsettled : LookHead → (now : ℕ) → LookStage
unsettled head now = stages.Done (load_refused (load_errors.Unsettled (unwrap_or head.begun now) head.own now))

-- a list of others is counted before the look-up goes on
abbrev pub counted : Setting → LookHead → (now : ℕ) → LookStage → LookStage
counted setting head now next = if is_unsettled setting head now then unsettled head now else next

-- the list that was tried is the newest, and the look-up ends; or it is counted, and the folders are listed again
abbrev pub by_check : Setting → LookHead → (list_no : ℕ) → View → Notes → LookStage
by_check setting head list_no view notes =
    if view.list_no == list_no then ended head.want notes else counted setting head view.list_no (listing_from setting view.list_no notes)

-- the core's state was read for this, which passes a view: the first row only makes the function total
abbrev pub by_checked : Setting → LookHead → (list_no : ℕ) → Notes → Option View → LookStage
by_checked setting head list_no notes None = stages.Checking list_no notes
by_checked setting head list_no notes (Some view) = by_check setting head list_no view notes
