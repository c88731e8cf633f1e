-- The loose objects of the folders are asked.
use Rattle.std.specs.Prelude.{◌+◌, true, false, slice_get, Option, Some, None}
use Rattle.gix_odb_calls.specs.Verdict.{asking}
use Rattle.gix_odb_calls.specs.declared.verdict.Verdict.{Verdict}
use Rattle.gix_odb_calls.specs.declared.verdict.Verdict.TheVariants as verdicts
use Rattle.gix_odb.specs.declared.look_up.LookHead.{LookHead}
use Rattle.gix_odb.specs.declared.look_up.LookStage.{LookStage}
use Rattle.gix_odb.specs.declared.look_up.LookStage.TheVariants as stages
use Rattle.gix_odb.specs.declared.look_up.LooseRound.{LooseRound}
use Rattle.gix_odb.specs.declared.look_up.Part.{Part}
use Rattle.gix_odb.specs.declared.look_up.Part.TheVariants as parts
use Rattle.gix_odb.specs.declared.look_up.Purpose.TheVariants as purposes
use Rattle.gix_odb.specs.declared.refresh.Refresh.TheVariants as fronts
use Rattle.gix_odb_search.specs.declared.search.Notes.{Notes}
use Rattle.odb_base.specs.Path.{Path}
use Rattle.gix_odb.specs.LookUpOrder.Store.{Setting}
use Rattle.gix_odb.specs.LookUpOrder.Listing.{after_core_list}
use Rattle.gix_odb.specs.LookUpOrder.Replies.{ended}
use Rattle.gix_odb.specs.RefreshMode.{by_mode}

-- the loose objects of the first folder are asked
abbrev pub loose_from : Setting → LookHead → Part → Notes → LookStage
loose_from setting head part notes =
    stages.Loose (record { next = 0; notes = notes; part = part }) (asking setting.parts.alloc_limit_bytes head.want head.id setting.parts.objects)

-- after the loose folders: the core's list; a listing; or a look at whether the list that was tried is still the newest. A handle that never
-- refreshes its list is at the end once a list of the core was tried.
abbrev pub after_loose : Setting → LookHead → Part → Notes → LookStage
after_loose setting head parts.Snapshot notes = stages.Refreshing fronts.Reading (purposes.First false) notes
after_loose setting head (parts.List list_no loose) notes = after_core_list setting head list_no notes
after_loose setting head (parts.Published list_no) notes = by_mode (ended head.want notes) (stages.Checking list_no notes) head.mode

-- the next folder is asked; after the last one the look-up goes on
abbrev pub at_folder : Setting → LookHead → LooseRound → Option Path → LookStage
at_folder setting head round None = after_loose setting head round.part round.notes
at_folder setting head round (Some folder) =
    stages.Loose (record round { next = round.next + 1 }) (asking setting.parts.alloc_limit_bytes head.want head.id folder)

-- after a folder's verdict: the reply, the next folder, or that folder with the failed look noted
abbrev pub by_verdict : Setting → LookHead → LooseRound → Verdict → LookStage
by_verdict setting head round (verdicts.Ends reply) = stages.Done reply
by_verdict setting head round verdicts.Misses = at_folder setting head round (slice_get setting.parts.folders round.next)
by_verdict setting head round (verdicts.Notes error) =
    at_folder setting head (record round { notes = record round.notes { failed = true } }) (slice_get setting.parts.folders round.next)
