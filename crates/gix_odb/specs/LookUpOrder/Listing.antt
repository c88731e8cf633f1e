-- The folders of packs are listed, unless the handle never refreshes its list.
use Rattle.std.specs.Prelude.{ℕ}
use Rattle.gix_odb.specs.declared.look_up.LookHead.{LookHead}
use Rattle.gix_odb.specs.declared.look_up.LookStage.{LookStage}
use Rattle.gix_odb.specs.declared.look_up.LookStage.TheVariants as stages
use Rattle.gix_odb.specs.declared.look_up.Purpose.TheVariants as purposes
use Rattle.gix_odb_search.specs.declared.search.Notes.{Notes}
use Rattle.gix_odb.specs.RefreshMode.{by_mode}
use Rattle.gix_odb.specs.RefreshOrder as refreshes
use Rattle.gix_odb.specs.LookUpOrder.Replies.{ended}
use Rattle.gix_odb.specs.LookUpOrder.Store.{Setting}

-- a listing after the list of a number begins
abbrev pub listing_from : Setting → (base : ℕ) → Notes → LookStage
listing_from setting base notes = stages.Refreshing (refreshes.listing_from setting.parts.objects base) purposes.Again notes

-- after the core's list of a number, and the loose folders: a handle that never refreshes its list is at the end, and for any other one the
-- folders are listed
abbrev pub after_core_list : Setting → LookHead → (list_no : ℕ) → Notes → LookStage
after_core_list setting head list_no notes = by_mode (ended head.want notes) (listing_from setting list_no notes) head.mode
