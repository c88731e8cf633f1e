-- What holds of the trier of a look-up: an answer preserves it for the look-up if it does for the trier, and if it holds where a list begins
-- to be tried.
use Rattle.std.proofs.Common.{ℕ, ◌==◌, List, [], Bool, true, false, cond, slice_get, Option, Some, None, Ok, Err}
use Rattle.odb_base.specs.Path.{Path}
use Rattle.gix_hash.specs.declared.object_id.ObjectId.{ObjectId}
use Rattle.gix_odb_events.specs.declared.view.View.{View}
use Rattle.gix_odb_events.specs.declared.loaded.Todo.{Todo}
use Rattle.gix_odb_search.specs.TryOrder.{seek}
use Rattle.gix_odb_events.specs.declared.answer.Answer.{Answer}
use Rattle.gix_odb_events.specs.declared.answer.Answer.TheVariants as told
use Rattle.gix_odb_search.specs.declared.goal.Goal.{Goal}
use Rattle.gix_odb_search.specs.declared.search.Notes.{Notes}
use Rattle.gix_odb_search.specs.declared.trier.Ahead.{Ahead}
use Rattle.gix_odb_search.specs.declared.trier.Tried.{Tried}
use Rattle.gix_odb_search.specs.declared.trier.Tried.TheVariants as tried
use Rattle.gix_odb_search.specs.declared.trier.Trier.{Trier}
use Rattle.gix_odb_calls.specs.Verdict.{folder_verdict}
use Rattle.gix_odb_calls.specs.declared.load_index.Error.TheVariants as load_errors
use Rattle.gix_object.specs.declared.want.Want.{Want}
use Rattle.gix_odb_calls.specs.declared.verdict.Verdict.{Verdict}
use Rattle.gix_odb_calls.specs.declared.verdict.Verdict.TheVariants as verdicts
use Rattle.gix_odb.specs.LookUpOrder.{Setting, after_core_list, after_list, after_loose, at_folder, by_checked, by_read, by_refresh, by_tried}
use Rattle.gix_odb.specs.LookUpOrder.{by_verdict, counted, ended, fed_at, goal_of, is_unsettled}
use Rattle.gix_odb.specs.LookUpOrder.{listing_from, load_refused, own_by}
use Rattle.gix_odb.specs.LookUpOrder.{new_head, not_found, started, trier_fed, try_view, unsettled, view_shown, without_absent, without_notes}
use Rattle.gix_odb.specs.RefreshOrder as refreshes
use Rattle.gix_odb.specs.declared.refresh.Refresh.TheVariants as fronts
use Rattle.gix_odb.specs.declared.refresh.RefreshStep.{RefreshStep}
use Rattle.gix_odb.specs.declared.refresh.RefreshStep.TheVariants as steps
use Rattle.gix_odb.specs.declared.look_up.LookHead.{LookHead}
use Rattle.gix_odb.specs.declared.look_up.LookStage.{LookStage}
use Rattle.gix_odb.specs.declared.look_up.LookStage.TheVariants as stages
use Rattle.gix_odb.specs.declared.look_up.LooseRound.{LooseRound}
use Rattle.gix_odb.specs.declared.look_up.Part.{Part}
use Rattle.gix_odb.specs.declared.look_up.Part.TheVariants as parts
use Rattle.gix_odb.specs.declared.look_up.Purpose.{Purpose}
use Rattle.gix_odb.specs.declared.look_up.Purpose.TheVariants as purposes
use Rattle.gix_odb.specs.declared.refresh_mode.RefreshMode.{RefreshMode}
use Rattle.gix_odb.proofs.ModeLemmas.{by_mode-all}
use Rattle.gix_odb.specs.Store.{listed_for}

module _ (OfTrier : Trier → Type 0) where
  abbrev pub OfTried : Tried → Type 0
  OfTried (tried.More trier) = OfTrier trier
  OfTried result = Unit {0}

  abbrev pub OfStage : LookStage → Type 0
  OfStage (stages.Trying trier part) = OfTrier trier
  OfStage stage = Unit {0}

  -- what is to hold after an answer
  abbrev pub Goes : LookStage → Answer → Type 0
  Goes (stages.Trying trier part) answer = OfTried (trier_fed trier answer)
  Goes stage answer = Unit {0}

  module _ (setting : Setting) (begins : (goal : Goal) (ahead : Ahead) → OfTried (seek goal ahead)) where
    chosen : (b : Bool) (one other : LookStage) → OfStage one → OfStage other → OfStage (cond b one other)
    chosen true one other first further = first
    chosen false one other first further = further

    -- ---- a list is tried

    of_ended : (want : Want) (notes : Notes) → OfStage (ended want notes)
    of_ended want notes = chosen notes.failed (stages.Done (load_refused load_errors.Io)) (stages.Done (not_found want)) tt tt

    of_core_list : (head : LookHead) (list_no : ℕ) (notes : Notes) → OfStage (after_core_list setting head list_no notes)
    of_core_list head list_no notes =
        by_mode-all OfStage (ended head.want notes) (listing_from setting list_no notes) head.mode (of_ended head.want notes) tt

    of_after_list : (head : LookHead) (part : Part) (notes : Notes) → OfStage (after_list setting head part notes)
    of_after_list head parts.Snapshot notes = tt
    of_after_list head (parts.List list_no true) notes = tt
    of_after_list head (parts.List list_no false) notes = of_core_list head list_no notes
    of_after_list head (parts.Published list_no) notes = tt

    of_tried : (head : LookHead) (part : Part) (end : Tried) → OfTried end → OfStage (by_tried setting head part end)
    of_tried head part (tried.More trier) here = here
    of_tried head part (tried.Hit found) here = tt
    of_tried head part (tried.Missed notes) here = of_after_list head part notes
    of_tried head part (tried.Bad error) here = tt
    of_tried head part (tried.Broken refusal) here = tt

    of_view : (head : LookHead) (part : Part) (view : View) (todo : List Todo) (notes : Notes) → OfStage (try_view setting head part view todo notes)
    of_view head part view todo notes =
        let ahead : Ahead = record { indices = view.snapshot.indices; todo = todo; notes = notes } in
        of_tried head part (seek (goal_of setting head) ahead) (begins (goal_of setting head) ahead)

    -- ---- the loose folders

    of_after_loose : (head : LookHead) (part : Part) (notes : Notes) → OfStage (after_loose setting head part notes)
    of_after_loose head parts.Snapshot notes = tt
    of_after_loose head (parts.List list_no loose) notes = of_core_list head list_no notes
    of_after_loose head (parts.Published list_no) notes =
        by_mode-all OfStage (ended head.want notes) (stages.Checking list_no notes) head.mode (of_ended head.want notes) tt

    of_folder : (head : LookHead) (round : LooseRound) (next : Option Path) → OfStage (at_folder setting head round next)
    of_folder head round None = of_after_loose head round.part round.notes
    of_folder head round (Some folder) = tt

    of_verdict : (head : LookHead) (round : LooseRound) (verdict : Verdict) → OfStage (by_verdict setting head round verdict)
    of_verdict head round (verdicts.Ends reply) = tt
    of_verdict head round verdicts.Misses = of_folder head round (slice_get setting.parts.folders round.next)
    of_verdict head round (verdicts.Notes error) =
        of_folder head (record round { notes = record round.notes { failed = true } }) (slice_get setting.parts.folders round.next)

    -- ---- the core has answered

    of_counted : (head : LookHead) (now : ℕ) (next : LookStage) → OfStage next → OfStage (counted setting head now next)
    of_counted head now next here = chosen (is_unsettled setting head now) (unsettled head now) next tt here

    of_checked : (head : LookHead) (list_no : ℕ) (notes : Notes) (view : Option View) → OfStage (by_checked setting head list_no notes view)
    of_checked head list_no notes None = tt
    of_checked head list_no notes (Some view) =
        chosen (view.list_no == list_no) (ended head.want notes) (counted setting head view.list_no (listing_from setting view.list_no notes))
        (of_ended head.want notes)
        (of_counted head view.list_no (listing_from setting view.list_no notes) tt)

    of_read : (head : LookHead) (purpose : Purpose) (view : View) (notes : Notes) → OfStage (by_read setting head purpose view notes)
    of_read head (purposes.First loose) view notes = of_view head (parts.List view.list_no loose) view view.todo notes
    of_read head purposes.Again view notes =
        by_mode-all OfStage (stages.Refreshing fronts.Reading (purposes.First true) notes) (listing_from setting view.list_no notes) head.mode tt tt

    of_refresh : (head : LookHead) (purpose : Purpose) (notes : Notes) (step : RefreshStep) → OfStage (by_refresh setting head purpose notes step).stage
    of_refresh head purpose notes (steps.More refresh) = tt
    of_refresh head purpose notes (steps.Read view) = of_read head purpose view notes
    of_refresh head purpose notes (steps.Current view own) =
        of_view (own_by head own) (parts.Published view.list_no) view view.todo (without_absent notes)
    of_refresh head purpose notes (steps.Outdated list_no) = of_counted head list_no (stages.Refreshing fronts.Reading purposes.Again notes) tt
    of_refresh head purpose notes (steps.Refused error) = tt

    -- ---- an answer

    pub stage_goes : (head : LookHead) (stage : LookStage) (answer : Answer) → Goes stage answer → OfStage (fed_at setting head stage answer).stage
    stage_goes head (stages.Trying trier part) answer here = of_tried head part (trier_fed trier answer) here
    stage_goes head (stages.Loose round call) (told.Disk answer) here = of_verdict head round (folder_verdict call answer)
    stage_goes head (stages.Loose round call) (told.Core answer) here = tt
    stage_goes head (stages.Refreshing refresh purpose notes) answer here =
        of_refresh head purpose notes (refreshes.fed setting.parts.objects (listed_for setting.parts) refresh answer)
    stage_goes head (stages.Checking list_no notes) (told.Disk answer) here = tt
    stage_goes head (stages.Checking list_no notes) (told.Core (Ok effect)) here = of_checked head list_no notes (view_shown effect)
    stage_goes head (stages.Checking list_no notes) (told.Core (Err refusal)) here = tt
    stage_goes head (stages.Done reply) answer here = tt

    -- a new look-up
    pub start_has : (mode : RefreshMode) (view : View) (want : Want) (id : ObjectId) → OfStage (started setting mode view want id).stage
    start_has mode view want id =
        chosen view.read (try_view setting (new_head mode want id) parts.Snapshot view [] without_notes) (stages.Refreshing fronts.Reading (purposes.First true) without_notes)
        (of_view (new_head mode want id) parts.Snapshot view [] without_notes) tt
