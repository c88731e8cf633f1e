-- What is left behind a list that was tried, and behind the loose folders.
use Rattle.std.proofs.Common.{◌≡◌, ℕ, ◌+◌, ◌-◌, ◌*◌, ◌≤◌, Bool, true, false, cond, inl, List, length, slice_get, Option, Some, None, refl, arith}
use Rattle.std.proofs.lemmas.Option.{slice_get_within}
use Rattle.odb_base.specs.Path.{Path}
use Rattle.gix_odb_events.specs.declared.loaded.Todo.{Todo}
use Rattle.gix_odb_events.specs.declared.view.View.{View}
use Rattle.gix_odb_search.proofs.TryTurnLaws.{TriesFor, seek_tries, trier_turns}
use Rattle.gix_odb_search.specs.TryOrder.{seek}
use Rattle.gix_odb_search.specs.declared.search.Notes.{Notes}
use Rattle.gix_odb_search.specs.declared.trier.Ahead.{Ahead}
use Rattle.gix_odb_search.specs.declared.trier.Tried.{Tried}
use Rattle.gix_odb_search.specs.declared.trier.Tried.TheVariants as tried
use Rattle.gix_odb_calls.specs.declared.call.Reply.{Reply}
use Rattle.gix_odb_calls.specs.declared.load_index.Error.TheVariants as load_errors
use Rattle.gix_odb_calls.specs.declared.verdict.Verdict.{Verdict}
use Rattle.gix_odb_calls.specs.declared.verdict.Verdict.TheVariants as verdicts
use Rattle.gix_odb.specs.Stream.{Stream}
use Rattle.gix_odb.specs.RefreshMode.{by_mode}
use Rattle.gix_odb.specs.LookUpOrder.{after_core_list, after_list, after_loose, at_folder, by_tried}
use Rattle.gix_odb.specs.LookUpOrder.{by_verdict, ended, goal_of, listing_from, load_refused, loose_from, not_found, try_view}
use Rattle.gix_odb.specs.declared.look_up.LookHead.{LookHead}
use Rattle.gix_odb.specs.declared.look_up.LookStage.{LookStage}
use Rattle.gix_odb.specs.declared.look_up.LookStage.TheVariants as stages
use Rattle.gix_odb.specs.declared.look_up.LooseRound.{LooseRound}
use Rattle.gix_odb.specs.declared.look_up.Part.{Part}
use Rattle.gix_odb.specs.declared.look_up.Part.TheVariants as parts
use Rattle.gix_odb.specs.declared.refresh_mode.RefreshMode.{RefreshMode}
use Rattle.gix_odb.specs.declared.refresh_mode.RefreshMode.TheVariants.{AfterAllIndicesLoaded, Never}
use Rattle.gix_odb.proofs.ModeLemmas.{by_mode-all}
use Rattle.gix_odb.proofs.TurnLaws.TurnsLeft.{Bounds, HasFurther, HasLeft, OfPart, OfPart-less, folders, onward, trying}
use Rattle.gix_odb.proofs.TurnLaws.LapsLeft.{IsFirst-less, IsFurther-less}

module _ (bounds : Bounds) where
  -- ---- what follows a list

  pub listing_left : (head : LookHead) (base before : ℕ) (stream : Option Stream) (turns : ℕ) (notes : Notes)
      → HasFurther bounds head base before (bounds.lap - 1) turns
      → HasLeft bounds head (listing_from bounds.setting base notes) before stream turns
  listing_left head base before stream turns notes has = (tt, IsFurther-less has (omega (arith, bounds.wide)))

  pub ended_left : (head : LookHead) (failed : Bool) (one other : Reply) (before : ℕ) (stream : Option Stream) (turns : ℕ)
      → HasLeft bounds head (cond failed (stages.Done one) (stages.Done other)) before stream turns
  ended_left head true one other before stream turns = tt
  ended_left head false one other before stream turns = tt

  -- a list of the core was tried, and the loose folders
  core_list_left : (head : LookHead) (number before : ℕ) (stream : Option Stream) (turns : ℕ) (notes : Notes)
      → HasFurther bounds head number before (onward bounds head) turns
      → HasLeft bounds head (after_core_list bounds.setting head number notes) before stream turns
  core_list_left head number before stream turns notes has = by head.mode has
    where
      by : (mode : RefreshMode) → HasFurther bounds head number before (by_mode 0 bounds.lap mode) turns
          → HasLeft bounds head (by_mode (ended head.want notes) (listing_from bounds.setting number notes) mode) before stream turns
      by Never has = ended_left head notes.failed (load_refused load_errors.Io) (not_found head.want) before stream turns
      by AfterAllIndicesLoaded has = listing_left head number before stream turns notes (IsFurther-less has (omega arith))

  loose_left : (head : LookHead) (part : Part) (before : ℕ) (stream : Option Stream) (turns : ℕ) (notes : Notes)
      → OfPart bounds head part before (folders bounds + 1) turns
      → HasLeft bounds head (loose_from bounds.setting head part notes) before stream turns
  loose_left head part before stream turns notes has =
      OfPart-less bounds head part before (folders bounds + 1) turns ((folders bounds - 0) + 1) turns has (omega arith)

  list_left : (head : LookHead) (part : Part) (before : ℕ) (stream : Option Stream) (turns : ℕ) (notes : Notes)
      → OfPart bounds head part before (folders bounds + 1) turns
      → HasLeft bounds head (after_list bounds.setting head part notes) before stream turns
  list_left head parts.Snapshot before stream turns notes has = loose_left head parts.Snapshot before stream turns notes has
  list_left head (parts.List number true) before stream turns notes has = loose_left head (parts.List number true) before stream turns notes has
  list_left head (parts.List number false) before stream turns notes has = core_list_left head number before stream turns notes (IsFurther-less has (omega arith))
  list_left head (parts.Published number) before stream turns notes has = loose_left head (parts.Published number) before stream turns notes has

  -- ---- a list

  pub tried_left : (head : LookHead) (part : Part) (before : ℕ) (stream : Option Stream) (turns room : ℕ) (step : Tried) → TriesFor room step
      → OfPart bounds head part before (room + folders bounds + 1) turns
      → HasLeft bounds head (by_tried bounds.setting head part step) before stream turns
  tried_left head part before stream turns room (tried.More trier) few has =
      OfPart-less bounds head part before (room + folders bounds + 1) turns (trier_turns trier + folders bounds + 1) turns has (omega arith)
  tried_left head part before stream turns room (tried.Hit found) few has = tt
  tried_left head part before stream turns room (tried.Missed notes) few has =
      list_left head part before stream turns notes
      (OfPart-less bounds head part before (room + folders bounds + 1) turns (folders bounds + 1) turns has (omega arith))
  tried_left head part before stream turns room (tried.Bad error) few has = tt
  tried_left head part before stream turns room (tried.Broken refusal) few has = tt

  -- a list is tried in four turns per index
  pub view_left : (head : LookHead) (part : Part) (before : ℕ) (stream : Option Stream) (turns : ℕ) (view : View) (todo : List Todo) (notes : Notes)
      → length view.snapshot.indices + length todo ≤ bounds.slots
      → OfPart bounds head part before (trying bounds) turns
      → HasLeft bounds head (try_view bounds.setting head part view todo notes) before stream turns
  view_left head part before stream turns view todo notes few has =
      let ahead : Ahead = record { indices = view.snapshot.indices; todo = todo; notes = notes } in
      tried_left head part before stream turns (4 * bounds.slots) (seek (goal_of bounds.setting head) ahead)
      (seek_tries (4 * bounds.slots) (goal_of bounds.setting head) ahead (omega arith)) has

  -- ---- the loose folders

  loose_over : (head : LookHead) (part : Part) (before : ℕ) (stream : Option Stream) (turns : ℕ) (notes : Notes) → OfPart bounds head part before 0 turns
      → HasLeft bounds head (after_loose bounds.setting head part notes) before stream turns
  loose_over head parts.Snapshot before stream turns notes has = inl (IsFirst-less has (omega arith))
  loose_over head (parts.List number loose) before stream turns notes has = core_list_left head number before stream turns notes (IsFurther-less has (omega arith))
  loose_over head (parts.Published number) before stream turns notes has =
      by_mode-all (λ (stage : LookStage). HasLeft bounds head stage before stream turns) (ended head.want notes) (stages.Checking number notes) head.mode
      (ended_left head notes.failed (load_refused load_errors.Io) (not_found head.want) before stream turns) has

  folder_left : (head : LookHead) (round : LooseRound) (before : ℕ) (stream : Option Stream) (turns : ℕ) (next : Option Path)
      → slice_get bounds.setting.parts.folders round.next ≡ next
      → OfPart bounds head round.part before (folders bounds - round.next) turns
      → HasLeft bounds head (at_folder bounds.setting head round next) before stream turns
  folder_left head round before stream turns None is has =
      loose_over head round.part before stream turns round.notes
      (OfPart-less bounds head round.part before (folders bounds - round.next) turns 0 turns has (omega arith))
  folder_left head round before stream turns (Some folder) is has =
      let within = slice_get_within bounds.setting.parts.folders round.next folder is in
      OfPart-less bounds head round.part before (folders bounds - round.next) turns ((folders bounds - (round.next + 1)) + 1) turns has
      (omega (arith, within))

  pub verdict_left : (head : LookHead) (round : LooseRound) (before : ℕ) (stream : Option Stream) (turns : ℕ) (verdict : Verdict)
      → OfPart bounds head round.part before (folders bounds - round.next) turns
      → HasLeft bounds head (by_verdict bounds.setting head round verdict) before stream turns
  verdict_left head round before stream turns (verdicts.Ends reply) has = tt
  verdict_left head round before stream turns verdicts.Misses has =
      folder_left head round before stream turns (slice_get bounds.setting.parts.folders round.next) refl has
  verdict_left head round before stream turns (verdicts.Notes error) has =
      folder_left head (record round { notes = record round.notes { failed = true } }) before stream turns (slice_get bounds.setting.parts.folders round.next) refl has
