-- What is left after a read of the core's state, and after a publish.
use Rattle.std.proofs.Common.{Option, inl, inr, ap, ◌≡◌, ◌≢◌, ℕ, suc, ◌+◌, ◌-◌, ◌≤◌, ◌<◌, Bool, true, false, ◌==◌, nat_lt, cond, length, Some, unwrap_or, Ok, refl, arith}
use Rattle.std.proofs.lemmas.Bool.{eqb-false, ltb-false}
use Rattle.gix_odb_events.specs.declared.listing.Listing.{Listing}
use Rattle.gix_odb_events.specs.declared.event.Effect.TheVariants as effects
use Rattle.gix_odb_events.specs.declared.view.View.{View}
use Rattle.gix_odb_events.specs.declared.answer.Answer.{Answer}
use Rattle.gix_odb_events.specs.declared.answer.Answer.TheVariants as told
use Rattle.gix_odb_search.specs.declared.search.Notes.{Notes}
use Rattle.gix_odb_calls.specs.declared.call.Reply.{Reply}
use Rattle.gix_odb_calls.specs.declared.load_index.Error.TheVariants as load_errors
use Rattle.gix_odb.specs.Laps.{HasFew}
use Rattle.gix_odb.specs.Stream.{Stream}
use Rattle.gix_odb.specs.LookUpOrder.{by_checked, by_refresh, counted, ended, first_of, is_unsettled, listing_from}
use Rattle.gix_odb.specs.LookUpOrder.{load_refused, not_found, seen, unsettled, with_own, without_absent}
use Rattle.gix_odb.specs.RefreshMode.{by_mode}
use Rattle.gix_odb.specs.RefreshOrder.{by_published, by_view}
use Rattle.gix_odb.specs.RefreshOrder as refreshes
use Rattle.gix_odb.specs.declared.refresh.Refresh.TheVariants as fronts
use Rattle.gix_odb.specs.declared.refresh.RefreshStep.TheVariants as steps
use Rattle.gix_odb.specs.declared.look_up.LookHead.{LookHead}
use Rattle.gix_odb.specs.declared.look_up.LookStage.{LookStage}
use Rattle.gix_odb.specs.declared.look_up.LookStage.TheVariants as stages
use Rattle.gix_odb.specs.declared.look_up.Part.TheVariants as parts
use Rattle.gix_odb.specs.declared.look_up.Purpose.{Purpose}
use Rattle.gix_odb.specs.declared.look_up.Purpose.TheVariants as purposes
use Rattle.gix_odb.specs.declared.refresh_mode.RefreshMode.{RefreshMode}
use Rattle.gix_odb.specs.declared.refresh_mode.RefreshMode.TheVariants.{AfterAllIndicesLoaded, Never}
use Rattle.gix_odb.proofs.TurnLaws.TurnsLeft.{Bounds, HasFurther, HasLeft, LookHasLeft, OfPurpose, ReadsFirst, onward, settling, trying}
use Rattle.gix_odb.proofs.TurnLaws.LapsLeft.{IsFurther-begun, IsFurther-counted, IsFurther-less, IsFurther-later, IsFurther-on, IsFurther-published}
use Rattle.gix_odb.proofs.TurnLaws.PartTurns.{ended_left, listing_left, view_left}

-- the head after a view
abbrev shown : LookHead → View → LookHead
shown head view = record head { begun = first_of head.begun (Some view) }

-- an answer that passes a view
abbrev seeing : View → Answer
seeing view = told.Core (Ok (effects.Seen view))

abbrev lists_of_others : LookHead → (now : ℕ) → ℕ
lists_of_others head now = now - unwrap_or head.begun now - head.own

module _ (bounds : Bounds) where
  -- ---- a read of the core's state

  -- a count ends the look-up, or few lists of others were met
  settled_left : (head : LookHead) (now before : ℕ) (stream : Option Stream) (turns : ℕ) (next : LookStage) (many : Bool)
      → nat_lt bounds.setting.most (lists_of_others head now) ≡ many
      → (lists_of_others head now ≤ bounds.setting.most → HasLeft bounds head next before stream turns)
      → HasLeft bounds head (cond many (unsettled head now) next) before stream turns
  settled_left head now before stream turns next true is goes = tt
  settled_left head now before stream turns next false is goes = goes (ltb-false bounds.setting.most (lists_of_others head now) is)

  counted_left : (head : LookHead) (now before : ℕ) (stream : Option Stream) (turns : ℕ) (next : LookStage)
      → (lists_of_others head now ≤ bounds.setting.most → HasLeft bounds head next before stream turns)
      → HasLeft bounds head (counted bounds.setting head now next) before stream turns
  counted_left head now before stream turns next goes = settled_left head now before stream turns next (is_unsettled bounds.setting head now) refl goes

  -- what follows a list of the core, which was read before or not
  abbrev Shows : LookHead → Purpose → (read : Bool) → (stream : Option Stream) (turns : ℕ) → View → Notes → Type 0
  Shows head purpose read stream turns view notes =
      LookHasLeft bounds
      (by_refresh bounds.setting (shown head view) purpose notes
      (cond read (steps.Read view) (steps.More (refreshes.listing_from bounds.setting.parts.objects view.list_no))))
      view.list_no stream turns

  onward_is_a_lap : (mode : RefreshMode) → by_mode 0 bounds.lap mode ≤ bounds.lap
  onward_is_a_lap Never = omega arith
  onward_is_a_lap AfterAllIndicesLoaded = omega arith

  first_left : (head : LookHead) (loose read : Bool) (before : ℕ) (stream : Option Stream) (turns : ℕ) (view : View) (notes : Notes) → before ≤ view.list_no
      → length view.snapshot.indices + length view.todo ≤ bounds.slots
      → ReadsFirst bounds head before (suc turns)
      → Shows head (purposes.First loose) read stream turns view notes
  first_left head loose true before stream turns view notes later few (inl has) =
      let lap = onward_is_a_lap head.mode in
      view_left bounds (shown head view) (parts.List view.list_no loose) view.list_no stream turns view view.todo notes few
      (IsFurther-begun view has later (omega (arith, lap)))
  first_left head loose false before stream turns view notes later few (inl has) =
      listing_left bounds (shown head view) view.list_no view.list_no stream turns notes (IsFurther-begun view has later (omega arith))
  first_left head loose true before stream turns view notes later few (inr (never, has)) =
      let none : onward bounds (shown head view) ≡ 0 = ap (λ (mode : RefreshMode). by_mode 0 bounds.lap mode) never in
      let after : HasFurther bounds (shown head view) before view.list_no (bounds.lap - 1) turns =
      IsFurther-on (seeing view) view.list_no has later (omega (arith, bounds.wide))
      in
      view_left bounds (shown head view) (parts.List view.list_no loose) view.list_no stream turns view view.todo notes few
      (IsFurther-later view.list_no after later (omega (arith, none, bounds.wide)))
  first_left head loose false before stream turns view notes later few (inr (never, has)) =
      let after : HasFurther bounds (shown head view) before view.list_no (bounds.lap - 1) turns =
      IsFurther-on (seeing view) view.list_no has later (omega (arith, bounds.wide))
      in
      listing_left bounds (shown head view) view.list_no view.list_no stream turns notes (IsFurther-later view.list_no after later (omega arith))

  again_left : (head : LookHead) (read : Bool) (before : ℕ) (stream : Option Stream) (turns : ℕ) (view : View) (notes : Notes) → before ≤ view.list_no
      → HasFurther bounds head before before (bounds.lap + 1) (suc turns)
      → Shows head purposes.Again read stream turns view notes
  again_left head read before stream turns view notes later has = by read
    where
      after : HasFurther bounds (shown head view) view.list_no view.list_no bounds.lap turns
      after =
          let behind : HasFurther bounds (shown head view) before view.list_no bounds.lap turns = IsFurther-on (seeing view) view.list_no has later (omega arith) in
          IsFurther-later view.list_no behind later (omega arith)

      left : HasLeft bounds (shown head view) (listing_from bounds.setting view.list_no notes) view.list_no stream turns
      left = listing_left bounds (shown head view) view.list_no view.list_no stream turns notes (IsFurther-less after (omega arith))

      again_by : (mode : RefreshMode) → head.mode ≡ mode
          → HasLeft bounds (shown head view)
          (by_mode (stages.Refreshing fronts.Reading (purposes.First true) notes) (listing_from bounds.setting view.list_no notes) mode) view.list_no stream turns
      again_by Never is = inr (is, after)
      again_by AfterAllIndicesLoaded is = left

      by : (read : Bool) → Shows head purposes.Again read stream turns view notes
      by true = again_by head.mode refl
      by false = left

  -- where the list that was tried is no longer the newest, others published one
  check_left : (head : LookHead) (number before : ℕ) (stream : Option Stream) (turns : ℕ) (view : View) (notes : Notes) (same : Bool)
      → (view.list_no == number) ≡ same
      → before ≤ view.list_no
      → HasFurther bounds head number before 1 (suc turns)
      → HasLeft bounds (shown head view)
      (cond same (ended head.want notes) (counted bounds.setting (shown head view) view.list_no (listing_from bounds.setting view.list_no notes)))
      view.list_no stream turns
  check_left head number before stream turns view notes true is later has =
      ended_left bounds (shown head view) notes.failed (load_refused load_errors.Io) (not_found head.want) view.list_no stream turns
  check_left head number before stream turns view notes false is later has =
      let other = eqb-false view.list_no number is in
      let behind : HasFurther bounds (shown head view) number view.list_no 1 (suc turns) = IsFurther-on (seeing view) view.list_no has later (omega arith) in
      let risen : number < view.list_no = omega (arith, has.told) in
      counted_left (shown head view) view.list_no view.list_no stream turns (listing_from bounds.setting view.list_no notes)
      (λ settled. listing_left bounds (shown head view) view.list_no view.list_no stream turns notes
      (IsFurther-counted view.list_no behind risen settled (omega arith)))

  pub checked_left : (head : LookHead) (number before : ℕ) (stream : Option Stream) (turns : ℕ) (view : View) (notes : Notes) → before ≤ view.list_no
      → HasFurther bounds head number before 1 (suc turns)
      → HasLeft bounds (shown head view) (by_checked bounds.setting (shown head view) number notes (Some view)) view.list_no stream turns
  checked_left head number before stream turns view notes later has =
      check_left head number before stream turns view notes (view.list_no == number) refl later has

  pub read_left : (head : LookHead) (purpose : Purpose) (before : ℕ) (stream : Option Stream) (turns : ℕ) (view : View) (notes : Notes) → before ≤ view.list_no
      → HasFew bounds.slots view
      → OfPurpose bounds head purpose before (suc turns)
      → LookHasLeft bounds (by_refresh bounds.setting (shown head view) purpose notes (by_view bounds.setting.parts.objects view)) view.list_no stream turns
  read_left head (purposes.First loose) before stream turns view notes later few has =
      first_left head loose view.read before stream turns view notes later few.0 has
  read_left head purposes.Again before stream turns view notes later few has = again_left head view.read before stream turns view notes later has

  -- ---- a publish

  module _ (head : LookHead) (listing : Listing) (before : ℕ) (stream : Option Stream) (turns : ℕ) (purpose : Purpose) (notes : Notes)
      (has : HasFurther bounds head listing.base before (settling bounds) (suc turns)) where
    pub published_left : (view : View) → before ≤ view.list_no → view.list_no ≡ listing.base + 1 → HasFew bounds.slots view
        → LookHasLeft bounds (by_refresh bounds.setting (shown head view) purpose notes (by_published listing (effects.Published view))) view.list_no stream turns
    published_left view later is few =
        let behind : HasFurther bounds (shown head view) listing.base view.list_no (trying bounds + 1) turns =
        IsFurther-on (seeing view) view.list_no has later (omega arith)
        in
        view_left bounds (with_own (shown head view)) (parts.Published view.list_no) view.list_no stream turns view view.todo (without_absent notes) few.0
        (IsFurther-published view.list_no behind is few.1 (omega arith))

    pub unchanged_left : (view : View) → before ≤ view.list_no → view.list_no ≡ listing.base → HasFew bounds.slots view
        → LookHasLeft bounds (by_refresh bounds.setting (shown head view) purpose notes (by_published listing (effects.Unchanged view))) view.list_no stream turns
    unchanged_left view later is few =
        let behind : HasFurther bounds (shown head view) listing.base view.list_no (trying bounds + 1) turns =
        IsFurther-on (seeing view) view.list_no has later (omega arith)
        in
        let same : listing.base ≤ view.list_no = omega arith in
        view_left bounds (shown head view) (parts.Published view.list_no) view.list_no stream turns view view.todo (without_absent notes) few.0
        (IsFurther-later view.list_no behind same (omega arith))

    pub outdated_left : (number : ℕ) → before ≤ number → number ≢ listing.base
        → LookHasLeft bounds
        (by_refresh bounds.setting (seen head (told.Core (Ok (effects.Outdated number)))) purpose notes (by_published listing (effects.Outdated number)))
        number stream turns
    outdated_left number later other =
        let answer : Answer = told.Core (Ok (effects.Outdated number)) in
        let behind : HasFurther bounds (seen head answer) listing.base number (settling bounds) (suc turns) =
        IsFurther-on answer number has later (omega arith)
        in
        let risen : listing.base < number = omega (arith, has.told) in
        counted_left (seen head answer) number number stream turns (stages.Refreshing fronts.Reading purposes.Again notes)
        (λ settled. IsFurther-counted number behind risen settled (omega arith))
