-- A look-up's count of its own lists never reaches its limit: each of them had a number of its own.
use Rattle.std.proofs.Common.{◌≡◌, ℕ, ◌==◌, ◌≤◌, ◌<◌, Bool, true, false, List, [], slice_get, Option, Some, None, Ok, Err}
use Rattle.std.proofs.Common.{refl, subst, sym, arith}
use Rattle.std.specs.Prelude.{if◌then◌else◌}
use Rattle.std.proofs.lemmas.Option.{same_Some}
use Rattle.odb_base.specs.Path.{Path}
use Rattle.gix_hash.specs.declared.object_id.ObjectId.{ObjectId}
use Rattle.gix_odb_events.specs.View.{last_state}
use Rattle.gix_odb_events.specs.declared.event.Effect.{Effect}
use Rattle.gix_odb_events.specs.declared.event.Effect.TheVariants as effects
use Rattle.gix_odb_events.specs.declared.event.Event.TheVariants as events
use Rattle.gix_odb_events.specs.declared.view.View.{View}
use Rattle.gix_odb_events.specs.declared.listing.Listing.{Listing}
use Rattle.gix_odb_events.specs.declared.loaded.Todo.{Todo}
use Rattle.gix_odb_search.specs.TryOrder as tries
use Rattle.gix_odb_search.specs.TryOrder.{seek}
use Rattle.gix_odb_search.specs.declared.index_loader.IndexLoader.TheVariants as loaders
use Rattle.gix_odb_search.specs.declared.trier.Stage.{Stage as TryStage}
use Rattle.gix_odb_search.specs.declared.trier.Stage.TheVariants as try_stages
use Rattle.gix_odb_events.specs.declared.answer.Answer.{Answer}
use Rattle.gix_odb_events.specs.declared.answer.Answer.TheVariants as told
use Rattle.gix_odb_events.specs.declared.answer.Ask.{Ask}
use Rattle.gix_odb_events.specs.declared.answer.Ask.TheVariants as asks
use Rattle.gix_odb_search.specs.declared.lister.ListStep.{ListStep}
use Rattle.gix_odb_search.specs.declared.lister.ListStep.TheVariants as listed
use Rattle.gix_odb_search.specs.declared.search.Notes.{Notes}
use Rattle.gix_odb_search.specs.declared.trier.Tried.{Tried}
use Rattle.gix_odb_search.specs.declared.trier.Tried.TheVariants as tried
use Rattle.gix_odb_calls.specs.Verdict.{folder_verdict}
use Rattle.gix_odb_calls.specs.declared.load_index.Error.TheVariants as load_errors
use Rattle.gix_object.specs.declared.want.Want.{Want}
use Rattle.gix_odb_calls.specs.declared.verdict.Verdict.{Verdict}
use Rattle.gix_odb_calls.specs.declared.verdict.Verdict.TheVariants as verdicts
use Rattle.gix_odb.specs.Laps.{Follows, IsNumbered, number_by}
use Rattle.gix_odb.specs.LookUpOrder.{Setting, after_core_list, after_list, after_loose, ask_at, at_folder, by_check, by_checked, by_read, by_refresh}
use Rattle.gix_odb.specs.LookUpOrder.{by_tried, by_verdict, counted, ended, fed_at, goal_of, is_unsettled, listing_from, load_refused}
use Rattle.gix_odb.specs.LookUpOrder.{new_head, not_found, started, trier_fed, try_view, unsettled, view_shown, with_own, without_absent, without_notes}
use Rattle.gix_odb.specs.RefreshOrder.{by_listed, by_look, by_published, by_view}
use Rattle.gix_odb.specs.RefreshOrder as refreshes
use Rattle.gix_odb.specs.declared.refresh.Refresh.TheVariants as fronts
use Rattle.gix_odb.specs.declared.refresh.RefreshStep.TheVariants as steps
use Rattle.gix_odb_search.specs.ListOrder as lists
use Rattle.gix_odb.proofs.ListerLaws.Base.{IsFor, listing_keeps_its_base}
use Rattle.gix_odb.specs.declared.look_up.LookHead.{LookHead}
use Rattle.gix_odb.specs.declared.look_up.LookStage.{LookStage}
use Rattle.gix_odb.specs.declared.look_up.LookStage.TheVariants as stages
use Rattle.gix_odb.specs.declared.look_up.LookUp.{LookUp}
use Rattle.gix_odb.specs.declared.look_up.LooseRound.{LooseRound}
use Rattle.gix_odb.specs.declared.look_up.Part.{Part}
use Rattle.gix_odb.specs.declared.look_up.Part.TheVariants as parts
use Rattle.gix_odb.specs.declared.look_up.Purpose.{Purpose}
use Rattle.gix_odb.specs.declared.look_up.Purpose.TheVariants as purposes
use Rattle.gix_odb.specs.declared.refresh_mode.RefreshMode.{RefreshMode}
use Rattle.gix_odb.proofs.ModeLemmas.{by_mode-all}
use Rattle.gix_odb.specs.Store.{listed_for}

-- ---- the number of the list that a stage is about, where `now` is the last that was answered

abbrev of_part : (now : ℕ) → Part → ℕ
of_part now parts.Snapshot = now
of_part now (parts.List number loose) = number
of_part now (parts.Published number) = number

abbrev IsBelow : (own number now : ℕ) → Type 0
IsBelow own number now = (own ≤ number) × (number ≤ now)

-- the look-up's own lists are at most that number
abbrev pub IsOwned : (now own : ℕ) → LookStage → Type 0
IsOwned now own (stages.Trying trier part) = IsBelow own (of_part now part) now
IsOwned now own (stages.Loose round call) = IsBelow own (of_part now round.part) now
IsOwned now own (stages.Refreshing fronts.Reading purpose notes) = IsBelow own now now
IsOwned now own (stages.Refreshing (fronts.Listing lister) purpose notes) = IsBelow own lister.head.base now
IsOwned now own (stages.Refreshing (fronts.Publishing listing) purpose notes) = IsBelow own listing.base now
IsOwned now own (stages.Checking number notes) = IsBelow own number now
IsOwned now own (stages.Done reply) = Unit {0}

abbrev pub IsLookOwned : (now : ℕ) → LookUp → Type 0
IsLookOwned now look = IsOwned now look.head.own look.stage

-- ---- a later number is as good

part_later : (before now own : ℕ) → before ≤ now → (part : Part) → IsBelow own (of_part before part) before → IsBelow own (of_part now part) now
part_later before now own later parts.Snapshot is = (omega (arith, is.0), omega arith)
part_later before now own later (parts.List number loose) is = (is.0, omega (arith, is.1))
part_later before now own later (parts.Published number) is = (is.0, omega (arith, is.1))

stage_later : (before now own : ℕ) → before ≤ now → (stage : LookStage) → IsOwned before own stage → IsOwned now own stage
stage_later before now own later (stages.Trying trier part) is = part_later before now own later part is
stage_later before now own later (stages.Loose round call) is = part_later before now own later round.part is
stage_later before now own later (stages.Refreshing fronts.Reading purpose notes) is = (omega (arith, is.0), omega arith)
stage_later before now own later (stages.Refreshing (fronts.Listing lister) purpose notes) is = (is.0, omega (arith, is.1))
stage_later before now own later (stages.Refreshing (fronts.Publishing listing) purpose notes) is = (is.0, omega (arith, is.1))
stage_later before now own later (stages.Checking number notes) is = (is.0, omega (arith, is.1))
stage_later before now own later (stages.Done reply) is = tt

-- the number that a view has
told_number : (before : ℕ) (effect : Effect) (view : View) → view_shown effect ≡ Some view → number_by before (told.Core (Ok effect)) ≡ view.list_no
told_number before (effects.Seen own) view is = cc is
told_number before (effects.Reported own report) view is = cc is
told_number before (effects.Put own stored) view is = cc is
told_number before (effects.Published own) view is = cc is
told_number before (effects.Unchanged own) view is = cc is
told_number before effects.Removed view is = absurd (cc is)
told_number before (effects.Outdated number) view is = absurd (cc is)

module _ (setting : Setting) (now : ℕ) where
  module _ (head : LookHead) where
    abbrev Owned : LookStage → Type 0
    Owned stage = IsOwned now head.own stage

    abbrev OwnedPart : Part → Type 0
    OwnedPart part = IsBelow head.own (of_part now part) now

    -- ---- lists and loose folders

    ended_owned : (notes : Notes) → Owned (ended head.want notes)
    ended_owned notes = by notes.failed
      where
        by : (b : Bool) → Owned (if b then stages.Done (load_refused load_errors.Io) else stages.Done (not_found head.want))
        by true = tt
        by false = tt

    core_list_owned : (number : ℕ) (notes : Notes) → IsBelow head.own number now → Owned (after_core_list setting head number notes)
    core_list_owned number notes is =
        by_mode-all Owned (ended head.want notes) (listing_from setting number notes) head.mode (ended_owned notes) is

    list_owned : (part : Part) (notes : Notes) → OwnedPart part → Owned (after_list setting head part notes)
    list_owned parts.Snapshot notes is = is
    list_owned (parts.List number true) notes is = is
    list_owned (parts.List number false) notes is = core_list_owned number notes is
    list_owned (parts.Published number) notes is = is

    tried_owned : (part : Part) (result : Tried) → OwnedPart part → Owned (by_tried setting head part result)
    tried_owned part (tried.More trier) is = is
    tried_owned part (tried.Hit what) is = tt
    tried_owned part (tried.Missed notes) is = list_owned part notes is
    tried_owned part (tried.Bad error) is = tt
    tried_owned part (tried.Broken refusal) is = tt

    view_owned : (part : Part) (view : View) (todo : List Todo) (notes : Notes) → OwnedPart part → Owned (try_view setting head part view todo notes)
    view_owned part view todo notes is =
        tried_owned part (seek (goal_of setting head) (record { indices = view.snapshot.indices; todo = todo; notes = notes })) is

    loose_owned : (part : Part) (notes : Notes) → OwnedPart part → Owned (after_loose setting head part notes)
    loose_owned parts.Snapshot notes is = is
    loose_owned (parts.List number loose) notes is = core_list_owned number notes is
    loose_owned (parts.Published number) notes is =
        by_mode-all Owned (ended head.want notes) (stages.Checking number notes) head.mode (ended_owned notes) is

    folder_owned : (round : LooseRound) (next : Option Path) → OwnedPart round.part → Owned (at_folder setting head round next)
    folder_owned round None is = loose_owned round.part round.notes is
    folder_owned round (Some folder) is = is

    verdict_owned : (round : LooseRound) (verdict : Verdict) → OwnedPart round.part → Owned (by_verdict setting head round verdict)
    verdict_owned round (verdicts.Ends reply) is = tt
    verdict_owned round verdicts.Misses is = folder_owned round (slice_get setting.parts.folders round.next) is
    verdict_owned round (verdicts.Notes error) is =
        folder_owned (record round { notes = record round.notes { failed = true } }) (slice_get setting.parts.folders round.next) is

    -- ---- looks and listings

    counted_owned : (number : ℕ) (next : LookStage) → Owned next → Owned (counted setting head number next)
    counted_owned number next is = by (is_unsettled setting head number)
      where
        by : (b : Bool) → Owned (if b then unsettled head number else next)
        by true = tt
        by false = is

    check_owned : (number : ℕ) (view : View) (notes : Notes) → IsBelow head.own view.list_no now → Owned (by_check setting head number view notes)
    check_owned number view notes is = by (view.list_no == number)
      where
        by : (b : Bool) → Owned (if b then ended head.want notes else counted setting head view.list_no (listing_from setting view.list_no notes))
        by true = ended_owned notes
        by false = counted_owned view.list_no (listing_from setting view.list_no notes) is

    checked_owned : (number : ℕ) (notes : Notes) (view : Option View) → ((shown : View) → view ≡ Some shown → now ≡ shown.list_no)
        → IsBelow head.own number now
        → Owned (by_checked setting head number notes view)
    checked_owned number notes None shows is = is
    checked_owned number notes (Some view) shows is =
        check_owned number view notes (omega (arith, is.0, is.1, shows view refl), omega (arith, shows view refl))

    -- ---- the list of the core is read, or brought up to date

    read_owned : (purpose : Purpose) (view : View) (notes : Notes) → IsBelow head.own view.list_no now → Owned (by_read setting head purpose view notes)
    read_owned (purposes.First loose) view notes is = view_owned (parts.List view.list_no loose) view view.todo notes is
    read_owned purposes.Again view notes is =
        by_mode-all Owned (stages.Refreshing fronts.Reading (purposes.First true) notes) (listing_from setting view.list_no notes) head.mode
        (omega (arith, is.0, is.1), omega arith) is

    shown_owned : (purpose : Purpose) (notes : Notes) (view : View) → IsBelow head.own view.list_no now
        → IsLookOwned now (by_refresh setting head purpose notes (by_view setting.parts.objects view))
    shown_owned purpose notes view is = by view.read
      where
        by : (b : Bool)
            → IsLookOwned now
            (by_refresh setting head purpose notes (if b then steps.Read view else steps.More (refreshes.listing_from setting.parts.objects view.list_no)))
        by true = read_owned purpose view notes is
        by false = is

    look_owned : (purpose : Purpose) (notes : Notes) (view : Option View) → ((shown : View) → view ≡ Some shown → now ≡ shown.list_no)
        → IsBelow head.own now now
        → IsLookOwned now (by_refresh setting head purpose notes (by_look setting.parts.objects view))
    look_owned purpose notes None shows is = is
    look_owned purpose notes (Some view) shows is = shown_owned purpose notes view (omega (arith, is.0, shows view refl), omega (arith, shows view refl))

    listed_owned : (purpose : Purpose) (notes : Notes) (base : ℕ) (step : ListStep) → IsFor base step → IsBelow head.own base now
        → IsLookOwned now (by_refresh setting head purpose notes (by_listed step))
    listed_owned purpose notes base (listed.More lister) same is = (omega (arith, is.0, same), omega (arith, is.1, same))
    listed_owned purpose notes base (listed.Listed listing) same is = (omega (arith, is.0, same), omega (arith, is.1, same))
    listed_owned purpose notes base listed.Broken same is = tt
    listed_owned purpose notes base (listed.TooManyPacks actual path) same is = tt

-- ---- an exchange

module _ (setting : Setting) (slots before : ℕ) (head : LookHead) where
  abbrev behind_effect : Effect → ℕ
  behind_effect effect = number_by before (told.Core (Ok effect))

  published_owned : (listing : Listing) (purpose : Purpose) (notes : Notes) (effect : Effect) → Follows before (events.Publish listing) (Ok effect)
      → before ≤ behind_effect effect
      → IsBelow head.own listing.base before
      → IsLookOwned (behind_effect effect) (by_refresh setting head purpose notes (by_published listing effect))
  published_owned listing purpose notes (effects.Published view) follows later is =
      view_owned setting view.list_no (with_own head) (parts.Published view.list_no) view view.todo (without_absent notes) (omega (arith, is.0), omega arith)
  published_owned listing purpose notes (effects.Unchanged view) follows later is =
      view_owned setting view.list_no head (parts.Published view.list_no) view view.todo (without_absent notes) (omega (arith, is.0), omega arith)
  published_owned listing purpose notes (effects.Outdated number) follows later is =
      counted_owned setting number head number (stages.Refreshing fronts.Reading purposes.Again notes) (omega (arith, is.0, is.1), omega arith)
  published_owned listing purpose notes (effects.Seen view) follows later is = (is.0, omega (arith, is.1))
  published_owned listing purpose notes (effects.Reported view report) follows later is = (is.0, omega (arith, is.1))
  published_owned listing purpose notes (effects.Put view stored) follows later is = (is.0, omega (arith, is.1))
  published_owned listing purpose notes effects.Removed follows later is = is

  module _ (answer : Answer) (later : before ≤ number_by before answer) where
    abbrev now : ℕ
    now = number_by before answer

    pub fed_at-owned : (stage : LookStage) (ask : Ask) → ask_at stage ≡ Some ask → IsNumbered slots before ask answer → IsOwned before head.own stage
        → IsLookOwned now (fed_at setting head stage answer)
    fed_at-owned stage ask asked numbered is = by stage answer later asked numbered is
      where
        by : (stage : LookStage) (answer : Answer) → before ≤ number_by before answer → ask_at stage ≡ Some ask → IsNumbered slots before ask answer
            → IsOwned before head.own stage → IsLookOwned (number_by before answer) (fed_at setting head stage answer)
        by (stages.Trying trier part) answer later asked numbered is =
            tried_owned setting (number_by before answer) head part (trier_fed trier answer)
            (part_later before (number_by before answer) head.own later part is)
        by (stages.Loose round call) (told.Disk answer) later asked numbered is =
            verdict_owned setting before head round (folder_verdict call answer) is
        by (stages.Loose round call) (told.Core answer) later asked numbered is =
            part_later before (number_by before (told.Core answer)) head.own later round.part is
        by (stages.Refreshing fronts.Reading purpose notes) (told.Disk answer) later asked numbered is = is
        by (stages.Refreshing fronts.Reading purpose notes) (told.Core (Ok effect)) later asked numbered is =
            look_owned setting (behind_effect effect) head purpose notes (view_shown effect) (told_number before effect)
            (omega (arith, is.0, later), omega arith)
        by (stages.Refreshing fronts.Reading purpose notes) (told.Core (Err refusal)) later asked numbered is = tt
        by (stages.Refreshing (fronts.Listing lister) purpose notes) (told.Disk answer) later asked numbered is =
            listed_owned setting before head purpose notes lister.head.base (lists.fed (listed_for setting.parts) lister answer)
            (listing_keeps_its_base (listed_for setting.parts) lister answer) is
        by (stages.Refreshing (fronts.Listing lister) purpose notes) (told.Core answer) later asked numbered is = (is.0, omega (arith, is.1))
        by (stages.Refreshing (fronts.Publishing listing) purpose notes) (told.Disk answer) later asked numbered is = is
        by (stages.Refreshing (fronts.Publishing listing) purpose notes) (told.Core (Ok effect)) later asked numbered is =
            let own_numbered =
            subst (λ (a : Ask). IsNumbered slots before a (told.Core (Ok effect))) (sym (same_Some (asks.Core (events.Publish listing)) ask asked)) numbered in
            published_owned listing purpose notes effect own_numbered.1 later is
        by (stages.Refreshing (fronts.Publishing listing) purpose notes) (told.Core (Err refusal)) later asked numbered is = tt
        by (stages.Checking number notes) (told.Disk answer) later asked numbered is = is
        by (stages.Checking number notes) (told.Core (Ok effect)) later asked numbered is =
            checked_owned setting (behind_effect effect) head number notes (view_shown effect) (told_number before effect) (is.0, omega (arith, is.1, later))
        by (stages.Checking number notes) (told.Core (Err refusal)) later asked numbered is = tt
        by (stages.Done reply) answer later asked numbered is = tt

try_publishes_none : (stage : TryStage) (listing : Listing) → ¬ (tries.ask_at stage ≡ asks.Core (events.Publish listing))
try_publishes_none (try_stages.Loading (loaders.Reading place)) listing is = cc is
try_publishes_none (try_stages.Loading (loaders.Storing place file)) listing is = cc is
try_publishes_none (try_stages.Loading (loaders.Passing place why)) listing is = cc is
try_publishes_none (try_stages.ReadingPack pack) listing is = cc is
try_publishes_none (try_stages.StoringPack pack file) listing is = cc is
try_publishes_none (try_stages.PassingPack pack) listing is = cc is

-- a list more that is published has a number behind it
pub own_has_room : (setting : Setting) (slots before : ℕ) (head : LookHead) (stage : LookStage) (listing : Listing) (view : View)
    → IsOwned before head.own stage → ask_at stage ≡ Some (asks.Core (events.Publish listing))
    → IsNumbered slots before (asks.Core (events.Publish listing)) (told.Core (Ok (effects.Published view)))
    → head.own < last_state
own_has_room setting slots before head (stages.Refreshing (fronts.Publishing own) purpose notes) listing view is asked numbered =
    let same : own.base ≡ listing.base = cc asked in
    omega (arith, is.0, same, numbered.1, (numbered.2 view refl).1)
own_has_room setting slots before head (stages.Trying trier part) listing view is asked numbered =
    absurd (try_publishes_none trier.stage listing (same_Some _ _ asked))
own_has_room setting slots before head (stages.Loose round call) listing view is asked numbered = absurd (cc asked)
own_has_room setting slots before head (stages.Refreshing fronts.Reading purpose notes) listing view is asked numbered = absurd (cc asked)
own_has_room setting slots before head (stages.Refreshing (fronts.Listing lister) purpose notes) listing view is asked numbered = absurd (cc asked)
own_has_room setting slots before head (stages.Checking number notes) listing view is asked numbered = absurd (cc asked)
own_has_room setting slots before head (stages.Done reply) listing view is asked numbered = absurd (cc asked)

-- a look-up that is started published none
pub started-owned : (setting : Setting) (mode : RefreshMode) (view : View) (want : Want) (id : ObjectId) (number : ℕ) → IsLookOwned number (started setting mode view want id)
started-owned setting mode view want id number = by view.read
  where
    by : (b : Bool)
        → IsOwned number 0
        (if b then try_view setting (new_head mode want id) parts.Snapshot view [] without_notes else stages.Refreshing fronts.Reading (purposes.First true) without_notes)
    by true = view_owned setting number (new_head mode want id) parts.Snapshot view [] without_notes (omega arith, omega arith)
    by false = (omega arith, omega arith)
