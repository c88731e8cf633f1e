-- What holds of a look-up at each stage: what it tries is wanted, what it asks is a folder of its store, and its reply is of what it wants.
use Rattle.std.proofs.Common.{ap, ◌≡◌, ℕ, Bool, true, false, ◌==◌, List, [], slice_get, Option, Some, None, Ok, Err, refl, sym, ◌∙◌, subst}
use Rattle.std.specs.Prelude.{if◌then◌else◌, unwrap_or, Contains}
use Rattle.odb_base.specs.Path.{Path}
use Rattle.odb_disk.specs.declared.ask.DiskAnswer.{DiskAnswer}
use Rattle.gix_hash.specs.declared.object_id.ObjectId.{ObjectId}
use Rattle.gix_odb_loose.specs.LooseFile.{loose_path}
use Rattle.gix_odb_events.specs.declared.event.Effect.{Effect}
use Rattle.gix_odb_events.specs.declared.event.Effect.TheVariants as effects
use Rattle.gix_odb_events.specs.declared.view.View.{View}
use Rattle.gix_odb_events.specs.declared.listing.Listing.{Listing}
use Rattle.gix_odb_events.specs.declared.loaded.Todo.{Todo}
use Rattle.gix_odb_search.specs.TryOrder.{seek}
use Rattle.gix_odb_events.specs.declared.answer.Answer.{Answer}
use Rattle.gix_odb_events.specs.declared.answer.Answer.TheVariants as told
use Rattle.gix_odb_search.specs.declared.goal.Goal.{Goal}
use Rattle.gix_odb_search.specs.declared.lister.ListStep.{ListStep}
use Rattle.gix_odb_search.specs.declared.lister.ListStep.TheVariants as listed
use Rattle.gix_odb_search.specs.declared.search.Notes.{Notes}
use Rattle.gix_odb_search.specs.declared.trier.Ahead.{Ahead}
use Rattle.gix_odb_search.specs.declared.trier.Tried.{Tried}
use Rattle.gix_odb_search.specs.declared.trier.Tried.TheVariants as tried
use Rattle.gix_odb_calls.specs.Verdict.{asking, folder_verdict}
use Rattle.gix_odb_calls.specs.declared.load_index.Error as load
use Rattle.gix_odb_calls.specs.declared.find.Error.TheVariants as find_errors
use Rattle.gix_odb_calls.specs.declared.load_index.Error.TheVariants as load_errors
use Rattle.gix_object.specs.declared.want.Want.{Want}
use Rattle.gix_odb_calls.specs.declared.verdict.FolderCall.{FolderCall}
use Rattle.gix_odb_calls.specs.declared.verdict.Verdict.{Verdict}
use Rattle.gix_odb_calls.specs.declared.verdict.Verdict.TheVariants as verdicts
use Rattle.gix_odb.specs.LoadIndex.{of_refusal}
use Rattle.gix_odb.specs.LookUpOrder.{Setting, after_core_list, after_list, after_loose, at_folder, by_check}
use Rattle.gix_odb.specs.LookUpOrder.{by_checked, by_read, by_refresh, by_tried}
use Rattle.gix_odb.specs.LookUpOrder.{by_verdict, counted, ended, fed, fed_at, find_error, goal_of}
use Rattle.gix_odb.specs.LookUpOrder.{is_unsettled, listing_from, load_refused, loose_from, not_found}
use Rattle.gix_odb.specs.LookUpOrder.{new_head, seen, started, trier_fed, try_view, unsettled, view_shown, with_own, without_absent, without_notes}
use Rattle.gix_odb.specs.Shown.{folders_of}
use Rattle.gix_odb.specs.RefreshOrder.{by_listed, by_look, by_published, by_view}
use Rattle.gix_odb.specs.RefreshOrder as refreshes
use Rattle.gix_odb.specs.declared.refresh.Refresh.{Refresh}
use Rattle.gix_odb.specs.declared.refresh.Refresh.TheVariants as fronts
use Rattle.gix_odb.specs.declared.refresh.RefreshStep.{RefreshStep}
use Rattle.gix_odb.specs.declared.refresh.RefreshStep.TheVariants as steps
use Rattle.gix_odb_search.specs.ListOrder as lists
use Rattle.gix_odb.specs.declared.look_up.LookHead.{LookHead}
use Rattle.gix_odb.specs.declared.look_up.LookStage.{LookStage}
use Rattle.gix_odb.specs.declared.look_up.LookStage.TheVariants as stages
use Rattle.gix_odb.specs.declared.look_up.LookUp.{LookUp}
use Rattle.gix_odb.specs.declared.look_up.LooseRound.{LooseRound}
use Rattle.gix_odb.specs.declared.look_up.Part.{Part}
use Rattle.gix_odb.specs.declared.look_up.Part.TheVariants as parts
use Rattle.gix_odb.specs.declared.look_up.Purpose.{Purpose}
use Rattle.gix_odb.specs.declared.look_up.Purpose.TheVariants as purposes
use Rattle.gix_odb.specs.declared.refresh_mode.RefreshMode.{RefreshMode}
use Rattle.gix_odb.proofs.ModeLemmas.{by_mode-all}
use Rattle.gix_odb.proofs.ListerLaws.Folders.{GoesToFolder, IsAtFolder, fed-goes, first_folder, later_folder}
use Rattle.gix_odb.proofs.CauseLaws.Replies.{EndsWell, found_replies, not_found_replies, refused_replies, verdict_ends_well}
use Rattle.gix_odb.specs.Reply.{IsReplyTo}
use Rattle.gix_odb_search.proofs.TrierLaws.{Comes, Fits, failed-passes, fed-comes, seek-comes}
use Rattle.gix_odb.specs.Store.{listed_for}

-- ---- what holds at each stage

module _ (setting : Setting) (want : Want) (id : ObjectId) where
  -- a folder's call has just begun
  abbrev pub IsOfFolder : FolderCall → Type 0
  IsOfFolder call = (folder : Path) × Contains (folders_of setting) folder × (call ≡ asking setting.parts.alloc_limit_bytes want id folder)

  abbrev pub StandsAt : LookStage → Type 0
  StandsAt (stages.Trying trier part) = trier.goal.want ≡ want
  StandsAt (stages.Loose round call) = IsOfFolder call
  StandsAt (stages.Refreshing (fronts.Listing lister) purpose notes) = IsAtFolder setting lister.head
  StandsAt (stages.Refreshing refresh purpose notes) = Unit {0}
  StandsAt (stages.Checking list_no notes) = Unit {0}
  StandsAt (stages.Done reply) = IsReplyTo want reply

-- what holds of a look-up
abbrev pub Stands : Setting → LookUp → Type 0
Stands setting look = StandsAt setting look.head.want look.head.id look.stage

-- ---- one exchange

module _ (setting : Setting) (head : LookHead) where
  abbrev Stand : LookStage → Type 0
  Stand stage = StandsAt setting head.want head.id stage

  load_refused-stand : (error : load.Error) → Stand (stages.Done (load_refused error))
  load_refused-stand error = refused_replies head.want (find_errors.LoadIndex error)

  loose_from-stand : (part : Part) (notes : Notes) → Stand (loose_from setting head part notes)
  loose_from-stand part notes = (setting.parts.objects, first_folder setting, refl)

  listing_from-stand : (base : ℕ) (notes : Notes) → Stand (listing_from setting base notes)
  listing_from-stand base notes = (setting.parts.objects, first_folder setting, refl)

  ended-stand : (notes : Notes) → Stand (ended head.want notes)
  ended-stand notes = by notes.failed
    where
      by : (b : Bool) → Stand (if b then stages.Done (load_refused load_errors.Io) else stages.Done (not_found head.want))
      by true = load_refused-stand load_errors.Io
      by false = not_found_replies head.want

  -- a list of the core was tried, and the loose folders
  core_list-stand : (list_no : ℕ) (notes : Notes) → Stand (after_core_list setting head list_no notes)
  core_list-stand list_no notes =
      by_mode-all Stand (ended head.want notes) (listing_from setting list_no notes) head.mode (ended-stand notes) (listing_from-stand list_no notes)

  after_list-stand : (part : Part) (notes : Notes) → Stand (after_list setting head part notes)
  after_list-stand parts.Snapshot notes = loose_from-stand parts.Snapshot notes
  after_list-stand (parts.List list_no true) notes = loose_from-stand (parts.List list_no true) notes
  after_list-stand (parts.List list_no false) notes = core_list-stand list_no notes
  after_list-stand (parts.Published list_no) notes = loose_from-stand (parts.Published list_no) notes

  after_loose-stand : (part : Part) (notes : Notes) → Stand (after_loose setting head part notes)
  after_loose-stand parts.Snapshot notes = tt
  after_loose-stand (parts.List list_no loose) notes = core_list-stand list_no notes
  after_loose-stand (parts.Published list_no) notes =
      by_mode-all Stand (ended head.want notes) (stages.Checking list_no notes) head.mode (ended-stand notes) tt

  -- ---- the indices of a list

  by_tried-stand : (part : Part) (goal : Goal) → goal.want ≡ head.want → (t : Tried) → Comes goal (Unit {0}) (λ refusal. Unit {0}) t
      → Stand (by_tried setting head part t)
  by_tried-stand part goal is (tried.More trier) comes = ap (λ (g : Goal). g.want) comes.0 ∙ is
  by_tried-stand part goal is (tried.Hit found) comes = found_replies head.want found (subst (λ w. Fits w found) is comes)
  by_tried-stand part goal is (tried.Missed notes) comes = after_list-stand part notes
  by_tried-stand part goal is (tried.Bad error) comes = refused_replies head.want (find_error error)
  by_tried-stand part goal is (tried.Broken refusal) comes = load_refused-stand (of_refusal refusal)

  try_view-stand : (part : Part) (view : View) (todo : List Todo) (notes : Notes) → Stand (try_view setting head part view todo notes)
  try_view-stand part view todo notes =
      by_tried-stand part (goal_of setting head) refl (seek (goal_of setting head) ahead)
      (seek-comes (goal_of setting head) (Unit {0}) (λ refusal. Unit {0}) ahead (λ is. tt))
    where
      ahead : Ahead
      ahead = record { indices = view.snapshot.indices; todo = todo; notes = notes }

  -- ---- the loose folders

  at_folder-stand : (round : LooseRound) (next : Option Path) → slice_get setting.parts.folders round.next ≡ next → Stand (at_folder setting head round next)
  at_folder-stand round None is = after_loose-stand round.part round.notes
  at_folder-stand round (Some folder) is = (folder, later_folder setting round.next folder is, refl)

  by_verdict-stand : (round : LooseRound) (verdict : Verdict) → EndsWell head.want verdict → Stand (by_verdict setting head round verdict)
  by_verdict-stand round (verdicts.Ends reply) well = well
  by_verdict-stand round verdicts.Misses well = at_folder-stand round (slice_get setting.parts.folders round.next) refl
  by_verdict-stand round (verdicts.Notes error) well =
      at_folder-stand (record round { notes = record round.notes { failed = true } }) (slice_get setting.parts.folders round.next) refl

  by_asking-stand : (round : LooseRound) (folder : Path) (answer : DiskAnswer)
      → Stand (by_verdict setting head round (folder_verdict (asking setting.parts.alloc_limit_bytes head.want head.id folder) answer))
  by_asking-stand round folder answer =
      by_verdict-stand round (folder_verdict (asking setting.parts.alloc_limit_bytes head.want head.id folder) answer)
      (verdict_ends_well head.want (loose_path folder head.id) setting.parts.alloc_limit_bytes answer)

  by_call-stand : (round : LooseRound) (call : FolderCall) → IsOfFolder setting head.want head.id call → (answer : DiskAnswer)
      → Stand (by_verdict setting head round (folder_verdict call answer))
  by_call-stand round call (folder, among, is) answer =
      subst (λ call. Stand (by_verdict setting head round (folder_verdict call answer))) (sym is) (by_asking-stand round folder answer)

  -- ---- the core

  counted-stand : (now : ℕ) (next : LookStage) → Stand next → Stand (counted setting head now next)
  counted-stand now next stand = by (is_unsettled setting head now)
    where
      by : (b : Bool) → Stand (if b then unsettled head now else next)
      by true = load_refused-stand (load_errors.Unsettled (unwrap_or head.begun now) head.own now)
      by false = stand

  by_check-stand : (list_no : ℕ) (view : View) (notes : Notes) → Stand (by_check setting head list_no view notes)
  by_check-stand list_no view notes = by (view.list_no == list_no)
    where
      by : (b : Bool) → Stand (if b then ended head.want notes else counted setting head view.list_no (listing_from setting view.list_no notes))
      by true = ended-stand notes
      by false = counted-stand view.list_no (listing_from setting view.list_no notes) (listing_from-stand view.list_no notes)

  by_checked-stand : (list_no : ℕ) (notes : Notes) (view : Option View) → Stand (by_checked setting head list_no notes view)
  by_checked-stand list_no notes None = tt
  by_checked-stand list_no notes (Some view) = by_check-stand list_no view notes

  -- ---- the list of the core is read, or brought up to date

  by_read-stand : (purpose : Purpose) (view : View) (notes : Notes) → Stand (by_read setting head purpose view notes)
  by_read-stand (purposes.First loose) view notes = try_view-stand (parts.List view.list_no loose) view view.todo notes
  by_read-stand purposes.Again view notes =
      by_mode-all Stand (stages.Refreshing fronts.Reading (purposes.First true) notes) (listing_from setting view.list_no notes) head.mode tt
      (listing_from-stand view.list_no notes)

-- a step of a refresh that lists folders is at one of the store
abbrev StepStands : Setting → RefreshStep → Type 0
StepStands setting (steps.More (fronts.Listing lister)) = IsAtFolder setting lister.head
StepStands setting step = Unit {0}

by_refresh-stand : (setting : Setting) (head : LookHead) (purpose : Purpose) (notes : Notes) (step : RefreshStep) → StepStands setting step
    → StandsAt setting head.want head.id (by_refresh setting head purpose notes step).stage
by_refresh-stand setting head purpose notes (steps.More fronts.Reading) goes = tt
by_refresh-stand setting head purpose notes (steps.More (fronts.Listing lister)) goes = goes
by_refresh-stand setting head purpose notes (steps.More (fronts.Publishing listing)) goes = tt
by_refresh-stand setting head purpose notes (steps.Read view) goes = by_read-stand setting head purpose view notes
by_refresh-stand setting head purpose notes (steps.Current view true) goes =
    try_view-stand setting (with_own head) (parts.Published view.list_no) view view.todo (without_absent notes)
by_refresh-stand setting head purpose notes (steps.Current view false) goes =
    try_view-stand setting head (parts.Published view.list_no) view view.todo (without_absent notes)
by_refresh-stand setting head purpose notes (steps.Outdated list_no) goes =
    counted-stand setting head list_no (stages.Refreshing fronts.Reading purposes.Again notes) tt
by_refresh-stand setting head purpose notes (steps.Refused error) goes = load_refused-stand setting head error

module _ (setting : Setting) where
  view_stands : (view : View) → StepStands setting (by_view setting.parts.objects view)
  view_stands view = by view.read
    where
      by : (b : Bool) → StepStands setting (if b then steps.Read view else steps.More (refreshes.listing_from setting.parts.objects view.list_no))
      by true = tt
      by false = (setting.parts.objects, first_folder setting, refl)

  look_stands : (view : Option View) → StepStands setting (by_look setting.parts.objects view)
  look_stands None = tt
  look_stands (Some view) = view_stands view

  listed_stands : (step : ListStep) → GoesToFolder setting step → StepStands setting (by_listed step)
  listed_stands (listed.More lister) goes = goes
  listed_stands (listed.Listed listing) goes = tt
  listed_stands listed.Broken goes = tt
  listed_stands (listed.TooManyPacks actual path) goes = tt

  published_stands : (listing : Listing) (effect : Effect) → StepStands setting (by_published listing effect)
  published_stands listing (effects.Published view) = tt
  published_stands listing (effects.Unchanged view) = tt
  published_stands listing (effects.Outdated list_no) = tt
  published_stands listing effect = tt

  refresh_stands : (head : LookHead) (refresh : Refresh) (purpose : Purpose) (notes : Notes) (answer : Answer)
      → StandsAt setting head.want head.id (stages.Refreshing refresh purpose notes)
      → StepStands setting (refreshes.fed setting.parts.objects (listed_for setting.parts) refresh answer)
  refresh_stands head fronts.Reading purpose notes (told.Disk answer) is = tt
  refresh_stands head fronts.Reading purpose notes (told.Core (Ok effect)) is = look_stands (view_shown effect)
  refresh_stands head fronts.Reading purpose notes (told.Core (Err refusal)) is = tt
  refresh_stands head (fronts.Listing lister) purpose notes (told.Disk answer) is =
      listed_stands (lists.fed (listed_for setting.parts) lister answer) (fed-goes setting lister is answer)
  refresh_stands head (fronts.Listing lister) purpose notes (told.Core answer) is = is
  refresh_stands head (fronts.Publishing listing) purpose notes (told.Disk answer) is = tt
  refresh_stands head (fronts.Publishing listing) purpose notes (told.Core (Ok effect)) is = published_stands listing effect
  refresh_stands head (fronts.Publishing listing) purpose notes (told.Core (Err refusal)) is = tt

fed_at-stand : (setting : Setting) (head : LookHead) (stage : LookStage) (answer : Answer) → StandsAt setting head.want head.id stage
    → StandsAt setting head.want head.id (fed_at setting head stage answer).stage
fed_at-stand setting head (stages.Trying trier part) answer is =
    by_tried-stand setting head part trier.goal is (trier_fed trier answer)
    (fed-comes (Unit {0}) (λ refusal. Unit {0}) trier answer (λ so. tt) (failed-passes (Unit {0}) tt trier.stage) (λ so. tt) (λ event refusal asked so. tt))
fed_at-stand setting head (stages.Loose round call) (told.Disk answer) is = by_call-stand setting head round call is answer
fed_at-stand setting head (stages.Loose round call) (told.Core answer) is = is
fed_at-stand setting head (stages.Refreshing refresh purpose notes) answer is =
    by_refresh-stand setting head purpose notes (refreshes.fed setting.parts.objects (listed_for setting.parts) refresh answer)
    (refresh_stands setting head refresh purpose notes answer is)
fed_at-stand setting head (stages.Checking list_no notes) (told.Disk answer) is = tt
fed_at-stand setting head (stages.Checking list_no notes) (told.Core (Ok effect)) is = by_checked-stand setting head list_no notes (view_shown effect)
fed_at-stand setting head (stages.Checking list_no notes) (told.Core (Err refusal)) is = load_refused-stand setting head (of_refusal refusal)
fed_at-stand setting head (stages.Done reply) answer is = is

-- a look-up keeps what it wants and its id
by_refresh-head : (setting : Setting) (head : LookHead) (purpose : Purpose) (notes : Notes) (step : RefreshStep)
    → ((by_refresh setting head purpose notes step).head.want ≡ head.want) × ((by_refresh setting head purpose notes step).head.id ≡ head.id)
by_refresh-head setting head purpose notes (steps.More refresh) = (refl, refl)
by_refresh-head setting head purpose notes (steps.Read view) = (refl, refl)
by_refresh-head setting head purpose notes (steps.Current view true) = (refl, refl)
by_refresh-head setting head purpose notes (steps.Current view false) = (refl, refl)
by_refresh-head setting head purpose notes (steps.Outdated list_no) = (refl, refl)
by_refresh-head setting head purpose notes (steps.Refused error) = (refl, refl)

fed_at-head : (setting : Setting) (head : LookHead) (stage : LookStage) (answer : Answer)
    → ((fed_at setting head stage answer).head.want ≡ head.want) × ((fed_at setting head stage answer).head.id ≡ head.id)
fed_at-head setting head (stages.Trying trier part) answer = (refl, refl)
fed_at-head setting head (stages.Loose round call) (told.Disk answer) = (refl, refl)
fed_at-head setting head (stages.Loose round call) (told.Core answer) = (refl, refl)
fed_at-head setting head (stages.Refreshing refresh purpose notes) answer =
    by_refresh-head setting head purpose notes (refreshes.fed setting.parts.objects (listed_for setting.parts) refresh answer)
fed_at-head setting head (stages.Checking list_no notes) (told.Disk answer) = (refl, refl)
fed_at-head setting head (stages.Checking list_no notes) (told.Core (Ok effect)) = (refl, refl)
fed_at-head setting head (stages.Checking list_no notes) (told.Core (Err refusal)) = (refl, refl)
fed_at-head setting head (stages.Done reply) answer = (refl, refl)

-- ---- a look-up of an id

-- it wants this of this id, and so holds what is to hold at its stage
pub record StandsFor (setting : Setting) (want : Want) (id : ObjectId) (look : LookUp) : Type 0 where
  pub want_is : look.head.want ≡ want
  pub id_is : look.head.id ≡ id
  pub stands : Stands setting look

pub started-stands : (setting : Setting) (mode : RefreshMode) (view : View) (want : Want) (id : ObjectId) → StandsFor setting want id (started setting mode view want id)
started-stands setting mode view want id = record { want_is = refl; id_is = refl; stands = by view.read }
  where
    head : LookHead
    head = new_head mode want id

    by : (b : Bool)
        → StandsAt setting want id (if b then try_view setting head parts.Snapshot view [] without_notes else stages.Refreshing fronts.Reading (purposes.First true) without_notes)
    by true = try_view-stand setting head parts.Snapshot view [] without_notes
    by false = tt

pub fed-stands : (setting : Setting) (want : Want) (id : ObjectId) (look : LookUp) (answer : Answer) → StandsFor setting want id look
    → StandsFor setting want id (fed setting look answer)
fed-stands setting want id look answer before =
    let kept = fed_at-head setting (seen look.head answer) look.stage answer in
    let stand = fed_at-stand setting (seen look.head answer) look.stage answer before.stands in
    record {
      want_is = kept.0 ∙ before.want_is;
      id_is = kept.1 ∙ before.id_is;
      stands =
          subst (λ q. StandsAt setting q (fed setting look answer).head.id (fed setting look answer).stage) (sym kept.0)
          (subst (λ i. StandsAt setting look.head.want i (fed setting look answer).stage) (sym kept.1) stand);
    }
