-- A call of the disk that failed keeps a look-up from ending with nothing found.
use Rattle.std.proofs.Common.{◌≡◌, ◌⊎◌, inl, inr, ℕ, ◌==◌, Bool, true, false, cond, slice_get, Option, Some, None, unwrap_or, Ok, Err}
use Rattle.std.proofs.Common.{refl, sym, subst}
use Rattle.std.proofs.lemmas.Option.{same_Some}
use Rattle.odb_base.specs.Path.{Path}
use Rattle.odb_disk.specs.declared.ask.DiskAnswer.{DiskAnswer}
use Rattle.odb_disk.specs.declared.ask.DiskAnswer.TheVariants as disk_answers
use Rattle.odb_disk.specs.declared.disk_error.DiskError.TheVariants as disk_errors
use Rattle.gix_hash.specs.declared.object_id.ObjectId.{ObjectId}
use Rattle.gix_odb_loose.specs.LooseFile.{loose_path}
use Rattle.gix_odb_events.specs.declared.event.Event.TheVariants as events
use Rattle.gix_odb_events.specs.declared.view.View.{View}
use Rattle.gix_odb_search.specs.ListOrder as lists
use Rattle.gix_odb_search.specs.TryOrder.{seek}
use Rattle.gix_odb_search.specs.TryOrder as tries
use Rattle.gix_odb_events.specs.declared.answer.Answer.{Answer}
use Rattle.gix_odb_events.specs.declared.answer.Answer.TheVariants as told
use Rattle.gix_odb_events.specs.declared.answer.Ask.{Ask}
use Rattle.gix_odb_events.specs.declared.answer.Ask.TheVariants as asks
use Rattle.gix_odb_search.specs.declared.lister.ListHead.{ListHead}
use Rattle.gix_odb_search.specs.declared.lister.ListStage.{ListStage}
use Rattle.gix_odb_search.specs.declared.lister.ListStage.TheVariants as list_stages
use Rattle.gix_odb_search.specs.declared.search.Notes.{Notes}
use Rattle.gix_odb_search.specs.declared.trier.Ahead.{Ahead}
use Rattle.gix_odb_search.specs.declared.trier.Tried.{Tried}
use Rattle.gix_odb_search.specs.declared.trier.Tried.TheVariants as tried
use Rattle.gix_odb_calls.specs.Verdict.{asking, folder_verdict, verdict_by}
use Rattle.gix_odb_calls.specs.declared.verdict.FolderCall.{FolderCall}
use Rattle.gix_odb_calls.specs.declared.call.CallError.TheVariants as call_errors
use Rattle.gix_odb_calls.specs.declared.find.Error.TheVariants as find_errors
use Rattle.gix_odb_calls.specs.declared.load_index.Error as load_index
use Rattle.gix_odb_calls.specs.declared.load_index.Error.TheVariants as load_errors
use Rattle.gix_object.specs.declared.want.Want.{Want}
use Rattle.gix_object.specs.declared.want.Want.TheVariants.{Object, Header, Presence}
use Rattle.gix_odb_calls.specs.declared.verdict.Verdict.{Verdict}
use Rattle.gix_odb_calls.specs.declared.verdict.Verdict.TheVariants as verdicts
use Rattle.gix_odb.specs.LoadIndex.{of_refusal}
use Rattle.gix_odb.specs.LookUpOrder.{Setting, after_core_list, after_list, after_loose, ask_at, at_folder, by_checked, by_read, by_refresh}
use Rattle.gix_odb.specs.LookUpOrder.{by_tried, by_verdict}
use Rattle.gix_odb.specs.LookUpOrder.{counted, ended, fed, fed_at, find_error, goal_of, is_unsettled, listing_from, load_refused}
use Rattle.gix_odb.specs.LookUpOrder.{not_found}
use Rattle.gix_odb.specs.True.{Suits}
use Rattle.gix_odb.specs.LookUpOrder.{result_at, seen, trier_fed, try_view, unsettled, view_shown, with_own, without_absent}
use Rattle.gix_odb.specs.RefreshOrder.{by_listed}
use Rattle.gix_odb.specs.RefreshOrder as refreshes
use Rattle.gix_odb.specs.declared.refresh.Refresh.{Refresh}
use Rattle.gix_odb.specs.declared.refresh.Refresh.TheVariants as fronts
use Rattle.gix_odb.specs.declared.refresh.RefreshStep.{RefreshStep}
use Rattle.gix_odb.specs.declared.refresh.RefreshStep.TheVariants as steps
use Rattle.gix_odb.specs.declared.look_up.LookHead.{LookHead}
use Rattle.gix_odb.specs.declared.look_up.LookStage.{LookStage}
use Rattle.gix_odb.specs.declared.look_up.LookStage.TheVariants as stages
use Rattle.gix_odb.specs.declared.look_up.LookUp.{LookUp}
use Rattle.gix_odb.specs.declared.look_up.LooseRound.{LooseRound}
use Rattle.gix_odb.specs.declared.look_up.Part.{Part}
use Rattle.gix_odb.specs.declared.look_up.Part.TheVariants as parts
use Rattle.gix_odb.specs.declared.look_up.Purpose.{Purpose}
use Rattle.gix_odb.specs.declared.look_up.Purpose.TheVariants as purposes
use Rattle.gix_odb_search.proofs.NotedLaws.{IsDisk, IsNoted, IsNotedBy, NotedIn, failed, failed_trier, noted_answer, noted_seek}
use Rattle.gix_odb.proofs.ModeLemmas.{by_mode-all}
use Rattle.gix_odb.proofs.MissLaws.Replies.{EndsNoMiss, IsMiss, found_is_no_miss, refused_is_no_miss, verdict_is_no_miss}
use Rattle.gix_odb.specs.Store.{listed_for}

-- ---- look-ups

abbrev IsBreaking : ListStage → Type 0
IsBreaking (list_stages.Breaking dir) = Unit {0}
IsBreaking stage = ⊥

-- a call of the disk that may fail
abbrev pub CanFail : Ask → Type 0
CanFail (asks.Disk ask) = Suits ask (disk_answers.Refused disk_errors.Failed)
CanFail ask = ⊥

is_of_disk : (ask : Ask) → CanFail ask → IsDisk ask
is_of_disk (asks.Disk ask) can = tt
is_of_disk (asks.Core event) can = absurd can
is_of_disk (asks.NewCore slots folders) can = absurd can

-- a verdict that is no plain miss
abbrev IsNoPlainMiss : Want → Verdict → Type 0
IsNoPlainMiss want verdicts.Misses = ⊥
IsNoPlainMiss want verdict = EndsNoMiss want verdict

module _ (setting : Setting) (want : Want) where
  -- a failure was noted, or is noted next, or ends what is under way
  abbrev pub IsMarred : LookStage → Type 0
  IsMarred (stages.Trying trier part) = IsNotedBy trier
  IsMarred (stages.Loose round call) = IsNoted round.notes
  IsMarred (stages.Refreshing fronts.Reading purpose notes) = IsNoted notes
  IsMarred (stages.Refreshing (fronts.Listing lister) purpose notes) = IsNoted notes ⊎ IsBreaking lister.stage
  IsMarred (stages.Refreshing (fronts.Publishing listing) purpose notes) = IsNoted notes
  IsMarred (stages.Checking list_no notes) = IsNoted notes
  IsMarred (stages.Done reply) = ¬ (IsMiss want reply)

  refused_mars : (error : load_index.Error) → IsMarred (stages.Done (load_refused error))
  refused_mars error = refused_is_no_miss want (call_errors.Find (find_errors.LoadIndex error))

  module _ (head : LookHead) where
    marred_ended : (notes : Notes) → IsNoted notes → IsMarred (ended head.want notes)
    marred_ended notes noted = by notes.failed noted
      where
        by : (b : Bool) → b ≡ true → IsMarred (cond b (stages.Done (load_refused load_errors.Io)) (stages.Done (not_found head.want)))
        by true is = refused_mars load_errors.Io
        by false is = absurd (cc is)

    -- a list of the core was tried, and the loose folders
    marred_core_list : (list_no : ℕ) (notes : Notes) → IsNoted notes → IsMarred (after_core_list setting head list_no notes)
    marred_core_list list_no notes noted =
        by_mode-all IsMarred (ended head.want notes) (listing_from setting list_no notes) head.mode (marred_ended notes noted) (inl noted)

    marred_list : (part : Part) (notes : Notes) → IsNoted notes → IsMarred (after_list setting head part notes)
    marred_list parts.Snapshot notes noted = noted
    marred_list (parts.List list_no true) notes noted = noted
    marred_list (parts.List list_no false) notes noted = marred_core_list list_no notes noted
    marred_list (parts.Published list_no) notes noted = noted

    marred_tried : (part : Part) (result : Tried) → NotedIn result → IsMarred (by_tried setting head part result)
    marred_tried part (tried.More trier) noted = noted
    marred_tried part (tried.Hit what) noted = found_is_no_miss want what
    marred_tried part (tried.Missed notes) noted = marred_list part notes noted
    marred_tried part (tried.Bad error) noted = refused_is_no_miss want (call_errors.Find (find_error error))
    marred_tried part (tried.Broken refusal) noted = refused_mars (of_refusal refusal)

    marred_view : (part : Part) (view : View) (notes : Notes) → IsNoted notes → IsMarred (try_view setting head part view view.todo notes)
    marred_view part view notes noted =
        let ahead : Ahead = record { indices = view.snapshot.indices; todo = view.todo; notes = notes } in
        marred_tried part (seek (goal_of setting head) ahead) (noted_seek (goal_of setting head) ahead noted)

    marred_loose : (part : Part) (notes : Notes) → IsNoted notes → IsMarred (after_loose setting head part notes)
    marred_loose parts.Snapshot notes noted = noted
    marred_loose (parts.List list_no loose) notes noted = marred_core_list list_no notes noted
    marred_loose (parts.Published list_no) notes noted =
        by_mode-all IsMarred (ended head.want notes) (stages.Checking list_no notes) head.mode (marred_ended notes noted) noted

    marred_folder : (round : LooseRound) → IsNoted round.notes → (folder : Option Path) → IsMarred (at_folder setting head round folder)
    marred_folder round noted None = marred_loose round.part round.notes noted
    marred_folder round noted (Some folder) = noted

    marred_verdict : (round : LooseRound) → IsNoted round.notes → (verdict : Verdict) → EndsNoMiss want verdict
        → IsMarred (by_verdict setting head round verdict)
    marred_verdict round noted (verdicts.Ends reply) ends = ends
    marred_verdict round noted verdicts.Misses ends = marred_folder round noted (slice_get setting.parts.folders round.next)
    marred_verdict round noted (verdicts.Notes error) ends =
        marred_folder (record round { notes = record round.notes { failed = true } }) refl (slice_get setting.parts.folders round.next)

    failed_verdict : (round : LooseRound) (verdict : Verdict) → IsNoPlainMiss want verdict → IsMarred (by_verdict setting head round verdict)
    failed_verdict round (verdicts.Ends reply) ends = ends
    failed_verdict round verdicts.Misses ends = absurd ends
    failed_verdict round (verdicts.Notes error) ends =
        marred_folder (record round { notes = record round.notes { failed = true } }) refl (slice_get setting.parts.folders round.next)

    marred_counted : (b : Bool) (now : ℕ) (next : LookStage) → IsMarred next → IsMarred (cond b (unsettled head now) next)
    marred_counted true now next marred = refused_mars (load_errors.Unsettled (unwrap_or head.begun now) head.own now)
    marred_counted false now next marred = marred

    marred_check : (list_no : ℕ) (notes : Notes) → IsNoted notes → (view : Option View) → IsMarred (by_checked setting head list_no notes view)
    marred_check list_no notes noted None = noted
    marred_check list_no notes noted (Some view) = by (view.list_no == list_no)
      where
        by : (b : Bool) → IsMarred (cond b (ended head.want notes) (counted setting head view.list_no (listing_from setting view.list_no notes)))
        by true = marred_ended notes noted
        by false = marred_counted (is_unsettled setting head view.list_no) view.list_no (listing_from setting view.list_no notes) (inl noted)

    marred_read : (purpose : Purpose) (view : View) (notes : Notes) → IsNoted notes → IsMarred (by_read setting head purpose view notes)
    marred_read (purposes.First loose) view notes noted = marred_view (parts.List view.list_no loose) view notes noted
    marred_read purposes.Again view notes noted =
        by_mode-all IsMarred (stages.Refreshing fronts.Reading (purposes.First true) notes) (listing_from setting view.list_no notes) head.mode noted
        (inl noted)

  -- ---- what is marred stays marred

  pub record IsLookMarred (look : LookUp) : Type 0 where
    pub own : look.head.want ≡ want
    pub stage : IsMarred look.stage

  -- a refresh that goes on with a failure noted, or breaks off
  module _ (head : LookHead) (own : head.want ≡ want) (purpose : Purpose) (notes : Notes) where
    abbrev Marred : RefreshStep → Type 0
    Marred step = IsLookMarred (by_refresh setting head purpose notes step)

    refused_step : (error : load_index.Error) → Marred (steps.Refused error)
    refused_step error = record { own = own; stage = refused_mars error }

    marred_step : IsNoted notes → (step : RefreshStep) → Marred step
    marred_step noted (steps.More fronts.Reading) = record { own = own; stage = noted }
    marred_step noted (steps.More (fronts.Listing lister)) = record { own = own; stage = inl noted }
    marred_step noted (steps.More (fronts.Publishing listing)) = record { own = own; stage = noted }
    marred_step noted (steps.Read view) = record { own = own; stage = marred_read head purpose view notes noted }
    marred_step noted (steps.Current view true) =
        record { own = own; stage = marred_view (with_own head) (parts.Published view.list_no) view (without_absent notes) noted }
    marred_step noted (steps.Current view false) =
        record { own = own; stage = marred_view head (parts.Published view.list_no) view (without_absent notes) noted }
    marred_step noted (steps.Outdated list_no) = record {
      own = own;
      stage = marred_counted head (is_unsettled setting head list_no) list_no (stages.Refreshing fronts.Reading purposes.Again notes) noted;
    }
    marred_step noted (steps.Refused error) = refused_step error

    breaking_ends : (list_head : ListHead) (stage : ListStage) → IsBreaking stage → (answer : DiskAnswer)
        → Marred (by_listed (lists.fed_at (listed_for setting.parts) list_head stage answer))
    breaking_ends list_head (list_stages.Breaking dir) breaking answer = refused_step load_errors.Io
    breaking_ends list_head list_stages.Opening breaking answer = absurd breaking
    breaking_ends list_head (list_stages.Reading dir entries) breaking answer = absurd breaking
    breaking_ends list_head (list_stages.Closing dir entries) breaking answer = absurd breaking
    breaking_ends list_head (list_stages.Index path left) breaking answer = absurd breaking
    breaking_ends list_head (list_stages.Pack row left) breaking answer = absurd breaking
    breaking_ends list_head (list_stages.Multi left) breaking answer = absurd breaking

    marred_refresh : (refresh : Refresh) → IsMarred (stages.Refreshing refresh purpose notes) → (answer : Answer)
        → Marred (refreshes.fed setting.parts.objects (listed_for setting.parts) refresh answer)
    marred_refresh fronts.Reading marred answer = marred_step marred (refreshes.fed setting.parts.objects (listed_for setting.parts) fronts.Reading answer)
    marred_refresh (fronts.Listing lister) (inl noted) answer =
        marred_step noted (refreshes.fed setting.parts.objects (listed_for setting.parts) (fronts.Listing lister) answer)
    marred_refresh (fronts.Listing lister) (inr breaking) (told.Disk answer) = breaking_ends lister.head lister.stage breaking answer
    marred_refresh (fronts.Listing lister) (inr breaking) (told.Core answer) = record { own = own; stage = inr breaking }
    marred_refresh (fronts.Publishing listing) marred answer =
        marred_step marred (refreshes.fed setting.parts.objects (listed_for setting.parts) (fronts.Publishing listing) answer)

  marred_stage : (head : LookHead) → head.want ≡ want → (stage : LookStage) → IsMarred stage → (answer : Answer)
      → IsLookMarred (fed_at setting head stage answer)
  marred_stage head own (stages.Trying trier part) marred answer =
      record { own = own; stage = marred_tried head part (trier_fed trier answer) (noted_answer trier.goal trier.ahead trier.stage marred answer) }
  marred_stage head own (stages.Loose round call) marred (told.Disk answer) =
      record { own = own; stage = marred_verdict head round marred (folder_verdict call answer) (verdict_is_no_miss want call answer) }
  marred_stage head own (stages.Loose round call) marred (told.Core answer) = record { own = own; stage = marred }
  marred_stage head own (stages.Refreshing refresh purpose notes) marred answer = marred_refresh head own purpose notes refresh marred answer
  marred_stage head own (stages.Checking list_no notes) marred (told.Disk answer) = record { own = own; stage = marred }
  marred_stage head own (stages.Checking list_no notes) marred (told.Core (Ok effect)) =
      record { own = own; stage = marred_check head list_no notes marred (view_shown effect) }
  marred_stage head own (stages.Checking list_no notes) marred (told.Core (Err refusal)) = record { own = own; stage = refused_mars (of_refusal refusal) }
  marred_stage head own (stages.Done reply) marred answer = record { own = own; stage = marred }

  pub stays_marred : (look : LookUp) → IsLookMarred look → (answer : Answer) → IsLookMarred (fed setting look answer)
  stays_marred look marred answer = marred_stage (seen look.head answer) marred.own look.stage marred.stage answer

  -- what is marred is no miss
  pub marred_is_no_miss : (head : LookHead) (stage : LookStage) → IsMarred stage → ¬ (result_at head stage ≡ Ok (not_found want))
  marred_is_no_miss head (stages.Done reply) marred is = marred (cc is)
  marred_is_no_miss head stage marred is = cc is

  -- ---- a call that fails

  failed_lister : (head : LookHead) → head.want ≡ want → (purpose : Purpose) (notes : Notes) (list_head : ListHead) (stage : ListStage)
      → CanFail (asks.Disk (lists.ask_at list_head.folder stage))
      → IsLookMarred (by_refresh setting head purpose notes (by_listed (lists.fed_at (listed_for setting.parts) list_head stage (disk_answers.Refused disk_errors.Failed))))
  failed_lister head own purpose notes list_head list_stages.Opening can = refused_step head own purpose notes load_errors.Io
  failed_lister head own purpose notes list_head (list_stages.Reading dir entries) can = record { own = own; stage = inr tt }
  failed_lister head own purpose notes list_head (list_stages.Closing dir entries) can = absurd (cc can)
  failed_lister head own purpose notes list_head (list_stages.Breaking dir) can = absurd (cc can)
  failed_lister head own purpose notes list_head (list_stages.Index path left) can = refused_step head own purpose notes load_errors.Io
  failed_lister head own purpose notes list_head (list_stages.Pack row left) can = refused_step head own purpose notes load_errors.Io
  failed_lister head own purpose notes list_head (list_stages.Multi left) can = refused_step head own purpose notes load_errors.Io

  -- the verdict on a folder whose call failed
  failed_says : (asked : Want) (path : Path) → IsNoPlainMiss asked (verdict_by asked path setting.parts.alloc_limit_bytes (disk_answers.Refused disk_errors.Failed))
  failed_says Object path = refused_is_no_miss Object _
  failed_says Header path = refused_is_no_miss Header _
  failed_says Presence path = tt

  failed_folder : (head : LookHead) (round : LooseRound) (call : FolderCall) (id : ObjectId) (asked : Path) → call ≡ asking setting.parts.alloc_limit_bytes want id asked
      → IsMarred (by_verdict setting head round (folder_verdict call (disk_answers.Refused disk_errors.Failed)))
  failed_folder head round call id asked is =
      subst (λ (c : FolderCall). IsMarred (by_verdict setting head round (folder_verdict c (disk_answers.Refused disk_errors.Failed)))) (sym is)
      (failed_verdict head round (verdict_by want (loose_path asked id) setting.parts.alloc_limit_bytes (disk_answers.Refused disk_errors.Failed))
      (failed_says want (loose_path asked id)))

  -- the folder of a call that the look-up makes there
  abbrev pub IsAskingAt : LookStage → Type 0
  IsAskingAt (stages.Loose round call) = (id : ObjectId) × (asked : Path) × (call ≡ asking setting.parts.alloc_limit_bytes want id asked)
  IsAskingAt stage = Unit {0}

  failed_stage : (head : LookHead) → head.want ≡ want → (stage : LookStage) → IsAskingAt stage → (ask : Ask) → ask_at stage ≡ Some ask → CanFail ask
      → IsLookMarred (fed_at setting head stage failed)
  failed_stage head own (stages.Trying trier part) at ask is can =
      record {
        own = own;
        stage =
            marred_tried head part (trier_fed trier failed)
            (failed_trier trier.goal trier.ahead trier.stage (is_of_disk (tries.ask_of trier) (subst CanFail (sym (same_Some (tries.ask_of trier) ask is)) can)));
      }
  failed_stage head own (stages.Loose round call) at ask is can = record { own = own; stage = failed_folder head round call at.0 at.1 at.2 }
  failed_stage head own (stages.Refreshing fronts.Reading purpose notes) at ask is can =
      absurd (subst CanFail (sym (same_Some (asks.Core events.Look) ask is)) can)
  failed_stage head own (stages.Refreshing (fronts.Listing lister) purpose notes) at ask is can =
      failed_lister head own purpose notes lister.head lister.stage (subst CanFail (sym (same_Some (asks.Disk (lists.ask_of lister)) ask is)) can)
  failed_stage head own (stages.Refreshing (fronts.Publishing listing) purpose notes) at ask is can =
      absurd (subst CanFail (sym (same_Some (asks.Core (events.Publish listing)) ask is)) can)
  failed_stage head own (stages.Checking list_no notes) at ask is can = absurd (subst CanFail (sym (same_Some (asks.Core events.Look) ask is)) can)
  failed_stage head own (stages.Done reply) at ask is can = absurd (cc is)

  -- a look-up whose call failed is marred
  pub failure_mars : (look : LookUp) → look.head.want ≡ want → IsAskingAt look.stage → (ask : Ask) → ask_at look.stage ≡ Some ask → CanFail ask
      → IsLookMarred (fed setting look failed)
  failure_mars look own at ask is can = failed_stage (seen look.head failed) own look.stage at ask is can
