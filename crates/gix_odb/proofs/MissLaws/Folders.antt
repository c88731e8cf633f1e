-- A look-up that ends with nothing found asked the loose objects of each folder, and missed there.
use Rattle.std.proofs.Common.{◌≡◌, ◌⊎◌, inl, inr, ℕ, ◌==◌, Bool, true, false, cond, List, [], slice_get, drop, Contains, Option, Some, None, Ok, Err}
use Rattle.std.proofs.Common.{refl, sym, ap, ◌∙◌, subst}
use Rattle.std.proofs.lemmas.Option.{same_Some}
use Rattle.odb_base.specs.Path.{Path}
use Rattle.odb_disk.specs.declared.ask.DiskAnswer.{DiskAnswer}
use Rattle.gix_hash.specs.declared.object_id.ObjectId.{ObjectId}
use Rattle.gix_odb_events.specs.declared.view.View.{View}
use Rattle.gix_odb_events.specs.declared.answer.Answer.{Answer}
use Rattle.gix_odb_events.specs.declared.answer.Answer.TheVariants as told
use Rattle.gix_odb_events.specs.declared.answer.Ask.{Ask}
use Rattle.gix_odb_events.specs.declared.answer.Ask.TheVariants as asks
use Rattle.gix_odb_search.specs.TryOrder.{seek}
use Rattle.gix_odb_search.specs.declared.search.Notes.{Notes}
use Rattle.gix_odb_search.specs.declared.trier.Ahead.{Ahead}
use Rattle.gix_odb_search.specs.declared.trier.Tried.{Tried}
use Rattle.gix_odb_search.specs.declared.trier.Tried.TheVariants as tried
use Rattle.gix_odb_search.specs.declared.trier.Trier.{Trier}
use Rattle.gix_odb_calls.specs.Verdict.{asking, folder_ask, folder_verdict}
use Rattle.gix_odb_calls.specs.declared.verdict.FolderCall.{FolderCall}
use Rattle.gix_odb_calls.specs.declared.call.CallError.TheVariants as call_errors
use Rattle.gix_odb_calls.specs.declared.find.Error.TheVariants as find_errors
use Rattle.gix_odb_calls.specs.declared.load_index.Error as load_index
use Rattle.gix_odb_calls.specs.declared.load_index.Error.TheVariants as load_errors
use Rattle.gix_object.specs.declared.want.Want.{Want}
use Rattle.gix_odb_calls.specs.declared.verdict.Verdict.{Verdict}
use Rattle.gix_odb_calls.specs.declared.verdict.Verdict.TheVariants as verdicts
use Rattle.gix_odb.specs.LoadIndex.{of_refusal}
use Rattle.gix_odb.specs.LookUpOrder.{Setting, after_core_list, after_list, after_loose, ask_at, at_folder, by_checked, by_read, by_refresh, by_tried}
use Rattle.gix_odb.specs.LookUpOrder.{by_verdict}
use Rattle.gix_odb.specs.LookUpOrder.{counted, ended, fed, fed_at, find_error, goal_of, is_unsettled, listing_from, load_refused}
use Rattle.gix_odb.specs.LookUpOrder.{loose_from, new_head, not_found}
use Rattle.gix_odb.specs.LookUpOrder.{result_at, seen, started, trier_fed, try_view, unsettled, view_shown, with_own, without_absent, without_notes}
use Rattle.gix_odb.specs.Shown.{folders_of}
use Rattle.gix_odb.specs.LookExchanges.{Exchange, HasVerdict, WasTold}
use Rattle.gix_odb.specs.RefreshOrder as refreshes
use Rattle.gix_odb.specs.declared.refresh.Refresh.TheVariants as fronts
use Rattle.gix_odb.specs.declared.refresh.RefreshStep.{RefreshStep}
use Rattle.gix_odb.specs.declared.refresh.RefreshStep.TheVariants as steps
use Rattle.gix_odb.specs.declared.look_up.LookHead.{LookHead}
use Rattle.gix_odb.specs.declared.look_up.LookStage.{LookStage}
use Rattle.gix_odb.specs.declared.look_up.LookStage.TheVariants as stages
use Rattle.gix_odb.specs.declared.look_up.LookUp.{LookUp}
use Rattle.gix_odb.specs.declared.look_up.LooseRound.{LooseRound}
use Rattle.gix_odb.specs.declared.look_up.Part.{Part}
use Rattle.gix_odb.specs.declared.look_up.Part.TheVariants as parts
use Rattle.gix_odb.specs.declared.look_up.Purpose.{Purpose}
use Rattle.gix_odb.specs.declared.look_up.Purpose.TheVariants as purposes
use Rattle.gix_odb.specs.declared.refresh_mode.RefreshMode.{RefreshMode}
use Rattle.gix_odb_search.proofs.NotedLaws.{IsNoted, IsNotedBy, NotedIn, noted_answer, noted_seek}
use Rattle.gix_odb_search.proofs.ReachLemmas.{first_or_later}
use Rattle.gix_odb.proofs.ModeLemmas.{by_mode-all}
use Rattle.gix_odb.proofs.MissLaws.Lists.{drop_none, first_in, found_at, here_or_behind, later_in, nothing_ahead}
use Rattle.gix_odb.proofs.MissLaws.Replies.{EndsNoMiss, IsMiss, found_is_no_miss, refused_is_no_miss, verdict_is_no_miss}
use Rattle.gix_odb.specs.Store.{listed_for}

module _ (setting : Setting) (want : Want) (id : ObjectId) (exchanges : List Exchange) where
  -- the folder was asked in one of the exchanges, and missed
  abbrev IsMissed : Path → Type 0
  IsMissed folder = HasVerdict setting want id exchanges folder verdicts.Misses

  abbrev pub AllMissed : Type 0
  AllMissed = (folder : Path) → Contains (folders_of setting) folder → IsMissed folder

  -- each folder was asked and missed, or is pending
  abbrev IsPast : (ahead : Path → Type 0) → Type 0
  IsPast ahead = (folder : Path) → Contains (folders_of setting) folder → IsMissed folder ⊎ ahead folder

  abbrev Behind : ℕ → Path → Type 0
  Behind next folder = Contains (drop next setting.parts.folders) folder

  -- a folder is asked; where none was noted, those that are neither it nor ahead were missed
  pub record IsAsking (round : LooseRound) (call : FolderCall) : Type 0 where
    pub asked : Path
    pub among : Contains (folders_of setting) asked
    pub call_is : call ≡ asking setting.parts.alloc_limit_bytes want id asked
    pub past : round.notes.failed ≡ false → IsPast (λ folder. (asked ≡ folder) ⊎ Behind round.next folder)

  -- where the core's list is tried that comes after the loose folders, these were missed, or a failure was noted
  abbrev WerePassed : Part → (noted : Type 0) → Type 0
  WerePassed (parts.List list_no false) noted = noted ⊎ AllMissed
  WerePassed part noted = Unit {0}

  -- so they were where this list is to be read
  abbrev WereMissed : Purpose → Notes → Type 0
  WereMissed (purposes.First false) notes = notes.failed ≡ false → AllMissed
  WereMissed purpose notes = Unit {0}

  -- what is known at each stage of the folders that were asked
  abbrev pub IsPassing : LookStage → Type 0
  IsPassing (stages.Trying trier part) = WerePassed part (IsNotedBy trier)
  IsPassing (stages.Loose round call) = IsAsking round call
  IsPassing (stages.Refreshing refresh purpose notes) = WereMissed purpose notes
  IsPassing (stages.Checking list_no notes) = notes.failed ≡ false → AllMissed
  IsPassing (stages.Done reply) = IsMiss want reply → AllMissed

  -- the look-up wants this of this id
  pub record IsFor (head : LookHead) : Type 0 where
    pub want_is : head.want ≡ want
    pub id_is : head.id ≡ id

  module _ (head : LookHead) (own : IsFor head) where
    same_call : (folder : Path) → asking setting.parts.alloc_limit_bytes head.want head.id folder ≡ asking setting.parts.alloc_limit_bytes want id folder
    same_call folder =
        ap (λ (q : Want). asking setting.parts.alloc_limit_bytes q head.id folder) own.want_is ∙ ap (λ (i : ObjectId). asking setting.parts.alloc_limit_bytes want i folder) own.id_is

    refused_passes : (error : load_index.Error) → IsPassing (stages.Done (load_refused error))
    refused_passes error is = absurd (refused_is_no_miss want (call_errors.Find (find_errors.LoadIndex error)) is)

    loose_begins : (part : Part) (notes : Notes) → IsPassing (loose_from setting head part notes)
    loose_begins part notes =
        record {
          asked = setting.parts.objects;
          among = first_in setting.parts.objects setting.parts.folders;
          call_is = same_call setting.parts.objects;
          past = λ none folder among. inr (by folder (first_or_later setting.parts.objects setting.parts.folders folder among));
        }
      where
        by : (folder : Path) → (setting.parts.objects ≡ folder) ⊎ Contains setting.parts.folders folder → (setting.parts.objects ≡ folder) ⊎ Behind 0 folder
        by folder (inl is) = inl is
        by folder (inr later) = inr (subst (λ (rest : List Path). Contains rest folder) (sym (drop_none setting.parts.folders)) later)

    ended_passes : (notes : Notes) → (notes.failed ≡ false → AllMissed) → (b : Bool) → notes.failed ≡ b
        → IsPassing (cond b (stages.Done (load_refused load_errors.Io)) (stages.Done (not_found head.want)))
    ended_passes notes missed true is = refused_passes load_errors.Io
    ended_passes notes missed false is = λ miss. missed is

    -- a list of the core was tried, and the loose folders
    core_list_passes : (list_no : ℕ) (notes : Notes) → (notes.failed ≡ false → AllMissed) → IsPassing (after_core_list setting head list_no notes)
    core_list_passes list_no notes missed =
        by_mode-all IsPassing (ended head.want notes) (listing_from setting list_no notes) head.mode (ended_passes notes missed notes.failed refl) tt

    unless_noted : (notes : Notes) → IsNoted notes ⊎ AllMissed → notes.failed ≡ false → AllMissed
    unless_noted notes (inl noted) none = let wrong : false ≡ true = sym none ∙ noted in absurd (cc wrong)
    unless_noted notes (inr missed) none = missed

    list_passes : (part : Part) (notes : Notes) → WerePassed part (IsNoted notes) → IsPassing (after_list setting head part notes)
    list_passes parts.Snapshot notes passed = loose_begins parts.Snapshot notes
    list_passes (parts.List list_no true) notes passed = loose_begins (parts.List list_no true) notes
    list_passes (parts.List list_no false) notes passed = core_list_passes list_no notes (unless_noted notes passed)
    list_passes (parts.Published list_no) notes passed = loose_begins (parts.Published list_no) notes

    tried_passes : (part : Part) (result : Tried) → WerePassed part (NotedIn result) → IsPassing (by_tried setting head part result)
    tried_passes part (tried.More trier) passed = passed
    tried_passes part (tried.Hit what) passed = λ is. absurd (found_is_no_miss want what is)
    tried_passes part (tried.Missed notes) passed = list_passes part notes passed
    tried_passes part (tried.Bad error) passed = λ is. absurd (refused_is_no_miss want (call_errors.Find (find_error error)) is)
    tried_passes part (tried.Broken refusal) passed = refused_passes (of_refusal refusal)

    -- ---- loose folders

    loose_passes : (part : Part) (notes : Notes) → (notes.failed ≡ false → AllMissed) → IsPassing (after_loose setting head part notes)
    loose_passes parts.Snapshot notes missed = missed
    loose_passes (parts.List list_no loose) notes missed = core_list_passes list_no notes missed
    loose_passes (parts.Published list_no) notes missed =
        by_mode-all IsPassing (ended head.want notes) (stages.Checking list_no notes) head.mode (ended_passes notes missed notes.failed refl) missed

    folder_passes : (round : LooseRound) → (round.notes.failed ≡ false → IsPast (Behind round.next)) → (next : Option Path)
        → slice_get setting.parts.folders round.next ≡ next → IsPassing (at_folder setting head round next)
    folder_passes round past None is =
        loose_passes round.part round.notes
        (λ none folder among.
        elim (past none folder among) [
          | inl missed ↦ missed
          | inr ahead ↦ absurd (nothing_ahead setting.parts.folders round.next folder is ahead)
        ])
    folder_passes round past (Some asked) is =
        record {
          asked = asked;
          among = later_in setting.parts.objects setting.parts.folders asked (found_at setting.parts.folders round.next asked is);
          call_is = same_call asked;
          past = λ none folder among.
              elim (past none folder among) [
                | inl missed ↦ inl missed
                | inr ahead ↦ inr (here_or_behind setting.parts.folders round.next asked folder is ahead)
              ];
        }

    verdict_passes : (round : LooseRound) (asked : Path) → (round.notes.failed ≡ false → IsPast (λ folder. (asked ≡ folder) ⊎ Behind round.next folder))
        → (verdict : Verdict) → HasVerdict setting want id exchanges asked verdict → EndsNoMiss want verdict → IsPassing (by_verdict setting head round verdict)
    verdict_passes round asked past (verdicts.Ends reply) says ends = λ is. absurd (ends is)
    verdict_passes round asked past verdicts.Misses says ends =
        folder_passes round
        (λ none folder among.
        elim (past none folder among) [
          | inl missed ↦ inl missed
          | inr rest ↦ elim rest [
            | inl is ↦ inl (subst IsMissed is says)
            | inr ahead ↦ inr ahead
          ]
        ])
        (slice_get setting.parts.folders round.next) refl
    verdict_passes round asked past (verdicts.Notes error) says ends =
        folder_passes (record round { notes = record round.notes { failed = true } }) (λ none. absurd (cc none)) (slice_get setting.parts.folders round.next) refl

    asked_passes : (round : LooseRound) (call : FolderCall) → IsAsking round call → (ask : Ask) (answer : DiskAnswer)
        → Some (asks.Disk (folder_ask call)) ≡ Some ask → WasTold exchanges ask (told.Disk answer)
        → IsPassing (by_verdict setting head round (folder_verdict call answer))
    asked_passes round call asking_it ask answer is was =
        let asks_it : ask ≡ asks.Disk (folder_ask (asking setting.parts.alloc_limit_bytes want id asking_it.asked)) =
        sym (same_Some (asks.Disk (folder_ask call)) ask is) ∙ ap (λ (c : FolderCall). asks.Disk (folder_ask c)) asking_it.call_is in
        subst (λ (c : FolderCall). IsPassing (by_verdict setting head round (folder_verdict c answer))) (sym asking_it.call_is)
        (verdict_passes round asking_it.asked asking_it.past (folder_verdict (asking setting.parts.alloc_limit_bytes want id asking_it.asked) answer)
        (record { answer = answer; told = subst (λ (a : Ask). WasTold exchanges a (told.Disk answer)) asks_it was; is = refl })
        (verdict_is_no_miss want (asking setting.parts.alloc_limit_bytes want id asking_it.asked) answer))

    -- ---- reads of the core's state

    counted_passes : (b : Bool) (now : ℕ) (next : LookStage) → IsPassing next → IsPassing (cond b (unsettled head now) next)
    counted_passes true now next passes = refused_passes _
    counted_passes false now next passes = passes

    check_passes : (list_no : ℕ) (view : View) (notes : Notes) → (notes.failed ≡ false → AllMissed) → (b : Bool)
        → IsPassing (cond b (ended head.want notes) (counted setting head view.list_no (listing_from setting view.list_no notes)))
    check_passes list_no view notes missed true = ended_passes notes missed notes.failed refl
    check_passes list_no view notes missed false =
        counted_passes (is_unsettled setting head view.list_no) view.list_no (listing_from setting view.list_no notes) tt

    checked_passes : (list_no : ℕ) (notes : Notes) → (notes.failed ≡ false → AllMissed) → (view : Option View)
        → IsPassing (by_checked setting head list_no notes view)
    checked_passes list_no notes passes None = passes
    checked_passes list_no notes passes (Some view) = check_passes list_no view notes passes (view.list_no == list_no)

    view_passes : (part : Part) (view : View) (notes : Notes)
        → WerePassed part (NotedIn (seek (goal_of setting head) (record { indices = view.snapshot.indices; todo = view.todo; notes = notes })))
        → IsPassing (try_view setting head part view view.todo notes)
    view_passes part view notes passed =
        tried_passes part (seek (goal_of setting head) (record { indices = view.snapshot.indices; todo = view.todo; notes = notes })) passed

    noted_or_missed : (ahead : Ahead) → (ahead.notes.failed ≡ false → AllMissed) → (b : Bool) → ahead.notes.failed ≡ b
        → NotedIn (seek (goal_of setting head) ahead) ⊎ AllMissed
    noted_or_missed ahead missed true is = inl (noted_seek (goal_of setting head) ahead is)
    noted_or_missed ahead missed false is = inr (missed is)

    read_passes : (purpose : Purpose) (view : View) (notes : Notes) → WereMissed purpose notes → IsPassing (by_read setting head purpose view notes)
    read_passes (purposes.First true) view notes missed = view_passes (parts.List view.list_no true) view notes tt
    read_passes (purposes.First false) view notes missed =
        view_passes (parts.List view.list_no false) view notes
        (noted_or_missed (record { indices = view.snapshot.indices; todo = view.todo; notes = notes }) missed notes.failed refl)
    read_passes purposes.Again view notes missed =
        by_mode-all IsPassing (stages.Refreshing fronts.Reading (purposes.First true) notes) (listing_from setting view.list_no notes) head.mode tt tt
    -- ---- an answer

  pub record IsLookPassing (look : LookUp) : Type 0 where
    pub own : IsFor look.head
    pub stage : IsPassing look.stage

  refresh_passes : (head : LookHead) → IsFor head → (purpose : Purpose) (notes : Notes) → WereMissed purpose notes → (step : RefreshStep)
      → IsLookPassing (by_refresh setting head purpose notes step)
  refresh_passes head own purpose notes missed (steps.More refresh) = record { own = own; stage = missed }
  refresh_passes head own purpose notes missed (steps.Read view) = record { own = own; stage = read_passes head own purpose view notes missed }
  refresh_passes head own purpose notes missed (steps.Current view true) =
      let own_too : IsFor (with_own head) = record { want_is = own.want_is; id_is = own.id_is } in
      record { own = own_too; stage = view_passes (with_own head) own_too (parts.Published view.list_no) view (without_absent notes) tt }
  refresh_passes head own purpose notes missed (steps.Current view false) =
      record { own = own; stage = view_passes head own (parts.Published view.list_no) view (without_absent notes) tt }
  refresh_passes head own purpose notes missed (steps.Outdated list_no) =
      record { own = own; stage = counted_passes head own (is_unsettled setting head list_no) list_no (stages.Refreshing fronts.Reading purposes.Again notes) tt }
  refresh_passes head own purpose notes missed (steps.Refused error) = record { own = own; stage = refused_passes head own error }

  -- a failure that was noted while a list is tried stays noted
  passed_on : (trier : Trier) (answer : Answer) (part : Part) → WerePassed part (IsNotedBy trier) → WerePassed part (NotedIn (trier_fed trier answer))
  passed_on trier answer parts.Snapshot passed = tt
  passed_on trier answer (parts.List list_no true) passed = tt
  passed_on trier answer (parts.List list_no false) (inl noted) = inl (noted_answer trier.goal trier.ahead trier.stage noted answer)
  passed_on trier answer (parts.List list_no false) (inr missed) = inr missed
  passed_on trier answer (parts.Published list_no) passed = tt

  stage_passes : (head : LookHead) → IsFor head → (stage : LookStage) → IsPassing stage → (ask : Ask) (answer : Answer) → ask_at stage ≡ Some ask
      → WasTold exchanges ask answer → IsLookPassing (fed_at setting head stage answer)
  stage_passes head own (stages.Trying trier part) passes ask answer is was =
      record { own = own; stage = tried_passes head own part (trier_fed trier answer) (passed_on trier answer part passes) }
  stage_passes head own (stages.Loose round call) passes ask (told.Disk answer) is was =
      record { own = own; stage = asked_passes head own round call passes ask answer is was }
  stage_passes head own (stages.Loose round call) passes ask (told.Core answer) is was = record { own = own; stage = passes }
  stage_passes head own (stages.Refreshing refresh purpose notes) passes ask answer is was =
      refresh_passes head own purpose notes passes (refreshes.fed setting.parts.objects (listed_for setting.parts) refresh answer)
  stage_passes head own (stages.Checking list_no notes) passes ask (told.Disk answer) is was = record { own = own; stage = passes }
  stage_passes head own (stages.Checking list_no notes) passes ask (told.Core (Ok effect)) is was =
      record { own = own; stage = checked_passes head own list_no notes passes (view_shown effect) }
  stage_passes head own (stages.Checking list_no notes) passes ask (told.Core (Err refusal)) is was =
      record { own = own; stage = refused_passes head own (of_refusal refusal) }
  stage_passes head own (stages.Done reply) passes ask answer is was = record { own = own; stage = passes }

  -- a look-up that passes the folders in order still does
  pub look_passes_on : (look : LookUp) → IsLookPassing look → (ask : Ask) (answer : Answer) → ask_at look.stage ≡ Some ask
      → WasTold exchanges ask answer → IsLookPassing (fed setting look answer)
  look_passes_on look passing ask answer is was =
      stage_passes (seen look.head answer) (record { want_is = passing.own.want_is; id_is = passing.own.id_is })
      look.stage passing.stage ask answer is was

  pub passes_at_start : (mode : RefreshMode) (view : View) → IsLookPassing (started setting mode view want id)
  passes_at_start mode view = record { own = record { want_is = refl; id_is = refl }; stage = by view.read }
    where
      own : IsFor (new_head mode want id)
      own = record { want_is = refl; id_is = refl }

      by : (b : Bool)
          → IsPassing (cond b (try_view setting (new_head mode want id) parts.Snapshot view [] without_notes) (stages.Refreshing fronts.Reading (purposes.First true) without_notes))
      by true =
          tried_passes (new_head mode want id) own parts.Snapshot
          (seek (goal_of setting (new_head mode want id)) (record { indices = view.snapshot.indices; todo = []; notes = without_notes })) tt
      by false = tt

  -- at its end each folder was missed
  pub missed_at_end : (head : LookHead) (stage : LookStage) → IsPassing stage → result_at head stage ≡ Ok (not_found want) → AllMissed
  missed_at_end head (stages.Done reply) passes is = passes (cc is)
  missed_at_end head stage passes is = absurd (cc is)
