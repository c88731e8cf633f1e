-- What is known of a look-up is kept by each exchange.
use Rattle.std.proofs.Common.{◌≡◌, ◌==◌, ℕ, Bool, true, false, cond, List, [], All, Contains, slice_get, Option, Some, None, Ok, Err}
use Rattle.std.proofs.Common.{refl, sym, subst}
use Rattle.std.proofs.lemmas.List.Elements.{All-nil}
use Rattle.std.proofs.lemmas.Option.{same_Some}
use Rattle.odb_base.specs.Path.{Path}
use Rattle.odb_disk.specs.declared.ask.DiskAnswer.{DiskAnswer}
use Rattle.gix_hash.specs.ObjectId.{kind_of}
use Rattle.gix_hash.specs.declared.kind.Kind.{Kind}
use Rattle.gix_hash.specs.declared.object_id.ObjectId.{ObjectId}
use Rattle.gix_odb_loose.specs.LooseFile.{loose_path}
use Rattle.gix_odb_events.specs.declared.listing.Listing.{Listing}
use Rattle.gix_odb_events.specs.declared.loaded.Todo.{Todo}
use Rattle.gix_odb_events.specs.Answers.{view_in}
use Rattle.gix_odb_events.specs.declared.event.Effect.{Effect}
use Rattle.gix_odb_events.specs.declared.event.Effect.TheVariants as effects
use Rattle.gix_odb_events.specs.declared.view.View.{View}
use Rattle.gix_odb_search.specs.ListOrder as lists
use Rattle.gix_odb_search.specs.TryOrder as tries
use Rattle.gix_odb_search.specs.TryOrder.{seek}
use Rattle.gix_odb_events.specs.declared.answer.Answer.{Answer}
use Rattle.gix_odb_events.specs.declared.answer.Answer.TheVariants as told
use Rattle.gix_odb_events.specs.declared.answer.Ask.{Ask}
use Rattle.gix_odb_events.specs.declared.answer.Ask.TheVariants as asks
use Rattle.gix_odb_search.specs.declared.goal.Goal.{Goal}
use Rattle.gix_odb_search.specs.declared.lister.ListStep.{ListStep}
use Rattle.gix_odb_search.specs.declared.lister.ListStep.TheVariants as listed
use Rattle.gix_odb_search.specs.declared.search.Notes.{Notes}
use Rattle.gix_odb_search.specs.declared.trier.Ahead.{Ahead}
use Rattle.gix_odb_search.specs.declared.trier.Tried.{Tried}
use Rattle.gix_odb_search.specs.declared.trier.Tried.TheVariants as tried
use Rattle.gix_odb_search.specs.declared.trier.Trier.{Trier}
use Rattle.gix_odb_calls.specs.Verdict.{asking, folder_ask, folder_verdict}
use Rattle.gix_odb_calls.specs.declared.load_index.Error.TheVariants as load_errors
use Rattle.gix_object.specs.declared.want.Want.{Want}
use Rattle.gix_odb_calls.specs.declared.verdict.FolderCall.{FolderCall}
use Rattle.gix_odb_calls.specs.declared.verdict.Verdict.{Verdict}
use Rattle.gix_odb_calls.specs.declared.verdict.Verdict.TheVariants as verdicts
use Rattle.gix_odb.specs.LookExchanges.{Exchange, HasVerdict, WasTold}
use Rattle.gix_odb.specs.LoadIndex.{of_refusal}
use Rattle.gix_odb.specs.LookUpOrder.{Setting, after_core_list, after_list, after_loose, ask_at, at_folder, by_check, by_checked, by_read, by_refresh}
use Rattle.gix_odb.specs.LookUpOrder.{by_tried, by_verdict, counted, ended, fed_at, goal_of, is_unsettled, listing_from}
use Rattle.gix_odb.specs.LookUpOrder.{load_refused, loose_from, new_head, not_found, started, trier_fed, try_view, unsettled}
use Rattle.gix_odb.specs.LookUpOrder.{own_by, view_shown, without_absent, without_notes}
use Rattle.gix_odb.specs.Shown.{IsShownView, folders_of}
use Rattle.gix_odb.specs.True.{IsTrue, ShowsRead}
use Rattle.gix_odb.specs.RefreshOrder.{by_listed, by_look, by_published}
use Rattle.gix_odb.specs.RefreshOrder as refreshes
use Rattle.gix_odb.specs.declared.refresh.Refresh.{Refresh}
use Rattle.gix_odb.specs.declared.refresh.Refresh.TheVariants as fronts
use Rattle.gix_odb.specs.declared.refresh.RefreshStep.{RefreshStep}
use Rattle.gix_odb.specs.declared.refresh.RefreshStep.TheVariants as steps
use Rattle.gix_odb.specs.declared.look_up.LookHead.{LookHead}
use Rattle.gix_odb.specs.declared.look_up.LookStage.{LookStage}
use Rattle.gix_odb.specs.declared.look_up.LookStage.TheVariants as stages
use Rattle.gix_odb.specs.declared.look_up.LookUp.{LookUp}
use Rattle.gix_odb.specs.declared.look_up.LooseRound.{LooseRound}
use Rattle.gix_odb.specs.declared.look_up.Part.{Part}
use Rattle.gix_odb.specs.declared.look_up.Part.TheVariants as parts
use Rattle.gix_odb.specs.declared.look_up.Purpose.{Purpose}
use Rattle.gix_odb.specs.declared.look_up.Purpose.TheVariants as purposes
use Rattle.gix_odb.specs.declared.refresh_mode.RefreshMode.{RefreshMode}
use Rattle.gix_odb.proofs.ModeLemmas.{by_mode-all}
use Rattle.gix_odb.proofs.FoundLaws.Known.{IsIndexTodo, KnowsHead, KnowsLook, KnowsLookStage, KnowsLoose, KnowsRefresh, KnowsRows, KnowsTried, KnowsTrier, goal_for}
use Rattle.gix_odb.proofs.ListerLaws.Known.{KnowsListStep}
use Rattle.gix_odb.proofs.ListerLaws.Known.{fed_known, started_known}
use Rattle.gix_odb.proofs.ListerLaws.Lists.{at_place, has_first, has_later}
use Rattle.gix_odb.proofs.ListingLaws.Seen.{SeesStep, listing_sees, starts_seeing}
use Rattle.gix_odb.proofs.FoundLaws.Replies.{EndsOther, found_reply, load_reply, loose_ends_other, loose_reply, missed_reply, pack_reply}
use Rattle.gix_odb.proofs.FoundLaws.Trying.{answer_known, seek_known}
use Rattle.gix_odb.proofs.FoundLaws.Views.{views_shown}
use Rattle.gix_odb.specs.Store.{listed_for}

module _ (Shown : Path → ℕ → List ℕ → Type 0) (setting : Setting) (hash : Kind) (id : ObjectId) (exchanges : List Exchange)
    (want : Want) where
  abbrev Stands : LookStage → Type 0
  Stands stage = KnowsLookStage Shown setting hash id exchanges want stage

  abbrev Heads : LookHead → Type 0
  Heads head = KnowsHead Shown setting hash id exchanges want head

  abbrev Knows : LookUp → Type 0
  Knows look = KnowsLook Shown setting hash id exchanges want look

  abbrev IsView : View → Type 0
  IsView view = IsShownView Shown setting hash view

  -- ---- the parts begin

  chosen_known : (b : Bool) (one other : LookStage) → Stands one → Stands other → Stands (cond b one other)
  chosen_known true one other first further = first
  chosen_known false one other first further = further

  folder_known : (head : LookHead) (folder : Path) → Heads head → Contains (folders_of setting) folder
      → KnowsLoose Shown setting hash id exchanges want (asking setting.parts.alloc_limit_bytes head.want head.id folder)
  folder_known head folder known among =
      record { folder = folder; among = among; is = λ i. asking setting.parts.alloc_limit_bytes (known.want_is i) (known.id_is i) folder }

  loose_known : (head : LookHead) (part : Part) (notes : Notes) → Heads head → Stands (loose_from setting head part notes)
  loose_known head part notes known = folder_known head setting.parts.objects known (has_first setting.parts.objects setting.parts.folders)

  -- a listing begins
  listing_known : (base : ℕ) → KnowsRefresh Shown setting (refreshes.listing_from setting.parts.objects base)
  listing_known base = (started_known setting base, starts_seeing (ShowsRead Shown) (listed_for setting.parts) setting.parts.objects base)

  ended_known : (asked : Want) (notes : Notes) → Stands (ended asked notes)
  ended_known asked notes =
      chosen_known notes.failed (stages.Done (load_refused load_errors.Io)) (stages.Done (not_found asked))
      (load_reply Shown setting hash id exchanges want load_errors.Io) (missed_reply Shown setting hash id exchanges want asked)

  -- a list of the core was tried, and the loose folders
  core_list_known : (head : LookHead) (list_no : ℕ) (notes : Notes) → Stands (after_core_list setting head list_no notes)
  core_list_known head list_no notes =
      by_mode-all Stands (ended head.want notes) (listing_from setting list_no notes) head.mode (ended_known head.want notes) (listing_known list_no)

  after_list_known : (head : LookHead) (part : Part) (notes : Notes) → Heads head → Stands (after_list setting head part notes)
  after_list_known head parts.Snapshot notes known = loose_known head parts.Snapshot notes known
  after_list_known head (parts.List list_no true) notes known = loose_known head (parts.List list_no true) notes known
  after_list_known head (parts.List list_no false) notes known = core_list_known head list_no notes
  after_list_known head (parts.Published list_no) notes known = loose_known head (parts.Published list_no) notes known

  after_loose_known : (head : LookHead) (part : Part) (notes : Notes) → Stands (after_loose setting head part notes)
  after_loose_known head parts.Snapshot notes = tt
  after_loose_known head (parts.List list_no loose) notes = core_list_known head list_no notes
  after_loose_known head (parts.Published list_no) notes =
      by_mode-all Stands (ended head.want notes) (stages.Checking list_no notes) head.mode (ended_known head.want notes) tt

  -- ---- a list is tried

  tried_known : (head : LookHead) (part : Part) (end : Tried) → Heads head → KnowsTried Shown setting hash id exchanges want end
      → Stands (by_tried setting head part end)
  tried_known head part (tried.More trier) known here = here
  tried_known head part (tried.Hit found) known here = found_reply Shown setting hash id exchanges want found here
  tried_known head part (tried.Missed notes) known here = after_list_known head part notes known
  tried_known head part (tried.Bad error) known here = pack_reply Shown setting hash id exchanges want error here
  tried_known head part (tried.Broken refusal) known here = load_reply Shown setting hash id exchanges want (of_refusal refusal)

  goal_is : (head : LookHead) → Heads head → goal_for setting want id ≡ goal_of setting head
  goal_is head known = sym (λ i. record { id = known.id_is i; want = known.want_is i; limit = setting.parts.alloc_limit_bytes })

  try_known : (head : LookHead) (part : Part) (view : View) (todo : List Todo) (notes : Notes) → Heads head → IsView view → All (IsIndexTodo setting) todo
      → Stands (try_view setting head part view todo notes)
  try_known head part view todo notes known shown paths =
      let ahead : Ahead = record { indices = view.snapshot.indices; todo = todo; notes = notes } in
      tried_known head part (seek (goal_of setting head) ahead) known
      (subst (λ (goal : Goal). KnowsTried Shown setting hash id exchanges want (seek goal ahead)) (goal_is head known)
      (seek_known Shown setting hash id exchanges want ahead (record { indices = shown.indices; todo = paths })))

  pub begun_known : (mode : RefreshMode) (view : View) → IsView view → Knows (started setting mode view want id)
  begun_known mode view shown =
      let head : Heads (new_head mode want id) = record { want_is = refl; id_is = refl } in
      record {
        head = head;
        stage =
            chosen_known view.read (try_view setting (new_head mode want id) parts.Snapshot view [] without_notes)
            (stages.Refreshing fronts.Reading (purposes.First true) without_notes)
            (try_known (new_head mode want id) parts.Snapshot view [] without_notes head shown (All-nil (IsIndexTodo setting))) tt;
      }

  -- ---- a folder has replied

  next_known : (head : LookHead) (round : LooseRound) (next : Option Path) → slice_get setting.parts.folders round.next ≡ next → Heads head
      → Stands (at_folder setting head round next)
  next_known head round None is known = after_loose_known head round.part round.notes
  next_known head round (Some folder) is known =
      folder_known head folder known (has_later setting.parts.objects setting.parts.folders folder (at_place setting.parts.folders round.next folder is))

  verdict_known : (head : LookHead) (round : LooseRound) (verdict : Verdict) (folder : Path) → Heads head → Contains (folders_of setting) folder
      → HasVerdict setting want id exchanges folder verdict
      → EndsOther verdict
      → Stands (by_verdict setting head round verdict)
  verdict_known head round (verdicts.Ends reply) folder known among says other =
      loose_reply Shown setting hash id exchanges want reply folder among says other
  verdict_known head round verdicts.Misses folder known among says other = next_known head round (slice_get setting.parts.folders round.next) refl known
  verdict_known head round (verdicts.Notes error) folder known among says other =
      next_known head (record round { notes = record round.notes { failed = true } }) (slice_get setting.parts.folders round.next) refl known

  asked_known : (head : LookHead) (round : LooseRound) (folder : Path) (ask : Ask) (answer : DiskAnswer) → Heads head → Contains (folders_of setting) folder
      → asks.Disk (folder_ask (asking setting.parts.alloc_limit_bytes want id folder)) ≡ ask
      → WasTold exchanges ask (told.Disk answer)
      → Stands (by_verdict setting head round (folder_verdict (asking setting.parts.alloc_limit_bytes want id folder) answer))
  asked_known head round folder ask answer known among is was =
      verdict_known head round (folder_verdict (asking setting.parts.alloc_limit_bytes want id folder) answer) folder known among
      (record { answer = answer; told = subst (λ (other : Ask). WasTold exchanges other (told.Disk answer)) (sym is) was; is = refl })
      (loose_ends_other want (loose_path folder id) setting.parts.alloc_limit_bytes answer)

  call_known : (head : LookHead) (round : LooseRound) (call : FolderCall) (ask : Ask) (answer : DiskAnswer) → Heads head
      → KnowsLoose Shown setting hash id exchanges want call
      → Some (asks.Disk (folder_ask call)) ≡ Some ask
      → WasTold exchanges ask (told.Disk answer)
      → Stands (by_verdict setting head round (folder_verdict call answer))
  call_known head round call ask answer known here asked was =
      subst (λ (own : FolderCall). Stands (by_verdict setting head round (folder_verdict own answer))) (sym here.is)
      (asked_known head round here.folder ask answer known here.among
      (subst (λ (own : FolderCall). asks.Disk (folder_ask own) ≡ ask) here.is (same_Some (asks.Disk (folder_ask call)) ask asked)) was)

  -- ---- the core has answered

  counted_known : (head : LookHead) (now : ℕ) (next : LookStage) → Stands next → Stands (counted setting head now next)
  counted_known head now next here =
      chosen_known (is_unsettled setting head now) (unsettled head now) next (load_reply Shown setting hash id exchanges want _) here

  check_known : (head : LookHead) (list_no : ℕ) (view : View) (notes : Notes) → Stands (by_check setting head list_no view notes)
  check_known head list_no view notes =
      chosen_known (view.list_no == list_no) (ended head.want notes) (counted setting head view.list_no (listing_from setting view.list_no notes))
      (ended_known head.want notes) (counted_known head view.list_no (listing_from setting view.list_no notes) (listing_known view.list_no))

  checked_known : (head : LookHead) (list_no : ℕ) (notes : Notes) (view : Option View) → Stands (by_checked setting head list_no notes view)
  checked_known head list_no notes None = tt
  checked_known head list_no notes (Some view) = check_known head list_no view notes

  -- ---- the list of the core is read, or brought up to date

  abbrev StepKnown : RefreshStep → Type 0
  StepKnown (steps.More refresh) = KnowsRefresh Shown setting refresh
  StepKnown (steps.Read view) = IsView view
  StepKnown (steps.Current view own) = IsView view
  StepKnown (steps.Outdated list_no) = Unit {0}
  StepKnown (steps.Refused error) = Unit {0}

  view_step : (view : View) (read : Bool) → IsView view → StepKnown (cond read (steps.Read view) (steps.More (refreshes.listing_from setting.parts.objects view.list_no)))
  view_step view true shown = shown
  view_step view false shown = listing_known view.list_no

  look_step : (view : Option View) → ((own : View) → view ≡ Some own → IsView own) → StepKnown (by_look setting.parts.objects view)
  look_step None views = tt
  look_step (Some view) views = view_step view view.read (views view refl)

  listed_step : (step : ListStep) → KnowsListStep setting step → SeesStep (ShowsRead Shown) (listed_for setting.parts) step → StepKnown (by_listed step)
  listed_step (listed.More lister) here seen = (here, seen)
  listed_step (listed.Listed listing) here seen = (here, seen)
  listed_step listed.Broken here seen = tt
  listed_step (listed.TooManyPacks actual path) here seen = tt

  published_step : (listing : Listing) (effect : Effect) → KnowsRows Shown setting listing.rows → ((own : View) → view_in (Ok effect) ≡ Some own → IsView own)
      → StepKnown (by_published listing effect)
  published_step listing (effects.Published view) rows views = views view refl
  published_step listing (effects.Unchanged view) rows views = views view refl
  published_step listing (effects.Outdated list_no) rows views = tt
  published_step listing effect rows views = rows

  fed_step : (refresh : Refresh) (ask : Ask) (answer : Answer) → KnowsRefresh Shown setting refresh → refreshes.ask_of refresh ≡ ask
      → IsTrue Shown setting hash ask answer
      → StepKnown (refreshes.fed setting.parts.objects (listed_for setting.parts) refresh answer)
  fed_step fronts.Reading ask (told.Disk answer) here is truth = tt
  fed_step fronts.Reading ask (told.Core (Ok effect)) here is truth = look_step (view_shown effect) (views_shown Shown setting hash ask (Ok effect) truth)
  fed_step fronts.Reading ask (told.Core (Err refusal)) here is truth = tt
  fed_step (fronts.Listing lister) ask (told.Disk answer) here is truth =
      listed_step (lists.fed (listed_for setting.parts) lister answer) (fed_known setting lister answer here.0)
      (listing_sees (ShowsRead Shown) (listed_for setting.parts) lister.head here.1.rows lister.stage here.1.stage answer
      (subst (λ (a : Ask). IsTrue Shown setting hash a (told.Disk answer)) (sym is) truth).1)
  fed_step (fronts.Listing lister) ask (told.Core answer) here is truth = here
  fed_step (fronts.Publishing listing) ask (told.Disk answer) here is truth = here
  fed_step (fronts.Publishing listing) ask (told.Core (Ok effect)) here is truth =
      published_step listing effect here (views_shown Shown setting hash ask (Ok effect) truth)
  fed_step (fronts.Publishing listing) ask (told.Core (Err refusal)) here is truth = tt

  read_known : (head : LookHead) (purpose : Purpose) (view : View) (notes : Notes) → Heads head → IsView view → Stands (by_read setting head purpose view notes)
  read_known head (purposes.First loose) view notes known shown =
      try_known head (parts.List view.list_no loose) view view.todo notes known shown shown.todo
  read_known head purposes.Again view notes known shown =
      by_mode-all Stands (stages.Refreshing fronts.Reading (purposes.First true) notes) (listing_from setting view.list_no notes) head.mode tt
      (listing_known view.list_no)

  own_known : (head : LookHead) (own : Bool) → Heads head → Heads (own_by head own)
  own_known head true known = record { want_is = known.want_is; id_is = known.id_is }
  own_known head false known = known

  refresh_known : (head : LookHead) (purpose : Purpose) (notes : Notes) (step : RefreshStep) → Heads head → StepKnown step
      → Knows (by_refresh setting head purpose notes step)
  refresh_known head purpose notes (steps.More refresh) known here = record { head = known; stage = here }
  refresh_known head purpose notes (steps.Read view) known here = record { head = known; stage = read_known head purpose view notes known here }
  refresh_known head purpose notes (steps.Current view own) known here =
      let mine : Heads (own_by head own) = own_known head own known in
      record { head = mine; stage = try_known (own_by head own) (parts.Published view.list_no) view view.todo (without_absent notes) mine here here.todo }
  refresh_known head purpose notes (steps.Outdated list_no) known here =
      record { head = known; stage = counted_known head list_no (stages.Refreshing fronts.Reading purposes.Again notes) tt }
  refresh_known head purpose notes (steps.Refused error) known here =
      record { head = known; stage = load_reply Shown setting hash id exchanges want error }

  -- ---- an exchange

  trier_known : (same : kind_of id ≡ hash) (head : LookHead) (trier : Trier) (part : Part) (answer : Answer) → Heads head
      → KnowsTrier Shown setting hash id exchanges want trier
      → IsTrue Shown setting hash (tries.ask_of trier) answer
      → WasTold exchanges (tries.ask_of trier) answer
      → Stands (by_tried setting head part (trier_fed trier answer))
  trier_known same head trier part answer known here truth asked =
      tried_known head part (trier_fed trier answer) known
      (subst (λ (goal : Goal). KnowsTried Shown setting hash id exchanges want (tries.by_answer goal trier.ahead trier.stage answer)) (sym here.goal)
      (answer_known Shown setting hash id exchanges want same trier.ahead here.ahead trier.stage answer here.stage truth asked))

  pub stage_known : kind_of id ≡ hash → (head : LookHead) (stage : LookStage) (ask : Ask) (answer : Answer) → Heads head → Stands stage
      → ask_at stage ≡ Some ask
      → IsTrue Shown setting hash ask answer
      → WasTold exchanges ask answer
      → Knows (fed_at setting head stage answer)
  stage_known same head (stages.Trying trier part) ask answer known here asks truth asked =
      let own : tries.ask_of trier ≡ ask = cc asks in
      record {
        head = known;
        stage =
            trier_known same head trier part answer known here (subst (λ (a : Ask). IsTrue Shown setting hash a answer) (sym own) truth)
            (subst (λ (a : Ask). WasTold exchanges a answer) (sym own) asked);
      }
  stage_known same head (stages.Loose round call) ask (told.Disk answer) known here asks truth asked =
      record { head = known; stage = call_known head round call ask answer known here asks asked }
  stage_known same head (stages.Refreshing refresh purpose notes) ask answer known here asks truth asked =
      refresh_known head purpose notes (refreshes.fed setting.parts.objects (listed_for setting.parts) refresh answer) known
      (fed_step refresh ask answer here (same_Some (refreshes.ask_of refresh) ask asks) truth)
  stage_known same head (stages.Checking list_no notes) ask (told.Core (Ok effect)) known here asks truth asked =
      record { head = known; stage = checked_known head list_no notes (view_shown effect) }
  stage_known same head (stages.Checking list_no notes) ask (told.Core (Err refusal)) known here asks truth asked =
      record { head = known; stage = load_reply Shown setting hash id exchanges want (of_refusal refusal) }
  stage_known same head stage ask answer known here asks truth asked = record { head = known; stage = here }
