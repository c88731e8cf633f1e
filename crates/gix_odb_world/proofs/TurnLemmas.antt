-- A turn adds one event to the history of its world.
use Rattle.std.proofs.Common.{◌≡◌, ℕ, ◌+◌, Bool, true, false, List, [], ◌∷◌, ◌++◌, length, Some, None, Ok, Err, Option, Result, refl, sym, ◌∙◌, ap, subst, Vec, Global}
use Rattle.std.specs.Prelude.{if◌then◌else◌, ◌==◌}
use Rattle.odb_disk.specs.MemDisk.{Volume}
use Rattle.odb_base.specs.Path.{Path}
use Rattle.odb_disk.specs.Tree.{IsTree, Tree, tree_of}
use Rattle.gix_odb_watch.specs.HasShown.{Keeps}
use Rattle.gix_odb_watch.specs.Kept.{Fits, Kept}
use Rattle.gix_odb_watch.specs.declared.revealed.Revealed.{Revealed}
use Rattle.odb_disk.specs.declared.change.Change.{Change}
use Rattle.gix_odb_calls.specs.declared.step.Step.TheVariants as steps
use Rattle.gix_odb_calls.specs.declared.step.Outcome.{Outcome}
use Rattle.gix_odb_calls.specs.declared.call.Reply.{Reply}
use Rattle.gix_odb_world.specs.Handle.{HandleParts, IsHandleOf, Seen, seen}
use Rattle.gix_odb_world.specs.Work.{Work}
use Rattle.gix_odb_world.specs.declared.course.Course.{Course}
use Rattle.gix_odb_core.specs.History.{History}
use Rattle.gix_odb_events.specs.Answers.{view_in}
use Rattle.gix_odb_history.specs.Cores.{cores_after, cores_after_asked, or_before}
use Rattle.gix_odb_history.specs.Event.{Asked, OfCore, OfDisk, OfNewCore, OfNothing, Event, answered}
use Rattle.gix_odb_events.specs.declared.answer.Ask.{Ask}
use Rattle.gix_odb_world.specs.Machines.{ask_in, fed_in}
use Rattle.gix_odb_world.specs.Status.{Modes, Running, Store, Status, Free, Resting, Working, modes_after, replied, status_of, turned}
use Rattle.gix_odb_world.specs.Status as statuses
use Rattle.gix_odb_world.specs.Running.{Runs}
use Rattle.gix_odb_world.specs.Headline.{outcome_of, stand_of}
use Rattle.gix_odb_world.specs.WorkOrder.{ask_on, fed_after, result_in}
use Rattle.gix_odb_world.specs.declared.turn.Carried.{Carried as Done}
use Rattle.gix_odb_history.specs.declared.record.Did.{Did}
use Rattle.gix_odb_world.proofs.CarriedLemmas.{told_state, told_work}
use Rattle.std.specs.Option.{option_map}
use Rattle.gix_odb_world.specs.World.{Explains, Continues, GoesOn, Matches, handle_at}
use Rattle.gix_odb_world.specs.Table.{Carried, Carries, IsReasonNow, CarriesOut, FeedsTurn, IsTold, IsTurned, KeepsTurn, SetsHandle, Settles, Notes, TakesTurnOf, after_turn, ask_by_handle, ask_by_work, change_by_handle, opened_by, phase_of_handle, phase_of_work, state_after, state_told, told_in, work_told, would_change_now}
use Rattle.gix_odb_world.proofs.KnowsLemmas.{runs_set}
use Rattle.gix_odb_world.specs.TwoContents.{watched_after}
use Rattle.gix_odb_world.specs.Watch.{NotesMade, ShowsSecondBy, TellsChange}
use Rattle.gix_odb_world.proofs.RunSteps.{IsLeft}
use Rattle.gix_odb_world.proofs.StepLemmas.{goes_on, reason_of_history, table_noted}
use Rattle.gix_odb_world.specs.Recorded.{opened_in}
use Rattle.gix_odb_history.specs.Run.{Stand, change_asked, did_of_asked, disk_after_asked, stand, told_now, tree_at}
use Rattle.gix_odb_world.proofs.WorkLaws.{code_asks, code_feeds}
use Rattle.gix_odb_world.proofs.ValidLaws.{breaks_not}
use Rattle.gix_odb_world.specs.Valid.{why_not_running}
use Rattle.gix_odb_world.proofs.WatchLemmas.{keeps_made, turn_left}
use Rattle.gix_odb_world.proofs.WorldLemmas.{matches_set}
use Rattle.gix_odb_world.proofs.TurnLaw.{come, event, law, matches_next, runs_next}

-- a status after a turn, by the reply or the work that is left
abbrev next_from : Asked → Status → Result Reply Work → Status
next_from asked status (Ok reply) = replied asked reply status
next_from asked status (Err left) = turned asked status

status_after-turn : (n number : ℕ) (asked : Asked) (result : Result Reply Work) (table : ℕ → Status)
    → statuses.status_after n (steps.Turn number) (outcome_of result) asked table ≡ statuses.with_status table number (next_from asked (table number) result)
status_after-turn n number asked (Ok reply) table = refl
status_after-turn n number asked (Err left) table = refl

next_is : (asked : Asked) (running : Running) (status : Status) (result : Result Reply Work) → status ≡ Working running
    → next_from asked status result ≡ next_from asked (Working running) result
next_is asked running status result is = ap (λ s. next_from asked s result) is

-- a handle that is taken out and put back
set_twice : (b : Bool) (handle before : Option Seen) → (if b then handle else (if b then None else before)) ≡ (if b then handle else before)
set_twice true handle before = refl
set_twice false handle before = refl

-- the handle of the code continues as its modes do
handle_after : (store : Store) (modes : Modes) (state : HandleParts) (asked : Asked) → IsHandleOf store modes state
    → IsHandleOf store (modes_after asked modes) (state_after asked state)
handle_after store modes state OfNothing own = own
handle_after store modes state (OfDisk ask answer) own = own
handle_after store modes state (OfCore number seat happens answer) own = record {
  parts = own.parts;
  refresh = own.refresh;
  ignoring = own.ignoring;
  changes = own.changes;
  core = own.core;
  view = ap (or_before (view_in answer)) own.view;
}
handle_after store modes state (OfNewCore slots folders number seat answer) own = record {
  parts = own.parts;
  refresh = own.refresh;
  ignoring = own.ignoring;
  changes = own.changes;
  core = refl;
  view = ap (or_before (view_in answer)) own.view;
}

-- what the code did in a turn of a handle
record Took (old took mid new : Course) (disk : Volume) (cores : Vec History Global) (shown : Kept) (number : ℕ) (state : HandleParts) (work : Work) (done : Carried) (outcome : Outcome)
    (handle : Option Seen) : Type 0 where
  there : handle_at old number ≡ Some (record { state = state; work = Some work })
  takes : SetsHandle old took number None
  carries : Carries took.disk disk took.cores.items cores.items state work (told_in took.cores.items took.disk number state work) done
  tree : IsTree (tree_of took.disk.state)
  outcome_is : outcome ≡ outcome_of (result_in done.work)
  handle_is : handle ≡ after_turn done.state (result_in done.work)
  reason : IsReasonNow old (steps.Turn number) None
  noted : NotesMade old.shown (tree_of old.disk.state) done.change shown
  sets : SetsHandle (record took { disk = disk; cores = cores; shown = shown }) mid number handle
  notes : Notes mid new outcome done.did done.change

module _ (old took mid new : Course) (disk : Volume) (cores : Vec History Global) (shown : Kept) (number : ℕ) (state : HandleParts) (work : Work) (done : Carried) (outcome : Outcome) (handle : Option Seen)
    (took_it : Took old took mid new disk cores shown number state work done outcome handle) (first : Volume) (events : List Event) (explains : Explains first events old) where
  -- by the store of the handle, and the work that it is at
  goes_at : (running : Running) → status_of events number ≡ Working running → running.work ≡ work → IsHandleOf running.store running.modes state
      → (o : Outcome) × GoesOn first events (steps.Turn number) o new
  goes_at running status at own =
      let store : Store = running.store in
      let ask : Option Ask = ask_in store running.work in
      let place : Stand = stand_of events number running in
      let told : Asked = told_now place old.disk ask in
      let made : Option Change = change_asked old.disk ask in
      let same_disk : took.disk ≡ old.disk = took_it.takes.disk in
      let same_cores : took.cores.items ≡ cores_after events = ap (λ (c : Vec History Global). c.items) took_it.takes.cores ∙ explains.cores in
      let asks_it : ask_on state work ≡ ask = code_asks store running.modes state own work ∙ ap (ask_in store) (sym at) in
      let told_is : told_in took.cores.items took.disk number state work ≡ told =
      ap (λ cs. told_in cs took.disk number state work) same_cores
      ∙ (ap (λ d. told_in (cores_after events) d number state work) same_disk
      ∙ (ap (λ c. told_now (stand (cores_after events) c number) old.disk (ask_on state work)) own.core ∙ ap (told_now place old.disk) asks_it)) in
      let carries : Carries took.disk disk took.cores.items cores.items state work told done =
      subst (λ asked. Carries took.disk disk took.cores.items cores.items state work asked done) told_is took_it.carries in
      let opened : Option Path = opened_in running.work in
      let did_is : done.did ≡ did_of_asked opened (cores_after events) told =
      carries.did ∙ (ap (λ cs. did_of_asked (opened_in work) cs told) same_cores ∙ ap (λ w. did_of_asked (opened_in w) (cores_after events) told) (sym at)) in
      let result : Result Reply Work = fed_in store running.work (answered told) in
      let result_is : result_in done.work ≡ result =
      ap result_in carries.work_is ∙ (code_feeds store running.modes state own work (answered told) ∙ ap (λ w. fed_in store w (answered told)) (sym at)) in
      let change_is : done.change ≡ made =
      carries.change ∙ (ap (λ d. change_asked d (ask_on state work)) same_disk ∙ ap (change_asked old.disk) asks_it) in
      let disk_is : disk ≡ disk_after_asked old.disk told made =
      carries.disk_is ∙ (ap (λ d. disk_after_asked d told (change_asked d (ask_on state work))) same_disk ∙ ap (λ a. disk_after_asked old.disk told (change_asked old.disk a)) asks_it) in
      let tree : IsTree (tree_of old.disk.state) = subst (λ (d : Volume). IsTree (tree_of d.state)) same_disk took_it.tree in
      let outcome_is : outcome ≡ outcome_of result = took_it.outcome_is ∙ ap outcome_of result_is in
      let next_own : IsHandleOf store (modes_after told running.modes) done.state =
      subst (IsHandleOf store (modes_after told running.modes)) (sym carries.state_is) (handle_after store running.modes state told own) in
      let handle_is : handle ≡ after_turn done.state result = took_it.handle_is ∙ ap (after_turn done.state) result_is in
      let counted : mid.disk.calls.faults ≡ (disk_after_asked old.disk told made).calls.faults = ap (λ (d : Volume). d.calls.faults) (took_it.sets.disk ∙ disk_is) in
      let e : Event = event first events old number running explains status tree mid.disk.calls.faults counted in
      let table : ℕ → Status = status_of events in
      let next : Status = next_from told (table number) result in
      let next_same : next ≡ next_from told (Working running) result = next_is told running (table number) result status in
      let put : (other : ℕ) → handle_at new other ≡ (if other == number then handle else handle_at old other) =
      λ other.
      table_noted (record took { disk = disk; cores = cores; shown = shown }) mid new number handle outcome done.did done.change took_it.sets took_it.notes other
      ∙ (ap (λ before. if other == number then handle else before) (took_it.takes.table other) ∙ set_twice (other == number) handle (handle_at old other)) in
      let here : Matches next handle =
      subst (λ s. Matches s handle) (sym next_same)
      (subst (Matches (next_from told (Working running) result)) (sym handle_is)
      (matches_next first events old number running explains status tree mid.disk.calls.faults counted done.state next_own result refl)) in
      let on : Runs first (events ++ e ∷ []) number next =
      subst (Runs first (events ++ e ∷ []) number) (sym next_same)
      (runs_next first events old number running explains status tree mid.disk.calls.faults counted result refl
      (come first events old number running explains status tree mid.disk.calls.faults counted)) in (
        outcome_of result,
        goes_on first events old new e explains
            (law first events old number running explains status tree mid.disk.calls.faults counted
            (reason_of_history first events old explains (steps.Turn number) None took_it.reason))
            (took_it.notes.outcomes ∙ (ap (λ os. os ++ outcome ∷ []) (took_it.sets.outcomes ∙ took_it.takes.outcomes) ∙ ap (λ o. old.outcomes ++ o ∷ []) outcome_is))
            (took_it.notes.records
            ∙ (ap (λ rs. rs ++ record { did = done.did; change = done.change; faults = mid.disk.calls.faults } ∷ []) (took_it.sets.records ∙ took_it.takes.records)
            ∙ (ap (λ d. old.records ++ record { did = d; change = done.change; faults = mid.disk.calls.faults } ∷ []) did_is
            ∙ ap (λ c. old.records ++ record { did = did_of_asked opened (cores_after events) told; change = c; faults = mid.disk.calls.faults } ∷ []) change_is)))
            (took_it.notes.disk ∙ (took_it.sets.disk ∙ disk_is))
            (ap (λ (c : Vec History Global). c.items) (took_it.notes.cores ∙ took_it.sets.cores)
            ∙ (carries.cores_are ∙ ap (λ cs. cores_after_asked cs told) (ap (λ (c : Vec History Global). c.items) took_it.takes.cores)))
            (λ other. rw (status_after-turn (length events + 1) number told result table) (matches_set old new table number next handle explains.handles put here other))
            (λ other. rw (status_after-turn (length events + 1) number told result table)
            (runs_set first events e table number next explains.running (λ o apart turns_it. apart (cc turns_it.step)) on other))
            (subst (Keeps (tree_at first (events ++ e ∷ [])) (watched_after (events ++ e ∷ [])) (length (events ++ e ∷ []))) (sym (took_it.notes.shown ∙ took_it.sets.shown))
            (keeps_made first events e old.shown shown made explains.watched
            (subst (λ (d : Volume). IsLeft (tree_of d.state) (tree_of (disk_after_asked d told made).state) made) explains.disk (turn_left place old.disk ask))
            (λ n since. refl)
            (subst (λ (d : Volume). NotesMade old.shown (tree_of d.state) made shown) explains.disk
            (subst (λ c. NotesMade old.shown (tree_of old.disk.state) c shown) change_is took_it.noted)))),
      )

  by_status : (status : Status) → status_of events number ≡ status → Matches status (Some (record { state = state; work = Some work }))
      → (o : Outcome) × GoesOn first events (steps.Turn number) o new
  by_status Free is match = absurd match
  by_status (Resting store modes) is match = absurd (cc match.1)
  by_status (Working running) is match = let both : Some work ≡ Some running.work = match.1 in goes_at running is (sym (cc both)) match.0

-- what was kept after the turn, by what was judged of its change before it
noted_by : (old took : Course) (number : ℕ) (shown : Kept) (revealed : Option Revealed) (change would : Option Change) → SetsHandle old took number None → change ≡ would
    → Fits old.shown (tree_of old.disk.state) → TellsChange old.shown.folders (tree_of old.disk.state) would revealed → ¬ (ShowsSecondBy old.shown (tree_of old.disk.state) would)
    → ((tree : Tree) → Fits took.shown tree → TellsChange took.shown.folders tree change revealed → (ShowsSecondBy took.shown tree change → ⊥) → NotesMade took.shown tree change shown)
    → NotesMade old.shown (tree_of old.disk.state) change shown
noted_by old took number shown revealed change would takes same fits tells first keeps =
    subst (λ k. (tree : Tree) → Fits k tree → TellsChange k.folders tree change revealed → (ShowsSecondBy k tree change → ⊥) → NotesMade k tree change shown) takes.shown keeps
    (tree_of old.disk.state) fits
    (subst (λ c. TellsChange old.shown.folders (tree_of old.disk.state) c revealed) (sym same) tells)
    (λ second. first (subst (ShowsSecondBy old.shown (tree_of old.disk.state)) same second))

-- each history gets one more event by the turn
pub turned_on : (old took mid new : Course) (disk : Volume) (cores : Vec History Global) (shown : Kept) (number : ℕ) (state : HandleParts) (work : Work) (done : Carried) (outcome : Outcome)
    (handle : Option Seen) (revealed : Option Revealed)
    → handle_at old number ≡ Some (record { state = state; work = Some work }) → SetsHandle old took number None
    → IsTree (tree_of took.disk.state)
    → Carries took.disk disk took.cores.items cores.items state work (told_in took.cores.items took.disk number state work) done
    → outcome ≡ outcome_of (result_in done.work) → handle ≡ after_turn done.state (result_in done.work)
    → IsReasonNow old (steps.Turn number) None → Fits old.shown (tree_of old.disk.state)
    → TellsChange old.shown.folders (tree_of old.disk.state) (would_change_now old (steps.Turn number)) revealed
    → ((tree : Tree) → Fits took.shown tree → TellsChange took.shown.folders tree done.change revealed → (ShowsSecondBy took.shown tree done.change → ⊥)
    → NotesMade took.shown tree done.change shown)
    → SetsHandle (record took { disk = disk; cores = cores; shown = shown }) mid number handle → Notes mid new outcome done.did done.change → Continues old (steps.Turn number) new
turned_on old took mid new disk cores shown number state work done outcome handle revealed there takes tree carries outcome_is handle_is reason fits tells keeps sets notes first events explains =
    let would : done.change ≡ would_change_now old (steps.Turn number) =
    carries.change ∙ (ap (λ (d : Volume). change_asked d (ask_on state work)) takes.disk ∙ sym (ap (change_by_handle old.disk) there)) in
    by_status old took mid new disk cores shown number state work done outcome handle
    (record {
      there = there;
      takes = takes;
      carries = carries;
      tree = tree;
      outcome_is = outcome_is;
      handle_is = handle_is;
      reason = reason;
      noted = noted_by old took number shown revealed done.change (would_change_now old (steps.Turn number)) takes would fits tells (breaks_not _ _ reason) keeps;
      sets = sets;
      notes = notes;
    })
    first events explains (status_of events number) refl (subst (Matches (status_of events number)) there (explains.handles number))

-- ---- a turn in its parts

-- a handle that may turn is at work
pub at_work : (handle : Option Seen) (own : Seen) → None ≡ why_not_running (phase_of_handle handle) → handle ≡ Some own → (work : Work) × (own.work ≡ Some work)
at_work handle own valid is = by own.work refl
  where
    by : (work : Option Work) → own.work ≡ work → (w : Work) × (own.work ≡ Some w)
    by None same = absurd (cc (valid ∙ (ap (λ h. why_not_running (phase_of_handle h)) is ∙ ap (λ w. why_not_running (phase_of_work own.state.info.object_hash w)) same)))
    by (Some work) same = (work, same)

pub taken_at : (handle : Option Seen) (own : Seen) (work : Work) → own.work ≡ Some work → handle ≡ Some own → handle ≡ Some (record { state = own.state; work = Some work })
taken_at handle own work at is = is ∙ ap (λ w. Some (record { state = own.state; work = w })) at

pub keeps_turn : (old new : Course) (number : ℕ) (handle : Option Seen) (outcome : Outcome) (did : Did) (change : Option Change) (revealed : Option Revealed) (shown : Kept)
    → ((tree : Tree) → Fits old.shown tree → TellsChange old.shown.folders tree change revealed → (ShowsSecondBy old.shown tree change → ⊥)
    → NotesMade old.shown tree change shown)
    → Settles (record old { shown = shown }) new number handle outcome did change
    → KeepsTurn old new number handle outcome did change revealed
keeps_turn old new number handle outcome did change revealed shown keeps settles = record { shown = shown; keeps = keeps; settles = settles }

-- the result of the code's turn of a handle is what the history has of it
pub takes_turn : (old new : Course) (number : ℕ) (handle : Seen) (ask : Option Ask) (change : Option Change) (revealed : Option Revealed) (disk : Volume) (cores : Vec History Global) (done : Done)
    → ask ≡ ask_by_handle (Some handle) → change ≡ change_asked old.disk ask
    → IsTree (tree_of old.disk.state)
    → CarriesOut old.disk disk old.cores.items cores.items (opened_by handle.work) ask (told_now (stand old.cores.items handle.state.core number) old.disk ask) done
    → FeedsTurn (record old { disk = disk; cores = cores }) new number handle done change revealed → TakesTurnOf old new number handle revealed
takes_turn old new number handle ask change revealed disk cores done asked changed tree carries feeds work at =
    let state : HandleParts = handle.state in
    let place : Stand = stand old.cores.items state.core number in
    let asks_it : ask ≡ ask_on state work = asked ∙ ap (ask_by_work state) at in
    let told : Asked = told_in old.cores.items old.disk number state work in
    let told_is : told_now place old.disk ask ≡ told = ap (told_now place old.disk) asks_it in
    let tells : IsTold told done.told = subst (λ a. IsTold a done.told) told_is carries.told_is in
    let turns : IsTurned state work done.told feeds.turned = feeds.turns work at in
    let state_is : state_told state done.told ≡ state_after told state = sym (told_state state told done.told tells) in
    let work_is : work_told state work done.told ≡ fed_after state work (answered told) = sym (told_work place old.disk state work (ask_on state work) refl done.told tells) in
    let handle_is : option_map seen feeds.turned.handle ≡ after_turn (state_after told state) (result_in (fed_after state work (answered told))) =
    turns.handle ∙ (ap (λ s. after_turn s (result_in (work_told state work done.told))) state_is ∙ ap (λ w. after_turn (state_after told state) (result_in w)) work_is) in
    let outcome_is : feeds.turned.outcome ≡ outcome_of (result_in (fed_after state work (answered told))) =
    turns.outcome ∙ ap (λ w. outcome_of (result_in w)) work_is in
    record {
      disk = disk;
      cores = cores;
      done = record { did = done.did; change = change; state = state_after told state; work = fed_after state work (answered told) };
      tree = tree;
      carries = record {
        did = carries.did ∙ (ap (λ o. did_of_asked (opened_by o) old.cores.items (told_now place old.disk ask)) at ∙ ap (did_of_asked (opened_in work) old.cores.items) told_is);
        change = changed ∙ ap (change_asked old.disk) asks_it;
        state_is = refl;
        work_is = refl;
        disk_is = carries.disk_is ∙ ap (λ a. disk_after_asked old.disk (told_now place old.disk a) (change_asked old.disk a)) asks_it;
        cores_are = carries.cores_are ∙ ap (cores_after_asked old.cores.items) told_is;
      };
      keeps = subst (λ h. KeepsTurn (record old { disk = disk; cores = cores }) new number h (outcome_of (result_in (fed_after state work (answered told)))) done.did change revealed) handle_is
          (subst (λ o. KeepsTurn (record old { disk = disk; cores = cores }) new number (option_map seen feeds.turned.handle) o done.did change revealed) outcome_is feeds.keeps);
    }
