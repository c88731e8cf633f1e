-- Each step of a world adds one event to its history.
pub mod Apart
use Rattle.std.proofs.Common.{◌≡◌, ◌≢◌, ℕ, ◌+◌, ◌<◌, Bool, true, false, List, [], ◌∷◌, ◌++◌, length, take, get_or, Some, None, Option, refl, sym, ◌∙◌, ap, subst, Vec, Global}
use Rattle.std.specs.Prelude.{if◌then◌else◌, ◌==◌}
use Rattle.std.proofs.lemmas.Bool.{false≢true}
use Rattle.std.proofs.lemmas.List.{map-append, take_more}
use Rattle.odb_disk.specs.MemDisk.{Volume, after_outside_change}
use Rattle.odb_disk.specs.Tree.{Tree, tree_of}
use Rattle.odb_disk.specs.Tree.Change.{changed, is_possible, is_possible_in}
use Rattle.odb_disk.proofs.TreeLemmas.Changed.{after_change-tree, is_possible-tree_of}
use Rattle.gix_odb_watch.specs.HasShown.{AreBegun, Keeps, ShowsSecond, Since}
use Rattle.gix_odb_watch.specs.Kept.{IsSecond, Kept}
use Rattle.gix_odb_watch.proofs.KeepsLaws.{second_shown, shown_second}
use Rattle.odb_disk.specs.declared.change.Change.{Change}
use Rattle.gix_odb_calls.specs.declared.step.Step.{Step}
use Rattle.gix_odb_calls.specs.declared.store_parts.StoreParts.{StoreParts}
use Rattle.gix_odb_calls.specs.declared.step.Step.TheVariants as steps
use Rattle.gix_odb_calls.specs.declared.step.Outcome.{Outcome}
use Rattle.gix_odb_calls.specs.declared.step.Outcome.TheVariants as outcomes
use Rattle.gix_odb_calls.specs.declared.step.Why.{Why}
use Rattle.gix_odb_history.specs.declared.record.Did.{Did}
use Rattle.gix_odb_history.specs.declared.record.Did.TheVariants.{Nothing}
use Rattle.gix_odb_world.specs.Handle.{Seen}
use Rattle.gix_odb_world.specs.declared.course.Course.{Course}
use Rattle.gix_odb_core.specs.History.{History}
use Rattle.gix_odb_history.specs.Cores.{cores_after, cores_after_asked}
use Rattle.gix_odb_history.specs.Event.{Asked, OfNothing, Event}
use Rattle.gix_odb_world.specs.Status.{Status, Free, Resting, Working, status_of, status_after, with_status}
use Rattle.gix_odb_history.specs.Run.{change_asked, did_of_asked, disk_after, disk_after_event, IsTurnOf, tree_at}
use Rattle.gix_odb_world.specs.TwoContents.{BreaksRule, watched_after, watched_by, would_change, would_change_in}
use Rattle.gix_odb_world.specs.Running.{Runs}
use Rattle.gix_odb_world.specs.Valid.{Idle, IsReason, is_openable, phase_after, phase_of, why_not_after, why_not_change, why_not_idle, why_not_open, why_not_running, why_not_clone, why_not_start}
use Rattle.gix_odb_world.specs.Headline.{IsTurn, Law, LeavesDisk, asked_applied}
use Rattle.gix_odb_world.specs.Changes.{ChangesAs}
use Rattle.gix_odb_world.specs.World.{Explains, GoesOn, Continues, IsRunOf, Matches, handle_at}
use Rattle.gix_odb_world.specs.Table.{IsReasonNow, SetsHandle, Notes, change_by_handle, change_by_work, phase_of_handle, phase_of_work, phase_now, why_not_now, would_change_now}
use Rattle.gix_odb_world.proofs.HistoryLemmas.{cores_after-push, status_of-push, disk_after-push, IsLawful-push}
use Rattle.gix_odb_world.proofs.KnowsLemmas.{runs-push, runs_set}
use Rattle.gix_odb_world.proofs.StepLemmas.Apart.{apart, law_apart, left_alone, quiet}
use Rattle.gix_odb_world.specs.Watch.{NotesChange, ShowsSecondBy}
use Rattle.gix_odb_world.proofs.ValidLaws.{breaks_not, by_rule, no_other, other_reason, same_reason}
use Rattle.gix_odb_world.proofs.WatchLemmas.{keeps_changed, keeps_left, watched_misused}
use Rattle.gix_odb_world.proofs.WorkLaws.{code_asks}
use Rattle.gix_odb_world.proofs.WorldLemmas.{matches_set, throughout-push}

-- ---- the reason for misuse, by the history and by the world

phase_of-matched : (status : Status) (handle : Option Seen) → Matches status handle → phase_of status ≡ phase_of_handle handle
phase_of-matched Free None match = refl
phase_of-matched Free (Some handle) match = absurd match
phase_of-matched (Resting store modes) None match = absurd match
phase_of-matched (Resting store modes) (Some handle) match =
    ap (λ (parts : StoreParts). Idle parts.object_hash) (sym match.0.parts) ∙ ap (phase_of_work handle.state.info.object_hash) (sym match.1)
phase_of-matched (Working running) None match = absurd match
phase_of-matched (Working running) (Some handle) match = ap (phase_of_work handle.state.info.object_hash) (sym match.1)

-- the phases of a handle by the history and by the world are equal
phase_same : (first : Volume) (events : List Event) (world : Course) (handle : ℕ) → Explains first events world
    → phase_after events handle ≡ phase_now world handle
phase_same first events world handle explains = phase_of-matched (status_of events handle) (handle_at world handle) (explains.handles handle)

pub why_not-same : (first : Volume) (events : List Event) (world : Course) (step : Step) → Explains first events world
    → why_not_after first events step ≡ why_not_now world step
why_not-same first events world (steps.Open handle path folders hash replacements options) explains =
    ap (λ phase. why_not_open phase (is_openable path folders hash replacements options.max_changes)) (phase_same first events world handle explains)
why_not-same first events world (steps.Clone handle from) explains =
    ap (λ phase. why_not_clone phase (phase_after events from)) (phase_same first events world handle explains)
    ∙ ap (why_not_clone (phase_now world handle)) (phase_same first events world from explains)
why_not-same first events world (steps.Close handle) explains = ap why_not_idle (phase_same first events world handle explains)
why_not-same first events world (steps.Never handle) explains = ap why_not_idle (phase_same first events world handle explains)
why_not-same first events world (steps.Ignore handle) explains = ap why_not_idle (phase_same first events world handle explains)
why_not-same first events world (steps.Start handle call) explains = ap (λ phase. why_not_start phase call) (phase_same first events world handle explains)
why_not-same first events world (steps.Turn handle) explains = ap why_not_running (phase_same first events world handle explains)
why_not-same first events world (steps.Disk change) explains = ap (λ disk. why_not_change disk change) (sym explains.disk)

-- as is the change that a step would make
change-matched : (disk : Volume) (status : Status) (handle : Option Seen) → Matches status handle → would_change_in disk status ≡ change_by_handle disk handle
change-matched disk Free None match = refl
change-matched disk Free (Some handle) match = absurd match
change-matched disk (Resting store modes) None match = absurd match
change-matched disk (Resting store modes) (Some handle) match = ap (change_by_work disk handle.state) (sym match.1)
change-matched disk (Working running) None match = absurd match
change-matched disk (Working running) (Some handle) match =
    ap (change_asked disk) (sym (code_asks running.store running.modes handle.state match.0 running.work)) ∙ ap (change_by_work disk handle.state) (sym match.1)

would_change-same : (first : Volume) (events : List Event) (world : Course) (step : Step) → Explains first events world
    → would_change first events step ≡ would_change_now world step
would_change-same first events world (steps.Turn handle) explains =
    change-matched (disk_after first events) (status_of events handle) (handle_at world handle) (explains.handles handle)
    ∙ ap (λ (disk : Volume). change_by_handle disk (handle_at world handle)) (sym explains.disk)
would_change-same first events world (steps.Disk change) explains = refl
would_change-same first events world step explains = refl

-- and whether it breaks the rule of two contents
module _ (first : Volume) (events : List Event) (world : Course) (explains : Explains first events world) where
  abbrev Second : Volume → Change → Type 0
  Second disk change = ShowsSecond (tree_at first events) (watched_after events) (length events) (changed (tree_of disk.state) change)

  breaks_by : (change : Option Change) → ShowsSecondBy world.shown (tree_of world.disk.state) change → BreaksRule first events change
  breaks_by None second = absurd second
  breaks_by (Some change) second =
      subst (λ (disk : Volume). Second disk change) explains.disk
      (second_shown (tree_at first events) (watched_after events) (length events) world.shown explains.watched (changed (tree_of world.disk.state) change) second)

  second_by : (change : Option Change) → BreaksRule first events change → ShowsSecondBy world.shown (tree_of world.disk.state) change
  second_by None breaks = absurd breaks
  second_by (Some change) breaks =
      shown_second (tree_at first events) (watched_after events) (length events) world.shown explains.watched (changed (tree_of world.disk.state) change)
      (subst (λ (disk : Volume). Second disk change) (sym explains.disk) breaks)

  -- so the first reason is the same
  pub reason_of_history : (step : Step) (why : Option Why) → IsReasonNow world step why → IsReason first events step why
  reason_of_history step why is =
      let would = would_change-same first events world step explains in
      same_reason (why_not_now world step) (why_not_after first events step) (sym (why_not-same first events world step explains))
      (ShowsSecondBy world.shown (tree_of world.disk.state) (would_change_now world step)) (BreaksRule first events (would_change first events step))
      (λ second. subst (BreaksRule first events) (sym would) (breaks_by (would_change_now world step) second))
      (λ breaks. second_by (would_change_now world step) (subst (BreaksRule first events) would breaks))
      why is

-- ---- one more event

pub goes_on : (first : Volume) (events : List Event) (old new : Course) (e : Event) → Explains first events old → Law first events e
    → new.outcomes ≡ old.outcomes ++ e.outcome ∷ [] → new.records ≡ old.records ++ e.entry ∷ [] → new.disk ≡ disk_after_event old.disk e
    → new.cores.items ≡ cores_after_asked old.cores.items e.asked
    → ((handle : ℕ) → Matches (status_after (length events + 1) e.step e.outcome e.asked (status_of events) handle) (handle_at new handle))
    → ((handle : ℕ) → Runs first (events ++ e ∷ []) handle (status_after (length events + 1) e.step e.outcome e.asked (status_of events) handle))
    → Keeps (tree_at first (events ++ e ∷ [])) (watched_after (events ++ e ∷ [])) (length (events ++ e ∷ [])) new.shown
    → GoesOn first events e.step e.outcome new
goes_on first events old new e explains law outcomes records disk cores handles running watched =
    record {
      event = e;
      step_is = refl;
      outcome_is = refl;
      law = law;
      explains = record {
        outcomes = map-append (λ (x : Event). x.outcome) events (e ∷ []) ∙ ap (λ os. os ++ e.outcome ∷ []) explains.outcomes ∙ sym outcomes;
        records = map-append (λ (x : Event). x.entry) events (e ∷ []) ∙ ap (λ rs. rs ++ e.entry ∷ []) explains.records ∙ sym records;
        disk = disk ∙ ap (λ d. disk_after_event d e) explains.disk ∙ sym (disk_after-push first events e);
        cores = cores ∙ ap (λ cs. cores_after_asked cs e.asked) explains.cores ∙ sym (cores_after-push events e);
        handles = λ handle. subst (λ (table : ℕ → Status). Matches (table handle) (handle_at new handle)) (sym (status_of-push events e)) (handles handle);
        running = λ handle. subst (λ (table : ℕ → Status). Runs first (events ++ e ∷ []) handle (table handle)) (sym (status_of-push events e)) (running handle);
        lawful = IsLawful-push first events e explains.lawful law;
        watched = watched;
        start = explains.start;
        throughout = throughout-push first events e explains.throughout
            (λ handle. subst (λ (table : ℕ → Status). Runs first (events ++ e ∷ []) handle (table handle)) (sym (status_of-push events e)) (running handle));
      };
    }

-- the tree after another program's change
after_outside : (disk : Volume) (made change : Change) → made ≡ change → tree_of (after_outside_change disk made).state ≡ changed (tree_of disk.state) change
unfolding after_outside_change
after_outside disk made change is = ap (λ c. tree_of (after_outside_change disk c).state) is ∙ after_change-tree disk.state change

-- ---- a step without a change

-- what is watched stays watched over a step that leaves the disk; only the folders that it names are added
stays_watched : (first : Volume) (events : List Event) (old : Course) (shown : Kept) (step : Step) (outcome : Outcome) (did : Did) (faults : ℕ) (asked : Asked) → LeavesDisk asked
    → Explains first events old
    → ((trees : ℕ → Tree) (since : Since) (now : ℕ) → trees now ≡ tree_of old.disk.state → AreBegun since now → Keeps trees since now old.shown
    → Keeps trees (watched_by now step outcome since) now shown)
    → Keeps (tree_at first (events ++ apart step outcome did None faults asked ∷ [])) (watched_after (events ++ apart step outcome did None faults asked ∷ []))
    (length (events ++ apart step outcome did None faults asked ∷ [])) shown
stays_watched first events old shown step outcome did faults asked leaves explains watches =
    keeps_left first events (apart step outcome did None faults asked) old.shown shown explains.watched
    (ap (λ (d : Volume). tree_of d.state) (left_alone (disk_after first events) asked None leaves))
    (λ trees since now is begun k. watches trees since now (is ∙ ap (λ (d : Volume). tree_of d.state) (sym explains.disk)) begun k)

-- only a turn and another program's change change the tree
would_not : (world : Course) (step : Step) → ¬ (IsTurn step) → ChangesAs step outcomes.Applied None → would_change_now world step ≡ None
would_not world (steps.Turn handle) other made = absurd (other tt)
would_not world (steps.Disk change) other made = absurd (cc made)
would_not world step other made = refl

-- so each of them that has no other reason is valid
pub valid_apart : (world : Course) (step : Step) → ¬ (IsTurn step) → ChangesAs step outcomes.Applied None → why_not_now world step ≡ None → IsReasonNow world step None
valid_apart world step other made none =
    by_rule (why_not_now world step) (ShowsSecondBy world.shown (tree_of world.disk.state) (would_change_now world step)) None none
    (λ second. subst (ShowsSecondBy world.shown (tree_of world.disk.state)) (would_not world step other made) second)

-- ---- a misused step

-- it leaves all as it was, also what is kept of watched paths
pub misused_for : (old new : Course) (step : Step) (why : Why) → IsReasonNow old step (Some why) → Notes old new (outcomes.Misuse why) Nothing None → Continues old step new
misused_for old new step why reason notes first events explains =
    let e : Event = quiet step (outcomes.Misuse why) None old.disk.calls.faults in (
      outcomes.Misuse why,
      goes_on first events old new e explains
          (law_apart first events step (outcomes.Misuse why) Nothing None old.disk.calls.faults OfNothing (reason_of_history first events old explains step (Some why) reason) refl tt refl
          (ap (λ (disk : Volume). disk.calls.faults) explains.disk) (λ reply is. cc) (λ is. cc) refl (λ is. absurd (cc is)))
          notes.outcomes notes.records notes.disk (ap (λ (c : Vec History Global). c.items) notes.cores)
          (λ handle. subst (λ handles. Matches (status_of events handle) (handle_at (record new { handles = handles }) handle)) (sym notes.handles) (explains.handles handle))
          (λ handle. runs-push first events e handle (status_of events handle) (λ turn. false≢true turn.done) (explains.running handle))
          (subst (Keeps (tree_at first (events ++ e ∷ [])) (watched_after (events ++ e ∷ [])) (length (events ++ e ∷ []))) (sym notes.shown)
          (stays_watched first events old old.shown step (outcomes.Misuse why) Nothing old.disk.calls.faults OfNothing tt explains
          (λ trees since now is begun k. subst (λ s. Keeps trees s now old.shown) (sym (watched_misused now step why since)) k))),
    )

pub misused : (old new : Course) (step : Step) (why : Why) → why_not_now old step ≡ Some why → Notes old new (outcomes.Misuse why) Nothing None
    → Continues old step new
misused old new step why reason notes =
    misused_for old new step why
    (other_reason (why_not_now old step) (ShowsSecondBy old.shown (tree_of old.disk.state) (would_change_now old step)) why reason) notes

-- ---- an applied step of one handle

-- the table after a handle is set and the step is noted
pub table_noted : (old mid new : Course) (number : ℕ) (handle : Option Seen) (outcome : Outcome) (did : Did) (change : Option Change)
    → SetsHandle old mid number handle → Notes mid new outcome did change → (other : ℕ)
    → handle_at new other ≡ (if other == number then handle else handle_at old other)
table_noted old mid new number handle outcome did change sets notes other =
    ap (λ handles. handle_at (record new { handles = handles }) other) notes.handles ∙ sets.table other

-- what a step records of the core of a store, of which it changes the cores
pub record Tells (events : List Event) (old : Course) (cores : Vec History Global) (step : Step) (did : Did) : Type 0 where
  pub did_is : did ≡ did_of_asked None (cores_after events) (asked_applied events step)
  pub cores_are : cores.items ≡ cores_after_asked old.cores.items (asked_applied events step)
  pub leaves : LeavesDisk (asked_applied events step)

-- A step sets one handle, and its status goes on as the handle does. It may have made an event of a core.
pub applied_at_core : (old mid new : Course) (cores : Vec History Global) (shown : Kept) (did : Did) (step : Step) (number : ℕ) (handle : Option Seen)
    (next : ℕ → Asked → (ℕ → Status) → Status)
    → why_not_now old step ≡ None → SetsHandle (record old { cores = cores; shown = shown }) mid number handle → Notes mid new outcomes.Applied did None
    → ((trees : ℕ → Tree) (since : Since) (now : ℕ) → trees now ≡ tree_of old.disk.state → AreBegun since now → Keeps trees since now old.shown
    → Keeps trees (watched_by now step outcomes.Applied since) now shown)
    → ¬ (IsTurn step) → ChangesAs step outcomes.Applied None → ((other : ℕ) → step ≢ steps.Turn other)
    → ((n : ℕ) (asked : Asked) (table : ℕ → Status) → status_after n step outcomes.Applied asked table ≡ with_status table number (next n asked table))
    → ((first : Volume) (events : List Event) → Explains first events old → Matches (next (length events + 1) (asked_applied events step) (status_of events)) handle)
    → ((first : Volume) (events : List Event) (e : Event) → Explains first events old → e.step ≡ step → e.asked ≡ asked_applied events step
    → ((other : ℕ) → ¬ IsTurnOf other e)
    → Runs first (events ++ e ∷ []) number (next (length events + 1) (asked_applied events step) (status_of events)))
    → ((first : Volume) (events : List Event) → Explains first events old → Tells events old cores step did)
    → Continues old step new
applied_at_core old mid new cores shown did step number handle next reason sets notes watches other_step made no_turn after matches runs tells first events explains =
    let told : Tells events old cores step did = tells first events explains in
    let asked : Asked = asked_applied events step in
    let e : Event = apart step outcomes.Applied did None mid.disk.calls.faults asked in
    let table : ℕ → Status = status_of events in
    let counted : mid.disk.calls.faults ≡ (disk_after first events).calls.faults = ap (λ (disk : Volume). disk.calls.faults) (sets.disk ∙ explains.disk) in (
      outcomes.Applied,
      goes_on first events old new e explains
          (law_apart first events step outcomes.Applied did None mid.disk.calls.faults asked
          (reason_of_history first events old explains step None (valid_apart old step other_step made reason))
          (other_step, told.leaves) told.leaves made counted (λ reply is. cc) (λ is. cc) told.did_is (λ is. refl))
          (notes.outcomes ∙ ap (λ os. os ++ outcomes.Applied ∷ []) sets.outcomes)
          (notes.records ∙ ap (λ rs. rs ++ e.entry ∷ []) sets.records)
          (notes.disk ∙ (sets.disk ∙ sym (left_alone old.disk asked None told.leaves)))
          (ap (λ (c : Vec History Global). c.items) (notes.cores ∙ sets.cores) ∙ told.cores_are)
          (λ other. rw (after (length events + 1) asked table)
          (matches_set old new table number (next (length events + 1) asked table) handle explains.handles
          (table_noted (record old { cores = cores; shown = shown }) mid new number handle outcomes.Applied did None sets notes) (matches first events explains) other))
          (λ other. rw (after (length events + 1) asked table)
          (runs_set first events e table number (next (length events + 1) asked table) explains.running (λ o apart turn. no_turn o turn.step)
          (runs first events e explains refl refl (λ o turn. no_turn o turn.step)) other))
          (subst (Keeps (tree_at first (events ++ e ∷ [])) (watched_after (events ++ e ∷ [])) (length (events ++ e ∷ []))) (sym (notes.shown ∙ sets.shown))
          (stays_watched first events old shown step outcomes.Applied did mid.disk.calls.faults asked told.leaves explains watches)),
    )

-- a step that asks for nothing sets one handle, and its status goes on as the handle does
pub applied : (old mid new : Course) (shown : Kept) (step : Step) (number : ℕ) (handle : Option Seen) (next : ℕ → Status → Status)
    → why_not_now old step ≡ None → SetsHandle (record old { shown = shown }) mid number handle → Notes mid new outcomes.Applied Nothing None
    → ((trees : ℕ → Tree) (since : Since) (now : ℕ) → trees now ≡ tree_of old.disk.state → AreBegun since now → Keeps trees since now old.shown
    → Keeps trees (watched_by now step outcomes.Applied since) now shown)
    → ¬ (IsTurn step) → ChangesAs step outcomes.Applied None → ((other : ℕ) → step ≢ steps.Turn other)
    → ((n : ℕ) (asked : Asked) (table : ℕ → Status) → status_after n step outcomes.Applied asked table ≡ with_status table number (next n (table number)))
    → ((n : ℕ) (status : Status) → Matches status (handle_at old number) → Matches (next n status) handle)
    → ((first : Volume) (events : List Event) (e : Event) → Explains first events old → e.step ≡ step → e.asked ≡ OfNothing → ((other : ℕ) → ¬ IsTurnOf other e)
    → Runs first (events ++ e ∷ []) number (next (length events + 1) (status_of events number)))
    → ((events : List Event) → OfNothing ≡ asked_applied events step)
    → Continues old step new
applied old mid new shown step number handle next reason sets notes watches other_step made no_turn after matches runs nothing =
    applied_at_core old mid new old.cores shown Nothing step number handle (λ n asked table. next n (table number)) reason
    (record { table = sets.table; disk = sets.disk; cores = sets.cores; shown = sets.shown; outcomes = sets.outcomes; records = sets.records })
    notes watches other_step made no_turn after
    (λ first events explains. matches (length events + 1) (status_of events number) (explains.handles number))
    (λ first events e explains is asked others. runs first events e explains is (asked ∙ sym (nothing events)) others)
    (λ first events explains. record {
      did_is = ap (did_of_asked None (cores_after events)) (nothing events);
      cores_are = ap (cores_after_asked old.cores.items) (nothing events);
      leaves = subst LeavesDisk (nothing events) tt;
    })

-- ---- a change

-- a valid change of another program is possible, and shows no second content
possible_by : (b : Bool) (why : Why) → None ≡ (if b then None else Some why) → b ≡ true
possible_by true why valid = refl
possible_by false why valid = absurd (cc valid)

pub change_possible : (world : Course) (change : Change) → IsReasonNow world (steps.Disk change) None → is_possible_in (tree_of world.disk.state) change ≡ true
change_possible world change valid =
    sym (is_possible-tree_of world.disk.state change)
    ∙ possible_by (is_possible world.disk.state change) _ (no_other (why_not_now world (steps.Disk change)) (ShowsSecondBy world.shown (tree_of world.disk.state) (Some change)) valid)

pub no_second : (world : Course) (change : Change) → IsReasonNow world (steps.Disk change) None → ¬ (IsSecond world.shown (changed (tree_of world.disk.state) change))
no_second world change valid = breaks_not (why_not_now world (steps.Disk change)) (ShowsSecondBy world.shown (tree_of world.disk.state) (Some change)) valid

-- the change is noted, the disk takes it, and the step is noted
pub made_change : (old new : Course) (shown : Kept) (disk : Volume) (change made : Change) → IsReasonNow old (steps.Disk change) None
    → NotesChange old.shown (tree_of old.disk.state) change shown
    → disk ≡ after_outside_change old.disk change → made ≡ change
    → Notes (record old { disk = disk; shown = shown }) new outcomes.Applied Nothing (Some made) → Continues old (steps.Disk change) new
made_change old new shown disk change made reason noted after made_is notes first events explains =
    let step : Step = steps.Disk change in
    let e : Event = quiet step outcomes.Applied (Some made) disk.calls.faults in
    let now : disk ≡ after_outside_change (disk_after first events) made = after ∙
    (ap (λ d. after_outside_change d change) explains.disk ∙ ap (λ c. after_outside_change (disk_after first events) c) (sym made_is)) in
    let here : disk ≡ after_outside_change old.disk made = after ∙ ap (λ c. after_outside_change old.disk c) (sym made_is) in
    let noted_here : NotesChange old.shown (tree_of (disk_after first events).state) change shown =
    subst (λ (d : Volume). NotesChange old.shown (tree_of d.state) change shown) explains.disk noted in (
      outcomes.Applied,
      goes_on first events old new e explains
          (law_apart first events step outcomes.Applied Nothing (Some made) disk.calls.faults OfNothing (reason_of_history first events old explains step None reason)
          (λ turn. turn, tt) tt (ap Some made_is)
          (ap (λ (d : Volume). d.calls.faults) now) (λ reply is. cc) (λ is. cc) refl (λ is. refl))
          notes.outcomes notes.records
          (notes.disk ∙ here) (ap (λ (c : Vec History Global). c.items) notes.cores)
          (λ handle. subst (λ handles. Matches (status_of events handle) (handle_at (record new { handles = handles }) handle)) (sym notes.handles) (explains.handles handle))
          (λ handle. runs-push first events e handle (status_of events handle) (λ turn. absurd (cc turn.step)) (explains.running handle))
          (subst (Keeps (tree_at first (events ++ e ∷ [])) (watched_after (events ++ e ∷ [])) (length (events ++ e ∷ []))) (sym notes.shown)
          (keeps_changed first events e old.shown shown change explains.watched (after_outside (disk_after first events) made change made_is) refl noted_here)),
    )

-- ---- a run of steps

-- one more step leads on
pub IsRunOf-push : (first : Volume) (old new : Course) (made : List Step) (step : Step) → Continues old step new → IsRunOf first made old
    → IsRunOf first (made ++ step ∷ []) new
IsRunOf-push first old new made step continues before =
    let goes : (outcome : Outcome) × GoesOn first before.events step outcome new = continues first before.events before.explains in
    let on : GoesOn first before.events step goes.0 new = goes.1 in
    record {
      events = before.events ++ on.event ∷ [];
      steps_are = map-append (λ (e : Event). e.step) before.events (on.event ∷ []) ∙ (ap (λ ss. ss ++ on.event.step ∷ []) before.steps_are ∙ ap (λ s. made ++ s ∷ []) on.step_is);
      explains = on.explains;
    }

-- so it is along a list of steps
pub IsRunOf-more : (first : Volume) (old new : Course) (step : Step) (steps : List Step) (index : ℕ) → index < length steps
    → step ≡ get_or steps index step → Continues old step new
    → IsRunOf first (take index steps) old → IsRunOf first (take (index + 1) steps) new
IsRunOf-more first old new step steps index within is continues before =
    subst (λ made. IsRunOf first made new) (ap (λ s. take index steps ++ s ∷ []) is ∙ sym (take_more steps index step within))
    (IsRunOf-push first old new (take index steps) step continues before)
