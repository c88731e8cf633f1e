-- The clone of an idle handle.
use Rattle.std.proofs.Common.{◌≡◌, ℕ, true, false, List, [], ◌∷◌, ◌++◌, Some, None, Option, Vec, Global, refl, sym, ◌∙◌, ap, subst}
use Rattle.odb_disk.specs.MemDisk.{Volume}
use Rattle.gix_odb_core.specs.History.{History}
use Rattle.gix_odb_core.specs.Replay.{number_behind}
use Rattle.gix_odb_events.specs.Answers.{view_in}
use Rattle.gix_odb_events.specs.declared.event.Event.TheVariants as core_events
use Rattle.gix_odb_events.specs.declared.view.View.{View}
use Rattle.gix_odb_calls.specs.declared.step.Step.TheVariants as steps
use Rattle.gix_odb_calls.specs.declared.step.Outcome.TheVariants as outcomes
use Rattle.gix_odb_calls.specs.declared.step.Why.{Why}
use Rattle.gix_odb_history.specs.declared.record.Did.{Did}
use Rattle.gix_odb_history.specs.declared.record.Did.TheVariants.{Core}
use Rattle.gix_odb_world.specs.Handle.{Seen}
use Rattle.gix_odb_world.specs.Work.{Work}
use Rattle.gix_odb_world.specs.declared.course.Course.{Course}
use Rattle.gix_odb_history.specs.Cores.{cores_after, cores_after_asked, history_at, or_before}
use Rattle.gix_odb_history.specs.Event.{Asked, Event, OfCore}
use Rattle.gix_odb_world.specs.Headline.{LeavesDisk, asked_applied, asked_by_clone}
use Rattle.gix_odb_history.specs.Run.{did_of_asked}
use Rattle.gix_odb_world.specs.Running.{Runs}
use Rattle.gix_odb_world.specs.Status.{Free, Resting, Status, Working, cloned, status_of}
use Rattle.gix_odb_history.specs.Made.{joined_answer}
use Rattle.gix_odb_world.specs.Valid.{Phase, NoneThere, Idle, Running, why_not_clone, why_not_idle, why_not_open}
use Rattle.gix_odb_world.specs.World.{Continues, Explains, Matches, handle_at}
use Rattle.gix_odb_world.specs.Table.{SetsHandle, Notes, phase_now, phase_of_handle, phase_of_work, shared_with, why_not_now}
use Rattle.gix_odb_world.proofs.StepLemmas.{Tells, applied_at_core}

-- ---- why it isn't valid

taken_by : (phase parent : Phase) (why : Why) → Some why ≡ why_not_open phase true → why_not_clone phase parent ≡ Some why
taken_by NoneThere parent why is = absurd (cc is)
taken_by (Idle hash) parent why is = sym is
taken_by Running parent why is = sym is

free_by : (phase parent : Phase) → None ≡ why_not_open phase true → why_not_clone phase parent ≡ why_not_idle parent
free_by NoneThere parent free = refl
free_by (Idle hash) parent free = absurd (cc free)
free_by Running parent free = absurd (cc free)

module _ (world : Course) (number from : ℕ) where
  -- a number that isn't free is reported first
  pub clone_taken : (why : Why) → Some why ≡ why_not_open (phase_now world number) true → why_not_now world (steps.Clone number from) ≡ Some why
  clone_taken why is = taken_by (phase_now world number) (phase_now world from) why is

  -- for a free number the handle decides that is to be cloned
  pub clone_if_free : None ≡ why_not_open (phase_now world number) true → why_not_now world (steps.Clone number from) ≡ why_not_idle (phase_now world from)
  clone_if_free free = free_by (phase_now world number) (phase_now world from) free

-- ---- its registration

abbrev joining : List History → (core number : ℕ) → Asked
joining cores core number = OfCore core number (core_events.Register false) (joined_answer cores core number)

no_work : {A : Type 0} (handle : Seen) (work : Work) → why_not_idle (phase_of_handle (Some handle)) ≡ None → handle.work ≡ Some work → A
no_work handle work idle is = absurd (cc (subst (λ (w : Option Work). why_not_idle (phase_of_work handle.state.info.object_hash w) ≡ None) is idle))

-- a clone is registered at the core of the handle that it is one of
joining_is : (cores : List History) (number : ℕ) (status : Status) (parent : Seen) → why_not_idle (phase_of_handle (Some parent)) ≡ None → Matches status (Some parent)
    → joining cores parent.state.core number ≡ asked_by_clone cores number status
joining_is cores number Free parent idle match = absurd match
joining_is cores number (Resting store modes) parent idle match = ap (λ core. joining cores core number) match.0.core
joining_is cores number (Working running) parent idle match = no_work parent running.work idle match.1

matches_cloned : (cores : List History) (number : ℕ) (status : Status) (parent : Seen) (view : View)
    → why_not_idle (phase_of_handle (Some parent)) ≡ None → Matches status (Some parent)
    → view_in (joined_answer cores parent.state.core number) ≡ Some view
    → Matches (cloned (asked_by_clone cores number status) status) (shared_with view (Some parent))
matches_cloned cores number Free parent view idle match seen = absurd match
matches_cloned cores number (Resting store modes) parent view idle match seen =
    let own = match.0 in (
      record {
        parts = own.parts;
        refresh = own.refresh;
        ignoring = own.ignoring;
        changes = own.changes;
        core = own.core;
        view = sym (ap (λ v. or_before v modes.view) (ap (λ core. view_in (joined_answer cores core number)) (sym own.core) ∙ seen));
      },
      refl,
    )
matches_cloned cores number (Working running) parent view idle match seen = no_work parent running.work idle match.1

runs_cloned : (first : Volume) (events : List Event) (handle : ℕ) (asked : Asked) (status : Status) → Runs first events handle (cloned asked status)
runs_cloned first events handle asked Free = tt
runs_cloned first events handle asked (Resting store modes) = tt
runs_cloned first events handle asked (Working running) = tt

module _ (old : Course) (number from : ℕ) (parent : Seen) (there : handle_at old from ≡ Some parent)
    (idle : why_not_idle (phase_of_handle (Some parent)) ≡ None) where
  match_of : (first : Volume) (events : List Event) → Explains first events old → Matches (status_of events from) (Some parent)
  match_of first events explains = subst (Matches (status_of events from)) there (explains.handles from)

  clone_tells : (cores : Vec History Global) (did : Did)
      → did ≡ Core parent.state.core (number_behind (history_at old.cores.items parent.state.core).entries)
      → cores.items ≡ cores_after_asked old.cores.items (joining old.cores.items parent.state.core number)
      → (first : Volume) (events : List Event) → Explains first events old → Tells events old cores (steps.Clone number from) did
  clone_tells cores did did_is cores_are first events explains =
      let core : ℕ = parent.state.core in
      let own = joining_is (cores_after events) number (status_of events from) parent idle (match_of first events explains) in
      let here : joining old.cores.items core number ≡ asked_applied events (steps.Clone number from) =
      ap (λ cs. joining cs core number) explains.cores ∙ own in
      record {
        did_is =
            did_is ∙ (ap (λ cs. Core core (number_behind (history_at cs core).entries)) explains.cores
            ∙ ap (did_of_asked None (cores_after events)) own);
        cores_are = cores_are ∙ ap (cores_after_asked old.cores.items) here;
        leaves = subst LeavesDisk here tt;
      }

  pub shared : (mid new : Course) (cores : Vec History Global) (view : View) (did : Did)
      → why_not_now old (steps.Clone number from) ≡ None
      → did ≡ Core parent.state.core (number_behind (history_at old.cores.items parent.state.core).entries)
      → view_in (joined_answer old.cores.items parent.state.core number) ≡ Some view
      → cores.items ≡ cores_after_asked old.cores.items (joining old.cores.items parent.state.core number)
      → SetsHandle (record old { cores = cores }) mid number (shared_with view (Some parent)) → Notes mid new outcomes.Applied did None
      → Continues old (steps.Clone number from) new
  shared mid new cores view did reason did_is seen cores_are sets notes =
      applied_at_core old mid new cores old.shown did (steps.Clone number from) number (shared_with view (Some parent))
      (λ n asked table. cloned asked (table from))
      reason
      (record { table = sets.table; disk = sets.disk; cores = sets.cores; shown = sets.shown; outcomes = sets.outcomes; records = sets.records })
      notes (λ trees since now is begun k. k) (λ turn. turn) refl (λ other turn. cc) (λ n asked table. refl)
      (λ first events explains.
      matches_cloned (cores_after events) number (status_of events from) parent view idle (match_of first events explains)
      (ap (λ cs. view_in (joined_answer cs parent.state.core number)) (sym explains.cores) ∙ seen))
      (λ first events e explains clones asked no_turn. runs_cloned first (events ++ e ∷ []) number (asked_applied events (steps.Clone number from)) (status_of events from))
      (clone_tells cores did did_is cores_are)
