-- The opening and the closing of a handle, and the setting of its mode.
use Rattle.std.proofs.Common.{◌≡◌, ℕ, ◌+◌, Bool, true, false, List, [], ◌∷◌, ◌++◌, length, Some, None, Option, refl, sym, ◌∙◌, ap, subst, arith, Vec, Global}
use Rattle.std.proofs.lemmas.List.{length_push}
use Rattle.odb_base.specs.Path.{Path}
use Rattle.odb_disk.specs.MemDisk.{Volume}
use Rattle.odb_disk.specs.Tree.{tree_of}
use Rattle.gix_odb_watch.specs.Kept.{Kept}
use Rattle.gix_hash.specs.declared.kind.Kind.{Kind as HashKind}
use Rattle.gix_hash.specs.declared.object_id.ObjectId.{ObjectId}
use Rattle.gix_odb_calls.specs.declared.step.Step.TheVariants as steps
use Rattle.gix_odb_calls.specs.declared.step.Outcome.TheVariants as outcomes
use Rattle.gix_odb_calls.specs.declared.step.Why.{Why}
use Rattle.gix_odb_calls.specs.declared.step.Why.TheVariants.{BadOpen}
use Rattle.gix_odb_calls.specs.declared.init.Options.{Options}
use Rattle.gix_odb.specs.declared.open_state.OpenStage.{OpenStage}
use Rattle.gix_odb.specs.declared.open_state.OpenState.{OpenState}
use Rattle.gix_odb_history.specs.declared.record.Did.{Did}
use Rattle.gix_odb_history.specs.declared.record.Did.TheVariants.{Core, Nothing}
use Rattle.gix_odb_world.specs.Work.{Work}
use Rattle.gix_odb_world.specs.Work.{Opening}
use Rattle.gix_odb_world.specs.declared.course.Course.{Course}
use Rattle.gix_odb_core.specs.History.{History}
use Rattle.gix_odb_core.specs.Replay.{number_behind}
use Rattle.gix_odb_events.specs.declared.event.Event.TheVariants as core_events
use Rattle.gix_odb_history.specs.Cores.{answer_behind, cores_after, cores_after_asked, history_at}
use Rattle.gix_odb_history.specs.Event.{Asked, Event, OfCore}
use Rattle.gix_odb_world.specs.Headline.{LeavesDisk, asked_applied, asked_by_close}
use Rattle.gix_odb_world.specs.Status.{OpenStore, Store, Status, Free, Resting, Working, store_at, opening_at, frozen_from, ignoring_from, modes_at_opening, status_of}
use Rattle.gix_odb_world.specs.Handle.{Begins, IsHandleOf, Seen, opening_parts, seen_at}
use Rattle.gix_odb_world.specs.declared.handle.HandleAt.TheVariants as stands
use Rattle.gix_odb_history.specs.Run.{IsTurnOf, did_of_asked}
use Rattle.gix_odb_world.specs.Running.{Runs}
use Rattle.gix_odb_world.specs.Valid.{Phase, NoneThere, Idle, Running, why_not_open, why_not_idle}
use Rattle.gix_odb_world.specs.World.{Continues, Explains, Matches, handle_at}
use Rattle.gix_odb_world.specs.Table.{SetsHandle, Notes, phase_of_handle, phase_of_work, why_not_now, seen_frozen, seen_ignoring}
use Rattle.gix_odb_world.specs.Watch.{Watches}
use Rattle.gix_odb_world.proofs.StepLemmas.{Tells, applied, applied_at_core}
use Rattle.gix_odb_world.proofs.KnowsLemmas.{begins, runs-push}

runs_opening : (first : Volume) (events : List Event) (e : Event) (handle : ℕ) (store : Store)
    → Runs first (events ++ e ∷ []) handle (opening_at (length events + 1) store)
runs_opening first events e handle store =
    let whole : length (events ++ e ∷ []) ≡ length events + 1 = length_push events e in (omega (arith, whole), begins first events e handle store modes_at_opening OpenStore tt)

-- the handle of an opening is one of the store of its open step
opens_store : (path : Path) (folders : List Path) (hash : HashKind) (replacements : List (ObjectId × ObjectId)) (options : Options) (n : ℕ) (opening : OpenState)
    → Begins path folders hash replacements options opening
    → IsHandleOf (store_at n path folders hash replacements options) modes_at_opening (opening_parts 0 opening)
opens_store path folders hash replacements options n opening begun = record { parts = begun.parts; refresh = refl; ignoring = refl; changes = begun.changes; core = refl; view = refl }

pub opened : (old mid new : Course) (shown : Kept) (number : ℕ) (path : Path) (folders : List Path) (hash : HashKind) (replacements : List (ObjectId × ObjectId)) (options : Options)
    (opening : OpenState)
    → why_not_open (phase_of_handle (handle_at old number)) true ≡ None → Begins path folders hash replacements options opening
    → Watches old.shown shown (tree_of old.disk.state) (path ∷ folders)
    → SetsHandle (record old { shown = shown }) mid number (Some (seen_at 0 (stands.Opening opening))) → Notes mid new outcomes.Applied Nothing None
    → Continues old (steps.Open number path folders hash replacements options) new
opened old mid new shown number path folders hash replacements options opening free begins watches sets notes =
    applied old mid new shown (steps.Open number path folders hash replacements options) number (Some (seen_at 0 (stands.Opening opening)))
    (λ n status. opening_at n (store_at n path folders hash replacements options))
    (ap (why_not_open (phase_of_handle (handle_at old number))) begins.good ∙ free) sets notes watches (λ turn. turn) refl (λ other turn. cc) (λ n asked table. refl)
    (λ n status match. (opens_store path folders hash replacements options n opening begins, ap (λ (own : OpenStage). Some (Opening own)) begins.begun))
    (λ first events e explains opens asked no_turn. runs_opening first events e number (store_at (length events + 1) path folders hash replacements options))
    (λ events. refl)

-- a bad opening is reported where the number is free
pub bad_open : (phase : Phase) (openable : Bool) → why_not_open phase true ≡ None → openable ≡ false → why_not_open phase openable ≡ Some BadOpen
bad_open NoneThere openable free bad = rw bad refl
bad_open (Idle hash) openable free bad = absurd (cc free)
bad_open Running openable free bad = absurd (cc free)

-- a number that isn't free is reported first
pub taken : (phase : Phase) (openable : Bool) (why : Why) → Some why ≡ why_not_open phase true → why_not_open phase openable ≡ Some why
taken NoneThere openable why is = absurd (cc is)
taken (Idle hash) openable why is = sym is
taken Running openable why is = sym is

-- ---- a close

-- what the core of a number is asked when a handle is removed
abbrev removal : List History → (core number : ℕ) → Asked
removal cores core number = OfCore core number core_events.Remove (answer_behind (history_at cores core) number core_events.Remove)

-- a handle at rest is removed from its own core
removal_is : (cores : List History) (number : ℕ) (status : Status) (handle : Seen) → why_not_idle (phase_of_handle (Some handle)) ≡ None → Matches status (Some handle)
    → removal cores handle.state.core number ≡ asked_by_close cores number status
removal_is cores number Free handle idle match = absurd match
removal_is cores number (Resting store modes) handle idle match = ap (λ core. removal cores core number) match.0.core
removal_is cores number (Working running) handle idle match = absurd (cc (subst (λ (w : Option Work). why_not_idle (phase_of_work handle.state.info.object_hash w) ≡ None) match.1 idle))

close_tells : (old : Course) (cores : Vec History Global) (number : ℕ) (handle : Seen) (did : Did) → why_not_now old (steps.Close number) ≡ None → handle_at old number ≡ Some handle
    → did ≡ Core handle.state.core (number_behind (history_at old.cores.items handle.state.core).entries)
    → cores.items ≡ cores_after_asked old.cores.items (removal old.cores.items handle.state.core number)
    → (first : Volume) (events : List Event) → Explains first events old → Tells events old cores (steps.Close number) did
close_tells old cores number handle did reason there did_is cores_are first events explains =
    let core : ℕ = handle.state.core in
    let idle : why_not_idle (phase_of_handle (Some handle)) ≡ None = subst (λ h. why_not_idle (phase_of_handle h) ≡ None) there reason in
    let match : Matches (status_of events number) (Some handle) = subst (Matches (status_of events number)) there (explains.handles number) in
    let here : removal old.cores.items core number ≡ asked_applied events (steps.Close number) =
    ap (λ cs. removal cs core number) explains.cores ∙ removal_is (cores_after events) number (status_of events number) handle idle match in
    record {
      did_is =
          did_is ∙ (ap (λ cs. Core core (number_behind (history_at cs core).entries)) explains.cores
          ∙ ap (did_of_asked None (cores_after events)) (removal_is (cores_after events) number (status_of events number) handle idle match));
      cores_are = cores_are ∙ ap (cores_after_asked old.cores.items) here;
      leaves = subst LeavesDisk here tt;
    }

pub closed : (old mid new : Course) (cores : Vec History Global) (number : ℕ) (handle : Seen) (did : Did) → why_not_now old (steps.Close number) ≡ None
    → handle_at old number ≡ Some handle
    → did ≡ Core handle.state.core (number_behind (history_at old.cores.items handle.state.core).entries)
    → cores.items ≡ cores_after_asked old.cores.items (removal old.cores.items handle.state.core number)
    → SetsHandle (record old { cores = cores }) mid number None → Notes mid new outcomes.Applied did None → Continues old (steps.Close number) new
closed old mid new cores number handle did reason there did_is cores_are sets notes =
    applied_at_core old mid new cores old.shown did (steps.Close number) number None (λ n asked table. Free)
    reason
    (record { table = sets.table; disk = sets.disk; cores = sets.cores; shown = sets.shown; outcomes = sets.outcomes; records = sets.records })
    notes (λ trees since now is begun k. k) (λ turn. turn) refl (λ other turn. cc) (λ n asked table. refl) (λ first events explains. tt) (λ first events e explains closes asked no_turn. tt)
    (close_tells old cores number handle did reason there did_is cores_are)

-- ---- the mode of an idle handle

matches_frozen : (status : Status) (handle : Option Seen) → why_not_idle (phase_of_handle handle) ≡ None
    → Matches status handle → Matches (frozen_from status) (seen_frozen handle)
matches_frozen Free None idle match = tt
matches_frozen Free (Some handle) idle match = absurd match
matches_frozen (Resting store modes) None idle match = absurd match
matches_frozen (Resting store modes) (Some handle) idle match =
    let own = match.0 in
    (record { parts = own.parts; refresh = refl; ignoring = own.ignoring; changes = own.changes; core = own.core; view = own.view }, match.1)
matches_frozen (Working running) None idle match = absurd match
matches_frozen (Working running) (Some handle) idle match =
    absurd (cc (subst (λ (w : Option Work). why_not_idle (phase_of_work handle.state.info.object_hash w) ≡ None) match.1 idle))

matches_ignoring : (status : Status) (handle : Option Seen) → why_not_idle (phase_of_handle handle) ≡ None
    → Matches status handle → Matches (ignoring_from status) (seen_ignoring handle)
matches_ignoring Free None idle match = tt
matches_ignoring Free (Some handle) idle match = absurd match
matches_ignoring (Resting store modes) None idle match = absurd match
matches_ignoring (Resting store modes) (Some handle) idle match =
    let own = match.0 in
    (record { parts = own.parts; refresh = own.refresh; ignoring = refl; changes = own.changes; core = own.core; view = own.view }, match.1)
matches_ignoring (Working running) None idle match = absurd match
matches_ignoring (Working running) (Some handle) idle match =
    absurd (cc (subst (λ (w : Option Work). why_not_idle (phase_of_work handle.state.info.object_hash w) ≡ None) match.1 idle))

runs_frozen : (number : ℕ) (first : Volume) (events : List Event) (e : Event) (status : Status) → ((other : ℕ) → ¬ IsTurnOf other e)
    → Runs first events number status → Runs first (events ++ e ∷ []) number (frozen_from status)
runs_frozen number first events e Free no_turn runs = tt
runs_frozen number first events e (Resting store modes) no_turn runs = tt
runs_frozen number first events e (Working running) no_turn runs = runs-push first events e number (Working running) (no_turn number) runs

runs_ignoring : (number : ℕ) (first : Volume) (events : List Event) (e : Event) (status : Status) → ((other : ℕ) → ¬ IsTurnOf other e)
    → Runs first events number status → Runs first (events ++ e ∷ []) number (ignoring_from status)
runs_ignoring number first events e Free no_turn runs = tt
runs_ignoring number first events e (Resting store modes) no_turn runs = tt
runs_ignoring number first events e (Working running) no_turn runs = runs-push first events e number (Working running) (no_turn number) runs

pub frozen : (old mid new : Course) (number : ℕ) → why_not_now old (steps.Never number) ≡ None
    → SetsHandle old mid number (seen_frozen (handle_at old number)) → Notes mid new outcomes.Applied Nothing None
    → Continues old (steps.Never number) new
frozen old mid new number reason sets notes =
    applied old mid new old.shown (steps.Never number) number (seen_frozen (handle_at old number)) (λ n status. frozen_from status)
    reason
    (record { table = sets.table; disk = sets.disk; cores = sets.cores; shown = sets.shown; outcomes = sets.outcomes; records = sets.records })
    notes (λ trees since now is begun k. k) (λ turn. turn) refl (λ other turn. cc) (λ n asked table. refl)
    (λ n status match. matches_frozen status (handle_at old number) reason match)
    (λ first events e explains starts asked no_turn. runs_frozen number first events e (status_of events number) no_turn (explains.running number))
    (λ events. refl)

pub ignored : (old mid new : Course) (number : ℕ) → why_not_now old (steps.Ignore number) ≡ None
    → SetsHandle old mid number (seen_ignoring (handle_at old number)) → Notes mid new outcomes.Applied Nothing None
    → Continues old (steps.Ignore number) new
ignored old mid new number reason sets notes =
    applied old mid new old.shown (steps.Ignore number) number (seen_ignoring (handle_at old number)) (λ n status. ignoring_from status)
    reason
    (record { table = sets.table; disk = sets.disk; cores = sets.cores; shown = sets.shown; outcomes = sets.outcomes; records = sets.records })
    notes (λ trees since now is begun k. k) (λ turn. turn) refl (λ other turn. cc) (λ n asked table. refl)
    (λ n status match. matches_ignoring status (handle_at old number) reason match)
    (λ first events e explains starts asked no_turn. runs_ignoring number first events e (status_of events number) no_turn (explains.running number))
    (λ events. refl)
