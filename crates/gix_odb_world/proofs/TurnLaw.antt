-- The event of a turn is lawful, and the handle does after it what its status says.
pub mod Asking
pub mod Comes
use Rattle.std.proofs.Common.{◌≡◌, ℕ, ◌+◌, ◌<◌, ◌≤◌, Bool, true, false, List, [], ◌∷◌, ◌++◌, length, Option, Some, None, Ok, Err, Result, refl, sym, ◌∙◌, ap, subst, arith}
use Rattle.std.specs.Prelude.{if◌then◌else◌}
use Rattle.std.proofs.lemmas.List.{length_push}
use Rattle.odb_base.specs.Path.{Path}
use Rattle.odb_disk.specs.Tree.{IsTree, tree_of}
use Rattle.odb_disk.specs.declared.change.Change.{Change}
use Rattle.odb_disk.specs.MemDisk.{Volume}
use Rattle.gix_odb_calls.specs.declared.step.Step.TheVariants as steps
use Rattle.gix_odb_calls.specs.declared.step.Outcome.TheVariants as outcomes
use Rattle.gix_odb_calls.specs.declared.call.Reply.{Reply}
use Rattle.gix_odb_world.specs.Handle.{HandleParts, IsHandleOf}
use Rattle.gix_odb_world.specs.Work.{Work}
use Rattle.gix_odb_world.specs.declared.course.Course.{Course}
use Rattle.gix_odb_world.specs.Bound.{HasAtMost, bound_of_task}
use Rattle.gix_odb_history.specs.Event.{Asked, OfNothing, Event, answered}
use Rattle.gix_odb_events.specs.declared.answer.Ask.{Ask}
use Rattle.gix_odb_world.specs.Status.{Free, Resting, Running, Status, Task, Working, come_to, modes_after, refuses_opening, replied, status_of, turned}
use Rattle.gix_odb_history.specs.Run.{Stand, change_asked, did_asked, did_of_asked, disk_after, disk_after_asked, told_now, tree_at}
use Rattle.gix_odb_world.specs.Begun.{BegunAs}
use Rattle.gix_odb_world.specs.Recorded.{opened_in}
use Rattle.gix_odb_world.specs.Running.{Runs}
use Rattle.gix_odb_history.specs.Turned.{is_done}
use Rattle.gix_odb_world.specs.Valid.{IsReason, misuse_of}
use Rattle.gix_odb_world.specs.Headline.{FailsAsListed, Law, Turns, Works, outcome_of, stand_of}
use Rattle.gix_odb_world.specs.Changes.{ChangesAs, ChangesAsAsked}
use Rattle.gix_odb_world.specs.Promise.{Promise}
use Rattle.gix_odb_world.specs.Machines.{ask_in, fed_in}
use Rattle.gix_odb_world.specs.World.{Explains, Matches}
use Rattle.gix_odb_world.specs.Table.{after_turn}
use Rattle.gix_odb_world.proofs.HistoryLemmas.{disk_after-push}
use Rattle.gix_odb_world.proofs.BegunLemmas.{stems_now}
use Rattle.gix_odb_world.proofs.BegunLemmas.OneEvent.{Stems, one_task}
use Rattle.gix_odb_world.proofs.BegunLemmas.Turns.{Counts, counts_now}
use Rattle.gix_odb_world.proofs.MachineLaws.{ComesTo, IsTurnAsking, TakesTurn}
use Rattle.gix_odb_world.proofs.TurnLaw.Asking.{did_told, fails_listed, five_of, order_of, suits_turn, told_nothing, turn_asking}
use Rattle.gix_odb_world.proofs.TurnLaw.Comes.{come_of, end_of, turn_of}

-- ---- the event of a turn

-- the outcome of a turn, by what is left of its work
misuse_of-turn : (result : Result Reply Work) → misuse_of (outcome_of result) ≡ None
misuse_of-turn (Ok reply) = refl
misuse_of-turn (Err work) = refl

done-turn : (result : Result Reply Work) → is_done (outcome_of result) ≡ true
done-turn (Ok reply) = refl
done-turn (Err work) = refl

not_applied : (result : Result Reply Work) → ¬ (outcome_of result ≡ outcomes.Applied)
not_applied (Ok reply) is = cc is
not_applied (Err work) is = cc is

changes_turn : (number : ℕ) (result : Result Reply Work) (change : Option Change) → ChangesAs (steps.Turn number) (outcome_of result) change
changes_turn number (Ok reply) change = tt
changes_turn number (Err work) change = tt

-- a property of running work, as one of a status
abbrev OfWork : (Running → Type 0) → Status → Type 0
OfWork P (Working running) = P running
OfWork P status = Unit {0}

module _ (first : Volume) (events : List Event) (old : Course) (number : ℕ) (running : Running) (explains : Explains first events old) (status : status_of events number ≡ Working running) where
  pub runs : Runs first events number (Working running)
  runs = subst (Runs first events number) status (explains.running number)

  -- from which steps the work is
  stems : Stems events number (Working running)
  stems = subst (Stems events number) status (stems_now first events explains.lawful number)

  -- how many turns it had
  counts : Counts events number (Working running)
  counts = subst (Counts events number) status (counts_now first events explains.lawful number)

  -- what the work asks for
  abbrev pub ask : Option Ask
  ask = ask_in running.store running.work

  abbrev pub opened : Option Path
  opened = opened_in running.work

  abbrev pub at : Stand
  at = stand_of events number running

  abbrev pub told : Asked
  told = told_now at old.disk ask

  abbrev pub made : Option Change
  made = change_asked old.disk ask

  -- the reply of the turn, or the work that is left
  abbrev pub after : Result Reply Work
  after = fed_in running.store running.work (answered told)

  module _ (tree : IsTree (tree_of old.disk.state)) (faults : ℕ) (counted : faults ≡ (disk_after_asked old.disk told made).calls.faults) where
    abbrev pub event : Event
    event = record { step = steps.Turn number; outcome = outcome_of after; entry = record { did = did_of_asked opened at.cores told; change = made; faults = faults }; asked = told }

    abbrev pub whole : List Event
    whole = events ++ event ∷ []

    did_is : event.entry.did ≡ did_asked opened at (disk_after first events) ask
    did_is = did_told opened at old.disk ask ∙ ap (λ d. did_asked opened at d ask) explains.disk

    told_is : event.asked ≡ told_now at (disk_after first events) ask
    told_is = ap (λ d. told_now at d ask) explains.disk

    change_is : event.entry.change ≡ change_asked (disk_after first events) ask
    change_is = ap (λ d. change_asked d ask) explains.disk

    turn_is : IsTurnAsking first events event number running ask
    turn_is = turn_asking first events event number running opened ask (record { step = refl; done = done-turn after }) did_is told_is change_is (subst (λ (d : Volume). IsTree (tree_of d.state)) explains.disk tree)

    abbrev pub WorkNow : Result Reply Work → Type 0
    WorkNow result = ComesTo first events event number running told result

    pub come : WorkNow after
    come =
        subst (λ d. ComesTo first events event number running (told_now at d ask) (fed_in running.store running.work (answered (told_now at d ask)))) (sym explains.disk)
        (come_of first events event number running runs.0
        (record { lawful = explains.lawful; throughout = explains.throughout; start = explains.start; status = status }) running.work runs.1 turn_is)

    -- ---- its law

    -- a turn in which nothing was asked has its reply
    ended : told ≡ OfNothing → (reply : Reply) × (after ≡ Ok reply)
    ended nothing =
        let end = end_of first events number running running.work runs.1 (told_nothing at old.disk ask nothing) in
        (end.0, ap (λ a. fed_in running.store running.work (answered a)) nothing ∙ end.1)

    promised : (result : Result Reply Work) → WorkNow result → (reply : Reply) → outcome_of result ≡ outcomes.Reply reply
        → Promise first whole number running.store running.modes running.begun running.task reply
    promised (Ok own) now reply is =
        let same : own ≡ reply = cc is in
        subst (Promise first whole number running.store running.modes running.begun running.task) same now
    promised (Err left) now reply is = absurd (cc is)

    -- no folder that the store lists has more entries since the task was set
    abbrev Most : Running → (entries : ℕ) → Type 0
    Most other entries = HasAtMost (tree_at first whole) other.store.parts other.begun (length events + 1) entries

    timed : (result : Result Reply Work) → WorkNow result → outcome_of result ≡ outcomes.Pending → (entries : ℕ) → Most running entries
        → running.turns + 1 < bound_of_task running.store running.modes running.task entries
    timed (Ok own) now is entries most = absurd (cc is)
    timed (Err left) now is entries most = now.1 entries most

    turns : TakesTurn first events number running running.task ask
    turns = turn_of first events number running running.work runs.1

    works : Works first events number running event
    works =
        record {
          begins = stems.1.begins;
          latest = stems.1.latest;
          counted = counts.1;
          opened = stems.0;
          ask = ask;
          asks = refl;
          in_order = order_of first events number running running.task ask turns;
          asked = did_is;
          told = told_is;
          goes = refl;
          changed = change_is;
          five = subst (ChangesAsAsked first events number running.store running.begun running.task ask) (sym change_is) (five_of first events number running running.task ask turns);
        }

    -- what holds of the task holds of any that this step set
    of_task : (P : Task → Type 0) → P running.task → (task : Task) → BegunAs events number running.begun running.store task → P task
    of_task P here task began = subst P (one_task events number running.begun running.store running.task task stems.1.begins began) here

    -- what holds of this work holds of the work that a turn of the handle takes
    of_turn : (P : ℕ → Running → Type 0) → P number running → (handle : ℕ) (other : Running) → Turns events event handle other → P handle other
    of_turn P here handle other turns_it =
        let same : number ≡ handle = cc turns_it.turn.step in
        subst (λ h. P h other) same (subst (OfWork (P number)) (sym status ∙ (ap (status_of events) same ∙ turns_it.status)) here)

    pub law : IsReason first events (steps.Turn number) None → Law first events event
    law reason =
        record {
          valid = subst (IsReason first events (steps.Turn number)) (sym (misuse_of-turn after)) reason;
          suits = suits_turn number after told ended;
          change = changes_turn number after event.entry.change;
          failed = subst (FailsAsListed (disk_after first events)) (sym told_is) (fails_listed at (disk_after first events) ask);
          faults = counted ∙ (ap (λ d. (disk_after_asked d told made).calls.faults) explains.disk ∙ ap (λ (d : Volume). d.calls.faults) (sym (disk_after-push first events event)));
          did = (opened, refl);
          applied = λ is. absurd (not_applied after is);
          worked = of_turn (λ h r. Works first events h r event) works;
          promise = λ handle other task reply turns_it began is.
              of_turn (λ h r. (k : Task) → BegunAs events h r.begun r.store k → (o : Reply) → outcome_of after ≡ outcomes.Reply o → Promise first whole h r.store r.modes r.begun k o)
              (λ k b o told. of_task (λ k. Promise first whole number running.store running.modes running.begun k o) (promised after come o told) k b) handle other turns_it task began reply is;
          in_time = λ handle other task entries turns_it began is most.
              of_turn (λ h r. (k : Task) → BegunAs events h r.begun r.store k → outcome_of after ≡ outcomes.Pending → (n : ℕ) → Most r n → r.turns + 1 < bound_of_task r.store r.modes k n)
              (λ k b told n few. of_task (λ k. running.turns + 1 < bound_of_task running.store running.modes k n) (timed after come told n few) k b) handle other turns_it task began is entries most;
        }

    -- ---- the handle after it

    abbrev pub status_next : Result Reply Work → Status
    status_next (Ok reply) = replied told reply (Working running)
    status_next (Err left) = turned told (Working running)

    matches_rest : (state : HandleParts) → IsHandleOf running.store (modes_after told running.modes) state → (frees : Bool)
        → Matches (if frees then Free else Resting running.store (modes_after told running.modes)) (if frees then None else Some (record { state = state; work = None }))
    matches_rest state own true = tt
    matches_rest state own false = (own, refl)

    pub matches_next : (state : HandleParts) → IsHandleOf running.store (modes_after told running.modes) state → (result : Result Reply Work) → after ≡ result
        → Matches (status_next result) (after_turn state result)
    matches_next state own (Ok reply) is = matches_rest state own (refuses_opening reply)
    matches_next state own (Err left) is = subst (λ r. Matches (come_to told running r) (Some (record { state = state; work = Some left }))) (sym is) (own, refl)

    runs_rest : (frees : Bool) → Runs first whole number (if frees then Free else Resting running.store (modes_after told running.modes))
    runs_rest true = tt
    runs_rest false = tt

    pub runs_next : (result : Result Reply Work) → after ≡ result → WorkNow result → Runs first whole number (status_next result)
    runs_next (Ok reply) is now = runs_rest (refuses_opening reply)
    runs_next (Err left) is now =
        let count : length whole ≡ length events + 1 = length_push events event in
        let begun : running.begun ≤ length events = runs.0 in
        let later : running.begun ≤ length whole = omega (arith, count, begun) in
        subst (λ r. Runs first whole number (come_to told running r)) (sym is) (later, now.0)
