-- What is promised of every run: for every disk, options and list of steps there is one outcome for each step;
-- what is found was held by the store's files, a not-found means that no sound object stayed unchanged throughout, or since the opening
-- where the handle never refreshes its list; a write gives its object its name last and makes only five kinds of changes to the tree,
-- each call ends within its bound, and each error has its cause.
use Rattle.std.specs.Prelude.{◌≡◌, false, ℕ, All, ◌+◌, ◌<◌, List, [], ◌∷◌, ◌++◌, map, length, take, slice_get, Option, Some, Result, Ok, Err}
use Rattle.odb_base.specs.Path.{Path}
use Rattle.odb_disk.specs.Ask.{fails_now}
use Rattle.odb_disk.specs.MemDisk.{Volume}
use Rattle.gix_odb_history.specs.JournalKept.{IsJournal}
use Rattle.gix_odb_core.specs.History.{History}
use Rattle.gix_odb_core.specs.Journal.{entries_of}
use Rattle.gix_odb_events.specs.declared.event.Event.TheVariants as core_events
use Rattle.gix_odb_calls.specs.declared.call.Reply.{Reply}
use Rattle.gix_odb_calls.specs.declared.step.Step.{Step}
use Rattle.gix_odb_calls.specs.declared.step.Step.TheVariants as steps
use Rattle.gix_odb_calls.specs.declared.step.Outcome.{Outcome}
use Rattle.gix_odb_calls.specs.declared.step.Outcome.TheVariants as outcomes
use Rattle.gix_odb_history.specs.declared.record.Did.{Did}
use Rattle.gix_odb_history.specs.declared.record.Run.{Run}
use Rattle.gix_odb_world.specs.Work.{Work}
use Rattle.gix_odb_history.specs.Event.{Asked, OfNothing, OfDisk, OfCore, OfNewCore, Event, answered}
use Rattle.gix_odb_events.specs.declared.answer.Ask.{Ask}
use Rattle.gix_odb_history.specs.Cores.{answer_behind, cores_after, history_at}
use Rattle.gix_odb_history.specs.Entries.{TellsEachEntry}
use Rattle.gix_odb_world.specs.Recorded.{opened_in}
use Rattle.gix_odb_world.specs.RunLaws.{KeepsRunLaws}
use Rattle.gix_odb_world.specs.Seats.{HasSeatThroughout, RegistersOwnThroughout, SnapshotsNeverFall}
use Rattle.gix_odb_world.specs.Status.{Resting, Running, Status, Task, status_of}
pub use Rattle.gix_odb_world.specs.Status.{Turns}
use Rattle.gix_odb_history.specs.Run.{Stand, change_asked, did_asked, did_of_asked, disk_after, has_failed, stand, told_now, tree_at}
use Rattle.gix_odb_world.specs.Begun.{BegunAs, HoldsStore, IsTaskOf, NoneSince, turns_since}
use Rattle.gix_odb_world.specs.Changes.{ChangesAs, ChangesAsAsked}
use Rattle.gix_odb_world.specs.Undisturbed.{WritesStandAlone}
use Rattle.gix_odb_world.specs.WholeNames.{NamesStayWhole}
use Rattle.gix_odb_world.specs.Machines.{ask_in, fed_in}
use Rattle.gix_odb_world.specs.TwoContents.{ShowOneContent}
use Rattle.gix_odb_world.specs.Valid.{IsReason, misuse_of}
use Rattle.gix_odb_world.specs.Asks.{AsksAsTask}
use Rattle.gix_odb_world.specs.Bound.{HasAtMost, bound_of_task}
use Rattle.gix_odb_world.specs.Promise.{Promise}

-- a turn; no other step continues a call
abbrev pub IsTurn : Step → Type 0
IsTurn (steps.Turn handle) = Unit {0}
IsTurn step = ⊥

-- something was asked: a call of the disk, or an event of a core
abbrev pub AsksSomething : Asked → Type 0
AsksSomething OfNothing = ⊥
AsksSomething (OfDisk ask answer) = Unit {0}
AsksSomething (OfCore store seat event answer) = Unit {0}
AsksSomething (OfNewCore slots folders store seat answer) = Unit {0}

-- no call of the disk was made; an event of a core may have been
abbrev pub LeavesDisk : Asked → Type 0
LeavesDisk OfNothing = Unit {0}
LeavesDisk (OfDisk ask answer) = ⊥
LeavesDisk (OfCore store seat event answer) = Unit {0}
LeavesDisk (OfNewCore slots folders store seat answer) = Unit {0}

-- The outcomes that a step may have, and what was asked in it: a turn asks for at most one thing, and asks for one where its call
-- goes on; all other steps make no call of the disk; in misused ones nothing was asked.
abbrev pub Suits : Step → Outcome → Asked → Type 0
Suits step outcomes.Applied asked = (¬ (IsTurn step)) × LeavesDisk asked
Suits step outcomes.Pending asked = IsTurn step × AsksSomething asked
Suits step (outcomes.Reply reply) asked = IsTurn step
Suits step (outcomes.Misuse why) asked = asked ≡ OfNothing

-- a call of the disk fails exactly where its number is listed; the close of a stream has none, and never fails
abbrev pub FailsAsListed : Volume → Asked → Type 0
FailsAsListed disk (OfDisk ask answer) = has_failed answer ≡ fails_now disk ask
FailsAsListed disk asked = Unit {0}

-- A record has the call of the disk that its event made, or the event of a core, or says that it made neither. For a call on an open stream,
-- `asked` of `Works` says which path it has.
abbrev pub TellsAsked : List History → Asked → Did → Type 0
TellsAsked cores asked did = (opened : Option Path) × (did ≡ did_of_asked opened cores asked)

-- What an applied step asks for, by the status of a handle: a close removes its handle from the core of its store, a clone
-- registers its handle there, as one that isn't stable, and no other step asks for anything.
abbrev pub asked_by_close : List History → (handle : ℕ) → Status → Asked
asked_by_close cores handle (Resting store modes) = OfCore modes.core handle core_events.Remove (answer_behind (history_at cores modes.core) handle core_events.Remove)
asked_by_close cores handle status = OfNothing

abbrev pub asked_by_clone : List History → (handle : ℕ) → (parent : Status) → Asked
asked_by_clone cores handle (Resting store modes) =
    OfCore modes.core handle (core_events.Register false) (answer_behind (history_at cores modes.core) handle (core_events.Register false))
asked_by_clone cores handle status = OfNothing

abbrev pub asked_applied : List Event → Step → Asked
asked_applied past (steps.Clone handle from) = asked_by_clone (cores_after past) handle (status_of past from)
asked_applied past (steps.Close handle) = asked_by_close (cores_after past) handle (status_of past handle)
asked_applied past step = OfNothing

-- only a turn asks for something else
abbrev pub AsksAsApplied : List Event → Event → Type 0
AsksAsApplied past e = e.outcome ≡ outcomes.Applied → e.asked ≡ asked_applied past e.step

-- the outcome of a turn, by the reply or the work that is left
abbrev pub outcome_of : Result Reply Work → Outcome
outcome_of (Ok reply) = outcomes.Reply reply
outcome_of (Err work) = outcomes.Pending

-- the stand of a handle at this work: its seat at the core of its store has its number
abbrev pub stand_of : List Event → (handle : ℕ) → Running → Stand
stand_of past handle running = stand (cores_after past) running.modes.core handle

-- A turn carries out the one thing that its work asks for at its stage, a call of the disk or an event of a core, if it asks for any.
-- Its outcome is the reply where the work is done after the answer, and else that the work goes on.
pub record Works (first : Volume) (past : List Event) (handle : ℕ) (running : Running) (e : Event) : Type 0 where
  -- the step that began the work set its task, and is the latest of its handle that set one
  pub begins : BegunAs past handle running.begun running.store running.task
  pub latest : NoneSince (IsTaskOf handle) past running.begun
  -- its number of turns counts all that its handle took since
  pub counted : running.turns ≡ turns_since past handle running.begun
  -- its store is that of the latest open or clone step of its handle, and the modes of its handle are those that the steps since then set
  pub opened : HoldsStore past handle running.store running.modes
  -- what it asks for, which the event has with its answer
  pub ask : Option Ask
  pub asks : ask_in running.store running.work ≡ ask
  -- which is the one of this turn of the task: what its order of work asks for after all answers to its handle since the task was set
  pub in_order : AsksAsTask first past handle running.store running.modes running.begun running.turns running.task ask
  pub asked : e.entry.did ≡ did_asked (opened_in running.work) (stand_of past handle running) (disk_after first past) ask
  pub told : e.asked ≡ told_now (stand_of past handle running) (disk_after first past) ask
  pub goes : e.outcome ≡ outcome_of (fed_in running.store running.work (answered e.asked))
  -- the change of the record is that of the call
  pub changed : e.entry.change ≡ change_asked (disk_after first past) ask
  pub five : ChangesAsAsked first past handle running.store running.begun running.task ask e.entry.change

-- What an event may be, by those before it.
pub record Law (first : Volume) (past : List Event) (e : Event) : Type 0 where
  -- it is misused exactly where the step isn't valid, with the first reason
  pub valid : IsReason first past e.step (misuse_of e.outcome)
  pub suits : Suits e.step e.outcome e.asked
  pub change : ChangesAs e.step e.outcome e.entry.change
  pub failed : FailsAsListed (disk_after first past) e.asked
  -- the record has the disk's count of faults after the step
  pub faults : e.entry.faults ≡ (disk_after first (past ++ e ∷ [])).calls.faults
  -- the record has the call of the disk, or the event of a core, that the event made, and no other event made one
  pub did : TellsAsked (cores_after past) e.asked e.entry.did
  -- a close and a clone make their events of a core, and no other step that isn't a turn makes one
  pub applied : AsksAsApplied past e
  -- a turn does what the order of work says
  pub worked : (handle : ℕ) (running : Running) → Turns past e handle running → Works first past handle running e
  -- a reply keeps its promise, which is that of the task that the step `begun` set
  pub promise : (handle : ℕ) (running : Running) (task : Task) (reply : Reply) → Turns past e handle running
      → BegunAs past handle running.begun running.store task
      → e.outcome ≡ outcomes.Reply reply → Promise first (past ++ e ∷ []) handle running.store running.modes running.begun task reply
  -- a call that goes on has had fewer turns than its bound
  pub in_time : (handle : ℕ) (running : Running) (task : Task) (entries : ℕ) → Turns past e handle running
      → BegunAs past handle running.begun running.store task
      → e.outcome ≡ outcomes.Pending → HasAtMost (tree_at first (past ++ e ∷ [])) running.store.parts running.begun (length past + 1) entries
      → running.turns + 1 < bound_of_task running.store running.modes task entries

-- each event is lawful after those before it
abbrev pub IsLawful : Volume → List Event → Type 0
IsLawful first events = (place : ℕ) (e : Event) → slice_get events place ≡ Some e → Law first (take place events) e

-- A run is the result of these events.
pub record IsRun (first : Volume) (events : List Event) (run : Run) : Type 0 where
  -- one outcome and one record for each event
  pub outcomes_are : map (λ e. e.outcome) events ≡ run.outcomes
  pub records_are : map (λ e. e.entry) events ≡ run.records
  -- each event is lawful after those before it
  pub lawful : IsLawful first events
  -- the disk handed back has the last state and the counts that the records give
  pub disk : run.disk ≡ disk_after first events
  -- the journals handed back are those of the cores after these events, of which each is a journal
  pub journals_are : map entries_of run.journals ≡ map (λ (h : History). h.entries) (cores_after events)
  pub journals : All IsJournal (cores_after events)
  -- the records that have an event of a store's core name the entries of its journal, in order and each once
  pub entries : TellsEachEntry (cores_after events) run.records
  -- after each of the events each handle of an open store is registered at the core of its store, and its snapshot is the one that the
  -- core's journal has; and nothing else is registered at a core
  pub seats : HasSeatThroughout events
  pub registers_own : RegistersOwnThroughout events
  -- a handle's snapshot is never older than an earlier one that it had from the same core
  pub snapshots : SnapshotsNeverFall events
  -- from the first open step on that names a folder, no path of an index or of a pack there shows two contents, and its multi-pack index shows no two
  -- at one time
  pub contents : ShowOneContent first events
  -- where the run is undisturbed, no write touches the temporary file of another, and a name that a write made stays whole
  pub alone : WritesStandAlone first events
  pub names : NamesStayWhole first events
  -- how finds, listings and the core's events end, when a task ends, and that nothing reports that memory ran out
  pub laws : KeepsRunLaws first events

-- The theorem about a run of steps from a disk.
pub record Headline (first : Volume) (steps : List Step) (run : Run) : Type 0 where
  pub events : List Event
  pub steps_are : map (λ e. e.step) events ≡ steps
  pub is_run : IsRun first events run
