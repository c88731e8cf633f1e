-- The disk and its states over a run: state 0 is the given one, and each event takes the disk one step on.
use Rattle.std.specs.Prelude.{◌≡◌, ℕ, ◌≤◌, Bool, true, false, List, [], fold, length, take, slice_get, Option, Some, None, if◌then◌else◌}
use Rattle.odb_base.specs.Path.{Path}
use Rattle.odb_disk.specs.Tree.{Tree, tree_of}
use Rattle.odb_disk.specs.Tree.Write.{written}
use Rattle.odb_disk.specs.Ask.{after_ask, answer_now, change_of_ask, fails_now, op_of}
use Rattle.odb_disk.specs.MemDisk.{Volume, after_outside_change}
use Rattle.odb_disk.specs.declared.ask.DiskAnswer.{DiskAnswer}
use Rattle.odb_disk.specs.declared.ask.DiskAnswer.TheVariants as answers
use Rattle.odb_disk.specs.declared.ask.DiskAsk.{DiskAsk}
use Rattle.odb_disk.specs.declared.change.Change.{Change}
use Rattle.odb_disk.specs.declared.disk_error.DiskError.TheVariants as disk_errors
use Rattle.gix_odb_history.specs.PathRecorded.{path_recorded}
use Rattle.gix_odb_history.specs.declared.record.Did.{Did}
use Rattle.gix_odb_history.specs.declared.record.Did.TheVariants.{Nothing, Disk, Core}
use Rattle.gix_odb_calls.specs.declared.step.Step.TheVariants as steps
use Rattle.gix_odb_core.specs.History.{History, opened}
use Rattle.gix_odb_core.specs.Replay.{number_behind}
use Rattle.gix_odb_events.specs.declared.answer.Ask.{Ask}
use Rattle.gix_odb_events.specs.declared.answer.Ask.TheVariants as asks
use Rattle.gix_odb_events.specs.declared.event.Event.TheVariants as core_events
use Rattle.gix_odb_history.specs.Cores.{answer_behind, history_at}
use Rattle.gix_odb_history.specs.Event.{Asked, OfNothing, OfDisk, OfCore, OfNewCore, Event}
use Rattle.gix_odb_history.specs.Turned.{is_done}

abbrev pub disk_after_change : Volume → Option Change → Volume
disk_after_change disk None = disk
disk_after_change disk (Some change) = after_outside_change disk change

-- The disk after a call of it: with the call's counts and streams, and the change. A change without a call is another
-- program's.
abbrev pub disk_after_asked : Volume → Asked → Option Change → Volume
disk_after_asked disk OfNothing change = disk_after_change disk change
disk_after_asked disk (OfDisk ask answer) change = record (after_ask disk ask) { state = written disk.state change }
disk_after_asked disk (OfCore store seat event answer) change = disk_after_change disk change
disk_after_asked disk (OfNewCore slots folders store seat answer) change = disk_after_change disk change

-- the disk after an event: after its ask, with the change of its record
abbrev pub disk_after_event : Volume → Event → Volume
disk_after_event disk e = disk_after_asked disk e.asked e.entry.change

-- the change that a call of the disk makes: none if it fails or is refused
abbrev pub change_by : Volume → DiskAsk → Option Change
change_by disk ask = if fails_now disk ask then None else change_of_ask (tree_of disk.state) ask

-- whether a call of the disk failed, by its answer
abbrev pub has_failed : DiskAnswer → Bool
has_failed (answers.Refused disk_errors.Failed) = true
has_failed answer = false

-- the record of a call of the disk; `opened` is the path with which its stream was opened, if it is on one
abbrev pub did_of : (opened : Option Path) → DiskAsk → DiskAnswer → Did
did_of opened ask answer = Disk (op_of ask) (path_recorded opened ask) (has_failed answer)

-- The record of an event with this ask, at these cores: a call of the disk, or the number of a store and of the entry in its
-- journal.
abbrev pub did_of_asked : (opened : Option Path) → List History → Asked → Did
did_of_asked opened cores OfNothing = Nothing
did_of_asked opened cores (OfDisk ask answer) = did_of opened ask answer
did_of_asked opened cores (OfCore store seat event answer) = Core store (number_behind (history_at cores store).entries)
did_of_asked opened cores (OfNewCore slots folders store seat answer) = Core store (number_behind [])

-- The cores of a run, and the position of a handle in them: its store's number, and its own, which is its seat.
pub record Stand : Type 0 where
  pub cores : List History
  pub store : ℕ
  pub seat : ℕ

abbrev pub stand : List History → (store seat : ℕ) → Stand
stand cores store seat = record { cores = cores; store = store; seat = seat }

-- The ask of an event with its answer, by the position of its handle: a call of the disk has the answer that the disk gives
-- then, and an event of a core the one that the event gives after the core's history. A new core has the next number.
abbrev pub told_now : Stand → Volume → Option Ask → Asked
told_now at disk None = OfNothing
told_now at disk (Some (asks.Disk ask)) = OfDisk ask (answer_now disk ask)
told_now at disk (Some (asks.Core event)) = OfCore at.store at.seat event (answer_behind (history_at at.cores at.store) at.seat event)
told_now at disk (Some (asks.NewCore slots folders)) =
    OfNewCore slots folders (length at.cores) at.seat (answer_behind (opened slots folders 0 0) at.seat (core_events.Register false))

-- the record of this ask: a call of the disk fails if its number is listed
abbrev pub did_asked : (opened : Option Path) → Stand → Volume → Option Ask → Did
did_asked opened at disk None = Nothing
did_asked opened at disk (Some (asks.Disk ask)) = Disk (op_of ask) (path_recorded opened ask) (fails_now disk ask)
did_asked opened at disk (Some (asks.Core event)) = Core at.store (number_behind (history_at at.cores at.store).entries)
did_asked opened at disk (Some (asks.NewCore slots folders)) = Core (length at.cores) (number_behind [])

-- a record is that of a call of the disk, whatever stream it is on
abbrev pub TellsCall : Volume → DiskAsk → Did → Type 0
TellsCall disk ask did = (opened : Option Path) × (did ≡ Disk (op_of ask) (path_recorded opened ask) (fails_now disk ask))

-- the change that this ask makes: only a call of the disk makes one
abbrev pub change_asked : Volume → Option Ask → Option Change
change_asked disk None = None
change_asked disk (Some (asks.Disk ask)) = change_by disk ask
change_asked disk (Some (asks.Core event)) = None
change_asked disk (Some (asks.NewCore slots folders)) = None

-- the disk after all events
unfoldable pub disk_after : Volume → List Event → Volume
disk_after first events = fold disk_after_event first events

-- the tree after the first n events
abbrev pub tree_at : Volume → List Event → ℕ → Tree
tree_at first events number = tree_of (disk_after first (take number events)).state

-- an event is a turn of the handle, and not an invalid one
pub record IsTurnOf (handle : ℕ) (e : Event) : Type 0 where
  pub step : e.step ≡ steps.Turn handle
  pub done : is_done e.outcome ≡ true

abbrev pub Fails : Did → Type 0
Fails Nothing = ⊥
Fails (Disk op path failed) = failed ≡ true
Fails (Core store entry) = ⊥

-- not a call of the disk
abbrev pub NoCall : Did → Type 0
NoCall Nothing = Unit {0}
NoCall (Disk op path failed) = ⊥
NoCall (Core store entry) = Unit {0}

-- the event that has a number is a turn of the handle in which a call of the disk failed
pub record FailedAt (events : List Event) (handle number : ℕ) : Type 0 where
  pub event : Event
  pub there : slice_get events number ≡ Some event
  pub turn : IsTurnOf handle event
  pub failed : Fails event.entry.did

-- a call of the disk failed in a turn of the handle, after the step that began its call. (Events are numbered from 1, so the
-- events after that step are those from place `begun` on.)
pub record FailedSince (events : List Event) (handle begun : ℕ) : Type 0 where
  pub place : ℕ
  pub later : begun ≤ place
  pub at : FailedAt events handle place
