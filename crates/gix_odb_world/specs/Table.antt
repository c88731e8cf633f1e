-- What the code of a world does with its table of handles and its lists. No public clause cites this.
use Rattle.std.specs.Prelude.{◌≡◌, ℕ, ◌<◌, ◌≤◌, ◌==◌, length, true, [], ◌∷◌, ◌++◌, List, Vec, Option, Some, None, Result, Ok, Err, IsSome, if◌then◌else◌}
use Rattle.std.specs.Option.{option_map}
use Rattle.std.specs.declared.alloc.Global.{Global}
use Rattle.odb_base.specs.Path.{Path}
use Rattle.odb_disk.specs.Ask.{answer_now}
use Rattle.odb_disk.specs.Tree.{IsTree, Tree, tree_of}
use Rattle.odb_disk.specs.MemDisk.{Volume}
use Rattle.odb_disk.specs.declared.ask.DiskAsk.{DiskAsk}
use Rattle.odb_disk.specs.declared.change.Change.{Change}
use Rattle.gix_hash.specs.declared.kind.Kind.{Kind as HashKind}
use Rattle.gix_odb_calls.specs.declared.call.Reply.{Reply}
use Rattle.gix_odb_calls.specs.declared.step.Step.{Step}
use Rattle.gix_odb_calls.specs.declared.step.Step.TheVariants as steps
use Rattle.gix_odb_calls.specs.declared.step.Outcome.{Outcome}
use Rattle.gix_odb_calls.specs.declared.step.Why.{Why}
use Rattle.gix_odb_history.specs.declared.record.Did.{Did}
use Rattle.gix_odb_world.specs.Handle.{HandleParts, Seen, seen}
use Rattle.gix_odb_world.specs.declared.handle.Handle.{Handle}
use Rattle.gix_odb_world.specs.declared.handle.HandleAt.{HandleAt}
use Rattle.gix_odb_world.specs.declared.handle.HandleAt.TheVariants as stands
use Rattle.gix_odb.specs.declared.call_state.CallState.{CallState}
use Rattle.gix_odb_calls.specs.declared.call.Reply.TheVariants as replies
use Rattle.gix_odb_world.specs.Work.{Work}
use Rattle.gix_odb_core.specs.History.{History, present}
use Rattle.gix_odb_core.specs.Replay.{CanHappen}
use Rattle.gix_odb_events.specs.Answers.{view_in}
use Rattle.gix_odb_events.specs.declared.answer.Answer.TheVariants as told
use Rattle.gix_odb_events.specs.declared.answer.Ask.{Ask}
use Rattle.gix_odb_events.specs.declared.answer.Ask.TheVariants as asks
use Rattle.gix_odb.specs.LookExchanges.{IsAnswerTo}
use Rattle.gix_odb.specs.LookUpOrder.{view_of}
use Rattle.gix_odb.specs.declared.open_state.OpenStage.TheVariants as opens
use Rattle.gix_odb.specs.declared.refresh_mode.RefreshMode.TheVariants.{Never}
use Rattle.gix_odb_world.specs.Work.{Opening}
use Rattle.gix_odb_world.specs.declared.turn.Carried.{Carried as Done}
use Rattle.gix_odb_world.specs.declared.turn.Told.{Told}
use Rattle.gix_odb_world.specs.declared.turn.Turned.{Turned}
use Rattle.gix_odb_world.specs.declared.turn.Told.TheVariants as tells
use Rattle.gix_odb_watch.specs.Kept.{Fits, Kept}
use Rattle.gix_odb_watch.specs.declared.revealed.Revealed.{Revealed}
use Rattle.gix_odb_history.specs.Cores.{answer_behind, cores_after_asked, history_at, or_before, registered_at}
use Rattle.gix_odb_history.specs.Event.{Asked, CoreAnswer, CoreEvent, OfCore, OfDisk, OfNewCore, OfNothing, answered}
use Rattle.gix_odb_events.specs.PackId.{most_slots}
use Rattle.gix_odb_events.specs.declared.view.View.{View}
use Rattle.gix_odb_history.specs.Made.{first_answer}
use Rattle.gix_odb_world.specs.Recorded.{opened_in}
use Rattle.gix_odb_history.specs.Run.{change_asked, did_of, did_of_asked, disk_after_asked, stand, told_now}
use Rattle.gix_odb_world.specs.Status.{after_reply}
use Rattle.gix_odb_world.specs.WorkOrder.{ask_on, fed_after, fed_on, result_in}
use Rattle.gix_odb_world.specs.declared.course.Course.{Course}
use Rattle.gix_odb_world.specs.Headline.{outcome_of}
use Rattle.gix_odb_world.specs.World.{handle_at, stored_at}
use Rattle.gix_odb_world.specs.Watch.{NotesMade, ShowsSecondBy, TellsChange}
use Rattle.gix_odb_world.specs.Valid.{Phase, NoneThere, Idle, Running, is_openable, IsFirstReason, why_not_change, why_not_idle, why_not_open, why_not_running, why_not_clone, why_not_start}

abbrev pub phase_of_work : HashKind → Option Work → Phase
phase_of_work hash None = Idle hash
phase_of_work hash (Some work) = Running

-- what matters for validity of a handle of the code
abbrev pub phase_of_handle : Option Seen → Phase
phase_of_handle None = NoneThere
phase_of_handle (Some handle) = phase_of_work handle.state.info.object_hash handle.work

-- what matters for validity of the handle of a world that has a number
abbrev pub phase_now : Course → (number : ℕ) → Phase
phase_now world number = phase_of_handle (handle_at world number)

-- the first reason why a step isn't valid, by the world's own table and disk, without the rule of two contents
abbrev pub why_not_now : Course → Step → Option Why
why_not_now world (steps.Open handle path folders hash replacements options) = why_not_open (phase_now world handle) (is_openable path folders hash replacements options.max_changes)
why_not_now world (steps.Clone handle from) = why_not_clone (phase_now world handle) (phase_now world from)
why_not_now world (steps.Close handle) = why_not_idle (phase_now world handle)
why_not_now world (steps.Never handle) = why_not_idle (phase_now world handle)
why_not_now world (steps.Ignore handle) = why_not_idle (phase_now world handle)
why_not_now world (steps.Start handle call) = why_not_start (phase_now world handle) call
why_not_now world (steps.Turn handle) = why_not_running (phase_now world handle)
why_not_now world (steps.Disk change) = why_not_change world.disk change

-- the change that the turn of a handle would make, by what its code asks for
abbrev pub change_by_work : Volume → HandleParts → Option Work → Option Change
change_by_work disk state None = None
change_by_work disk state (Some work) = change_asked disk (ask_on state work)

abbrev pub change_by_handle : Volume → Option Seen → Option Change
change_by_handle disk None = None
change_by_handle disk (Some handle) = change_by_work disk handle.state handle.work

-- what the work of a handle asks for, if it is at work and asks for anything
abbrev pub ask_by_work : HandleParts → Option Work → Option Ask
ask_by_work state None = None
ask_by_work state (Some work) = ask_on state work

abbrev pub ask_by_handle : Option Seen → Option Ask
ask_by_handle None = None
ask_by_handle (Some handle) = ask_by_work handle.state handle.work

-- the change that a step would make, by the world's own table and disk
abbrev pub would_change_now : Course → Step → Option Change
would_change_now world (steps.Disk change) = Some change
would_change_now world (steps.Turn handle) = change_by_handle world.disk (handle_at world handle)
would_change_now world step = None

-- This is the first reason why a step isn't valid, or there is none, by the world's own table and disk, and by what it keeps of watched
-- paths.
abbrev pub IsReasonNow : Course → Step → Option Why → Type 0
IsReasonNow world step why = IsFirstReason (why_not_now world step) (ShowsSecondBy world.shown (tree_of world.disk.state) (would_change_now world step)) why

-- a handle with other work
abbrev pub with_work : Option Work → Option Seen → Option Seen
with_work work None = None
with_work work (Some handle) = Some (record handle { work = work })

-- a handle on which a call begins
abbrev pub calling_handle : CallState → Handle → Handle
calling_handle call handle = record handle { at = stands.Calling call }

abbrev pub with_call : CallState → Option Handle → Option Handle
with_call call None = None
with_call call (Some handle) = Some (calling_handle call handle)

-- a handle that never refreshes its list, if it is at rest
abbrev pub frozen_at : HandleAt → HandleAt
frozen_at (stands.Opening opening) = stands.Opening opening
frozen_at (stands.Resting state) = stands.Resting (record state { refresh = Never })
frozen_at (stands.Calling call) = stands.Calling call

abbrev pub frozen_handle : Handle → Handle
frozen_handle handle = record handle { at = frozen_at handle.at }

-- the handle as proofs see it never refreshes its list, if it is at rest
abbrev pub seen_frozen : Option Seen → Option Seen
seen_frozen None = None
seen_frozen (Some handle) = Some (record handle { state = record handle.state { refresh = Never } })

abbrev pub with_frozen : Option Handle → Option Handle
with_frozen None = None
with_frozen (Some handle) = Some (frozen_handle handle)

-- a handle that ignores replacements, if it is at rest
abbrev pub ignoring_at : HandleAt → HandleAt
ignoring_at (stands.Opening opening) = stands.Opening opening
ignoring_at (stands.Resting state) = stands.Resting (record state { ignore_replacements = true })
ignoring_at (stands.Calling call) = stands.Calling call

abbrev pub ignoring_handle : Handle → Handle
ignoring_handle handle = record handle { at = ignoring_at handle.at }

-- the handle as proofs see it ignores replacements, if it is at rest
abbrev pub seen_ignoring : Option Seen → Option Seen
seen_ignoring None = None
seen_ignoring (Some handle) = Some (record handle { state = record handle.state { ignoring = true } })

abbrev pub with_ignoring : Option Handle → Option Handle
with_ignoring None = None
with_ignoring (Some handle) = Some (ignoring_handle handle)

-- another handle at rest on the store of one, with its modes and a snapshot of its own
abbrev pub shared_with : View → Option Seen → Option Seen
shared_with view None = None
shared_with view (Some parent) = Some (record { state = record parent.state { view = Some view }; work = None })

-- a handle at rest
abbrev pub at_rest : HandleParts → Option Seen
at_rest state = Some (record { state = state; work = None })

-- a handle after its turn, by the reply or the work that is left
abbrev pub after_turn : HandleParts → Result Reply Work → Option Seen
after_turn state (Ok reply) = after_reply None (at_rest state) reply
after_turn state (Err work) = Some (record { state = state; work = Some work })

-- the world differs from another in the handle that has a number, and in nothing else
pub record SetsHandle (old new : Course) (number : ℕ) (handle : Option Seen) : Type 0 where
  pub table : (other : ℕ) → handle_at new other ≡ (if other == number then handle else handle_at old other)
  pub disk : new.disk ≡ old.disk
  pub cores : new.cores ≡ old.cores
  pub shown : new.shown ≡ old.shown
  pub outcomes : new.outcomes ≡ old.outcomes
  pub records : new.records ≡ old.records

-- the handles in the table differ from others in the one that has a number, and in nothing else
pub record PutsHandle (old new : Course) (number : ℕ) (handle : Option Handle) : Type 0 where
  pub table : (other : ℕ) → stored_at new other ≡ (if other == number then handle else stored_at old other)
  pub disk : new.disk ≡ old.disk
  pub cores : new.cores ≡ old.cores
  pub shown : new.shown ≡ old.shown
  pub outcomes : new.outcomes ≡ old.outcomes
  pub records : new.records ≡ old.records

-- the world has one more outcome and one more record, with its disk's count of faults, and differs in nothing else
pub record Notes (old new : Course) (outcome : Outcome) (did : Did) (change : Option Change) : Type 0 where
  pub outcomes : new.outcomes ≡ old.outcomes ++ outcome ∷ []
  pub records : new.records ≡ old.records ++ record { did = did; change = change; faults = old.disk.calls.faults } ∷ []
  pub disk : new.disk ≡ old.disk
  pub cores : new.cores ≡ old.cores
  pub shown : new.shown ≡ old.shown
  pub handles : new.handles ≡ old.handles

-- a turn is settled: its handle is put back, and its outcome and its record are added
pub record Settles (old new : Course) (number : ℕ) (handle : Option Seen) (outcome : Outcome) (did : Did) (change : Option Change) : Type 0 where
  pub mid : Course
  pub sets : SetsHandle old mid number handle
  pub notes : Notes mid new outcome did change

-- the world has one more outcome than another
abbrev pub HasOneMore : Course → Course → Type 0
HasOneMore old new = (outcome : Outcome) × (new.outcomes ≡ old.outcomes ++ outcome ∷ [])

-- what a turn did whose work made this call of the disk, on a stream that was opened with a path if it is on one
abbrev pub did_now : (opened : Option Path) → Volume → DiskAsk → Did
did_now opened disk ask = did_of opened ask (answer_now disk ask)

-- the handle after a view was passed to it, if one was
abbrev pub seeing : HandleParts → Option View → HandleParts
seeing state view = record state { view = or_before view state.view }

-- the handle after a turn that asked this
abbrev pub state_after : Asked → HandleParts → HandleParts
state_after OfNothing state = state
state_after (OfDisk ask answer) state = state
state_after (OfCore store seat event answer) state = seeing state (view_in answer)
state_after (OfNewCore slots folders store seat answer) state = record state { core = store; view = or_before (view_in answer) state.view }

-- what a turn of a handle that has a seat asked, with the answer
abbrev pub told_in : List History → Volume → (seat : ℕ) → HandleParts → Work → Asked
told_in cores disk seat state work = told_now (stand cores state.core seat) disk (ask_on state work)

-- the directory of the open stream that the work of a handle reads, if it is at work
abbrev pub opened_by : Option Work → Option Path
opened_by None = None
opened_by (Some work) = opened_in work

-- An event that work asks for can happen at the core of its handle's store, which is there, and at which the handle is registered; and a core may
-- have as many slots as work asks for.
abbrev pub CanHappenAt : List History → (seat : ℕ) → HandleParts → Option Ask → Type 0
CanHappenAt cores seat state None = Unit {0}
CanHappenAt cores seat state (Some (asks.Disk ask)) = Unit {0}
CanHappenAt cores seat state (Some (asks.Core event)) =
    (state.core < length cores) × CanHappen (present (history_at cores state.core)) seat event × IsSome (registered_at cores state.core seat)
CanHappenAt cores seat state (Some (asks.NewCore slots folders)) = slots ≤ most_slots

-- what the event of the core of a handle's store answers
abbrev pub own_answer : List History → (seat : ℕ) → HandleParts → CoreEvent → CoreAnswer
own_answer cores seat state event = answer_behind (history_at cores state.core) seat event

-- a core with so many slots and folders is made, at which the handle of a seat is registered
abbrev pub new_core : List History → (slots folders seat : ℕ) → Asked
new_core cores slots folders seat = OfNewCore slots folders (length cores) seat (first_answer slots folders seat)

-- ---- what a handle is fed

-- it is fed that a core was made with so many slots, with its number, and the view that its registration there passed to it
abbrev pub TellsCore : (number slots : ℕ) → CoreAnswer → Told → Type 0
TellsCore number slots answer (tells.Core own_number own_slots view) = (own_number ≡ number) × (own_slots ≡ slots) × (view_in answer ≡ Some view)
TellsCore number slots answer own = ⊥

-- what a handle is fed in a turn that asked this
abbrev pub IsTold : Asked → Told → Type 0
IsTold OfNothing own = own ≡ tells.Nothing
IsTold (OfDisk ask answer) own = own ≡ tells.Answer (told.Disk answer)
IsTold (OfCore store seat event answer) own = own ≡ tells.Answer (told.Core answer)
IsTold (OfNewCore slots folders store seat answer) own = TellsCore store slots answer own

-- it suits what was asked for
abbrev pub IsToldTo : Option Ask → Told → Type 0
IsToldTo None own = own ≡ tells.Nothing
IsToldTo (Some (asks.Disk ask)) (tells.Answer answer) = IsAnswerTo (asks.Disk ask) answer
IsToldTo (Some (asks.Core event)) (tells.Answer answer) = IsAnswerTo (asks.Core event) answer
IsToldTo (Some (asks.NewCore slots folders)) (tells.Core number own_slots view) = own_slots ≡ slots
IsToldTo ask own = ⊥

-- what a handle has after it is fed this
abbrev pub state_told : HandleParts → Told → HandleParts
state_told state tells.Nothing = state
state_told state (tells.Answer answer) = seeing state (view_of answer)
state_told state (tells.Core number slots view) = record state { core = number; view = Some view }

-- and the work that it is at: an opening that is fed its core has opened its store
abbrev pub work_told : HandleParts → Work → Told → Work
work_told state work tells.Nothing = work
work_told state work (tells.Answer answer) = fed_on state work answer
work_told state work (tells.Core number slots view) = Opening (opens.Done (replies.Opened slots))

-- a handle is under way: it is at a call, or at an opening that isn't done
abbrev pub IsUnderWay : Option Work → Type 0
IsUnderWay None = ⊥
IsUnderWay (Some (Opening (opens.Done reply))) = ⊥
IsUnderWay (Some work) = Unit {0}

-- ---- a turn

-- A turn that asked this was carried out, on the disk and on the cores; its handle is fed the answer.
pub record CarriesOut (disk disk_then : Volume) (cores cores_then : List History) (opened : Option Path) (ask : Option Ask) (asked : Asked) (done : Done) : Type 0 where
  pub did : done.did ≡ did_of_asked opened cores asked
  pub told_is : IsTold asked done.told
  pub suits : IsToldTo ask done.told
  pub disk_is : disk_then ≡ disk_after_asked disk asked (change_asked disk ask)
  pub cores_are : cores_then ≡ cores_after_asked cores asked

-- the result of a turn in which a handle that has this, and is at this work, is fed this
pub record IsTurned (state : HandleParts) (work : Work) (own : Told) (turned : Turned) : Type 0 where
  pub outcome : turned.outcome ≡ outcome_of (result_in (work_told state work own))
  pub handle : option_map seen turned.handle ≡ after_turn (state_told state own) (result_in (work_told state work own))

abbrev pub TurnsHandle : Seen → Told → Turned → Type 0
TurnsHandle handle own turned = (work : Work) → handle.work ≡ Some work → IsTurned handle.state work own turned

-- The result of a turn, as the history has it: what it did, the change that it made, and what its handle has and is at then.
pub record Carried : Type 0 where
  pub did : Did
  pub change : Option Change
  pub state : HandleParts
  pub work : Work

-- A turn that asked this was carried out, on the disk and on the cores, and fed.
pub record Carries (disk disk_then : Volume) (cores cores_then : List History) (state : HandleParts) (work : Work) (asked : Asked) (done : Carried) : Type 0 where
  pub did : done.did ≡ did_of_asked (opened_in work) cores asked
  pub change : done.change ≡ change_asked disk (ask_on state work)
  pub state_is : done.state ≡ state_after asked state
  pub work_is : done.work ≡ fed_after state work (answered asked)
  pub disk_is : disk_then ≡ disk_after_asked disk asked (change_asked disk (ask_on state work))
  pub cores_are : cores_then ≡ cores_after_asked cores asked

-- A turn was settled after its change was judged: what is kept of watched paths is kept by then.
pub record KeepsTurn (old new : Course) (number : ℕ) (handle : Option Seen) (outcome : Outcome) (did : Did) (change : Option Change) (revealed : Option Revealed) : Type 0 where
  pub shown : Kept
  pub keeps : (tree : Tree) → Fits old.shown tree → TellsChange old.shown.folders tree change revealed → (ShowsSecondBy old.shown tree change → ⊥)
      → NotesMade old.shown tree change shown
  pub settles : Settles (record old { shown = shown }) new number handle outcome did change

-- a handle was fed the answer of its turn, and the turn was settled
pub record FeedsTurn (old new : Course) (number : ℕ) (handle : Seen) (done : Done) (change : Option Change) (revealed : Option Revealed) : Type 0 where
  pub turned : Turned
  pub turns : TurnsHandle handle done.told turned
  pub keeps : KeepsTurn old new number (option_map seen turned.handle) turned.outcome done.did change revealed

-- the work of a handle that was out of the table was carried out, and its turn settled
pub record TakesTurn (old new : Course) (number : ℕ) (state : HandleParts) (work : Work) (revealed : Option Revealed) : Type 0 where
  pub disk : Volume
  pub cores : Vec History Global
  pub done : Carried
  pub tree : IsTree (tree_of old.disk.state)
  pub carries : Carries old.disk disk old.cores.items cores.items state work (told_in old.cores.items old.disk number state work) done
  pub keeps : KeepsTurn (record old { disk = disk; cores = cores }) new number (after_turn done.state (result_in done.work)) (outcome_of (result_in done.work)) done.did done.change revealed

abbrev pub TakesTurnOf : (old new : Course) → (number : ℕ) → Seen → Option Revealed → Type 0
TakesTurnOf old new number handle revealed = (work : Work) → handle.work ≡ Some work → TakesTurn old new number handle.state work revealed
