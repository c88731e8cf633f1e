-- What a machine has to show, so that a handle may be at it. The laws are no fields of the machine: they speak of statuses and promises,
-- which are folded by the machines and so are defined above them.
use Rattle.std.proofs.Common.{◌≡◌, ◌⊎◌, ℕ, ◌+◌, ◌<◌, ◌≤◌, List, [], ◌∷◌, ◌++◌, length, Option, Some, None, Result, Ok, Err, refl, sym, ◌∙◌, subst}
use Rattle.odb_disk.specs.MemDisk.{Volume}
use Rattle.odb_disk.specs.Tree.{IsTree, tree_of}
use Rattle.odb_disk.specs.declared.ask.DiskAsk.{DiskAsk}
use Rattle.odb_disk.specs.declared.ask.DiskAnswer.{DiskAnswer}
use Rattle.gix_odb.specs.CallOrder.{HasSize, IsOfHash, result_of_write}
use Rattle.gix_odb.specs.Contents.{folder_list, replacement_in}
use Rattle.gix_odb_calls.specs.declared.call.Call.{Call}
use Rattle.gix_odb_events.specs.PackFiles.{same_path}
use Rattle.gix_hash.specs.ObjectId.{kind_of}
use Rattle.gix_hash.specs.declared.object_id.ObjectId.{ObjectId}
use Rattle.std.specs.List.{IsDistinct}
use Rattle.gix_odb_calls.specs.declared.call.Reply.{Reply}
use Rattle.gix_odb_core.specs.Replay.{CanHappen}
use Rattle.gix_odb_core.specs.declared.shape.Shape.{Shape}
use Rattle.gix_odb_world.specs.Handle.{HandleParts, IsHandleOf}
use Rattle.gix_odb_loose.specs.LooseOrder.{disk_ask_of}
use Rattle.gix_odb_loose.specs.LooseOrder as loose_order
use Rattle.gix_odb_loose.specs.declared.call.LooseCall.{LooseCall}
use Rattle.gix_odb_loose.specs.declared.write_order.WriteStage.TheVariants.{Making}
use Rattle.gix_odb_world.specs.Work.{Work}
use Rattle.gix_odb_world.specs.Asks.{AsksInOrder, MayAskCore, MayAskNewCore, MayEndUnasked}
use Rattle.gix_odb_world.specs.Bound.{HasAtMost, bound_of_task}
use Rattle.gix_odb_history.specs.Cores.{cores_after}
use Rattle.gix_odb_world.specs.Seats.{IsSeated}
use Rattle.gix_odb_world.specs.Changes.{ChangesInTask}
use Rattle.gix_odb_history.specs.Event.{Asked, CoreEvent, Event, answered}
use Rattle.gix_odb_events.specs.declared.answer.Answer.{Answer}
use Rattle.gix_odb_events.specs.declared.answer.Ask.{Ask}
use Rattle.gix_odb_events.specs.declared.answer.Ask.TheVariants as work_asks
use Rattle.gix_odb_events.specs.declared.answer.Answer.TheVariants as given
use Rattle.gix_odb.specs.CallOrder.{loose_ask}
use Rattle.gix_odb_world.specs.Headline.{IsLawful, stand_of}
use Rattle.gix_odb_world.specs.Machine.{At, Machine, placed}
use Rattle.gix_odb_world.specs.Machines.{at}
use Rattle.gix_odb_world.specs.Promise.{Promise}
use Rattle.gix_odb_history.specs.Run.{IsTurnOf, NoCall, change_by, disk_after, told_now, tree_at}
use Rattle.gix_odb_world.specs.Running.{Knows, KnowsAt, RunsThroughout}
use Rattle.gix_odb_world.specs.Running.Write.{IsWriting, write_at}
use Rattle.gix_odb_history.specs.Writing.{ToWrite}
use Rattle.gix_odb_world.specs.Status.{MakeCall, OpenStore, Running, Store, Task, Working, begun_with, gone_on, running_from, status_of, Modes}
use Rattle.gix_odb_world.specs.WorkOrder.{ask_on, fed_after, result_in}
use Rattle.gix_odb_world.proofs.Stock.OneCore.{IsStocked}
use Rattle.gix_odb_world.proofs.WriteTurn.Common.{IsTurnWith}

-- the turn of a task's call of the disk, and the change that this makes
pub record HasTurn (first : Volume) (events : List Event) (handle : ℕ) (running : Running) (task : Task) (ask : DiskAsk) : Type 0 where
  pub in_order : AsksInOrder first events handle running.store running.modes running.begun running.turns task ask
  pub five : ChangesInTask first events handle running.store running.begun task ask (change_by (disk_after first events) ask)

-- what a turn asks for comes in the order of its task, and makes a change that the task may make
abbrev pub TakesTurn : Volume → List Event → (handle : ℕ) → Running → Task → Option Ask → Type 0
TakesTurn first events handle running task None = MayEndUnasked events handle running.store running.modes running.begun task
TakesTurn first events handle running task (Some (work_asks.Disk ask)) = HasTurn first events handle running task ask
TakesTurn first events handle running task (Some (work_asks.Core event)) = MayAskCore events handle running.store running.modes running.begun task event
TakesTurn first events handle running task (Some (work_asks.NewCore slots folders)) = MayAskNewCore events handle running.store running.begun task slots folders

-- the last event is a turn of the handle with this ask, and made no call of the disk
pub record IsTurnWithoutCall (first : Volume) (events : List Event) (e : Event) (handle : ℕ) (running : Running) (ask : Option Ask) : Type 0 where
  pub turn : IsTurnOf handle e
  pub did : NoCall e.entry.did
  pub asked : e.asked ≡ told_now (stand_of events handle running) (disk_after first events) ask
  pub change : e.entry.change ≡ None
  pub tree : IsTree (tree_of (disk_after first events).state)

-- the last event is a turn of the handle with this ask
abbrev pub IsTurnAsking : Volume → List Event → Event → (handle : ℕ) → Running → Option Ask → Type 0
IsTurnAsking first events e handle running None = IsTurnWithoutCall first events e handle running None
IsTurnAsking first events e handle running (Some (work_asks.Disk ask)) = IsTurnWith first events e handle ask
IsTurnAsking first events e handle running (Some (work_asks.Core event)) = IsTurnWithoutCall first events e handle running (Some (work_asks.Core event))
IsTurnAsking first events e handle running (Some (work_asks.NewCore slots folders)) =
    IsTurnWithoutCall first events e handle running (Some (work_asks.NewCore slots folders))

-- what is answered to what is asked after some events
abbrev pub told_after : Volume → List Event → (handle : ℕ) → Running → Option Ask → Asked
told_after first events handle running ask = told_now (stand_of events handle running) (disk_after first events) ask

-- What holds where a call begins: its handle is seated, the ids that it names are of the store's hash, as are all that replace others, the
-- size of what it is to write has 64 bits, no folder occurs twice in the store, the store was opened before,
-- and the handle's core is that of the store.
pub record IsStarted (first : Volume) (events : List Event) (handle : ℕ) (store : Store) (modes : Modes) (call : Call) : Type 0 where
  pub seated : IsSeated (cores_after events) handle modes
  pub sized : HasSize call
  pub hashed : IsOfHash store.parts.object_hash call
  pub replaced : (id other : ObjectId) → replacement_in store.parts id ≡ Some other → kind_of other ≡ store.parts.object_hash
  pub distinct : IsDistinct same_path (folder_list store.parts)
  pub opened : store.opened ≤ length events
  pub stocked : IsStocked first events modes.core store

-- what holds where a task begins
abbrev pub BeginsAs : Volume → List Event → (handle : ℕ) → Store → Modes → Task → Type 0
BeginsAs first events handle store modes OpenStore = Unit {0}
BeginsAs first events handle store modes (MakeCall call) = IsStarted first events handle store modes call

-- what is known of the run before a turn of a handle that is at work
pub record IsRunning (first : Volume) (events : List Event) (handle : ℕ) (running : Running) : Type 0 where
  pub lawful : IsLawful first events
  pub throughout : RunsThroughout first events
  pub start : IsTree (tree_of first.state)
  pub status : status_of events handle ≡ Working running

-- ---- how a turn ends

module _ (first : Volume) (events : List Event) (e : Event) (handle : ℕ) (running : Running) where
  abbrev whole : List Event
  whole = events ++ e ∷ []

  -- the promise of the task that was set
  abbrev pub Keeps : Reply → Type 0
  Keeps reply = Promise first whole handle running.store running.modes running.begun running.task reply

  -- a bound isn't reached, where no folder that may be listed has more than `entries` entries
  abbrev pub InTime : (bound : Store → Modes → Task → (entries : ℕ) → ℕ) → Type 0
  InTime bound =
      (entries : ℕ) → HasAtMost (tree_at first whole) running.store.parts running.begun (length events + 1) entries
      → running.turns + 1 < bound running.store running.modes running.task entries

  -- the reply of a turn that asked this keeps its promise, or the machine goes on, knows as much and is within its bound
  abbrev pub MachineComes : (m : Machine) → KnowsAt m → Asked → Result Reply m.State → Type 0
  MachineComes m Known asked (Ok reply) = Keeps reply
  MachineComes m Known asked (Err state) = Known first whole handle (gone_on asked running (m.work state)) state × InTime m.bound

  -- the reply of a turn keeps its promise, or work goes on and knows as much, within the bound of its task
  abbrev pub ComesTo : Asked → Result Reply Work → Type 0
  ComesTo asked (Ok reply) = Keeps reply
  ComesTo asked (Err left) = Knows first whole handle (gone_on asked running left) left × InTime bound_of_task

-- ---- the laws

-- a machine is at a state by the work that it has there
abbrev pub home : (m : Machine) (state : m.State) → At (m.work state)
home m state = record { machine = m; state = state; is = refl }

-- a write that has made no file yet
pub record HasNoFile (call : LooseCall) : Type 0 where
  pub write : ToWrite
  pub number : ℕ
  pub is : call ≡ write_at write (Making number)

-- What a machine has to show of the writes that it may be at. It need not be at one from its task on: another phase may come before.
pub record KeepsWriteLaws (m : Machine) (Known : KnowsAt m) : Type 1 where
  -- where it writes nothing, its call of the disk changes nothing
  pub quiet : (first : Volume) (events : List Event) (handle : ℕ) (running : Running) (state : m.State) (ask : DiskAsk)
      → Known first events handle running state
      → m.writes state ≡ None → m.ask running.store state ≡ Some (work_asks.Disk ask) → change_by (disk_after first events) ask ≡ None
  -- where it writes, it knows what a write does, asks what the write asks, and ends where the write ends
  pub known : (first : Volume) (events : List Event) (handle : ℕ) (running : Running) (state : m.State) (call : LooseCall)
      → Known first events handle running state
      → m.writes state ≡ Some call → IsWriting first events handle running call
  pub asks : (store : Store) (state : m.State) (call : LooseCall) → m.writes state ≡ Some call → m.ask store state ≡ loose_ask (disk_ask_of call)
  pub ends : (store : Store) (state : m.State) (call : LooseCall) (answer : DiskAnswer) (reply : Reply) → m.writes state ≡ Some call
      → result_of_write (loose_order.fed call answer) ≡ Ok reply → m.feed store state (Some (given.Disk answer)) ≡ Ok reply
  -- a state that writes comes after one that does, unless its write has made no file yet
  pub before : (first : Volume) (events : List Event) (handle : ℕ) (running : Running) (state next : m.State) (answer : Option Answer) (call : LooseCall)
      → Known first events handle running state
      → m.feed running.store state answer ≡ Err next → m.writes next ≡ Some call
      → ((own : LooseCall) × (m.writes state ≡ Some own)) ⊎ HasNoFile call

-- What a machine has to show of its turns.
pub record KeepsTurnLaws (m : Machine) (Known : KnowsAt m) : Type 1 where
  -- what it asks for comes in the order of its task, and makes a change that the task may make
  pub takes : (first : Volume) (events : List Event) (handle : ℕ) (running : Running) (state : m.State) → Known first events handle running state
      → TakesTurn first events handle running running.task (m.ask running.store state)
  -- where it asks for nothing, it has its reply
  pub ends : (first : Volume) (events : List Event) (handle : ℕ) (running : Running) (state : m.State) → Known first events handle running state
      → m.ask running.store state ≡ None → (reply : Reply) × (m.feed running.store state None ≡ Ok reply)
  -- an event of a core that it asks for can happen there
  pub happens : (first : Volume) (events : List Event) (handle : ℕ) (running : Running) (state : m.State) → Known first events handle running state
      → (event : CoreEvent) → m.ask running.store state ≡ Some (work_asks.Core event) → (shape : Shape) (seat : ℕ) → CanHappen shape seat event
  -- the turn leads to a reply that keeps the promise of the task, or on
  pub comes : (first : Volume) (events : List Event) (e : Event) (handle : ℕ) (running : Running) → running.begun ≤ length events
      → IsRunning first events handle running → (state : m.State) → Known first events handle running state → IsTurnAsking first events e handle running (m.ask running.store state)
      → MachineComes first events e handle running m Known (told_after first events handle running (m.ask running.store state))
      (m.feed running.store state (answered (told_after first events handle running (m.ask running.store state))))

pub record KeepsLaws (m : Machine) (Known : KnowsAt m) : Type 1 where
  -- the work of a state is of this machine, at this state, and knows what is known there
  pub at_home : (state : m.State) → at (m.work state) ≡ home m state
  pub knows : (first : Volume) (events : List Event) (handle : ℕ) (running : Running) (state : m.State) → Known first events handle running state
      → Knows first events handle running (m.work state)
  -- the code of the work asks and goes on as the machine does
  pub asks : (store : Store) (modes : Modes) (code : HandleParts) → IsHandleOf store modes code → (state : m.State)
      → ask_on code (m.work state) ≡ m.ask store state
  pub feeds : (store : Store) (modes : Modes) (code : HandleParts) → IsHandleOf store modes code → (state : m.State) (answer : Option Answer)
      → result_in (fed_after code (m.work state) answer) ≡ placed m (m.feed store state answer)
  -- a machine knows at a state what holds where a task begins at it
  pub starts : (first : Volume) (events : List Event) (e : Event) (handle : ℕ) (store : Store) (modes : Modes) (task : Task) (state : m.State)
      → BeginsAs first (events ++ e ∷ []) handle store modes task
      → begun_with store modes task ≡ m.work state
      → Known first (events ++ e ∷ []) handle (running_from (length events + 1) task store modes) state
  -- the task of a state is one that it may be at, and has the machine's bound
  pub tasked : (first : Volume) (events : List Event) (handle : ℕ) (running : Running) (state : m.State) → Known first events handle running state
      → m.IsFor running.task state
  pub bounded : (store : Store) (modes : Modes) (task : Task) (state : m.State) → m.IsFor task state → (entries : ℕ)
      → m.bound store modes task entries ≡ bound_of_task store modes task entries
  -- an event that isn't its turn leaves what it knows
  pub kept : (first : Volume) (events : List Event) (e : Event) (handle : ℕ) (running : Running) (state : m.State) → ¬ (IsTurnOf handle e)
      → Known first events handle running state → Known first (events ++ e ∷ []) handle running state
  pub turns : KeepsTurnLaws m Known
  pub writes : KeepsWriteLaws m Known

-- ---- a call of the disk

-- a call of the disk is no event of a core
pub no_event : (asked : Option DiskAsk) (event : CoreEvent) → ¬ (loose_ask asked ≡ Some (work_asks.Core event))
no_event None event is = cc is
no_event (Some ask) event is = cc is

-- ---- machines that make no change

-- a machine that never writes has only to show that its calls of the disk change nothing
pub writes_nothing : (m : Machine) (Known : KnowsAt m) → ((state : m.State) → m.writes state ≡ None)
    → ((first : Volume) (events : List Event) (handle : ℕ) (running : Running) (state : m.State) (ask : DiskAsk) → Known first events handle running state
    → m.ask running.store state ≡ Some (work_asks.Disk ask) → change_by (disk_after first events) ask ≡ None)
    → KeepsWriteLaws m Known
writes_nothing m Known none quiet = record {
  quiet = λ first events handle running state ask knows no asks. quiet first events handle running state ask knows asks;
  known = λ first events handle running state call knows is. absurd (none_written state call is);
  asks = λ store state call is. absurd (none_written state call is);
  ends = λ store state call answer reply is done. absurd (none_written state call is);
  before = λ first events handle running state next answer call knows goes is. absurd (none_written next call is);
}
  where
    none_written : (state : m.State) (call : LooseCall) → m.writes state ≡ Some call → ⊥
    none_written state call is = let both : None ≡ Some call = sym (none state) ∙ is in cc both

-- a call of the disk that makes no change may come in any task
pub quiet_turn : (first : Volume) (events : List Event) (handle : ℕ) (running : Running) (task : Task) (ask : DiskAsk)
    → AsksInOrder first events handle running.store running.modes running.begun running.turns task ask
    → change_by (disk_after first events) ask ≡ None
    → HasTurn first events handle running task ask
quiet_turn first events handle running task ask in_order quiet =
    record { in_order = in_order; five = subst (ChangesInTask first events handle running.store running.begun task ask) (sym quiet) tt }
