-- How a turn of any work ends: its reply keeps its promise, or the work goes on and knows as much. All of this follows from the laws of
-- its machine.
use Rattle.std.proofs.Common.{◌≡◌, ℕ, ◌+◌, ◌<◌, ◌≤◌, List, [], ◌∷◌, ◌++◌, length, None, Some, Ok, Err, Result, ap, subst}
use Rattle.odb_disk.specs.MemDisk.{Volume}
use Rattle.gix_odb_calls.specs.declared.call.Reply.{Reply}
use Rattle.gix_odb_core.specs.Replay.{CanHappen}
use Rattle.gix_odb_core.specs.declared.shape.Shape.{Shape}
use Rattle.gix_odb_world.specs.Work.{Work}
use Rattle.gix_odb_history.specs.Event.{Asked, CoreEvent, Event, answered}
use Rattle.gix_odb_events.specs.declared.answer.Ask.TheVariants as parts
use Rattle.gix_odb_world.specs.Machine.{Machine, placed}
use Rattle.gix_odb_world.specs.Machines.{at, ask_in, fed_in}
use Rattle.gix_odb_world.specs.Status.{Running, gone_on}
use Rattle.gix_odb_world.specs.Running.{Knows, KnowsAt, known_at}
use Rattle.gix_odb_world.proofs.MachineLaws.{ComesTo, IsRunning, IsTurnAsking, KeepsLaws, MachineComes, TakesTurn, told_after}
use Rattle.gix_odb_world.proofs.Machines.{laws_at}

module _ (first : Volume) (events : List Event) (handle : ℕ) (running : Running) (work : Work) (knows : Knows first events handle running work) where
  -- what it asks for comes in the order of its task, and makes a change that the task may make
  pub turn_of : TakesTurn first events handle running running.task (ask_in running.store work)
  turn_of = (laws_at work).turns.takes first events handle running (at work).state knows

  -- where it asks for nothing, it has its reply
  pub end_of : ask_in running.store work ≡ None → (reply : Reply) × (fed_in running.store work None ≡ Ok reply)
  end_of none = let ends = (laws_at work).turns.ends first events handle running (at work).state knows none in (ends.0, ap (placed (at work).machine) ends.1)

  -- an event of a core that it asks for can happen there
  pub event_of : (event : CoreEvent) → ask_in running.store work ≡ Some (parts.Core event) → (shape : Shape) (seat : ℕ) → CanHappen shape seat event
  event_of event is shape seat = (laws_at work).turns.happens first events handle running (at work).state knows event is shape seat

-- how a machine ends, among all work
placed_comes : (first : Volume) (events : List Event) (e : Event) (handle : ℕ) (running : Running) (m : Machine) (Known : KnowsAt m) → KeepsLaws m Known
    → (asked : Asked) (result : Result Reply m.State)
    → MachineComes first events e handle running m Known asked result → ComesTo first events e handle running asked (placed m result)
placed_comes first events e handle running m Known laws asked (Ok reply) comes = comes
placed_comes first events e handle running m Known laws asked (Err state) comes =
    let task_is = laws.tasked first (events ++ e ∷ []) handle (gone_on asked running (m.work state)) state comes.0 in (
      laws.knows first (events ++ e ∷ []) handle (gone_on asked running (m.work state)) state comes.0,
      λ entries most. subst (λ bound. running.turns + 1 < bound) (laws.bounded running.store running.modes running.task state task_is entries) (comes.1 entries most),
    )

-- the whole turn of any work
pub come_of : (first : Volume) (events : List Event) (e : Event) (handle : ℕ) (running : Running) → running.begun ≤ length events
    → IsRunning first events handle running → (work : Work) (knows : Knows first events handle running work)
    → IsTurnAsking first events e handle running (ask_in running.store work)
    → ComesTo first events e handle running (told_after first events handle running (ask_in running.store work))
    (fed_in running.store work (answered (told_after first events handle running (ask_in running.store work))))
come_of first events e handle running since ran work knows is =
    placed_comes first events e handle running (at work).machine (known_at work) (laws_at work)
    (told_after first events handle running (ask_in running.store work))
    ((at work).machine.feed running.store (at work).state (answered (told_after first events handle running (ask_in running.store work))))
    ((laws_at work).turns.comes first events e handle running since ran (at work).state knows is)
