-- A turn of a query in a run, what it asks, and the turn of its handle before another one.
use Rattle.std.specs.Prelude.{◌≡◌, ℕ, ◌<◌, ◌≤◌, List, take, slice_get, Some}
use Rattle.odb_base.specs.Path.{Path}
use Rattle.odb_disk.specs.declared.ask.DiskAnswer.{DiskAnswer}
use Rattle.odb_disk.specs.declared.ask.DiskAsk.TheVariants as asks
use Rattle.gix_odb_calls.specs.declared.query.Query.{Query}
use Rattle.gix_odb_world.specs.AtWork.{MakeCall, Running}
use Rattle.gix_odb_history.specs.Event.{CoreAnswer, CoreEvent, Event, OfCore, OfDisk}
use Rattle.gix_odb_history.specs.Run.{IsTurnOf}
use Rattle.gix_odb_world.specs.Status.{Turns}
use Rattle.gix_odb_world.specs.Told.{call_of}

-- the event at a place of a run is a turn of a handle, and this is what the handle was at
pub record IsTurnAt (events : List Event) (place : ℕ) (e : Event) (handle : ℕ) (running : Running) : Type 0 where
  pub there : slice_get events place ≡ Some e
  pub turns : Turns (take place events) e handle running

-- the event is a turn of a query
pub record IsQueryTurn (events : List Event) (place : ℕ) (e : Event) (handle : ℕ) (running : Running) (query : Query) : Type 0 where
  pub there : slice_get events place ≡ Some e
  pub turns : Turns (take place events) e handle running
  pub task : running.task ≡ MakeCall (call_of query)

-- an event asked for an event of the core of a store
pub record AsksCore (e : Event) (event : CoreEvent) : Type 0 where
  pub store : ℕ
  pub seat : ℕ
  pub answer : CoreAnswer
  pub asked : e.asked ≡ OfCore store seat event answer

-- an event read a path, and got this answer
abbrev pub Reads : Event → Path → DiskAnswer → Type 0
Reads e path answer = e.asked ≡ OfDisk (asks.Read path) answer

-- The event at a place is a turn of a handle after the event with the number `begun`, and the handle took no turn between that place and another
-- one. (Events are numbered from 1, places from 0.)
pub record IsTurnBefore (events : List Event) (handle begun : ℕ) (place : ℕ) (e : Event) (next : ℕ) : Type 0 where
  pub there : slice_get events place ≡ Some e
  pub turn : IsTurnOf handle e
  pub since : begun ≤ place
  pub before : place < next
  pub none : (between : ℕ) (other : Event) → place < between → between < next → slice_get events between ≡ Some other → ¬ (IsTurnOf handle other)
