-- What each handle does after the events of a run.
use Rattle.std.specs.Prelude.{◌≡◌, ℕ, ◌+◌, ◌==◌, Bool, true, false, List, [], ◌∷◌, Some, Result, Ok, Err, if◌then◌else◌}
use Rattle.odb_base.specs.Path.{Path}
use Rattle.gix_hash.specs.declared.kind.Kind.{Kind as HashKind}
use Rattle.gix_hash.specs.declared.object_id.ObjectId.{ObjectId}
use Rattle.gix_odb_loose.specs.declared.call.LooseCall.{LooseCall}
use Rattle.gix_odb.specs.Contents.{sought}
use Rattle.gix_odb.specs.CallOrder as calls
use Rattle.gix_odb_calls.specs.StoreParts.{parts_of_store}
use Rattle.gix_odb_calls.specs.declared.call.Call.{Call}
use Rattle.gix_odb_calls.specs.declared.call.CallError.TheVariants as call_errors
use Rattle.gix_odb_calls.specs.declared.call.Reply.{Reply}
use Rattle.gix_odb_calls.specs.declared.call.Reply.TheVariants as replies
use Rattle.gix_odb_calls.specs.declared.init.Options.{Options}
use Rattle.gix_odb.specs.declared.open_state.OpenStage.TheVariants.{Looking}
pub use Rattle.gix_odb_world.specs.AtWork.{Store, Task, OpenStore, MakeCall, Modes, Running, modes_after, modes_at_opening, now_frozen, now_ignoring, setting_in, view_in_modes}
use Rattle.gix_odb_world.specs.Machines.{fed_in, write_in}
use Rattle.gix_odb_calls.specs.declared.step.Step.{Step}
use Rattle.gix_odb_calls.specs.declared.step.Step.TheVariants as steps
use Rattle.gix_odb_calls.specs.declared.step.Outcome.{Outcome}
use Rattle.gix_odb_calls.specs.declared.step.Outcome.TheVariants as outcomes
use Rattle.gix_odb_world.specs.Work.{Work}
use Rattle.gix_odb_world.specs.Work.{Opening, Calling}
use Rattle.gix_odb_history.specs.Event.{Asked, Event, answered}
use Rattle.gix_odb_history.specs.Run.{IsTurnOf}

-- what a handle does: nothing, since no handle has the number; rest; or work
pub data Status : Type 0 where
  Free : Status
  Resting : (store : Store) (modes : Modes) → Status
  Working : (running : Running) → Status

-- a handle with this status is at a write, of which this is the call of the objects directory
pub record IsAtWrite (status : Status) (running : Running) (call : LooseCall) : Type 0 where
  pub works : status ≡ Working running
  pub writes : write_in running.work ≡ Some call

-- ---- what a step makes of a handle

abbrev pub store_at : ℕ → Path → List Path → HashKind → List (ObjectId × ObjectId) → Options → Store
store_at number path folders hash replacements options = record {
  opened = number;
  parts = parts_of_store path folders hash replacements options;
  max_changes = options.max_changes;
}

-- the work with which a task of a store's handle begins
abbrev pub begun_with : Store → (modes : Modes) → Task → Work
begun_with store modes OpenStore = Opening Looking
begun_with store modes (MakeCall call) = Calling (calls.started (setting_in store) store.parts.object_hash modes.refresh (view_in_modes modes) (sought store.parts modes.ignoring) call)

-- what a store's handle is at whose task is set by the event that has a number
abbrev pub running_from : ℕ → Task → Store → (modes : Modes) → Running
running_from number task store modes =
    record { store = store; modes = modes; begun = number; turns = 0; task = task; work = begun_with store modes task }

-- an opening works from its step on
abbrev pub opening_at : ℕ → Store → Status
opening_at number store = Working (running_from number OpenStore store modes_at_opening)

-- an idle handle never refreshes its list from now on
abbrev pub frozen_from : Status → Status
frozen_from (Resting store modes) = Resting store (now_frozen modes)
frozen_from status = status

-- an idle handle ignores replacements from now on
abbrev pub ignoring_from : Status → Status
ignoring_from (Resting store modes) = Resting store (now_ignoring modes)
ignoring_from status = status

-- a started call works from its step on
abbrev pub started : ℕ → Call → Status → Status
started number call (Resting store modes) = Working (running_from number (MakeCall call) store modes)
started number call status = status

-- whether a reply refuses an opening
abbrev pub refuses_opening : Reply → Bool
refuses_opening (replies.Refused (call_errors.Open error)) = true
refuses_opening reply = false

-- what a reply leaves of a handle: a refused opening leaves its number free, and after any other reply it is at rest
abbrev pub after_reply : {A : Type 0} → (free rest : A) → Reply → A
after_reply free rest reply = if refuses_opening reply then free else rest

-- a handle's work goes on as what is left of it, with one more turn, which asked this
abbrev pub gone_on : Asked → Running → (left : Work) → Running
gone_on asked running left = record running { modes = modes_after asked running.modes; turns = running.turns + 1; work = left }

-- a handle after a turn that asked this and ended with a reply, or with the work that is left
abbrev pub come_to : Asked → Running → Result Reply Work → Status
come_to asked running (Ok reply) = after_reply Free (Resting running.store (modes_after asked running.modes)) reply
come_to asked running (Err left) = Working (gone_on asked running left)

-- a turn after which the work goes on, by what it was answered
abbrev pub turned : Asked → Status → Status
turned asked (Working running) = come_to asked running (fed_in running.store running.work (answered asked))
turned asked status = status

-- a turn after which its handle is at rest, or free
abbrev pub replied : Asked → Reply → Status → Status
replied asked reply (Working running) = after_reply Free (Resting running.store (modes_after asked running.modes)) reply
replied asked reply status = status

-- ---- the handles of a run

-- the table with another status at one handle number
abbrev pub with_status : (ℕ → Status) → ℕ → Status → ℕ → Status
with_status table handle status other = if other == handle then status else table other

-- a clone has the store and the modes of the handle that it is one of, and the snapshot that its own registration passed to it
abbrev pub cloned : Asked → Status → Status
cloned asked (Resting store modes) = Resting store (modes_after asked modes)
cloned asked status = Free

-- what all handles do after a step that was applied, in the event that has a number and asked this
abbrev pub applied : ℕ → Asked → Step → (ℕ → Status) → ℕ → Status
applied number asked (steps.Open handle path folders hash replacements options) table =
    with_status table handle (opening_at number (store_at number path folders hash replacements options))
applied number asked (steps.Clone handle from) table = with_status table handle (cloned asked (table from))
applied number asked (steps.Close handle) table = with_status table handle Free
applied number asked (steps.Never handle) table = with_status table handle (frozen_from (table handle))
applied number asked (steps.Ignore handle) table = with_status table handle (ignoring_from (table handle))
applied number asked (steps.Start handle call) table = with_status table handle (started number call (table handle))
applied number asked step table = table

-- what all handles do after a turn that continues its handle; no other step continues a call
abbrev pub after_turn_of : Step → (Status → Status) → (ℕ → Status) → ℕ → Status
after_turn_of (steps.Turn handle) next table = with_status table handle (next (table handle))
after_turn_of step next table = table

-- what all handles do after the event that has a number: by its outcome, and then by its step
abbrev pub status_after : ℕ → Step → Outcome → Asked → (ℕ → Status) → ℕ → Status
status_after number step outcomes.Applied asked table = applied number asked step table
status_after number step outcomes.Pending asked table = after_turn_of step (turned asked) table
status_after number step (outcomes.Reply reply) asked table = after_turn_of step (replied asked reply) table
status_after number step (outcomes.Misuse why) asked table = table

-- what all handles do after events, of which the first has a number
unfoldable pub statuses_from : ℕ → (ℕ → Status) → List Event → ℕ → Status
statuses_from number table [] = table
statuses_from number table (e ∷ events) = statuses_from (number + 1) (status_after number e.step e.outcome e.asked table) events

-- what a handle does after all events of a run, which are numbered from 1
abbrev pub status_of : List Event → ℕ → Status
status_of events = statuses_from 1 (λ handle. Free) events

-- the handle that an event turns, which isn't misused, and what it was at after those before it
pub record Turns (past : List Event) (e : Event) (handle : ℕ) (running : Running) : Type 0 where
  pub turn : IsTurnOf handle e
  pub status : status_of past handle ≡ Working running
