-- From which steps a handle has its task, its store and its mode, and how many turns it took since then.
use Rattle.std.specs.Prelude.{◌≡◌, ◌⊎◌, take, ◌↔◌, ℕ, ◌+◌, ◌≤◌, true, List, count_by, drop, slice_get, Some}
use Rattle.odb_base.specs.Path.{Path}
use Rattle.gix_hash.specs.declared.kind.Kind.{Kind as HashKind}
use Rattle.gix_hash.specs.declared.object_id.ObjectId.{ObjectId}
use Rattle.gix_odb_calls.specs.StoreParts.{parts_of_store}
use Rattle.gix_odb_calls.specs.declared.call.Call.{Call}
use Rattle.gix_odb_calls.specs.declared.init.Options.{Options}
use Rattle.gix_odb_calls.specs.declared.step.Step.{Step}
use Rattle.gix_odb_calls.specs.declared.step.Step.TheVariants as steps
use Rattle.gix_odb_calls.specs.declared.step.Outcome.TheVariants as outcomes
use Rattle.gix_odb_history.specs.Event.{Event}
pub use Rattle.gix_odb_history.specs.Turned.{is_turn_of}
use Rattle.gix_odb_world.specs.Status.{MakeCall, OpenStore, Store, Task, Modes}
use Rattle.gix_odb.specs.declared.refresh_mode.RefreshMode.TheVariants.{Never}

-- the event that has the number `begun` was applied, and started a call on a handle
pub record BegunBy (events : List Event) (handle begun : ℕ) (call : Call) : Type 0 where
  pub place : ℕ
  pub number : begun ≡ place + 1
  pub event : Event
  pub there : slice_get events place ≡ Some event
  pub applied : event.outcome ≡ outcomes.Applied
  pub starts : event.step ≡ steps.Start handle call

-- the event that has the number `begun` was applied, and is the open step of a store under a handle's number
pub record OpenedBy (events : List Event) (handle begun : ℕ) (store : Store) : Type 0 where
  pub place : ℕ
  pub number : begun ≡ place + 1
  pub event : Event
  pub there : slice_get events place ≡ Some event
  pub applied : event.outcome ≡ outcomes.Applied
  pub path : Path
  pub folders : List Path
  pub hash : HashKind
  pub replacements : List (ObjectId × ObjectId)
  pub options : Options
  pub opens : event.step ≡ steps.Open handle path folders hash replacements options
  -- the store has what the step passed
  pub parts : store.parts ≡ parts_of_store path folders hash replacements options
  pub changes : store.max_changes ≡ options.max_changes

-- a store is that of an open step of this handle
abbrev pub IsOpenStore : List Event → ℕ → Store → Type 0
IsOpenStore events handle store = OpenedBy events handle store.opened store

-- The event that has the number `begun` set a task: it is the open step of the store, or the start of the call.
abbrev pub BegunAs : List Event → (handle begun : ℕ) → Store → Task → Type 0
BegunAs events handle begun store OpenStore = OpenedBy events handle begun store
BegunAs events handle begun store (MakeCall call) = BegunBy events handle begun call

-- ---- the latest steps of a handle

-- a step that begins a handle: it opens a store, or is a clone
abbrev pub IsOpenOf : (handle : ℕ) → Step → Type 0
IsOpenOf handle (steps.Open other path folders hash replacements options) = other ≡ handle
IsOpenOf handle (steps.Clone other from) = other ≡ handle
IsOpenOf handle step = ⊥

-- a step that sets what a handle is at: it opens a store, is a clone, or starts a call
abbrev pub IsTaskOf : (handle : ℕ) → Step → Type 0
IsTaskOf handle (steps.Open other path folders hash replacements options) = other ≡ handle
IsTaskOf handle (steps.Clone other from) = other ≡ handle
IsTaskOf handle (steps.Start other call) = other ≡ handle
IsTaskOf handle step = ⊥

abbrev pub IsNeverOf : (handle : ℕ) → Step → Type 0
IsNeverOf handle (steps.Never other) = other ≡ handle
IsNeverOf handle step = ⊥

abbrev pub IsIgnoreOf : (handle : ℕ) → Step → Type 0
IsIgnoreOf handle (steps.Ignore other) = other ≡ handle
IsIgnoreOf handle step = ⊥

-- No such step was applied after the event that has a number. (Events are numbered from 1.)
abbrev pub NoneSince : (Step → Type 0) → List Event → (number : ℕ) → Type 0
NoneSince P events number = (place : ℕ) (e : Event) → number ≤ place → slice_get events place ≡ Some e → e.outcome ≡ outcomes.Applied → ¬ (P e.step)

-- such a step was applied after the event that has a number
pub record AppliedSince (P : Step → Type 0) (events : List Event) (number : ℕ) : Type 0 where
  pub place : ℕ
  pub later : number ≤ place
  pub event : Event
  pub there : slice_get events place ≡ Some event
  pub applied : event.outcome ≡ outcomes.Applied
  pub step : P event.step

-- A handle has its store by the latest step that began it: by its open step, or as a clone of a handle that had the store then. Its modes
-- are those of the steps since: it never refreshes its list from a `Never` step on, and ignores replacements from an `Ignore` step on; and a
-- clone has the modes that its parent had then.
pub data Holds (store : Store) : List Event → (handle : ℕ) → (modes : Modes) → Type 0 where
  FromOpen : {events : List Event} {handle : ℕ} {modes : Modes} (step : IsOpenStore events handle store)
      (latest : NoneSince (IsOpenOf handle) events store.opened)
      (frozen : (modes.refresh ≡ Never) ↔ AppliedSince (IsNeverOf handle) events store.opened)
      (ignoring : (modes.ignoring ≡ true) ↔ AppliedSince (IsIgnoreOf handle) events store.opened)
      → Holds store events handle modes
  FromClone : {events : List Event} {handle : ℕ} {modes : Modes} (from place : ℕ) (event : Event) (parent : Modes)
      (there : slice_get events place ≡ Some event) (applied : event.outcome ≡ outcomes.Applied)
      (clones : event.step ≡ steps.Clone handle from) (held : Holds store (take place events) from parent)
      (latest : NoneSince (IsOpenOf handle) events (place + 1))
      (frozen : (modes.refresh ≡ Never) ↔ ((parent.refresh ≡ Never) ⊎ AppliedSince (IsNeverOf handle) events (place + 1)))
      (ignoring : (modes.ignoring ≡ true) ↔ ((parent.ignoring ≡ true) ⊎ AppliedSince (IsIgnoreOf handle) events (place + 1)))
      → Holds store events handle modes

abbrev pub HoldsStore : List Event → (handle : ℕ) → Store → (modes : Modes) → Type 0
HoldsStore events handle store modes = Holds store events handle modes

-- ---- the turns of a handle

-- how many turns the handle took after the event that has a number
abbrev pub turns_since : List Event → (handle number : ℕ) → ℕ
turns_since events handle number = count_by (is_turn_of handle) (drop number events)
