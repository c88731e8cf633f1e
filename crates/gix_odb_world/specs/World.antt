-- How the code of a world represents a history. No public clause needs more of it than its name.
use Rattle.std.specs.Prelude.{◌≡◌, ℕ, List, [], ◌∷◌, ◌++◌, map, length, Option, Some, None}
use Rattle.std.specs.Option.{option_map}
use Rattle.std.specs.Ordering.{nat_cmp}
use Rattle.std.specs.BTreeMap.{get}
use Rattle.odb_disk.specs.MemDisk.{Volume}
use Rattle.odb_disk.specs.Tree.{IsTree, tree_of}
use Rattle.gix_odb_watch.specs.HasShown.{Keeps}
use Rattle.gix_odb_calls.specs.declared.step.Step.{Step}
use Rattle.gix_odb_calls.specs.declared.step.Outcome.{Outcome}
use Rattle.gix_odb_world.specs.declared.course.Course.{Course}
use Rattle.gix_odb_world.specs.declared.handle.Handle.{Handle}
use Rattle.gix_odb_history.specs.Event.{Event}
use Rattle.gix_odb_world.specs.Status.{Status, Free, Resting, Working, status_of}
use Rattle.gix_odb_world.specs.Handle.{IsHandleOf, Seen, seen}
use Rattle.gix_odb_history.specs.Cores.{cores_after}
use Rattle.gix_odb_history.specs.Run.{disk_after, tree_at}
use Rattle.gix_odb_world.specs.TwoContents.{watched_after}
use Rattle.gix_odb_world.specs.Running.{Runs, RunsThroughout}
use Rattle.gix_odb_world.specs.Headline.{Law, IsLawful}

-- the handle in the table of a world that has a number
abbrev pub stored_at : Course → ℕ → Option Handle
stored_at world number = get nat_cmp world.handles number

-- that handle as proofs see it
abbrev pub handle_at : Course → ℕ → Option Seen
handle_at world number = option_map seen (stored_at world number)

-- a handle of the code does what a status says
abbrev pub Matches : Status → Option Seen → Type 0
Matches Free None = Unit {0}
Matches Free (Some handle) = ⊥
Matches (Resting store modes) None = ⊥
Matches (Resting store modes) (Some handle) = IsHandleOf store modes handle.state × (handle.work ≡ None)
Matches (Working running) None = ⊥
Matches (Working running) (Some handle) = IsHandleOf running.store running.modes handle.state × (handle.work ≡ Some running.work)

-- these events from this first disk lead to the world
pub record Explains (first : Volume) (events : List Event) (world : Course) : Type 0 where
  pub outcomes : map (λ e. e.outcome) events ≡ world.outcomes
  pub records : map (λ e. e.entry) events ≡ world.records
  pub disk : world.disk ≡ disk_after first events
  pub cores : world.cores.items ≡ cores_after events
  pub handles : (handle : ℕ) → Matches (status_of events handle) (handle_at world handle)
  pub running : (handle : ℕ) → Runs first events handle (status_of events handle)
  pub lawful : IsLawful first events
  -- what is kept of the watched paths is what they have shown
  pub watched : Keeps (tree_at first events) (watched_after events) (length events) world.shown
  -- it began with a tree, and after each event each handle knew what its status says
  pub start : IsTree (tree_of first.state)
  pub throughout : RunsThroughout first events

-- some events from some first disk lead there
pub record HasHistory (world : Course) : Type 0 where
  pub first : Volume
  pub events : List Event
  pub explains : Explains first events world

abbrev pub IsExplained : Course → Type 0
IsExplained world = ∥ HasHistory world ∥₁

-- a step adds one event to the history
pub record GoesOn (first : Volume) (events : List Event) (step : Step) (outcome : Outcome) (world : Course) : Type 0 where
  pub event : Event
  pub step_is : event.step ≡ step
  pub outcome_is : event.outcome ≡ outcome
  pub law : Law first events event
  pub explains : Explains first (events ++ event ∷ []) world

-- Every history that leads to the old world continues by the step to the new one.
abbrev pub Continues : Course → Step → Course → Type 0
Continues old step new =
    (first : Volume) (events : List Event) → Explains first events old → (outcome : Outcome) × GoesOn first events step outcome new

-- some events have these steps, and lead to the world
pub record IsRunOf (first : Volume) (made : List Step) (world : Course) : Type 0 where
  pub events : List Event
  pub steps_are : map (λ e. e.step) events ≡ made
  pub explains : Explains first events world
