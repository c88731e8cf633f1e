-- What a turn, and a clone, do to the steps from which a handle has its task, its store and its mode.
use Rattle.std.proofs.Common.{◌≡◌, ℕ, Bool, true, false, List, [], ◌∷◌, ◌++◌, Result, Ok, Err, refl, sym, ◌∙◌}
use Rattle.std.specs.Prelude.{if◌then◌else◌}
use Rattle.gix_odb_calls.specs.declared.call.Reply.{Reply}
use Rattle.gix_odb_calls.specs.declared.step.Step.TheVariants as steps
use Rattle.gix_odb_calls.specs.declared.step.Outcome.TheVariants as outcomes
use Rattle.gix_odb_history.specs.Event.{Asked, Event, OfCore, OfDisk, OfNewCore, OfNothing, answered}
use Rattle.gix_odb_world.specs.Work.{Work}
use Rattle.gix_odb_world.specs.Machines.{fed_in}
use Rattle.gix_odb_world.specs.Status.{Running, Status, Store, Free, Resting, Working, come_to}
use Rattle.gix_odb_world.specs.Status.{cloned, refuses_opening, replied, turned, Modes, modes_after}
use Rattle.gix_odb_world.specs.Begun.{FromClone, FromOpen, HoldsStore}
use Rattle.gix_odb_world.proofs.BegunLemmas.OneEvent.{Stems, holds_cloned}

stems_rest : (events : List Event) (handle : ℕ) (store : Store) (modes : Modes) (frees : Bool) → HoldsStore events handle store modes
    → Stems events handle (if frees then Free else Resting store modes)
stems_rest events handle store modes true holds = tt
stems_rest events handle store modes false holds = holds

-- what a turn asked sets no mode
ignoring_after : (asked : Asked) (modes : Modes) → (modes_after asked modes).ignoring ≡ modes.ignoring
ignoring_after OfNothing modes = refl
ignoring_after (OfDisk ask answer) modes = refl
ignoring_after (OfCore number seat event answer) modes = refl
ignoring_after (OfNewCore slots folders number seat answer) modes = refl

refresh_after : (asked : Asked) (modes : Modes) → (modes_after asked modes).refresh ≡ modes.refresh
refresh_after OfNothing modes = refl
refresh_after (OfDisk ask answer) modes = refl
refresh_after (OfCore number seat event answer) modes = refl
refresh_after (OfNewCore slots folders number seat answer) modes = refl

holds_alike : (events : List Event) (handle : ℕ) (store : Store) (modes other : Modes) → other.refresh ≡ modes.refresh → other.ignoring ≡ modes.ignoring → HoldsStore events handle store modes
    → HoldsStore events handle store other
holds_alike events handle store modes other same_refresh same (FromOpen step latest frozen ignoring) =
    FromOpen step latest (λ is. frozen.0 (sym same_refresh ∙ is), λ a. same_refresh ∙ frozen.1 a) (λ is. ignoring.0 (sym same ∙ is), λ a. same ∙ ignoring.1 a)
holds_alike events handle store modes other same_refresh same (FromClone from place event parent there applied clones held latest frozen ignoring) =
    FromClone from place event parent there applied clones held latest (λ is. frozen.0 (sym same_refresh ∙ is), λ a. same_refresh ∙ frozen.1 a)
    (λ is. ignoring.0 (sym same ∙ is), λ a. same ∙ ignoring.1 a)

holds_after : (events : List Event) (handle : ℕ) (store : Store) (modes : Modes) (asked : Asked) → HoldsStore events handle store modes
    → HoldsStore events handle store (modes_after asked modes)
holds_after events handle store modes asked = holds_alike events handle store modes (modes_after asked modes) (refresh_after asked modes) (ignoring_after asked modes)

-- a clone has the store of the handle that it is one of
pub stems_cloned : (events : List Event) (e : Event) (handle from : ℕ) (asked : Asked) (parent : Status) → e.step ≡ steps.Clone handle from → e.outcome ≡ outcomes.Applied
    → Stems events from parent → Stems (events ++ e ∷ []) handle (cloned asked parent)
stems_cloned events e handle from asked Free step applied stems = tt
stems_cloned events e handle from asked (Resting store modes) step applied stems =
    holds_cloned events e handle from store modes (modes_after asked modes) (refresh_after asked modes) (ignoring_after asked modes) step applied stems
stems_cloned events e handle from asked (Working running) step applied stems = tt

-- a turn's reply frees its handle or leaves it at rest, and what is left of its work has the same task
stems_come : (events : List Event) (handle : ℕ) (running : Running) (asked : Asked) (result : Result Reply Work) → Stems events handle (Working running)
    → Stems events handle (come_to asked running result)
stems_come events handle running asked (Ok reply) stems =
    stems_rest events handle running.store (modes_after asked running.modes) (refuses_opening reply) (holds_after events handle running.store running.modes asked stems.0)
stems_come events handle running asked (Err left) stems = (holds_after events handle running.store running.modes asked stems.0, record { begins = stems.1.begins; latest = stems.1.latest })

pub stems_turned : (events : List Event) (handle : ℕ) (asked : Asked) (status : Status) → Stems events handle status
    → Stems events handle (turned asked status)
stems_turned events handle asked Free stems = tt
stems_turned events handle asked (Resting store modes) stems = stems
stems_turned events handle asked (Working running) stems = stems_come events handle running asked (fed_in running.store running.work (answered asked)) stems

pub stems_replied : (events : List Event) (handle : ℕ) (asked : Asked) (reply : Reply) (status : Status) → Stems events handle status
    → Stems events handle (replied asked reply status)
stems_replied events handle asked reply Free stems = tt
stems_replied events handle asked reply (Resting store modes) stems = stems
stems_replied events handle asked reply (Working running) stems =
    stems_rest events handle running.store (modes_after asked running.modes) (refuses_opening reply) (holds_after events handle running.store running.modes asked stems.0)
