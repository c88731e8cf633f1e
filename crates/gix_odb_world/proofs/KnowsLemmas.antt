-- What handles know after one more event.
use Rattle.std.proofs.Common.{◌≡◌, ◌≢◌, ℕ, ◌+◌, ◌≤◌, Bool, true, false, List, [], ◌∷◌, ◌++◌, length, refl, sym, arith}
use Rattle.std.specs.Prelude.{if◌then◌else◌, ◌==◌}
use Rattle.std.proofs.lemmas.Bool.{eqb-true, eqb-false}
use Rattle.std.proofs.lemmas.List.{length_push}
use Rattle.odb_disk.specs.MemDisk.{Volume}
use Rattle.gix_odb_world.specs.Work.{Work}
use Rattle.gix_odb_history.specs.Event.{Event}
use Rattle.gix_odb_world.specs.Status.{Running, Status, Store, Task, Free, Resting, Working, begun_with, running_from, with_status, Modes}
use Rattle.gix_odb_history.specs.Run.{IsTurnOf}
use Rattle.gix_odb_world.specs.Machines.{at}
use Rattle.gix_odb_world.specs.Running.{Knows, Runs}
use Rattle.gix_odb_world.proofs.MachineLaws.{BeginsAs}
use Rattle.gix_odb_world.proofs.Machines.{laws_at}

module _ (first : Volume) (events : List Event) (e : Event) where
  abbrev whole : List Event
  whole = events ++ e ∷ []

  longer : length events ≤ length whole
  longer = omega (arith, length_push events e)

  module _ (handle : ℕ) (other : ¬ IsTurnOf handle e) where
    knows_push : (running : Running) (work : Work) → Knows first events handle running work → Knows first whole handle running work
    knows_push running work knows = (laws_at work).kept first events e handle running (at work).state other knows

    -- a handle at work stays as it is over an event that isn't its turn
    runs_over : (status : Status) → Runs first events handle status → Runs first whole handle status
    runs_over Free runs = tt
    runs_over (Resting store modes) runs = tt
    runs_over (Working running) runs = (omega (arith, longer, runs.0), knows_push running running.work runs.1)

-- a handle whose task the event sets knows what its machine does at the beginning
pub begins : (first : Volume) (events : List Event) (e : Event) (handle : ℕ) (store : Store) (modes : Modes) (task : Task)
    → BeginsAs first (events ++ e ∷ []) handle store modes task
    → Knows first (events ++ e ∷ []) handle (running_from (length events + 1) task store modes) (begun_with store modes task)
begins first events e handle store modes task start =
    let work : Work = begun_with store modes task in
    (laws_at work).starts first events e handle store modes task (at work).state start (sym (at work).is)

pub runs-push : (first : Volume) (events : List Event) (e : Event) (handle : ℕ) (status : Status) → ¬ IsTurnOf handle e
    → Runs first events handle status → Runs first (events ++ e ∷ []) handle status
runs-push first events e handle status other runs = runs_over first events e handle other status runs

runs_either : (first : Volume) (events : List Event) (e : Event) (number : ℕ) (status : Status) (other : ℕ) (before : Status) (b : Bool)
    → (other == number) ≡ b
    → Runs first (events ++ e ∷ []) number status → (other ≢ number → ¬ IsTurnOf other e) → Runs first events other before
    → Runs first (events ++ e ∷ []) other (if b then status else before)
runs_either first events e number status other before true same here apart runs = rw (eqb-true other number same) here
runs_either first events e number status other before false same here apart runs =
    let differs : other ≢ number = eqb-false other number same in
    runs-push first events e other before (apart differs) runs

pub runs_set : (first : Volume) (events : List Event) (e : Event) (table : ℕ → Status) (number : ℕ) (status : Status)
    → ((other : ℕ) → Runs first events other (table other)) → ((other : ℕ) → other ≢ number → ¬ IsTurnOf other e)
    → Runs first (events ++ e ∷ []) number status
    → (other : ℕ) → Runs first (events ++ e ∷ []) other (with_status table number status other)
runs_set first events e table number status before apart here other =
    runs_either first events e number status other (table other) (other == number) refl here (apart other) (before other)
