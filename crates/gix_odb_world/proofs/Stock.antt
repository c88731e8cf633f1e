-- What holds of the core of a store along a lawful run: it was made for the store, its journal is one, and it got only what was read.
pub mod OneCore
pub mod Owned
pub mod Snapshots
pub mod Step
use Rattle.std.proofs.Common.{◌≡◌, ℕ, zero, suc, ◌+◌, ◌≤◌, List, [], length, take, inl, inr, refl, sym, subst, arith}
use Rattle.std.proofs.Math.Seq.{take-length}
use Rattle.odb_disk.specs.MemDisk.{Volume}
use Rattle.gix_odb_world.specs.AtWork.{Modes, Store}
use Rattle.gix_odb_history.specs.Cores.{cores_after}
use Rattle.gix_odb_history.specs.Event.{Event}
use Rattle.gix_odb_world.specs.Headline.{IsLawful}
use Rattle.gix_odb_world.specs.Running.{RunsThroughout}
use Rattle.gix_odb_world.specs.Status.{Free, MakeCall, OpenStore, Resting, Status, Task, Working, status_of, statuses_from}
use Rattle.gix_odb_world.proofs.OpenFacts.{lawful_front}
use Rattle.gix_odb_world.proofs.RunSteps.{event_or_end, none_beyond, take_next}
use Rattle.gix_odb_world.proofs.Stock.OneCore.{IsStocked}
use Rattle.gix_odb_world.proofs.Stock.Owned.{AreStocked, Owns}
use Rattle.gix_odb_world.proofs.Stock.Step.{stocked_on}

-- each handle of an open store has the core of that store
abbrev pub HasStockAt : Volume → List Event → Store → Modes → Task → Type 0
HasStockAt first events store modes OpenStore = Unit {0}
HasStockAt first events store modes (MakeCall call) = IsStocked first events modes.core store

abbrev pub HasStock : Volume → List Event → Status → Type 0
HasStock first events Free = Unit {0}
HasStock first events (Resting store modes) = IsStocked first events modes.core store
HasStock first events (Working running) = HasStockAt first events running.store running.modes running.task

none_stocked : (first : Volume) → AreStocked first []
unfolding cores_after statuses_from
none_stocked first = record { stores = []; long = refl; each = λ core store is. absurd (cc is); owned = λ handle. tt }

module _ (first : Volume) (events : List Event) (lawful : IsLawful first events) (throughout : RunsThroughout first events) where
  at_place : (place : ℕ) → place ≤ length events → AreStocked first (take place events)
  at_place zero within = none_stocked first
  at_place (suc place) within = elim (event_or_end events place) [
    | inl at ↦
        let one : place + 1 ≡ suc place = omega arith in
        let few : place ≤ length events = omega (arith, within) in
        subst (λ n. AreStocked first (take n events)) one
        (subst (AreStocked first) (sym (take_next events place at.0 at.1))
        (stocked_on first (take place events) at.0 (lawful_front first events place lawful) (λ handle. throughout place handle few) (lawful place at.0 at.1)
        (at_place place few)))
    | inr none ↦ let beyond = none_beyond events place none in absurd (omega (arith, within, beyond))
  ]

  pub are_stocked : AreStocked first events
  are_stocked = subst (AreStocked first) (take-length events) (at_place (length events) (omega arith))

  by_status : (status : Status) → Owns are_stocked.stores status → HasStock first events status
  by_status Free owns = tt
  by_status (Resting store modes) owns = are_stocked.each modes.core store owns
  by_status (Working running) owns = by_task running.task owns
    where
      by_task : (task : Task) → Owns are_stocked.stores (Working (record running { task = task })) → HasStockAt first events running.store running.modes task
      by_task OpenStore owns = tt
      by_task (MakeCall call) owns = are_stocked.each running.modes.core running.store owns

  -- along a lawful run each handle has the core of its store
  pub stocked : (handle : ℕ) → HasStock first events (status_of events handle)
  stocked handle = by_status (status_of events handle) (are_stocked.owned handle)
