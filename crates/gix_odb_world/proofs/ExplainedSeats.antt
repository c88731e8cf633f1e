-- The seats, at its cores, of the handles of a world that some events lead to, by its own table, and what they may ask there.
use Rattle.std.proofs.Common.{◌≡◌, ℕ, ◌+◌, ◌<◌, ◌≤◌, Bool, true, false, List, length, Option, Some, None, refl, sym, ap, ◌∙◌, subst, arith, inl, inr}
use Rattle.std.specs.Prelude.{IsSome, unwrap_or}
use Rattle.std.proofs.lemmas.Bool.{cases_lt}
use Rattle.std.proofs.lemmas.Map.Keys.{IsDistinct-prop}
use Rattle.std.proofs.Math.Logic.{∥∥₁_elim}
use Rattle.std.proofs.lemmas.Grind.{not_there}
use Rattle.std.proofs.lemmas.Option.{slice_get_within}
use Rattle.gix_odb_core.specs.Handles.{registered}
use Rattle.gix_odb_core.specs.History.{History, opened, present}
use Rattle.gix_odb_core.specs.Replay.{CanHappen}
use Rattle.gix_odb_events.specs.declared.event.Event.TheVariants as core_events
use Rattle.gix_odb_core.specs.declared.shape.Shape.{Shape}
use Rattle.gix_odb_events.specs.declared.answer.Ask.{Ask}
use Rattle.gix_odb_events.specs.declared.answer.Ask.TheVariants as asks
use Rattle.gix_odb_events.specs.PackFiles.{same_path}
use Rattle.gix_odb_events.specs.PackId.{most_slots}
use Rattle.gix_odb_world.specs.declared.course.Course.{Course}
use Rattle.gix_odb_calls.specs.declared.step.Step.TheVariants as steps
use Rattle.gix_odb_world.specs.Work.{Work, Opening, Calling}
use Rattle.gix_odb.specs.declared.open_state.OpenStage.TheVariants as opens
use Rattle.gix_odb_calls.specs.declared.call.Reply.{Reply}
use Rattle.gix_odb_history.specs.Cores.{cores_after, history_at, registered_at}
use Rattle.gix_odb_history.specs.Event.{CoreEvent, Event}
use Rattle.gix_odb_history.specs.Held.{IsHeld}
use Rattle.gix_odb_history.proofs.KeptCoreLemmas.{held_by}
use Rattle.gix_odb_world.specs.Handle.{HandleParts, IsHandleOf, Seen}
use Rattle.gix_odb_world.specs.Machines.{ask_in}
use Rattle.gix_odb_world.specs.Running.{Knows, Runs}
use Rattle.gix_odb_world.specs.Asks.{MayAskCore, MayAskNewCore}
use Rattle.gix_odb_world.specs.Seats.{HasSeat, HasSeatAt, IsNowhere, IsSeated}
use Rattle.gix_odb_world.specs.Status.{Free, MakeCall, Modes, OpenStore, Resting, Running, Status, Task, Working, status_of}
use Rattle.gix_odb_world.specs.Table.{CanHappenAt, IsUnderWay, why_not_now}
use Rattle.gix_odb_world.specs.WorkOrder.{ask_on}
use Rattle.gix_odb_world.specs.Valid.{phase_of, why_not_idle}
use Rattle.gix_odb_world.specs.World.{HasHistory, IsExplained, Matches, handle_at}
use Rattle.gix_odb_world.proofs.SeatLemmas.{seats_now}
use Rattle.gix_odb_world.proofs.SeatLemmas.Applied.{is_free_for_clone}
use Rattle.gix_odb_world.proofs.MachineLaws.{TakesTurn}
use Rattle.gix_odb_world.proofs.StepLemmas.{why_not-same}
use Rattle.gix_odb_world.proofs.TurnLaw.Comes.{event_of, turn_of}
use Rattle.gix_odb_world.proofs.WorkLaws.{code_asks}

-- an idle handle is seated at the core that the code has for it
pub record SitsAt (cores : List History) (core number : ℕ) : Type 0 where
  pub within : core < length cores
  pub there : IsSome (registered_at cores core number)

sits_at : (cores : List History) (number : ℕ) (modes : Modes) → IsSeated cores number modes → SitsAt cores modes.core number
sits_at cores number modes seated = record {
  within = slice_get_within cores modes.core seated.history seated.there;
  there = subst (λ o. IsSome (registered (present (unwrap_or o (opened 0 0 0 0))).handles number)) (sym seated.there) seated.registered;
}

sits_idle : (events : List Event) (number : ℕ) (status : Status) (handle : Seen) → None ≡ why_not_idle (phase_of status) → HasSeat events number status
    → Matches status (Some handle) → SitsAt (cores_after events) handle.state.core number
sits_idle events number Free handle idle has match = absurd match
sits_idle events number (Resting store modes) handle idle has match =
    subst (λ core. SitsAt (cores_after events) core number) (sym match.0.core) (sits_at (cores_after events) number modes has)
sits_idle events number (Working running) handle idle has match = absurd (cc idle)

nowhere_free : (events : List Event) (number : ℕ) (status : Status) → status ≡ Free → HasSeat events number status → IsNowhere (cores_after events) number
nowhere_free events number status free has = subst (HasSeat events number) free has

module _ (world : Course) (h : HasHistory world) where
  open h use {first, events, explains}

  seat : (number : ℕ) → HasSeat events number (status_of events number)
  seat number = seats_now first events explains.lawful number

  sits : (number : ℕ) (handle : Seen) → handle_at world number ≡ Some handle → None ≡ why_not_idle (phase_of (status_of events number))
      → SitsAt world.cores.items handle.state.core number
  sits number handle there idle =
      subst (λ cs. SitsAt cs handle.state.core number) (sym explains.cores)
      (sits_idle events number (status_of events number) handle idle (seat number) (subst (Matches (status_of events number)) there (explains.handles number)))

  closes_at : (number : ℕ) (handle : Seen) → why_not_now world (steps.Close number) ≡ None → handle_at world number ≡ Some handle
      → SitsAt world.cores.items handle.state.core number
  closes_at number handle valid there = sits number handle there (sym (why_not-same first events world (steps.Close number) explains ∙ valid))

  module _ (number from : ℕ) (valid : why_not_now world (steps.Clone number from) ≡ None) where
    clones : (status_of events number ≡ Free) × (None ≡ why_not_idle (phase_of (status_of events from)))
    clones = is_free_for_clone (status_of events number) (status_of events from) (sym (why_not-same first events world (steps.Clone number from) explains ∙ valid))

    clones_at : (parent : Seen) → handle_at world from ≡ Some parent → SitsAt world.cores.items parent.state.core from
    clones_at parent there = sits from parent there clones.1

    clone_out : IsNowhere world.cores.items number
    clone_out = subst (λ cs. IsNowhere cs number) (sym explains.cores) (nowhere_free events number (status_of events number) clones.0 (seat number))

  -- ---- a turn

  -- a handle that may ask for an event of a core is seated at one
  module _ (number : ℕ) (state : HandleParts) (work : Work) (event : CoreEvent) where
    may_sit : (running : Running) (task : Task) → HasSeatAt (cores_after events) number running.modes task
        → MayAskCore events number running.store running.modes running.begun task event → SitsAt (cores_after events) running.modes.core number
    may_sit running OpenStore has may = absurd may
    may_sit running (MakeCall call) has may = sits_at (cores_after events) number running.modes has

    happens_at : (running : Running) → status_of events number ≡ Working running → IsHandleOf running.store running.modes state → Some work ≡ Some running.work
        → ask_on state work ≡ Some (asks.Core event) → SitsAt world.cores.items state.core number × ((shape : Shape) (seat : ℕ) → CanHappen shape seat event)
    happens_at running status own same asked =
        let at : work ≡ running.work = cc same in
        let asks_it : ask_in running.store running.work ≡ Some (asks.Core event) =
        subst (λ w. ask_in running.store w ≡ Some (asks.Core event)) at (sym (code_asks running.store running.modes state own work) ∙ asked) in
        let runs : Runs first events number (Working running) = subst (Runs first events number) status (explains.running number) in
        let has : HasSeat events number (Working running) = subst (HasSeat events number) status (seat number) in
        let may : MayAskCore events number running.store running.modes running.begun running.task event =
        subst (TakesTurn first events number running running.task) asks_it (turn_of first events number running running.work runs.1) in (
          subst (λ cs. SitsAt cs state.core number) (sym explains.cores)
              (subst (λ core. SitsAt (cores_after events) core number) (sym own.core) (may_sit running running.task has may)),
          event_of first events number running running.work runs.1 event asks_it,
        )

    happens : (status : Status) → status_of events number ≡ status → Matches status (Some (record { state = state; work = Some work }))
        → ask_on state work ≡ Some (asks.Core event) → SitsAt world.cores.items state.core number × ((shape : Shape) (seat : ℕ) → CanHappen shape seat event)
    happens Free is match asked = absurd match
    happens (Resting store modes) is match asked = absurd (cc match.1)
    happens (Working running) is match asked = happens_at running is match.0 match.1 asked

  -- a core that a handle may ask for has no more slots than a core may have
  module _ (number : ℕ) (state : HandleParts) (work : Work) (slots folders : ℕ) where
    few_in : (running : Running) (task : Task) → MayAskNewCore events number running.store running.begun task slots folders → slots ≤ most_slots
    few_in running OpenStore may = may.1
    few_in running (MakeCall call) may = absurd may

    few_at : (running : Running) → status_of events number ≡ Working running → IsHandleOf running.store running.modes state → Some work ≡ Some running.work
        → ask_on state work ≡ Some (asks.NewCore slots folders) → slots ≤ most_slots
    few_at running status own same asked =
        let at : work ≡ running.work = cc same in
        let asks_it : ask_in running.store running.work ≡ Some (asks.NewCore slots folders) =
        subst (λ w. ask_in running.store w ≡ Some (asks.NewCore slots folders)) at (sym (code_asks running.store running.modes state own work) ∙ asked) in
        let runs : Runs first events number (Working running) = subst (Runs first events number) status (explains.running number) in
        few_in running running.task (subst (TakesTurn first events number running running.task) asks_it (turn_of first events number running running.work runs.1))

    few_slots : (status : Status) → status_of events number ≡ status → Matches status (Some (record { state = state; work = Some work }))
        → ask_on state work ≡ Some (asks.NewCore slots folders) → slots ≤ most_slots
    few_slots Free is match asked = absurd match
    few_slots (Resting store modes) is match asked = absurd (cc match.1)
    few_slots (Working running) is match asked = few_at running is match.0 match.1 asked

  can_happen_now : (number : ℕ) (state : HandleParts) (work : Work) → handle_at world number ≡ Some (record { state = state; work = Some work })
      → (ask : Option Ask) → ask_on state work ≡ ask → CanHappenAt world.cores.items number state ask
  can_happen_now number state work there None is = tt
  can_happen_now number state work there (Some (asks.Disk ask)) is = tt
  can_happen_now number state work there (Some (asks.Core event)) is =
      let can =
      happens number state work event (status_of events number) refl (subst (Matches (status_of events number)) there (explains.handles number)) is in
      (can.0.within, can.1 (present (history_at world.cores.items state.core)) number, can.0.there)
  can_happen_now number state work there (Some (asks.NewCore slots folders)) is =
      few_slots number state work slots folders (status_of events number) refl (subst (Matches (status_of events number)) there (explains.handles number)) is

  -- an opening that is at work isn't done
  done_never : (number : ℕ) (state : HandleParts) (reply : Reply) → ¬ (handle_at world number ≡ Some (record { state = state; work = Some (Opening (opens.Done reply)) }))
  done_never number state reply there = by (status_of events number) (explains.running number) (subst (Matches (status_of events number)) there (explains.handles number))
    where
      by : (status : Status) → Runs first events number status → Matches status (Some (record { state = state; work = Some (Opening (opens.Done reply)) })) → ⊥
      by Free runs match = match
      by (Resting store modes) runs match = cc match.1
      by (Working running) runs match =
          let both : Some (Opening (opens.Done reply)) ≡ Some running.work = match.1 in
          let same : Opening (opens.Done reply) ≡ running.work = cc both in
          let knows : Knows first events number running (Opening (opens.Done reply)) = subst (Knows first events number running) (sym same) runs.1 in
          knows.seen

-- ---- a world of which it is known that some events lead there

pub below : (a n : ℕ) → ¬ (¬ (a < n)) → a < n
below a n known = elim (cases_lt a n) [ inl less ↦ less | inr more ↦ absurd (known (λ less. omega (arith, less, more))) ]

free_seat : (o : Option Bool) → ¬ (¬ (o ≡ None)) → o ≡ None
free_seat None known = refl
free_seat (Some stable) known = absurd (known (λ none. cc none))

taken_seat : (o : Option Bool) → ¬ (¬ (IsSome o)) → IsSome o
taken_seat None known = absurd (known (λ some. cc some))
taken_seat (Some stable) known = refl

stable_seat : (o : Option Bool) → ¬ (¬ (o ≡ Some false)) → o ≡ Some false
stable_seat None known = absurd (known (λ some. cc some))
stable_seat (Some true) known = absurd (known (λ some. cc some))
stable_seat (Some false) known = refl

module _ (world : Course) (explained : IsExplained world) where
  known : {P : Type 0} → (HasHistory world → P) → ¬ (¬ P)
  known can = λ wrong. not_there explained (λ h. wrong (can h))

  can_known : (shape : Shape) (number : ℕ) (event : CoreEvent) → (HasHistory world → CanHappen shape number event) → CanHappen shape number event
  can_known shape number (core_events.Register stable) can = free_seat (registered shape.handles number) (known can)
  can_known shape number core_events.Upgrade can = stable_seat (registered shape.handles number) (known can)
  can_known shape number core_events.Remove can = taken_seat (registered shape.handles number) (known can)
  can_known shape number core_events.Look can = tt
  can_known shape number core_events.Report can = tt
  can_known shape number (core_events.PutIndex slot path file) can = tt
  can_known shape number (core_events.PutPack pack path file) can = tt
  can_known shape number (core_events.PassOver slot path why) can = tt
  can_known shape number (core_events.Publish listing) can = ∥∥₁_elim explained (IsDistinct-prop same_path _) can

  can_known_at : (number : ℕ) (state : HandleParts) (ask : Option Ask) → (HasHistory world → CanHappenAt world.cores.items number state ask)
      → CanHappenAt world.cores.items number state ask
  can_known_at number state None can = tt
  can_known_at number state (Some (asks.Disk ask)) can = tt
  can_known_at number state (Some (asks.Core event)) can = (
    below state.core (length world.cores.items) (known (λ h. (can h).0)),
    can_known (present (history_at world.cores.items state.core)) number event (λ h. (can h).1),
    taken_seat (registered_at world.cores.items state.core number) (known (λ h. (can h).2)),
  )
  can_known_at number state (Some (asks.NewCore slots folders)) can =
      let few = below slots (most_slots + 1) (known (λ h. let own : slots ≤ most_slots = can h in omega (arith, own))) in omega (arith, few)

  pub turn_can_happen : (number : ℕ) (state : HandleParts) (work : Work) → handle_at world number ≡ Some (record { state = state; work = Some work })
      → CanHappenAt world.cores.items number state (ask_on state work)
  turn_can_happen number state work there = can_known_at number state (ask_on state work) (λ h. can_happen_now world h number state work there (ask_on state work) refl)

  pub turn_under_way : (number : ℕ) (handle : Seen) → handle_at world number ≡ Some handle → (work : Work) → handle.work ≡ Some work → IsUnderWay handle.work
  turn_under_way number handle there work is = subst IsUnderWay (sym is) (under work (there ∙ ap (λ w. Some (record { state = handle.state; work = w })) is))
    where
      under : (own : Work) → handle_at world number ≡ Some (record { state = handle.state; work = Some own }) → IsUnderWay (Some own)
      under (Calling stage) here = tt
      under (Opening opens.Looking) here = tt
      under (Opening (opens.Listing lister percent minimum)) here = tt
      under (Opening (opens.Registering slots)) here = tt
      under (Opening (opens.Done reply)) here = not_there explained (λ h. done_never world h number handle.state reply here)

  pub close_sits : (number : ℕ) (handle : Seen) → why_not_now world (steps.Close number) ≡ None → handle_at world number ≡ Some handle
      → SitsAt world.cores.items handle.state.core number
  close_sits number handle valid there = record {
    within = below handle.state.core (length world.cores.items) (λ wrong. not_there explained (λ h. wrong (closes_at world h number handle valid there).within));
    there = taken_seat _ (λ wrong. not_there explained (λ h. wrong (closes_at world h number handle valid there).there));
  }

  module _ (number from : ℕ) (valid : why_not_now world (steps.Clone number from) ≡ None) where
    pub clone_within : (parent : Seen) → handle_at world from ≡ Some parent → parent.state.core < length world.cores.items
    clone_within parent there =
        below parent.state.core (length world.cores.items) (λ wrong. not_there explained (λ h. wrong (clones_at world h number from valid parent there).within))

    -- the parent of a clone is registered at its core
    pub clone_held : (parent : Seen) → handle_at world from ≡ Some parent → IsHeld (history_at world.cores.items parent.state.core)
    clone_held parent there =
        held_by (history_at world.cores.items parent.state.core) from
        (taken_seat (registered_at world.cores.items parent.state.core from)
        (λ wrong. not_there explained (λ h. wrong (clones_at world h number from valid parent there).there)))

    pub clone_free : IsNowhere world.cores.items number
    clone_free store = free_seat (registered_at world.cores.items store number) (λ wrong. not_there explained (λ h. wrong (clone_out world h number from valid store)))
