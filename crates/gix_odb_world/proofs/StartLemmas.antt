-- The start of a call on an idle handle.
use Rattle.std.proofs.Common.{◌≡◌, ℕ, ◌+◌, Bool, true, false, List, [], ◌∷◌, ◌++◌, length, Some, None, Option, refl, sym, ◌∙◌, ap, subst, arith}
use Rattle.std.proofs.lemmas.List.{length_push}
use Rattle.odb_disk.specs.MemDisk.{Volume}
use Rattle.gix_odb_calls.specs.declared.store_parts.StoreParts.{StoreParts}
use Rattle.gix_odb_calls.specs.declared.step.Step.TheVariants as steps
use Rattle.gix_odb_calls.specs.declared.step.Outcome.TheVariants as outcomes
use Rattle.gix_odb_calls.specs.declared.call.Call.{Call}
use Rattle.gix_odb_history.specs.declared.record.Did.TheVariants.{Nothing}
use Rattle.gix_odb_world.specs.Work.{Work}
use Rattle.gix_odb_world.specs.Work.{Calling}
use Rattle.gix_odb_world.specs.declared.course.Course.{Course}
use Rattle.gix_odb.specs.CallOrder as calls
use Rattle.gix_odb.specs.CallOrder.{HasSize}
use Rattle.std.specs.Option.{option_map}
use Rattle.gix_odb_world.specs.declared.handle.Handle.{Handle}
use Rattle.gix_odb_world.specs.declared.handle.HandleAt.TheVariants as stands
use Rattle.gix_odb.specs.declared.call_state.CallState.{CallState}
use Rattle.gix_odb.specs.declared.handle_state.HandleState.{HandleState}
use Rattle.gix_odb.specs.Contents.{sought}
use Rattle.gix_odb_history.specs.Event.{Event, OfNothing}
use Rattle.gix_odb_world.specs.Status.{MakeCall, Store, Status, Free, Resting, Working, begun_with, setting_in, started, status_of, view_in_modes, Modes}
use Rattle.gix_odb_world.specs.Handle.{HandleParts, IsHandleOf, Seen, seen, setting_at, sought_by, view_at}
use Rattle.gix_odb.specs.HandleState.{IsAlike, unseen}
use Rattle.gix_odb_history.specs.Run.{IsTurnOf}
use Rattle.gix_odb_world.specs.Running.{Runs, RunsThroughout}
use Rattle.gix_odb_world.specs.Valid.{phase_of, why_not_of_hash, why_not_start}
use Rattle.gix_odb_world.specs.World.{Continues, Explains, Matches, handle_at}
use Rattle.gix_odb_world.specs.Table.{SetsHandle, Notes, phase_of_handle, phase_of_work, why_not_now, with_call, with_work}
use Rattle.std.specs.Prelude.{slice_get, unwrap_or}
use Rattle.odb_disk.specs.Tree.{IsTree, tree_of}
use Rattle.gix_odb_calls.specs.Hashes.{is_of_hash}
use Rattle.gix_odb_world.specs.Begun.{HoldsStore}
use Rattle.gix_odb_history.specs.Cores.{cores_after, cores_after_asked}
use Rattle.gix_odb_world.specs.Headline.{IsLawful}
use Rattle.gix_odb_world.specs.Seats.{HasSeat, IsSeated}
use Rattle.gix_odb_world.proofs.BegunLemmas.{stems_now}
use Rattle.gix_odb_world.proofs.BegunLemmas.OneEvent.{Stems}
use Rattle.gix_odb_world.proofs.HistoryLemmas.{cores_after-push}
use Rattle.gix_odb_world.proofs.MachineLaws.{IsStarted}
use Rattle.gix_odb_world.proofs.OpenFacts.{openable}
use Rattle.gix_odb_world.proofs.SeatLemmas.{seats_now}
use Rattle.gix_odb_world.proofs.SettingLemmas.{parts_alike, setting_same}
use Rattle.gix_odb_world.proofs.Stock.{HasStock}
use Rattle.gix_odb_world.proofs.Stock as stocks
use Rattle.gix_odb_world.proofs.Stock.OneCore.{IsStocked, of_store_later}
use Rattle.gix_odb_world.proofs.StepLemmas.{applied, why_not-same}
use Rattle.gix_odb_world.proofs.KnowsLemmas.{begins, runs-push}

-- the work of the code is that of the store
work_started : (store : Store) (modes : Modes) (state : HandleParts) (call : Call) → IsHandleOf store modes state
    → Calling (calls.started (setting_at state) state.info.object_hash state.refresh (view_at state) (sought_by state) call) ≡ begun_with store modes (MakeCall call)
work_started store modes state call own =
    ap (λ setting. Calling (calls.started setting state.info.object_hash state.refresh (view_at state) (sought_by state) call)) (setting_same store modes state own)
    ∙ (ap (λ (parts : StoreParts). Calling (calls.started (setting_in store) parts.object_hash state.refresh (view_at state) (sought parts state.ignoring) call)) own.parts
    ∙ (ap (λ mode. Calling (calls.started (setting_in store) store.parts.object_hash mode (view_at state) (sought store.parts state.ignoring) call)) own.refresh
    ∙ (ap (λ view. Calling (calls.started (setting_in store) store.parts.object_hash modes.refresh (unwrap_or view unseen) (sought store.parts state.ignoring) call)) own.view
    ∙ ap (λ ignoring. Calling (calls.started (setting_in store) store.parts.object_hash modes.refresh (view_in_modes modes) (sought store.parts ignoring) call)) own.ignoring)))

matches_started : (n : ℕ) (call : Call) (status : Status) (handle : Seen) (work : Work) → why_not_start (phase_of_handle (Some handle)) call ≡ None
    → work ≡ Calling (calls.started (setting_at handle.state) handle.state.info.object_hash handle.state.refresh (view_at handle.state) (sought_by handle.state) call)
    → Matches status (Some handle) → Matches (started n call status) (with_work (Some work) (Some handle))
matches_started n call Free handle work idle is match = absurd match
matches_started n call (Resting store modes) handle work idle is match = (match.0, ap Some (is ∙ work_started store modes handle.state call match.0))
matches_started n call (Working running) handle work idle is match =
    absurd (cc (subst (λ (w : Option Work). why_not_start (phase_of_work handle.state.info.object_hash w) call ≡ None) match.1 idle))

-- a call on a copy of a handle is one on the handle
pub on_a_copy : (core : ℕ) (state : HandleState) (call : CallState) (handle : Option Handle) → handle ≡ Some (record { core = core; at = stands.Resting state })
    → IsAlike call.handle state → option_map seen (with_call call handle) ≡ with_work (Some (Calling call.stage)) (option_map seen handle)
on_a_copy core state call handle is alike =
    ap (λ h. option_map seen (with_call call h)) is ∙ (ap (λ parts. Some (record { state = parts; work = Some (Calling call.stage) })) (parts_alike core call.handle state alike)
    ∙ sym (ap (λ h. with_work (Some (Calling call.stage)) (option_map seen h)) is))

-- ---- what holds where a call begins

valid_idle : (status : Status) (call : Call) → None ≡ why_not_start (phase_of status) call → (store : Store) (modes : Modes) → status ≡ Resting store modes
    → is_of_hash store.parts.object_hash call ≡ true
valid_idle status call valid store modes is = by (is_of_hash store.parts.object_hash call) refl (valid ∙ ap (λ s. why_not_start (phase_of s) call) is)
  where
    by : (b : Bool) → is_of_hash store.parts.object_hash call ≡ b → None ≡ why_not_of_hash (is_of_hash store.parts.object_hash call) → is_of_hash store.parts.object_hash call ≡ true
    by true is valid = is
    by false is valid = absurd (cc (valid ∙ ap why_not_of_hash is))

starts_well : (first : Volume) (events : List Event) (e : Event) (number : ℕ) (store : Store) (modes : Modes) (call : Call) → IsLawful first events
    → status_of events number ≡ Resting store modes → e.asked ≡ OfNothing → HasSize call → is_of_hash store.parts.object_hash call ≡ true
    → RunsThroughout first events → IsTree (tree_of first.state) → IsStarted first (events ++ e ∷ []) number store modes call
starts_well first events e number store modes call lawful status asked sized hashed throughout start =
    let cores : cores_after (events ++ e ∷ []) ≡ cores_after events = cores_after-push events e ∙ ap (cores_after_asked (cores_after events)) asked in
    let seated : IsSeated (cores_after events) number modes = subst (HasSeat events number) status (seats_now first events lawful number) in
    let holds : HoldsStore events number store modes = subst (Stems events number) status (stems_now first events lawful number) in
    let facts = openable first store events number modes lawful holds in
    let early = facts.opened in
    let stock : IsStocked first events modes.core store = subst (HasStock first events) status (stocks.stocked first events lawful throughout number) in
    let longer = length_push events e in
    record {
      seated = subst (λ cs. IsSeated cs number modes) (sym cores) seated;
      sized = sized;
      hashed = hashed;
      replaced = facts.replaced;
      distinct = facts.distinct;
      opened = omega (arith, early, longer);
      stocked = record {
        history = stock.history;
        there = ap (λ cs. slice_get cs modes.core) cores ∙ stock.there;
        of = of_store_later first events e store stock.history stock.of;
      };
    }

runs_started : (old : Course) (number : ℕ) (call : Call) → HasSize call → why_not_now old (steps.Start number call) ≡ None → (first : Volume) (events : List Event) (e : Event)
    → Explains first events old → e.step ≡ steps.Start number call → e.asked ≡ OfNothing → ((other : ℕ) → ¬ IsTurnOf other e)
    → Runs first (events ++ e ∷ []) number (started (length events + 1) call (status_of events number))
runs_started old number call sized reason first events e explains starts asked no_turn = by (status_of events number) refl (explains.running number)
  where
    valid : None ≡ why_not_start (phase_of (status_of events number)) call
    valid = sym (why_not-same first events old (steps.Start number call) explains ∙ reason)

    by : (status : Status) → status_of events number ≡ status → Runs first events number status → Runs first (events ++ e ∷ []) number (started (length events + 1) call status)
    by Free is runs = tt
    by (Resting store modes) is runs =
        let whole : length (events ++ e ∷ []) ≡ length events + 1 = length_push events e in (
          omega (arith, whole),
          begins first events e number store modes (MakeCall call)
              (starts_well first events e number store modes call explains.lawful is asked sized (valid_idle (status_of events number) call valid store modes is) explains.throughout explains.start),
        )
    by (Working running) is runs = runs-push first events e number (Working running) (no_turn number) runs

begun : (old mid new : Course) (number : ℕ) (call : Call) (handle : Seen) (work : Work) → HasSize call
    → why_not_now old (steps.Start number call) ≡ None → handle_at old number ≡ Some handle
    → work ≡ Calling (calls.started (setting_at handle.state) handle.state.info.object_hash handle.state.refresh (view_at handle.state) (sought_by handle.state) call)
    → SetsHandle old mid number (with_work (Some work) (handle_at old number)) → Notes mid new outcomes.Applied Nothing None
    → Continues old (steps.Start number call) new
begun old mid new number call handle work sized reason there is sets notes =
    applied old mid new old.shown (steps.Start number call) number (with_work (Some work) (handle_at old number)) (λ n status. started n call status)
    reason
    (record { table = sets.table; disk = sets.disk; cores = sets.cores; shown = sets.shown; outcomes = sets.outcomes; records = sets.records })
    notes (λ trees since now is begun k. k) (λ turn. turn) refl (λ other turn. cc) (λ n asked table. refl)
    (λ n status match.
    subst (λ (h : Option Seen). Matches (started n call status) (with_work (Some work) h)) (sym there)
    (matches_started n call status handle work (subst (λ (h : Option Seen). why_not_start (phase_of_handle h) call ≡ None) there reason) is (subst (Matches status) there match)))
    (λ first events e explains is asked others. runs_started old number call sized reason first events e explains is asked others)
    (λ events. refl)

-- where the call is a copy
pub begun_by : (old mid new : Course) (number : ℕ) (copy call : Call) (handle : Seen) (work : Work) → copy ≡ call → HasSize copy
    → why_not_now old (steps.Start number call) ≡ None → handle_at old number ≡ Some handle
    → work ≡ Calling (calls.started (setting_at handle.state) handle.state.info.object_hash handle.state.refresh (view_at handle.state) (sought_by handle.state) copy)
    → SetsHandle old mid number (with_work (Some work) (handle_at old number)) → Notes mid new outcomes.Applied Nothing None
    → Continues old (steps.Start number call) new
begun_by old mid new number copy call handle work same sized reason there is sets notes =
    begun old mid new number call handle work (subst HasSize same sized) reason there
    (is ∙ ap (λ own. Calling (calls.started (setting_at handle.state) handle.state.info.object_hash handle.state.refresh (view_at handle.state) (sought_by handle.state) own)) same) sets notes
