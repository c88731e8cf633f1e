-- What a look-up takes from a handle of the code is what it takes from the handle's store; and a copy of a handle has what the handle has.
use Rattle.std.proofs.Common.{◌≡◌, ℕ, Bool, true, false, Option, Some, None, refl, sym, ap, ◌∙◌}
use Rattle.std.specs.Prelude.{if◌then◌else◌, ◌==◌}
use Rattle.std.specs.Option.{option_map}
use Rattle.gix_odb.specs.HandleState.{IsAlike, with_view}
use Rattle.gix_odb.specs.declared.handle_state.HandleState.{HandleState}
use Rattle.gix_odb_events.specs.declared.view.View.{View}
use Rattle.gix_odb_world.specs.AtWork.{Modes, Store, setting_in}
use Rattle.gix_odb_world.specs.Handle.{HandleParts, IsHandleOf, parts_of, seen, seen_at, setting_at}
use Rattle.gix_odb_world.specs.Table.{PutsHandle, SetsHandle, frozen_at, ignoring_at, phase_of_handle, seen_frozen, seen_ignoring, shared_with, with_frozen, with_ignoring}
use Rattle.gix_odb_world.specs.Valid.{why_not_idle}
use Rattle.gix_odb_world.specs.World.{stored_at}
use Rattle.gix_odb_world.specs.declared.course.Course.{Course}
use Rattle.gix_odb_world.specs.declared.handle.Handle.{Handle}
use Rattle.gix_odb_world.specs.declared.handle.HandleAt.{HandleAt}
use Rattle.gix_odb_world.specs.declared.handle.HandleAt.TheVariants as stands

pub setting_same : (store : Store) (modes : Modes) (state : HandleParts) → IsHandleOf store modes state → setting_at state ≡ setting_in store
setting_same store modes state own =
    ap (λ parts. record (setting_at state) { parts = parts }) own.parts ∙ ap (λ most. record (setting_in store) { most = most }) own.changes

-- ---- the table of handles

map_if : (b : Bool) (handle before : Option Handle) → option_map seen (if b then handle else before) ≡ (if b then option_map seen handle else option_map seen before)
map_if true handle before = refl
map_if false handle before = refl

-- where the tables of two worlds differ in the handle that has a number, they do so as proofs see them
pub sets_seen : (old new : Course) (number : ℕ) (handle : Option Handle) → PutsHandle old new number handle → SetsHandle old new number (option_map seen handle)
sets_seen old new number handle puts = record {
  table = λ other. ap (option_map seen) (puts.table other) ∙ map_if (other == number) handle (stored_at old other);
  disk = puts.disk;
  cores = puts.cores;
  shown = puts.shown;
  outcomes = puts.outcomes;
  records = puts.records;
}

-- an idle handle that never refreshes its list is at rest
pub frozen_seen : (handle : Option Handle) → why_not_idle (phase_of_handle (option_map seen handle)) ≡ None
    → option_map seen (with_frozen handle) ≡ seen_frozen (option_map seen handle)
frozen_seen None idle = absurd (cc idle)
frozen_seen (Some handle) idle = by handle.core handle.at idle
  where
    by : (core : ℕ) (at : HandleAt) → why_not_idle (phase_of_handle (Some (seen_at core at))) ≡ None
        → Some (seen_at core (frozen_at at)) ≡ seen_frozen (Some (seen_at core at))
    by core (stands.Opening opening) idle = absurd (cc idle)
    by core (stands.Resting state) idle = refl
    by core (stands.Calling call) idle = absurd (cc idle)

-- an idle handle that ignores replacements is at rest
pub ignoring_seen : (handle : Option Handle) → why_not_idle (phase_of_handle (option_map seen handle)) ≡ None
    → option_map seen (with_ignoring handle) ≡ seen_ignoring (option_map seen handle)
ignoring_seen None idle = absurd (cc idle)
ignoring_seen (Some handle) idle = by handle.core handle.at idle
  where
    by : (core : ℕ) (at : HandleAt) → why_not_idle (phase_of_handle (Some (seen_at core at))) ≡ None
        → Some (seen_at core (ignoring_at at)) ≡ seen_ignoring (Some (seen_at core at))
    by core (stands.Opening opening) idle = absurd (cc idle)
    by core (stands.Resting state) idle = refl
    by core (stands.Calling call) idle = absurd (cc idle)

-- handles that are alike have equal parts
pub parts_alike : (core : ℕ) (one other : HandleState) → IsAlike one other → parts_of core one ≡ parts_of core other
parts_alike core one other alike =
    ap (λ info. record (parts_of core one) { info = info }) alike.info
    ∙ (ap (λ refresh. record (parts_of core one) { info = other.info.value; refresh = refresh }) alike.refresh
    ∙ (ap (λ ignoring. record (parts_of core one) { info = other.info.value; refresh = other.refresh; ignoring = ignoring }) alike.ignoring
    ∙ (ap (λ most. record (parts_of core one) { info = other.info.value; refresh = other.refresh; ignoring = other.ignore_replacements; max_changes = most }) alike.changes
    ∙ ap (λ view. record (parts_of core other) { view = Some view }) alike.view)))

-- another handle on the store of one has what that has, except its snapshot
pub shares_alike : (core : ℕ) (state other : HandleState) (view : View) (parent : Option Handle) → parent ≡ Some (record { core = core; at = stands.Resting state })
    → IsAlike other (with_view state view) → Some (seen_at core (stands.Resting other)) ≡ shared_with view (option_map seen parent)
shares_alike core state other view parent is alike =
    ap (λ parts. Some (record { state = parts; work = None })) (parts_alike core other (with_view state view) alike) ∙ sym (ap (λ h. shared_with view (option_map seen h)) is)
