-- What a handle at work asked and was answered since its work began, and the state of its work after that: the look-up of a query, an opening,
-- the refresh before a write.
use Rattle.std.specs.Prelude.{ℕ, List, drop, take, Option, Some, None, unwrap_or, if◌then◌else◌}
use Rattle.std.specs.List.{filter_map}
use Rattle.gix_odb_core.specs.Replay.{snapshot_of}
use Rattle.gix_odb_events.specs.declared.view.View.{View}
use Rattle.gix_odb_events.specs.declared.answer.Answer.TheVariants as told
use Rattle.gix_odb_events.specs.declared.answer.Ask.TheVariants as asks
use Rattle.gix_odb_calls.specs.declared.query.Query.{Query}
pub use Rattle.gix_odb_calls.specs.Query.{call_of}
use Rattle.gix_odb.specs.LookExchanges.{Exchange, behind}
use Rattle.gix_odb.specs.LookUpOrder.{started}
use Rattle.gix_odb.specs.declared.look_up.LookUp.{LookUp}
use Rattle.gix_odb.specs.RefreshOrder as refreshes
use Rattle.gix_odb.specs.Refreshed as refreshed
use Rattle.gix_odb.specs.declared.refresh.RefreshStep.{RefreshStep}
use Rattle.gix_odb.specs.Contents.{sought}
use Rattle.gix_odb.specs.HandleState.{unseen}
use Rattle.gix_odb.specs.OpenExchanges as openings
use Rattle.gix_odb.specs.declared.open_state.OpenStage.{OpenStage}
use Rattle.gix_odb.specs.declared.open_state.OpenStage.TheVariants as opens
use Rattle.gix_odb_world.specs.AtWork.{Modes, Store, setting_in}
use Rattle.gix_odb_history.specs.Cores.{cores_after, history_at}
use Rattle.gix_odb_history.specs.Event.{Asked, Event, OfCore, OfDisk, OfNewCore, OfNothing}
use Rattle.gix_odb_history.specs.Turned.{is_turn_of}

-- what was asked and answered, where it was a call of the disk or an event of a core that was there
abbrev pub exchange_of : Asked → Option Exchange
exchange_of OfNothing = None
exchange_of (OfDisk ask answer) = Some (record { ask = asks.Disk ask; answer = told.Disk answer })
exchange_of (OfCore store seat event answer) = Some (record { ask = asks.Core event; answer = told.Core answer })
exchange_of (OfNewCore slots folders store seat answer) = None

-- what was asked and answered in an event, where it is a turn of the handle
abbrev pub exchange_in : (handle : ℕ) → Event → Option Exchange
exchange_in handle e = if is_turn_of handle e then exchange_of e.asked else None

-- the exchanges of the turns of a handle after the event that has a number
unfoldable pub told_since : List Event → (handle number : ℕ) → List Exchange
told_since events handle number = filter_map (exchange_in handle) (drop number events)

-- What a handle of the store of a core saw at the event that has a number: its snapshot, which is the view that the core last passed to
-- it by then.
unfoldable pub view_then : List Event → (handle core number : ℕ) → View
view_then events handle core number = unwrap_or (snapshot_of handle (history_at (cores_after (take number events)) core).entries) unseen

-- the look-up with which a query of a handle began at the event that has a number
abbrev pub look_begun : List Event → (handle : ℕ) → Store → Modes → (begun : ℕ) → Query → LookUp
look_begun events handle store modes begun query =
    started (setting_in store) modes.refresh (view_then events handle modes.core begun) query.want (sought store.parts modes.ignoring query)

-- and its state after all answers to the handle since then
abbrev pub look_now : List Event → (handle : ℕ) → Store → Modes → (begun : ℕ) → Query → LookUp
look_now events handle store modes begun query =
    behind (setting_in store) (look_begun events handle store modes begun query) (told_since events handle begun)

-- the stage of an opening that began at the event that has a number, after all answers to its handle since then
abbrev pub opening_now : List Event → (handle : ℕ) → Store → (begun : ℕ) → OpenStage
opening_now events handle store begun = openings.behind (setting_in store) store.parts.slots opens.Looking (told_since events handle begun)

-- the refresh before a write of a handle that began at the event that has a number, as it begins; and after all answers to the handle
-- since then
abbrev pub refresh_begun : List Event → (handle : ℕ) → Modes → (begun : ℕ) → RefreshStep
refresh_begun events handle modes begun = refreshes.started (view_then events handle modes.core begun)

abbrev pub refresh_now : List Event → (handle : ℕ) → Store → Modes → (begun : ℕ) → RefreshStep
refresh_now events handle store modes begun = refreshed.behind (setting_in store) (refresh_begun events handle modes begun) (told_since events handle begun)

-- how many turns it took so far
abbrev pub turns_in_front : List Event → (handle : ℕ) → Store → Modes → (begun : ℕ) → ℕ
turns_in_front events handle store modes begun = refreshed.turns_of (setting_in store) (refresh_begun events handle modes begun) (told_since events handle begun)
