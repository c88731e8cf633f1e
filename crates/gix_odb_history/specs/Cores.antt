-- The cores of the stores of a run: each event of a core adds an entry to its history. Stores are numbered from 0, in the order
-- in which their openings made their cores.
use Rattle.std.specs.Prelude.{ℕ, Bool, false, List, [], ◌∷◌, ◌++◌, fold, slice_get, slice_set, Option, Some, None, unwrap_or}
use Rattle.gix_odb_core.specs.Handles.{registered}
use Rattle.gix_odb_core.specs.History.{History, opened, present}
use Rattle.gix_odb_core.specs.Replay.{answer_of, number_behind}
use Rattle.gix_odb_events.specs.declared.event.Event.TheVariants as events
use Rattle.gix_odb_core.specs.declared.journal.Entry.{Entry}
use Rattle.gix_odb_events.specs.declared.view.View.{View}
use Rattle.gix_odb_history.specs.Event.{Asked, CoreAnswer, CoreEvent, Event, OfCore, OfDisk, OfNewCore, OfNothing}

-- the entry that an event adds after a history, with an answer
abbrev pub entry_of : History → (seat : ℕ) → CoreEvent → CoreAnswer → Entry
entry_of history seat event answer = record { number = number_behind history.entries; seat = seat; event = event; answer = answer }

-- a history with the entry of an event
abbrev pub entered : History → (seat : ℕ) → CoreEvent → CoreAnswer → History
entered history seat event answer = record { opening = history.opening; entries = history.entries ++ entry_of history seat event answer ∷ [] }

-- the history of a store's core
abbrev pub history_at : List History → (store : ℕ) → History
history_at cores store = unwrap_or (slice_get cores store) (opened 0 0 0 0)

-- whether the handle of a seat is stable, if it is registered at the core of a store
abbrev pub registered_at : List History → (store seat : ℕ) → Option Bool
registered_at cores store seat = registered (present (history_at cores store)).handles seat

-- the answer to an event after a history
abbrev pub answer_behind : History → (seat : ℕ) → CoreEvent → CoreAnswer
answer_behind history seat event = answer_of history.entries (present history) (number_behind history.entries) seat event

-- the cores after the ask of an event
abbrev pub cores_after_asked : List History → Asked → List History
cores_after_asked cores OfNothing = cores
cores_after_asked cores (OfDisk ask answer) = cores
cores_after_asked cores (OfCore store seat event answer) = slice_set cores store (entered (history_at cores store) seat event answer)
cores_after_asked cores (OfNewCore slots folders store seat answer) =
    cores ++ entered (opened slots folders 0 0) seat (events.Register false) answer ∷ []

abbrev pub cores_after_event : List History → Event → List History
cores_after_event cores e = cores_after_asked cores e.asked

-- the cores after all events
unfoldable pub cores_after : List Event → List History
cores_after events = fold cores_after_event [] events

-- the view of an answer, or else the one before
abbrev pub or_before : Option View → Option View → Option View
or_before None before = before
or_before (Some view) before = Some view
