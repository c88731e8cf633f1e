-- How many turns a look-up may take, by its answers: a lap is one way through all that a list names, and through the folders.
use Rattle.std.specs.Prelude.{◌≡◌, ◌≢◌, ℕ, ◌+◌, ◌*◌, ◌≤◌, List, [], ◌∷◌, length, Option, Some, None, Ok}
use Rattle.gix_odb_events.specs.Answers as core
use Rattle.gix_odb_events.specs.View.{last_state}
use Rattle.gix_odb_events.specs.declared.event.Effect.TheVariants as effects
use Rattle.gix_odb_events.specs.declared.event.Event.{Event}
use Rattle.gix_odb_events.specs.declared.event.Event.TheVariants as events
use Rattle.gix_odb_events.specs.declared.view.View.{View}
use Rattle.gix_odb_events.specs.declared.answer.Answer.{Answer}
use Rattle.gix_odb_events.specs.declared.answer.Answer.TheVariants as told
use Rattle.gix_odb_events.specs.declared.answer.Ask.{Ask}
use Rattle.gix_odb_events.specs.declared.answer.Ask.TheVariants as asks
use Rattle.gix_odb.specs.LookExchanges.{Exchange}
use Rattle.gix_odb.specs.LookUpOrder.{view_of}
pub use Rattle.gix_odb.specs.Lap.{HasAtMost, AreWithin, turns_of_lap}

-- ---- what is known of lists

-- a view has no more loaded and listed indices than there are slots
abbrev pub HasFew : (slots : ℕ) → View → Type 0
HasFew slots view = (length view.snapshot.indices + length view.todo ≤ slots) × (view.list_no ≤ last_state)

-- an answer after the number of a list, and the number after it: numbers never fall, a publish makes the next number of its base, and
-- confirms it where nothing is new; an outdated listing has another base
abbrev pub number_by : (before : ℕ) → Answer → ℕ
number_by before (told.Core (Ok (effects.Outdated number))) = number
number_by before answer = number_of before (view_of answer)
  where
    number_of : ℕ → Option View → ℕ
    number_of before None = before
    number_of before (Some view) = view.list_no

abbrev pub Follows : (before : ℕ) → Event → core.Answer → Type 0
Follows before (events.Publish listing) (Ok (effects.Published view)) = view.list_no ≡ listing.base + 1
Follows before (events.Publish listing) (Ok (effects.Unchanged view)) = view.list_no ≡ listing.base
Follows before (events.Publish listing) (Ok (effects.Outdated number)) = (number ≢ listing.base) × (number ≤ last_state)
Follows before event answer = Unit {0}

abbrev pub IsNumbered : (slots before : ℕ) → Ask → Answer → Type 0
IsNumbered slots before (asks.Core event) (told.Core answer) =
    (before ≤ number_by before (told.Core answer)) × Follows before event answer × ((view : View) → view_of (told.Core answer) ≡ Some view → HasFew slots view)
IsNumbered slots before (asks.NewCore core_slots folders) answer = before ≤ number_by before answer
IsNumbered slots before ask answer = Unit {0}

abbrev pub AreNumbered : (slots before : ℕ) → List Exchange → Type 0
AreNumbered slots before [] = Unit {0}
AreNumbered slots before (exchange ∷ exchanges) =
    IsNumbered slots before exchange.ask exchange.answer × AreNumbered slots (number_by before exchange.answer) exchanges

-- ---- the bound

-- two laps more than the changes of the list that the look-up may meet
abbrev pub turns_of_look : (slots folders most entries : ℕ) → ℕ
turns_of_look slots folders most entries = (most + 2) * turns_of_lap slots folders entries
