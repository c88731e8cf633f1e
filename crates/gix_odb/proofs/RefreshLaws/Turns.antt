-- How many turns a refresh takes.
use Rattle.std.proofs.Common.{◌≡◌, ℕ, zero, suc, ◌+◌, ◌-◌, ◌*◌, ◌≤◌, Bool, true, false, List, [], ◌∷◌, length, Option, Some, None, Ok, Err, subst, arith}
use Rattle.std.specs.Prelude.{if◌then◌else◌}
use Rattle.std.proofs.lemmas.Option.{same_Some}
use Rattle.odb_base.specs.Path.{Path}
use Rattle.gix_odb_events.specs.declared.listing.Listing.{Listing}
use Rattle.gix_odb_events.specs.declared.event.Effect.{Effect}
use Rattle.gix_odb_events.specs.declared.event.Effect.TheVariants as effects
use Rattle.gix_odb_events.specs.declared.event.Event.TheVariants as events
use Rattle.gix_odb_events.specs.declared.view.View.{View}
use Rattle.gix_odb_search.specs.ListOrder as lists
use Rattle.gix_odb_search.specs.ListedStore.{ListedStore}
use Rattle.gix_odb_events.specs.declared.answer.Answer.{Answer}
use Rattle.gix_odb_events.specs.declared.answer.Answer.TheVariants as told
use Rattle.gix_odb_events.specs.declared.answer.Ask.{Ask}
use Rattle.gix_odb_events.specs.declared.answer.Ask.TheVariants as asks
use Rattle.gix_odb_search.specs.declared.lister.ListStep.{ListStep}
use Rattle.gix_odb_search.specs.declared.lister.ListStep.TheVariants as listed
use Rattle.gix_odb_search.specs.declared.lister.Lister.{Lister}
use Rattle.gix_odb.specs.Exchange.{AreAnswered, Exchange, IsAnswerTo}
use Rattle.gix_odb.specs.Lap.{AreWithin, HasAtMost, turns_of_lap}
use Rattle.gix_odb.specs.Stream.{Stream, stream_by}
use Rattle.gix_odb.proofs.ListerLaws.Turns.{IsCounted, ListsFor, fed_lists, folder_turns, further, lister_turns, lister_turns-pos}
use Rattle.gix_odb.specs.Asked as any
use Rattle.gix_odb.specs.RefreshOrder.{ask_of, asked_of, by_listed, by_look, by_published, by_view, fed, listing_from, step_fed, view_shown}
use Rattle.gix_odb.specs.declared.refresh.Refresh.{Refresh}
use Rattle.gix_odb.specs.declared.refresh.Refresh.TheVariants as stages
use Rattle.gix_odb.specs.declared.refresh.RefreshStep.{RefreshStep}
use Rattle.gix_odb.specs.declared.refresh.RefreshStep.TheVariants as steps

wide : (slots folders entries : ℕ) → (3 * entries + 3) + (folders - 0) * (3 * entries + 3) + 2 ≤ turns_of_lap slots (suc folders) entries
wide slots folders entries =
    let whole : folders - 0 ≡ folders = omega arith in
    rw whole (omega arith)

module _ (objects : Path) (store : ListedStore) (entries : ℕ) where
  abbrev pub listing_turns : ℕ
  listing_turns = folder_turns store entries + further store entries 0

  -- so many turns are enough, where the open stream gave what the listing has: a read of the core's state, a listing, and its publishing
  abbrev pub HasTurns : Option Stream → Refresh → (turns : ℕ) → Type 0
  HasTurns stream stages.Reading turns = listing_turns + 2 ≤ turns
  HasTurns stream (stages.Listing lister) turns = IsCounted store entries stream lister × (lister_turns store entries lister + 1 ≤ turns)
  HasTurns stream (stages.Publishing listing) turns = 1 ≤ turns

  abbrev pub StepHasTurns : Option Stream → RefreshStep → (turns : ℕ) → Type 0
  StepHasTurns stream (steps.More refresh) turns = HasTurns stream refresh turns
  StepHasTurns stream step turns = Unit {0}

  refresh_has_turns : (stream : Option Stream) (refresh : Refresh) → ¬ (HasTurns stream refresh 0)
  refresh_has_turns stream stages.Reading enough = omega arith
  refresh_has_turns stream (stages.Listing lister) enough = omega (arith, enough.1)
  refresh_has_turns stream (stages.Publishing listing) enough = omega arith

  -- one that asks has a turn left
  asking_has_turns : (stream : Option Stream) (step : RefreshStep) (ask : Ask) → asked_of step ≡ Some ask → ¬ (StepHasTurns stream step 0)
  asking_has_turns stream (steps.More refresh) ask is enough = refresh_has_turns stream refresh enough
  asking_has_turns stream (steps.Read view) ask is enough = cc is
  asking_has_turns stream (steps.Current view own) ask is enough = cc is
  asking_has_turns stream (steps.Outdated list_no) ask is enough = cc is
  asking_has_turns stream (steps.Refused error) ask is enough = cc is

  -- ---- one turn

  module _ (stream : Option Stream) (turns : ℕ) where
    -- what is left after an answer to an ask
    abbrev Goes : Refresh → Ask → Answer → Type 0
    Goes refresh ask answer =
        IsAnswerTo ask answer → HasAtMost entries (stream_by stream ask answer) → StepHasTurns (stream_by stream ask answer) (fed objects store refresh answer) turns

    view_goes : (view : View) → listing_turns + 2 ≤ suc turns → StepHasTurns stream (by_view objects view) turns
    view_goes view enough = by view.read
      where
        by : (read : Bool) → StepHasTurns stream (if read then steps.Read view else steps.More (listing_from objects view.list_no)) turns
        by true = tt
        by false = (tt, omega arith)

    shown_goes : (shown : Option View) → ((view : View) × (shown ≡ Some view)) → listing_turns + 2 ≤ suc turns → StepHasTurns stream (by_look objects shown) turns
    shown_goes None is enough = absurd (cc is.1)
    shown_goes (Some view) is enough = view_goes view enough

    look_goes : listing_turns + 2 ≤ suc turns → (answer : Answer) → Goes stages.Reading (asks.Core events.Look) answer
    look_goes enough (told.Disk answer) is fits = absurd is
    look_goes enough (told.Core (Ok effect)) is fits = shown_goes (view_shown effect) is enough
    look_goes enough (told.Core (Err refusal)) is fits = tt

    listed_goes : (now : Option Stream) (step : ListStep) → ListsFor store entries (turns - 1) now step → 1 ≤ turns → StepHasTurns now (by_listed step) turns
    listed_goes now (listed.More lister) left some = (left.0, omega (arith, left.1, some))
    listed_goes now (listed.Listed listing) left some = some
    listed_goes now listed.Broken left some = tt
    listed_goes now (listed.TooManyPacks actual path) left some = tt

    listing_goes : (lister : Lister) → HasTurns stream (stages.Listing lister) (suc turns) → (answer : Answer)
        → Goes (stages.Listing lister) (asks.Disk (lists.ask_of lister)) answer
    listing_goes lister (counted, few) (told.Disk answer) is fits =
        let some : 1 ≤ turns = omega (arith, few, lister_turns-pos store entries lister) in
        listed_goes (stream_by stream (asks.Disk (lists.ask_of lister)) (told.Disk answer)) (lists.fed store lister answer)
        (fed_lists store entries (turns - 1) stream lister answer counted fits (omega (arith, few, some)))
        some
    listing_goes lister left (told.Core answer) is fits = absurd is

    published_goes : (listing : Listing) (effect : Effect) → IsAnswerTo (asks.Core (events.Publish listing)) (told.Core (Ok effect))
        → StepHasTurns stream (by_published listing effect) turns
    published_goes listing (effects.Published view) is = tt
    published_goes listing (effects.Unchanged view) is = tt
    published_goes listing (effects.Outdated number) is = tt
    published_goes listing (effects.Seen view) is = absurd is
    published_goes listing (effects.Reported view report) is = absurd is
    published_goes listing (effects.Put view stored) is = absurd is
    published_goes listing effects.Removed is = absurd is

    publish_goes : (listing : Listing) (answer : Answer) → Goes (stages.Publishing listing) (asks.Core (events.Publish listing)) answer
    publish_goes listing (told.Disk answer) is fits = absurd is
    publish_goes listing (told.Core (Ok effect)) is fits = published_goes listing effect is
    publish_goes listing (told.Core (Err refusal)) is fits = tt

    goes : (refresh : Refresh) → HasTurns stream refresh (suc turns) → (answer : Answer) → Goes refresh (ask_of refresh) answer
    goes stages.Reading enough answer = look_goes enough answer
    goes (stages.Listing lister) enough answer = listing_goes lister enough answer
    goes (stages.Publishing listing) enough answer = publish_goes listing answer

    step_goes : (step : RefreshStep) → StepHasTurns stream step (suc turns) → (ask : Ask) (answer : Answer) → asked_of step ≡ Some ask
        → IsAnswerTo ask answer → HasAtMost entries (stream_by stream ask answer)
        → StepHasTurns (stream_by stream ask answer) (step_fed objects store step answer) turns
    step_goes (steps.More refresh) enough ask answer is =
        subst (λ (own : Ask). Goes refresh own answer) (same_Some (ask_of refresh) ask is) (goes refresh enough answer)
    step_goes (steps.Read view) enough ask answer is = absurd (cc is)
    step_goes (steps.Current view own) enough ask answer is = absurd (cc is)
    step_goes (steps.Outdated list_no) enough ask answer is = absurd (cc is)
    step_goes (steps.Refused error) enough ask answer is = absurd (cc is)

  -- ---- all turns

  pub turns_taken : (stream : Option Stream) (turns : ℕ) (step : RefreshStep) (exchanges : List Exchange) → StepHasTurns stream step turns
      → any.AreAsked asked_of (step_fed objects store) step exchanges
      → AreWithin entries stream exchanges
      → AreAnswered exchanges
      → length exchanges ≤ turns
  turns_taken stream turns step [] enough asked within answered = omega arith
  turns_taken stream zero step (exchange ∷ exchanges) enough asked within answered =
      absurd (asking_has_turns stream step exchange.ask asked.0 enough)
  turns_taken stream (suc turns) step (exchange ∷ exchanges) enough asked within answered =
      let rest =
      turns_taken (stream_by stream exchange.ask exchange.answer) turns (step_fed objects store step exchange.answer) exchanges
      (step_goes stream turns step enough exchange.ask exchange.answer asked.0 answered.0 within.0) asked.1 within.1 answered.1
      in
      omega (arith, rest)

  -- a lap has room for a read of the core's state, a listing and its publishing
  pub lap_is_wide : (slots : ℕ) → listing_turns + 2 ≤ turns_of_lap slots (suc (length store.folders)) entries
  lap_is_wide slots = wide slots (length store.folders) entries
