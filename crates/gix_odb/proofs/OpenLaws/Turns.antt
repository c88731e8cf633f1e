-- How many turns an opening takes.
use Rattle.std.proofs.Common.{◌≡◌, ℕ, zero, suc, ◌+◌, ◌-◌, ◌≤◌, Bool, true, false, nat_le, List, [], ◌∷◌, length, Option, Some, subst, arith}
use Rattle.std.specs.Prelude.{if◌then◌else◌}
use Rattle.std.proofs.lemmas.Option.{same_Some}
use Rattle.odb_disk.specs.declared.ask.DiskAnswer.{DiskAnswer}
use Rattle.odb_disk.specs.declared.ask.DiskAnswer.TheVariants as answers
use Rattle.odb_disk.specs.declared.ask.DiskAsk.TheVariants as disk_asks
use Rattle.odb_disk.specs.declared.disk_error.DiskError.TheVariants as disk_errors
use Rattle.odb_disk.specs.declared.meta.Kind.{Kind}
use Rattle.odb_disk.specs.declared.meta.Kind.TheVariants as kinds
use Rattle.gix_odb_events.specs.PackId.{most_slots}
use Rattle.gix_odb_search.specs.ListOrder as lists
use Rattle.gix_odb_events.specs.declared.answer.Answer.{Answer}
use Rattle.gix_odb_events.specs.declared.answer.Answer.TheVariants as told
use Rattle.gix_odb_events.specs.declared.answer.Ask.{Ask}
use Rattle.gix_odb_events.specs.declared.answer.Ask.TheVariants as asks
use Rattle.gix_odb_search.specs.declared.lister.ListStep.{ListStep}
use Rattle.gix_odb_search.specs.declared.lister.ListStep.TheVariants as listed
use Rattle.gix_odb_search.specs.declared.lister.Lister.{Lister}
use Rattle.gix_odb_calls.specs.declared.init.Error.TheVariants as opening_errors
use Rattle.gix_odb_calls.specs.declared.init.Slots.{Slots}
use Rattle.gix_odb_calls.specs.declared.init.Slots.TheVariants.{AsNeededByDiskState, Given}
use Rattle.gix_odb.specs.LookExchanges.{AreAnswered, Exchange, IsAnswerTo}
use Rattle.gix_odb.specs.Laps.{AreWithin, HasAtMost}
use Rattle.gix_odb.specs.LookUpOrder.{Setting}
use Rattle.gix_odb.specs.Shown.{folders_of}
use Rattle.gix_odb.specs.Stream.{Stream, stream_by}
use Rattle.gix_odb.proofs.ListerLaws.Turns.{IsCounted, ListsFor, fed_lists, lister_turns, lister_turns-pos}
use Rattle.gix_odb.proofs.RefreshLaws.Turns.{listing_turns}
use Rattle.gix_odb.specs.OpenOrder.{begun, listed_on, looked, numbered, refused, shown, slots_for}
use Rattle.gix_odb.specs.OpenExchanges.{AreAsked, asks_of, fed_by}
use Rattle.gix_odb.specs.declared.open_state.OpenStage.{OpenStage}
use Rattle.gix_odb.specs.declared.open_state.OpenStage.TheVariants as opens
use Rattle.gix_odb.specs.Store.{listed_for}

module _ (setting : Setting) (slots : Slots) (entries : ℕ) where
  abbrev listing : ℕ
  listing = listing_turns setting.parts.objects (listed_for setting.parts) entries

  -- so many turns are enough, where the open stream gave what the listing has: a stat, a listing, and the registration
  abbrev pub HasTurns : Option Stream → OpenStage → (turns : ℕ) → Type 0
  HasTurns stream opens.Looking turns = listing + 2 ≤ turns
  HasTurns stream (opens.Listing lister percent minimum) turns =
      IsCounted (listed_for setting.parts) entries stream lister × (lister_turns (listed_for setting.parts) entries lister + 1 ≤ turns)
  HasTurns stream (opens.Registering number) turns = 1 ≤ turns
  HasTurns stream (opens.Done reply) turns = Unit {0}

  asking_has_turns : (stream : Option Stream) (state : OpenStage) (ask : Ask) → asks_of setting state ≡ Some ask → ¬ (HasTurns stream state 0)
  asking_has_turns stream opens.Looking ask is enough = omega arith
  asking_has_turns stream (opens.Listing lister percent minimum) ask is enough = omega (arith, enough.1)
  asking_has_turns stream (opens.Registering number) ask is enough = omega arith
  asking_has_turns stream (opens.Done reply) ask is enough = cc is

  module _ (stream : Option Stream) (turns : ℕ) where
    abbrev Goes : OpenStage → Ask → Answer → Type 0
    Goes state ask answer =
        IsAnswerTo ask answer → HasAtMost entries (stream_by stream ask answer) → HasTurns (stream_by stream ask answer) (fed_by setting slots state answer) turns

    number_goes : (now : Option Stream) (number : ℕ) → 1 ≤ turns → HasTurns now (numbered number) turns
    number_goes now number some = by (nat_le number most_slots)
      where
        by : (few : Bool) → HasTurns now (if few then opens.Registering number else refused (opening_errors.TooManySlots number)) turns
        by true = some
        by false = tt

    begun_goes : (own : Slots) → listing + 2 ≤ suc turns → HasTurns stream (begun setting.parts.objects own) turns
    begun_goes (Given number) enough = number_goes stream number (omega arith)
    begun_goes (AsNeededByDiskState percent minimum) enough = (tt, omega arith)

    looked_goes : (answer : DiskAnswer) → listing + 2 ≤ suc turns → HasTurns stream (looked setting.parts.objects slots answer) turns
    looked_goes (answers.Meta meta) enough = by meta.kind
      where
        by : (kind : Kind) → HasTurns stream (shown setting.parts.objects slots kind) turns
        by kinds.Dir = begun_goes slots enough
        by kinds.File = tt
        by kinds.Link = tt
    looked_goes (answers.Refused disk_errors.Failed) enough = tt
    looked_goes answer enough = tt

    listed_goes : (now : Option Stream) (percent minimum : ℕ) (step : ListStep) → ListsFor (listed_for setting.parts) entries (turns - 1) now step → 1 ≤ turns
        → HasTurns now (listed_on percent minimum step) turns
    listed_goes now percent minimum (listed.More lister) left some = (left.0, omega (arith, left.1, some))
    listed_goes now percent minimum (listed.Listed listing) left some = number_goes now (slots_for percent minimum (length listing.rows)) some
    listed_goes now percent minimum listed.Broken left some = tt
    listed_goes now percent minimum (listed.TooManyPacks actual path) left some = tt

    look_goes : listing + 2 ≤ suc turns → (answer : Answer) → Goes opens.Looking (asks.Disk (disk_asks.Look setting.parts.objects true)) answer
    look_goes enough (told.Disk answer) is fits = looked_goes answer enough
    look_goes enough (told.Core answer) is fits = absurd is

    listing_goes : (lister : Lister) (percent minimum : ℕ) → HasTurns stream (opens.Listing lister percent minimum) (suc turns) → (answer : Answer)
        → Goes (opens.Listing lister percent minimum) (asks.Disk (lists.ask_of lister)) answer
    listing_goes lister percent minimum (counted, few) (told.Disk answer) is fits =
        let some : 1 ≤ turns = omega (arith, few, lister_turns-pos (listed_for setting.parts) entries lister) in
        listed_goes (stream_by stream (asks.Disk (lists.ask_of lister)) (told.Disk answer)) percent minimum (lists.fed (listed_for setting.parts) lister answer)
        (fed_lists (listed_for setting.parts) entries (turns - 1) stream lister answer counted fits (omega (arith, few, some)))
        some
    listing_goes lister percent minimum left (told.Core answer) is fits = absurd is

    register_goes : (number : ℕ) (answer : Answer) → Goes (opens.Registering number) (asks.NewCore number (length (folders_of setting))) answer
    register_goes number (told.Disk answer) is fits = absurd is
    register_goes number (told.Core answer) is fits = tt

    goes : (state : OpenStage) → HasTurns stream state (suc turns) → (ask : Ask) (answer : Answer) → asks_of setting state ≡ Some ask → Goes state ask answer
    goes opens.Looking enough ask answer is =
        subst (λ (own : Ask). Goes opens.Looking own answer) (same_Some (asks.Disk (disk_asks.Look setting.parts.objects true)) ask is) (look_goes enough answer)
    goes (opens.Listing lister percent minimum) enough ask answer is =
        subst (λ (own : Ask). Goes (opens.Listing lister percent minimum) own answer) (same_Some (asks.Disk (lists.ask_of lister)) ask is)
        (listing_goes lister percent minimum enough answer)
    goes (opens.Registering number) enough ask answer is =
        subst (λ (own : Ask). Goes (opens.Registering number) own answer) (same_Some (asks.NewCore number (length (folders_of setting))) ask is)
        (register_goes number answer)
    goes (opens.Done reply) enough ask answer is = absurd (cc is)

  pub turns_taken : (stream : Option Stream) (turns : ℕ) (state : OpenStage) (exchanges : List Exchange) → HasTurns stream state turns
      → AreAsked setting slots state exchanges
      → AreWithin entries stream exchanges
      → AreAnswered exchanges
      → length exchanges ≤ turns
  turns_taken stream turns state [] enough asked within answered = omega arith
  turns_taken stream zero state (exchange ∷ exchanges) enough asked within answered = absurd (asking_has_turns stream state exchange.ask asked.0 enough)
  turns_taken stream (suc turns) state (exchange ∷ exchanges) enough asked within answered =
      let rest =
      turns_taken (stream_by stream exchange.ask exchange.answer) turns (fed_by setting slots state exchange.answer) exchanges
      (goes stream turns state enough exchange.ask exchange.answer asked.0 answered.0 within.0) asked.1 within.1 answered.1
      in
      omega (arith, rest)
