-- What is known at each stage of a refresh: of its rows, of its stream, and of the list that was not read.
use Rattle.std.proofs.Common.{◌≡◌, ◌⊎◌, inl, inr, Bool, true, false, List, [], ◌∷◌, ◌++◌, All, Option, Some, None, Ok, Err, refl, sym, ap, ◌∙◌, subst}
use Rattle.std.specs.Prelude.{if◌then◌else◌}
use Rattle.std.proofs.lemmas.List.Elements.{Contains-append_left, Contains-push}
use Rattle.std.proofs.lemmas.Option.{same_Some}
use Rattle.gix_odb_events.specs.declared.listing.Listing.{Listing}
use Rattle.gix_odb_events.specs.Answers.{view_in}
use Rattle.gix_odb_events.specs.declared.event.Effect.{Effect}
use Rattle.gix_odb_events.specs.declared.event.Effect.TheVariants as effects
use Rattle.gix_odb_events.specs.declared.event.Event.TheVariants as events
use Rattle.gix_odb_events.specs.declared.view.View.{View}
use Rattle.gix_odb_search.specs.ListOrder as lists
use Rattle.gix_odb_events.specs.declared.answer.Answer.{Answer}
use Rattle.gix_odb_events.specs.declared.answer.Answer.TheVariants as told
use Rattle.gix_odb_events.specs.declared.answer.Ask.{Ask}
use Rattle.gix_odb_events.specs.declared.answer.Ask.TheVariants as asks
use Rattle.gix_odb_search.specs.declared.lister.ListStep.{ListStep}
use Rattle.gix_odb_search.specs.declared.lister.ListStep.TheVariants as listed
use Rattle.gix_odb_search.specs.declared.lister.Lister.{Lister}
use Rattle.gix_odb.specs.Exchange.{Exchange}
use Rattle.gix_odb.specs.Store.{Setting, listed_for}
use Rattle.gix_odb.specs.Shown.{IsIndexRow}
use Rattle.gix_odb.specs.Stream.{Stream, stream_in}
use Rattle.gix_odb.proofs.ListerLaws.Known.{KnowsListStep, KnowsLister}
use Rattle.gix_odb.proofs.ListerLaws.Known.{fed_known, started_known}
use Rattle.gix_odb.proofs.ListerLaws.Reads.{none_told, told_from}
use Rattle.gix_odb.proofs.ListerLaws.Streams.{HasNone, Opened, StreamBehind, StreamOf, Told, core_leaves_streams, left_open, left_open-push, open_by, opened_by}
use Rattle.gix_odb.proofs.ListerLaws.Streams.{listing_streams, opened_last, opened_last-push, told_by}
use Rattle.gix_odb.proofs.ListerLaws.Streams.{stream_in-push}
use Rattle.gix_odb.specs.RefreshOrder.{ask_of, asked_of, by_listed, by_look, fed, listing_from, started, step_fed, view_shown}
use Rattle.gix_odb.specs.Refreshed.{AreAsked, LookRefused, ShowedUnread, behind}
use Rattle.gix_odb.specs.declared.refresh.Refresh.{Refresh}
use Rattle.gix_odb.specs.declared.refresh.Refresh.TheVariants as stages
use Rattle.gix_odb.specs.declared.refresh.RefreshStep.{RefreshStep}
use Rattle.gix_odb.specs.declared.refresh.RefreshStep.TheVariants as steps
use Rattle.gix_odb.proofs.AskedLemmas.{holds_behind}

-- all that exchanges show of streams
abbrev pub told_of : List Exchange → Told
told_of exchanges = told_from none_told exchanges

abbrev told_with : Option Opened → Option Opened → Option Stream → Told
told_with last left stream = record { last = last; left = left; stream = stream }

-- after one more exchange
pub told_of-push : (past : List Exchange) (exchange : Exchange) → told_of (past ++ exchange ∷ []) ≡ told_by (told_of past) exchange.ask exchange.answer
told_of-push past exchange =
    ap (λ (last : Option Opened). told_with last (left_open (past ++ exchange ∷ [])) (stream_in (past ++ exchange ∷ []))) (opened_last-push past exchange)
    ∙ ap (λ (left : Option Opened). told_with (opened_by (opened_last past) exchange.ask exchange.answer) left (stream_in (past ++ exchange ∷ [])))
    (left_open-push past exchange)
    ∙ ap
    (λ (stream : Option Stream).
    told_with (opened_by (opened_last past) exchange.ask exchange.answer) (open_by (left_open past) exchange.ask exchange.answer) stream)
    (stream_in-push past exchange)

ShowedUnread-more : (past : List Exchange) (exchange : Exchange) → ShowedUnread past → ShowedUnread (past ++ exchange ∷ [])
ShowedUnread-more past exchange was = record {
  effect = was.effect;
  view = was.view;
  shown = was.shown;
  unread = was.unread;
  told = Contains-append_left past (exchange ∷ []) _ was.told;
}

module _ (setting : Setting) where
  -- what is known of streams is of the present listing, whose rows are of indices; a listing is made only after the core showed an unread list
  abbrev pub KnowsAt : Told → List Exchange → Refresh → Type 0
  KnowsAt now past stages.Reading = HasNone now
  KnowsAt now past (stages.Listing lister) = KnowsLister setting lister × StreamOf now lister × ShowedUnread past
  KnowsAt now past (stages.Publishing listing) = HasNone now × All (IsIndexRow setting) listing.rows × ShowedUnread past

  -- no stream is open at the end, and an error comes only after the core showed such a list, or where the read of its state was refused
  abbrev pub StepKnowsAt : Told → List Exchange → RefreshStep → Type 0
  StepKnowsAt now past (steps.More refresh) = KnowsAt now past refresh
  StepKnowsAt now past (steps.Refused error) = HasNone now × (ShowedUnread past ⊎ LookRefused past)
  StepKnowsAt now past step = HasNone now

  abbrev pub Knows : List Exchange → RefreshStep → Type 0
  Knows past step = StepKnowsAt (told_of past) past step

  -- ---- one more exchange

  module _ (now : Told) (past : List Exchange) where
    abbrev with_one : Ask → Answer → List Exchange
    with_one ask answer = past ++ record { ask = ask; answer = answer } ∷ []

    abbrev Goes : Refresh → Ask → Answer → Type 0
    Goes refresh ask answer = StepKnowsAt (told_by now ask answer) (with_one ask answer) (fed setting.parts.objects (listed_for setting.parts) refresh answer)

    -- the core's state was read
    module _ (effect : Effect) (none : HasNone now) where
      abbrev looked : List Exchange
      looked = with_one (asks.Core events.Look) (told.Core (Ok effect))

      abbrev later : Told
      later = told_by now (asks.Core events.Look) (told.Core (Ok effect))

      view_goes : (view : View) → view_in (Ok effect) ≡ Some view → (read : Bool) → view.read ≡ read
          → StepKnowsAt later looked (if read then steps.Read view else steps.More (listing_from setting.parts.objects view.list_no))
      view_goes view shown true is = none
      view_goes view shown false is = (
        started_known setting view.list_no,
        none,
        record { effect = effect; view = view; shown = shown; unread = is; told = Contains-push past (record { ask = asks.Core events.Look; answer = told.Core (Ok effect) }) },
      )

      shown_goes : (shown : Option View) → view_in (Ok effect) ≡ shown → StepKnowsAt later looked (by_look setting.parts.objects shown)
      shown_goes None is = none
      shown_goes (Some view) is = view_goes view is view.read refl

    look_goes : HasNone now → (answer : Answer) → Goes stages.Reading (asks.Core events.Look) answer
    look_goes none (told.Disk answer) = none
    look_goes none (told.Core (Ok effect)) = shown_goes effect none (view_shown effect) refl
    look_goes none (told.Core (Err refusal)) =
        (none, inr (refusal, Contains-push past (record { ask = asks.Core events.Look; answer = told.Core (Err refusal) })))

    -- the listing of a folder continues
    listed_goes : (following : Told) (more : List Exchange) (step : ListStep) → KnowsListStep setting step → StreamBehind following step → ShowedUnread more
        → StepKnowsAt following more (by_listed step)
    listed_goes following more (listed.More lister) known stream unread = (known, stream, unread)
    listed_goes following more (listed.Listed listing) known stream unread = (stream, known, unread)
    listed_goes following more listed.Broken known stream unread = (stream, inl unread)
    listed_goes following more (listed.TooManyPacks actual path) known stream unread = (stream, inl unread)

    listing_goes : (lister : Lister) → KnowsAt now past (stages.Listing lister) → (answer : Answer)
        → Goes (stages.Listing lister) (asks.Disk (lists.ask_of lister)) answer
    listing_goes lister known (told.Disk answer) =
        listed_goes (told_by now (asks.Disk (lists.ask_of lister)) (told.Disk answer)) (with_one (asks.Disk (lists.ask_of lister)) (told.Disk answer))
        (lists.fed (listed_for setting.parts) lister answer) (fed_known setting lister answer known.0)
        (listing_streams (listed_for setting.parts) lister.head now lister.stage known.1 answer)
        (ShowedUnread-more past _ known.2)
    listing_goes lister known (told.Core answer) =
        (known.0, core_leaves_streams now lister.head.folder lister.stage answer known.1, ShowedUnread-more past _ known.2)

    -- the listing was published
    published_goes : (listing : Listing) → KnowsAt now past (stages.Publishing listing) → (effect : Effect)
        → Goes (stages.Publishing listing) (asks.Core (events.Publish listing)) (told.Core (Ok effect))
    published_goes listing known (effects.Published view) = known.0
    published_goes listing known (effects.Unchanged view) = known.0
    published_goes listing known (effects.Outdated number) = known.0
    published_goes listing known (effects.Seen view) = (known.0, known.1, ShowedUnread-more past _ known.2)
    published_goes listing known (effects.Reported view report) = (known.0, known.1, ShowedUnread-more past _ known.2)
    published_goes listing known (effects.Put view stored) = (known.0, known.1, ShowedUnread-more past _ known.2)
    published_goes listing known effects.Removed = (known.0, known.1, ShowedUnread-more past _ known.2)

    publish_goes : (listing : Listing) → KnowsAt now past (stages.Publishing listing) → (answer : Answer)
        → Goes (stages.Publishing listing) (asks.Core (events.Publish listing)) answer
    publish_goes listing known (told.Disk answer) = (known.0, known.1, ShowedUnread-more past _ known.2)
    publish_goes listing known (told.Core (Ok effect)) = published_goes listing known effect
    publish_goes listing known (told.Core (Err refusal)) = (known.0, inl (ShowedUnread-more past _ known.2))

    goes : (refresh : Refresh) → KnowsAt now past refresh → (answer : Answer) → Goes refresh (ask_of refresh) answer
    goes stages.Reading known answer = look_goes known answer
    goes (stages.Listing lister) known answer = listing_goes lister known answer
    goes (stages.Publishing listing) known answer = publish_goes listing known answer

    step_goes : (step : RefreshStep) → StepKnowsAt now past step → (ask : Ask) (answer : Answer) → asked_of step ≡ Some ask
        → StepKnowsAt (told_by now ask answer) (with_one ask answer) (step_fed setting.parts.objects (listed_for setting.parts) step answer)
    step_goes (steps.More refresh) known ask answer is =
        subst (λ (own : Ask). Goes refresh own answer) (same_Some (ask_of refresh) ask is) (goes refresh known answer)
    step_goes (steps.Read view) known ask answer is = absurd (cc is)
    step_goes (steps.Current view own) known ask answer is = absurd (cc is)
    step_goes (steps.Outdated list_no) known ask answer is = absurd (cc is)
    step_goes (steps.Refused error) known ask answer is = absurd (cc is)

  kept : (past : List Exchange) (step : RefreshStep) (exchange : Exchange) → Knows past step → asked_of step ≡ Some exchange.ask → Unit {0}
      → Knows (past ++ exchange ∷ []) (step_fed setting.parts.objects (listed_for setting.parts) step exchange.answer)
  kept past step exchange known asked meets =
      subst (λ (now : Told). StepKnowsAt now (past ++ exchange ∷ []) (step_fed setting.parts.objects (listed_for setting.parts) step exchange.answer))
      (sym (told_of-push past exchange))
      (step_goes (told_of past) past step known exchange.ask exchange.answer asked)

  -- ---- all exchanges

  start_knows : (view : View) (read : Bool) → Knows [] (if read then steps.Read view else steps.More stages.Reading)
  start_knows view true = refl
  start_knows view false = refl

  pub refresh_knows : (snapshot : View) (exchanges : List Exchange) → AreAsked setting (started snapshot) exchanges
      → Knows exchanges (behind setting (started snapshot) exchanges)
  refresh_knows snapshot exchanges asked =
      holds_behind asked_of (step_fed setting.parts.objects (listed_for setting.parts)) Knows (λ exchange. Unit {0}) kept (started snapshot) exchanges
      (start_knows snapshot snapshot.read) asked (λ exchange among. tt)
