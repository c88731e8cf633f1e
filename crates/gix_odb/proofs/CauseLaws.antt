-- Laws of look-ups: why one is refused, what it replies, and when it asks nothing more.
mod Replies
mod Standing
pub mod Pasts
mod Own
mod Refusals
mod Known
mod Onward
mod Step
use Rattle.std.proofs.Common.{◌≡◌, ℕ, ◌≤◌, ◌<◌, Bool, true, false, List, [], ◌∷◌, ◌++◌, Option, Some}
use Rattle.std.proofs.Common.{None, Ok, Err, ◌↔◌, refl, sym, ◌∙◌, ap, subst, append_assoc, append-nil, arith}
use Rattle.std.specs.Prelude.{if◌then◌else◌}
use Rattle.std.proofs.lemmas.List.Elements.{Contains-append_right, Contains-push}
use Rattle.std.proofs.lemmas.Option.{same_Some}
use Rattle.odb_base.specs.Path.{Path}
use Rattle.gix_hash.specs.ObjectId.{kind_of}
use Rattle.gix_hash.specs.declared.kind.Kind.{Kind}
use Rattle.gix_hash.specs.declared.object_id.ObjectId.{ObjectId}
use Rattle.gix_odb_events.specs.View.{last_state}
use Rattle.gix_odb_events.specs.declared.event.Effect.TheVariants as effects
use Rattle.gix_odb_events.specs.declared.event.Event.{Event}
use Rattle.gix_odb_events.specs.declared.event.Event.TheVariants as events
use Rattle.gix_odb_events.specs.declared.event.Refusal.{Refusal}
use Rattle.gix_odb_events.specs.declared.view.View.{View}
use Rattle.gix_odb_events.specs.declared.listing.Listing.{Listing}
use Rattle.gix_odb_events.specs.declared.answer.Answer.{Answer}
use Rattle.gix_odb_events.specs.declared.answer.Answer.TheVariants as told
use Rattle.gix_odb_events.specs.declared.answer.Ask.TheVariants as asks
use Rattle.gix_odb_events.specs.declared.answer.Ask.{Ask}
use Rattle.gix_odb_search.specs.declared.lister.ListStage.{ListStage}
use Rattle.gix_odb_search.specs.declared.lister.ListStage.TheVariants as list_stages
use Rattle.gix_odb_search.specs.declared.search.Notes.{Notes}
use Rattle.gix_odb_search.proofs.TrierLaws.{passes-further}
use Rattle.gix_odb_calls.specs.declared.call.CallError.TheVariants as call_errors
use Rattle.gix_odb_calls.specs.declared.call.Reply.{Reply}
use Rattle.gix_odb_calls.specs.declared.call.Reply.TheVariants as replies
use Rattle.gix_odb_calls.specs.declared.find.Error.{Error}
use Rattle.gix_odb_calls.specs.declared.find.Error.TheVariants as errors
use Rattle.gix_object.specs.declared.want.Want.{Want}
use Rattle.gix_odb_calls.specs.declared.verdict.Verdict.{Verdict}
use Rattle.gix_odb.specs.Caused.{IsCaused}
use Rattle.gix_odb.specs.LookExchanges.{AreAsked, Exchange, IsLast, behind, published_in, HasFailed}
use Rattle.gix_odb.specs.Laps.{AreNumbered, IsNumbered, number_by}
use Rattle.gix_odb.specs.LookUpOrder.{Setting, ask_at, ask_of, fed, first_of, new_head}
use Rattle.gix_odb.specs.LoadIndex.{of_refusal}
use Rattle.gix_odb.specs.LookUpOrder.{load_refused, result_at, result_of, seen, started, try_view, view_of, without_notes}
use Rattle.gix_odb.specs.True.{AreTrue, IsTrue}
use Rattle.gix_odb.specs.declared.refresh.Refresh.TheVariants as fronts
use Rattle.gix_odb.specs.declared.look_up.LookHead.{LookHead}
use Rattle.gix_odb.specs.declared.look_up.LookStage.{LookStage}
use Rattle.gix_odb.specs.declared.look_up.LookStage.TheVariants as stages
use Rattle.gix_odb.specs.declared.look_up.LookUp.{LookUp}
use Rattle.gix_odb.specs.declared.look_up.Part.{Part}
use Rattle.gix_odb.specs.declared.look_up.Part.TheVariants as parts
use Rattle.gix_odb.specs.declared.look_up.Purpose.TheVariants as purposes
use Rattle.gix_odb.specs.declared.refresh_mode.RefreshMode.{RefreshMode}
use Rattle.gix_odb.specs.Shown.{IsShownView}
use Rattle.gix_odb.proofs.FoundLaws.Behind.{IsOfPack, pack_refusal_caused}
use Rattle.gix_odb.proofs.CauseLaws.Known.{Counts, HasBegun, IsListCaused, KnowsAt, ShowedPart}
use Rattle.gix_odb.proofs.ListerLaws.Tells.{Breaks}
use Rattle.gix_odb.proofs.CauseLaws.Pasts.{Noted}
use Rattle.gix_odb.proofs.ListerLaws.Tells.{HasFailed-more}
use Rattle.gix_odb.proofs.CauseLaws.Pasts.{first_number-push, published_in-push}
use Rattle.gix_odb.proofs.CauseLaws.Own.{IsLookOwned, fed_at-owned, own_has_room, started-owned}
use Rattle.gix_odb.proofs.CauseLaws.Refusals.{refused_event_ends}
use Rattle.gix_odb.specs.Reply.{IsReplyTo}
use Rattle.gix_odb.proofs.CauseLaws.Standing.{StandsAt, StandsFor, fed-stands, started-stands}
use Rattle.gix_odb.proofs.CauseLaws.Onward.{try_view-known}
use Rattle.gix_odb.proofs.CauseLaws.Step.{fed_at-known}

-- a look-up that has a reply is done with it
done_with : (head : LookHead) (stage : LookStage) (reply : Reply) → result_at head stage ≡ Ok reply → stage ≡ stages.Done reply
done_with head (stages.Trying trier part) reply is = absurd (cc is)
done_with head (stages.Loose round call) reply is = absurd (cc is)
done_with head (stages.Refreshing refresh purpose notes) reply is = absurd (cc is)
done_with head (stages.Checking list_no notes) reply is = absurd (cc is)
done_with head (stages.Done other) reply is = cc is

-- ---- what a look-up replies, and when it asks nothing more

behind-stands : (setting : Setting) (want : Want) (id : ObjectId) (exchanges : List Exchange) (look : LookUp) → StandsFor setting want id look
    → StandsFor setting want id (behind setting look exchanges)
behind-stands setting want id [] look stands = stands
behind-stands setting want id (exchange ∷ exchanges) look stands =
    behind-stands setting want id exchanges (fed setting look exchange.answer) (fed-stands setting want id look exchange.answer stands)

module _ (setting : Setting) (mode : RefreshMode) (view : View) (want : Want) (id : ObjectId) (exchanges : List Exchange) where
  abbrev look : LookUp
  look = behind setting (started setting mode view want id) exchanges

  stands_behind : StandsFor setting want id look
  stands_behind = behind-stands setting want id exchanges (started setting mode view want id) (started-stands setting mode view want id)

  -- the reply of a look-up is of what it wants
  pub replies_are_of_the_query : (reply : Reply) → result_of look ≡ Ok reply → IsReplyTo want reply
  replies_are_of_the_query reply is =
      subst (λ q. IsReplyTo q reply) stands_behind.want_is
      (subst (StandsAt setting look.head.want look.head.id) (done_with look.head look.stage reply is) stands_behind.stands)

  -- a look-up asks nothing exactly when it has its reply
  pub a_done_look_up_asks_nothing : (ask_of look ≡ None) ↔ ((reply : Reply) × (result_of look ≡ Ok reply))
  a_done_look_up_asks_nothing =
      (replied look.head look.stage stands_behind.stands, λ done. ap ask_at (done_with look.head look.stage done.0 done.1))
    where
      replied : (head : LookHead) (stage : LookStage) → StandsAt setting head.want head.id stage → ask_at stage ≡ None
          → (reply : Reply) × (result_at head stage ≡ Ok reply)
      replied head (stages.Trying trier part) stands is = absurd (cc is)
      replied head (stages.Loose round call) stands is = absurd (cc is)
      replied head (stages.Refreshing refresh purpose notes) stands is = absurd (cc is)
      replied head (stages.Checking list_no notes) stands is = absurd (cc is)
      replied head (stages.Done reply) stands is = (reply, refl)

  -- an event that the core refuses ends the look-up with that refusal
  pub a_refused_event_ends_the_look_up : (event : Event) (refusal : Refusal)
      → IsLast exchanges (record { ask = asks.Core event; answer = told.Core (Err refusal) })
      → AreAsked setting (started setting mode view want id) exchanges
      → result_of look ≡ Ok (load_refused (of_refusal refusal))
  a_refused_event_ends_the_look_up event refusal last asked =
      let start = started setting mode view want id in
      subst (λ (l : List Exchange). AreAsked setting start l → result_of (behind setting start l) ≡ Ok (load_refused (of_refusal refusal))) (sym last.1)
      (refused_event_ends setting event refusal last.0 start) asked

-- ---- why a look-up is refused

-- an error that no pack gives: of the loose objects of a folder, of the lists of packs, or out of memory, which refuses no look-up
abbrev IsOfLists : Error → Type 0
IsOfLists (errors.Loose error) = Unit {0}
IsOfLists (errors.LoadIndex error) = Unit {0}
IsOfLists errors.NoMemory = Unit {0}
IsOfLists error = ⊥

-- the first view stays the first
begun-more : (begun : Option ℕ) (view : Option View) → ((number : ℕ) × (begun ≡ Some number)) → (number : ℕ) × (first_of begun view ≡ Some number)
begun-more (Some begun) view is = (begun, refl)
begun-more None view is = absurd (cc is.1)

shown_begins : (begun : Option ℕ) (view : Option View) (shown : View) → view ≡ Some shown → (number : ℕ) × (first_of begun view ≡ Some number)
shown_begins (Some begun) view shown is = (begun, refl)
shown_begins None (Some view) shown is = (view.list_no, refl)
shown_begins None None shown is = absurd (cc is)

module _ (Shown : Path → ℕ → List ℕ → Type 0) (setting : Setting) (hash : Kind) (want : Want) (id : ObjectId) where
  record IsKnown (past : List Exchange) (look : LookUp) : Type 0 where
    stands : StandsFor setting want id look
    counts : Counts past look.head
    knows : KnowsAt Shown setting hash id past look.head look.stage

  -- ---- one more exchange

  module _ (past : List Exchange) (exchange : Exchange) (head : LookHead) where
    abbrev more : List Exchange
    more = past ++ exchange ∷ []

    abbrev head_seen : LookHead
    head_seen = seen head exchange.answer

    noted-more : (notes : Notes) → Noted past notes → Noted more notes
    noted-more notes noted = λ is. HasFailed-more past (exchange ∷ []) (noted is)

    has_begun-more : HasBegun head → HasBegun head_seen
    has_begun-more begun = begun-more head.begun (view_of exchange.answer) begun

    showed-more : (part : Part) → ShowedPart head part → ShowedPart head_seen part
    showed-more parts.Snapshot showed = tt
    showed-more (parts.List list_no loose) showed = has_begun-more showed
    showed-more (parts.Published list_no) showed = has_begun-more showed

    breaks-more : (stage : ListStage) → Breaks past stage → Breaks more stage
    breaks-more (list_stages.Breaking dir) breaks = HasFailed-more past (exchange ∷ []) breaks
    breaks-more list_stages.Opening breaks = tt
    breaks-more (list_stages.Reading dir entries) breaks = tt
    breaks-more (list_stages.Closing dir entries) breaks = tt
    breaks-more (list_stages.Index path left) breaks = tt
    breaks-more (list_stages.Pack row left) breaks = tt
    breaks-more (list_stages.Multi left) breaks = tt

    knows-more : (stage : LookStage) (ask : Ask) → ask_at stage ≡ Some ask → KnowsAt Shown setting hash id past head stage
        → KnowsAt Shown setting hash id more head_seen stage
    knows-more (stages.Trying trier part) ask asked knows = (
      noted-more trier.ahead.notes knows.0,
      showed-more part knows.1,
      passes-further (HasFailed past) (HasFailed more) (HasFailed-more past (exchange ∷ [])) trier.stage knows.2,
    )
    knows-more (stages.Loose round call) ask asked knows = (noted-more round.notes knows.0, showed-more round.part knows.1)
    knows-more (stages.Refreshing fronts.Reading purpose notes) ask asked knows = noted-more notes knows
    knows-more (stages.Refreshing (fronts.Listing lister) purpose notes) ask asked knows =
        (noted-more notes knows.0, has_begun-more knows.1, breaks-more lister.stage knows.2)
    knows-more (stages.Refreshing (fronts.Publishing listing) purpose notes) ask asked knows = (noted-more notes knows.0, has_begun-more knows.1)
    knows-more (stages.Checking list_no notes) ask asked knows = noted-more notes knows
    knows-more (stages.Done reply) ask asked knows = absurd (cc asked)

  fed-known : (past : List Exchange) (slots number : ℕ) (look : LookUp) (exchange : Exchange) → IsKnown past look → ask_of look ≡ Some exchange.ask
      → IsTrue Shown setting hash exchange.ask exchange.answer
      → IsLookOwned number look → IsNumbered slots number exchange.ask exchange.answer
      → IsKnown (past ++ exchange ∷ []) (fed setting look exchange.answer)
  fed-known past slots number look exchange known asked truth owned numbered =
      let head = seen look.head exchange.answer in
      let after = fed_at-known Shown setting hash id (past ++ exchange ∷ []) (published_in past) head look.stage exchange.answer
      (record {
        begun = ap (λ (b : Option ℕ). first_of b (view_of exchange.answer)) known.counts.begun ∙ sym (first_number-push past exchange);
        own = known.counts.own;
        room = room;
        shows = λ view is. shown_begins look.head.begun (view_of exchange.answer) view is;
        ask = exchange.ask;
        asked = asked;
        was = Contains-push past exchange;
        last = (past, refl);
        truth = truth;
        published = published_in-push past exchange;
      })
      (subst (λ i. StandsAt setting look.head.want i look.stage) known.stands.id_is known.stands.stands)
      (knows-more past exchange look.head look.stage exchange.ask asked known.knows) in
      record { stands = fed-stands setting want id look exchange.answer known.stands; counts = after.0; knows = after.1 }
    where
      -- a list that is published is one more of the look-up's own
      room : (listing : Listing) (view : View) → ask_at look.stage ≡ Some (asks.Core (events.Publish listing))
          → exchange.answer ≡ told.Core (Ok (effects.Published view)) → look.head.own < last_state
      room listing view asks_it is =
          let same : exchange.ask ≡ asks.Core (events.Publish listing) = same_Some _ _ (sym asked ∙ asks_it) in
          own_has_room setting slots number look.head look.stage listing view owned asks_it
          (subst (λ (a : Ask). IsNumbered slots number a (told.Core (Ok (effects.Published view)))) same
          (subst (IsNumbered slots number exchange.ask) is numbered))

  -- numbers never fall
  number_rises : (slots number : ℕ) (ask : Ask) (answer : Answer) → IsTrue Shown setting hash ask answer
      → IsNumbered slots number ask answer → number ≤ number_by number answer
  number_rises slots number (asks.Disk ask) (told.Disk answer) truth numbered = omega arith
  number_rises slots number (asks.Core event) (told.Core answer) truth numbered = numbered.0
  number_rises slots number (asks.Disk ask) (told.Core answer) truth numbered = absurd truth
  number_rises slots number (asks.Core event) (told.Disk answer) truth numbered = absurd truth
  number_rises slots number (asks.NewCore core_slots folders) (told.Core answer) truth numbered = numbered
  number_rises slots number (asks.NewCore core_slots folders) (told.Disk answer) truth numbered = absurd truth

  -- ---- all exchanges

  behind-known : (slots number : ℕ) (exchanges past : List Exchange) (look : LookUp) → IsKnown past look → IsLookOwned number look
      → AreAsked setting look exchanges → AreNumbered slots number exchanges → AreTrue Shown setting hash exchanges
      → IsKnown (past ++ exchanges) (behind setting look exchanges)
  behind-known slots number [] past look known owned asked numbered truth = subst (λ (l : List Exchange). IsKnown l look) (sym (append-nil past)) known
  behind-known slots number (exchange ∷ exchanges) past look known owned asked numbered truth =
      let true_it = truth exchange (0, omega arith, refl) in
      subst (λ (l : List Exchange). IsKnown l (behind setting look (exchange ∷ exchanges))) (append_assoc past (exchange ∷ []) exchanges)
      (behind-known slots (number_by number exchange.answer) exchanges (past ++ exchange ∷ []) (fed setting look exchange.answer)
      (fed-known past slots number look exchange known asked.0 true_it owned numbered.0)
      (fed_at-owned setting slots number (seen look.head exchange.answer) exchange.answer
      (number_rises slots number exchange.ask exchange.answer true_it numbered.0) look.stage exchange.ask asked.0 numbered.0 owned)
      asked.1 numbered.1
      (λ other among. truth other (Contains-append_right (exchange ∷ []) exchanges other among)))

  started-known : (mode : RefreshMode) (view : View) → IsKnown [] (started setting mode view want id)
  started-known mode view = record { stands = started-stands setting mode view want id; counts = record { begun = refl; own = refl }; knows = by view.read }
    where
      by : (b : Bool) → KnowsAt Shown setting hash id [] (new_head mode want id)
          (if b then try_view setting (new_head mode want id) parts.Snapshot view [] without_notes else stages.Refreshing fronts.Reading (purposes.First true) without_notes)
      by true = try_view-known Shown setting hash id [] (new_head mode want id) parts.Snapshot tt view [] without_notes (λ is. absurd (cc is))
      by false = λ is. absurd (cc is)

  list_caused : (exchanges : List Exchange) (error : Error) → IsOfLists error → IsListCaused Shown setting hash id exchanges want error
      → IsCaused Shown setting hash id want exchanges error
  list_caused exchanges (errors.Loose error) of cause = cause
  list_caused exchanges (errors.LoadIndex error) of cause = cause
  list_caused exchanges errors.NoMemory of cause = absurd cause
  list_caused exchanges error of cause = absurd of

  -- a look-up that the loose objects of a folder or the lists of packs refuse has a cause in its exchanges
  list_refusal_caused : (mode : RefreshMode) (view : View) (exchanges : List Exchange) → AreAsked setting (started setting mode view want id) exchanges
      → AreTrue Shown setting hash exchanges → (slots number : ℕ) → AreNumbered slots number exchanges
      → (error : Error) → IsOfLists error
      → result_of (behind setting (started setting mode view want id) exchanges) ≡ Ok (replies.Refused (call_errors.Find error))
      → IsCaused Shown setting hash id want exchanges error
  list_refusal_caused mode view exchanges asked truth slots number numbered error of is =
      let look = behind setting (started setting mode view want id) exchanges in
      let known =
      behind-known slots number exchanges [] (started setting mode view want id) (started-known mode view) (started-owned setting mode view want id number)
      asked numbered truth in
      let done = done_with look.head look.stage (replies.Refused (call_errors.Find error)) is in
      list_caused exchanges error of
      (subst (λ (q : Want). IsListCaused Shown setting hash id exchanges q error) known.stands.want_is
      (subst (KnowsAt Shown setting hash id exchanges look.head) done known.knows))

  -- each error that a look-up is refused by has its cause, in what was answered or shown
  pub each_refusal_has_its_cause : kind_of id ≡ hash → (mode : RefreshMode) (view : View) → IsShownView Shown setting hash view → (exchanges : List Exchange)
      → AreAsked setting (started setting mode view want id) exchanges
      → AreTrue Shown setting hash exchanges → (slots number : ℕ) → AreNumbered slots number exchanges
      → (error : Error) → result_of (behind setting (started setting mode view want id) exchanges) ≡ Ok (replies.Refused (call_errors.Find error))
      → IsCaused Shown setting hash id want exchanges error
  each_refusal_has_its_cause same mode view shown exchanges asked truth slots number numbered error is = by error is
    where
      of_list : (error : Error) → IsOfLists error
          → result_of (behind setting (started setting mode view want id) exchanges) ≡ Ok (replies.Refused (call_errors.Find error))
          → IsCaused Shown setting hash id want exchanges error
      of_list error of is = list_refusal_caused mode view exchanges asked truth slots number numbered error of is

      of_pack : (error : Error) → IsOfPack error
          → result_of (behind setting (started setting mode view want id) exchanges) ≡ Ok (replies.Refused (call_errors.Find error))
          → IsCaused Shown setting hash id want exchanges error
      of_pack error of is = pack_refusal_caused Shown setting hash want id same mode view shown exchanges asked truth error is of

      by : (error : Error) → result_of (behind setting (started setting mode view want id) exchanges) ≡ Ok (replies.Refused (call_errors.Find error))
          → IsCaused Shown setting hash id want exchanges error
      by (errors.Loose error) is = of_list (errors.Loose error) tt is
      by (errors.LoadIndex error) is = of_list (errors.LoadIndex error) tt is
      by errors.LoadPack is = of_pack errors.LoadPack tt is
      by errors.Pack is = of_pack errors.Pack tt is
      by (errors.EntryType code) is = of_pack (errors.EntryType code) tt is
      by errors.DeltaEntry is = of_pack errors.DeltaEntry tt is
      by (errors.OutOfMemory size) is = of_pack (errors.OutOfMemory size) tt is
      by errors.NoMemory is = of_list errors.NoMemory tt is
