-- The calls of a listing, among the exchanges of an opening that counts.
use Rattle.std.proofs.Common.{◌≡◌, ◌⊎◌, inl, inr, ℕ, zero, suc, Bool, true, false, nat_le, List, [], ◌∷◌, length, Contains, refl, sym, subst, arith}
use Rattle.std.specs.Prelude.{if◌then◌else◌}
use Rattle.std.proofs.lemmas.Option.{same_Some}
use Rattle.odb_base.specs.Path.{Path}
use Rattle.odb_disk.specs.declared.ask.DiskAnswer.{DiskAnswer}
use Rattle.odb_disk.specs.declared.ask.DiskAnswer.TheVariants as answers
use Rattle.odb_disk.specs.Tree.{Tree}
use Rattle.odb_disk.specs.declared.disk_error.DiskError.TheVariants as disk_errors
use Rattle.odb_disk.specs.declared.entry.Entry.{Entry}
use Rattle.odb_disk.specs.declared.meta.Kind.{Kind}
use Rattle.odb_disk.specs.declared.meta.Kind.TheVariants as kinds
use Rattle.gix_odb_events.specs.PackId.{most_slots}
use Rattle.gix_odb_events.specs.declared.listing.Listing.{Listing}
use Rattle.gix_odb_search.specs.ListOrder as lists
use Rattle.gix_odb_search.specs.ListedStore.{ListedStore}
use Rattle.gix_odb_events.specs.declared.answer.Answer.{Answer}
use Rattle.gix_odb_events.specs.declared.answer.Answer.TheVariants as told
use Rattle.gix_odb_events.specs.declared.answer.Ask.{Ask}
use Rattle.gix_odb_events.specs.declared.answer.Ask.TheVariants as asks
use Rattle.gix_odb_search.specs.declared.lister.ListStep.{ListStep}
use Rattle.gix_odb_search.specs.declared.lister.ListStep.TheVariants as listed
use Rattle.gix_odb_search.specs.declared.lister.Lister.{Lister}
use Rattle.gix_odb_calls.specs.declared.call.CallError.TheVariants as call_errors
use Rattle.gix_odb_calls.specs.declared.call.Reply.{Reply}
use Rattle.gix_odb_calls.specs.declared.call.Reply.TheVariants as replies
use Rattle.gix_odb_calls.specs.declared.init.Error.TheVariants as opening_errors
use Rattle.gix_odb_calls.specs.declared.init.Slots.{Slots}
use Rattle.gix_odb_calls.specs.declared.init.Slots.TheVariants.{AsNeededByDiskState, Given}
use Rattle.gix_odb.specs.LookExchanges.{Exchange, WasTold}
use Rattle.gix_odb.specs.LookUpOrder.{Setting}
use Rattle.gix_odb.specs.Store.{listed_for}
use Rattle.gix_odb.proofs.ListerLaws.Lists.{has_first, has_later}
use Rattle.gix_odb.specs.ListedFiles.{AreOfTree}
use Rattle.gix_odb.specs.Asked.{AreSuited, IsSuited}
use Rattle.gix_odb.specs.ListerCalls.{AreCalls, AreCallsOfTree, Call, behind_calls}
use Rattle.gix_odb.specs.OpenExchanges.{AreAsked, fed_by, list_behind, list_by}
use Rattle.gix_odb.specs.OpenOrder.{begun, listed_on, looked, numbered, refused, shown}
use Rattle.gix_odb.specs.declared.open_state.OpenStage.{OpenStage}
use Rattle.gix_odb.specs.declared.open_state.OpenStage.TheVariants as opens
use Rattle.gix_odb_world.proofs.ToldLists.{nothing_among}

-- what is among elements is the first or among those after it
one_of_first : {A : Type 0} (x : A) (xs : List A) (y : A) → Contains (x ∷ xs) y → (x ≡ y) ⊎ Contains xs y
one_of_first x xs y (zero, within, is) = inl is
one_of_first x xs y (suc k, within, is) = inr (k, omega (arith, within), is)

module _ (setting : Setting) (slots : Slots) where
  abbrev store : ListedStore
  store = listed_for setting.parts

  -- ---- the calls of a listing

  -- exchanges are those of a listing that makes these calls, and they have the same result
  pub record HasCalls (step : ListStep) (exchanges : List Exchange) : Type 0 where
    pub calls : List Call
    pub are : AreCalls store step calls
    pub comes : behind_calls store step calls ≡ list_behind store step exchanges
    pub made : (call : Call) → Contains calls call → WasTold exchanges (asks.Disk call.ask) (told.Disk call.answer)
    pub of_tree : (tree : Tree) (coming : List Entry) → AreOfTree tree coming exchanges → AreCallsOfTree tree coming calls

  -- a listing that has ended stays as it is, and makes no call
  listing_stays : (listing : Listing) (exchanges : List Exchange) → list_behind store (listed.Listed listing) exchanges ≡ listed.Listed listing
  listing_stays listing [] = refl
  listing_stays listing (exchange ∷ exchanges) = listing_stays listing exchanges

  broken_stays : (exchanges : List Exchange) → list_behind store listed.Broken exchanges ≡ listed.Broken
  broken_stays [] = refl
  broken_stays (exchange ∷ exchanges) = broken_stays exchanges

  many_stay : (actual : ℕ) (path : Path) (exchanges : List Exchange)
      → list_behind store (listed.TooManyPacks actual path) exchanges ≡ listed.TooManyPacks actual path
  many_stay actual path [] = refl
  many_stay actual path (exchange ∷ exchanges) = many_stay actual path exchanges

  no_calls : (step : ListStep) (exchanges : List Exchange) → list_behind store step exchanges ≡ step → HasCalls step exchanges
  no_calls step exchanges stays = record {
    calls = [];
    are = tt;
    comes = sym stays;
    made = λ call among. absurd (nothing_among call among);
    of_tree = λ tree coming of. tt;
  }

  module _ (percent minimum : ℕ) where
    -- an opening that lists asks for what the listing asks for
    abbrev AsksOn : ListStep → List Exchange → Type 0
    AsksOn step exchanges = AreAsked setting slots (listed_on percent minimum step) exchanges

    one_call : (lister : Lister) (answer : Answer) (exchanges : List Exchange)
        → ((step : ListStep) → AsksOn step exchanges → HasCalls step exchanges)
        → AreAsked setting slots (fed_by setting slots (opens.Listing lister percent minimum) answer) exchanges
        → HasCalls (listed.More lister) (record { ask = asks.Disk (lists.ask_of lister); answer = answer } ∷ exchanges)
    one_call lister (told.Disk answer) exchanges rest asked =
        let later = rest (lists.fed store lister answer) asked in
        let exchange : Exchange = record { ask = asks.Disk (lists.ask_of lister); answer = told.Disk answer } in
        let call : Call = record { ask = lists.ask_of lister; answer = answer } in
        record {
          calls = call ∷ later.calls;
          are = (refl, later.are);
          comes = later.comes;
          made = λ other among.
              elim (one_of_first call later.calls other among) [
                | inl is ↦ subst (λ (c : Call). WasTold (exchange ∷ exchanges) (asks.Disk c.ask) (told.Disk c.answer)) is (has_first exchange exchanges)
                | inr among_later ↦ has_later exchange exchanges (record { ask = asks.Disk other.ask; answer = told.Disk other.answer }) (later.made other among_later)
              ];
          of_tree = λ tree coming of. (of.0, of.1, later.of_tree tree of.0 of.2);
        }
    one_call lister (told.Core answer) exchanges rest asked =
        let later = rest (listed.More lister) asked in
        let exchange : Exchange = record { ask = asks.Disk (lists.ask_of lister); answer = told.Core answer } in
        record {
          calls = later.calls;
          are = later.are;
          comes = later.comes;
          made = λ other among. has_later exchange exchanges (record { ask = asks.Disk other.ask; answer = told.Disk other.answer }) (later.made other among);
          of_tree = λ tree coming of. absurd of.1;
        }

    pub calls_of_listing : (step : ListStep) (exchanges : List Exchange) → AsksOn step exchanges → HasCalls step exchanges
    calls_of_listing step [] asked = no_calls step [] refl
    calls_of_listing (listed.More lister) (exchange ∷ exchanges) asked =
        subst (λ (ask : Ask). HasCalls (listed.More lister) (record { ask = ask; answer = exchange.answer } ∷ exchanges))
        (same_Some (asks.Disk (lists.ask_of lister)) exchange.ask asked.0)
        (one_call lister exchange.answer exchanges (λ step further. calls_of_listing step exchanges further) asked.1)
    calls_of_listing (listed.Listed listing) (exchange ∷ exchanges) asked =
        no_calls (listed.Listed listing) (exchange ∷ exchanges) (listing_stays listing (exchange ∷ exchanges))
    calls_of_listing listed.Broken (exchange ∷ exchanges) asked = no_calls listed.Broken (exchange ∷ exchanges) (broken_stays (exchange ∷ exchanges))
    calls_of_listing (listed.TooManyPacks actual path) (exchange ∷ exchanges) asked =
        no_calls (listed.TooManyPacks actual path) (exchange ∷ exchanges) (many_stay actual path (exchange ∷ exchanges))

  -- ---- where the listing begins

  abbrev start : ListStep
  start = listed.More (lists.started setting.parts.objects 0)

  -- the stage begins the listing of the folders
  abbrev BeginsListing : OpenStage → Type 0
  BeginsListing state = (percent : ℕ) × (minimum : ℕ) × (state ≡ opens.Listing (lists.started setting.parts.objects 0) percent minimum)

  -- the stage begins no listing: what an opening asks for from there on leaves a listing where it was
  abbrev ListsNothing : OpenStage → Type 0
  ListsNothing state = (exchanges : List Exchange) → AreAsked setting slots state exchanges → AreSuited exchanges → list_behind store start exchanges ≡ start

  done_lists_nothing : (reply : Reply) → ListsNothing (opens.Done reply)
  done_lists_nothing reply [] asked suited = refl
  done_lists_nothing reply (exchange ∷ exchanges) asked suited = absurd (cc asked.0)

  registering_lists_nothing : (number : ℕ) → ListsNothing (opens.Registering number)
  registering_lists_nothing number [] asked suited = refl
  registering_lists_nothing number (exchange ∷ exchanges) asked suited =
      by exchange.answer
      (subst (λ (ask : Ask). IsSuited ask exchange.answer) (sym (same_Some (asks.NewCore number (length (setting.parts.objects ∷ setting.parts.folders))) exchange.ask asked.0))
      (suited exchange (has_first exchange exchanges)))
      asked.1
    where
      by : (answer : Answer) → IsSuited (asks.NewCore number (length (setting.parts.objects ∷ setting.parts.folders))) answer
          → AreAsked setting slots (fed_by setting slots (opens.Registering number) answer) exchanges
          → list_behind store (list_by store start answer) exchanges ≡ start
      by (told.Disk answer) suits further = absurd suits
      by (told.Core answer) suits further =
          done_lists_nothing (replies.Opened number) exchanges further
          (λ other among. suited other (has_later exchange exchanges other among))

  numbered_lists_nothing : (number : ℕ) → ListsNothing (numbered number)
  numbered_lists_nothing number = by (nat_le number most_slots)
    where
      by : (few : Bool) → ListsNothing (if few then opens.Registering number else refused (opening_errors.TooManySlots number))
      by true = registering_lists_nothing number
      by false = done_lists_nothing (replies.Refused (call_errors.Open (opening_errors.TooManySlots number)))

  begun_goes : (own : Slots) → BeginsListing (begun setting.parts.objects own) ⊎ ListsNothing (begun setting.parts.objects own)
  begun_goes (Given number) = inr (numbered_lists_nothing number)
  begun_goes (AsNeededByDiskState percent minimum) = inl (percent, minimum, refl)

  shown_goes : (kind : Kind) → BeginsListing (shown setting.parts.objects slots kind) ⊎ ListsNothing (shown setting.parts.objects slots kind)
  shown_goes kinds.Dir = begun_goes slots
  shown_goes kinds.File = inr (done_lists_nothing (replies.Refused (call_errors.Open opening_errors.NotADirectory)))
  shown_goes kinds.Link = inr (done_lists_nothing (replies.Refused (call_errors.Open opening_errors.NotADirectory)))

  looked_goes : (answer : DiskAnswer) → BeginsListing (looked setting.parts.objects slots answer) ⊎ ListsNothing (looked setting.parts.objects slots answer)
  looked_goes (answers.Meta meta) = shown_goes meta.kind
  looked_goes (answers.Refused disk_errors.Failed) = inr (done_lists_nothing (replies.Refused (call_errors.Open opening_errors.Io)))
  looked_goes answer = inr (done_lists_nothing (replies.Refused (call_errors.Open opening_errors.NotADirectory)))

  -- after its stat an opening calls the disk only for what the listing of its folders asks for
  pub calls_behind_the_look : (answer : DiskAnswer) (exchanges : List Exchange) → AreAsked setting slots (looked setting.parts.objects slots answer) exchanges
      → AreSuited exchanges → HasCalls start exchanges
  calls_behind_the_look answer exchanges asked suited =
      elim (looked_goes answer) [
        | inl begins ↦
            calls_of_listing begins.0 begins.1 start exchanges
            (subst (λ (state : OpenStage). AreAsked setting slots state exchanges) begins.2 asked)
        | inr nothing ↦ no_calls start exchanges (nothing exchanges asked suited)
      ]
