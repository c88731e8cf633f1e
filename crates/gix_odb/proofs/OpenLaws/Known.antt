-- What is known at each stage of an opening: of its listing and its stream, of its number of slots, and of why it is refused.
use Rattle.std.proofs.Common.{◌≡◌, ℕ, ◌≤◌, Bool, true, false, nat_le, List, [], ◌∷◌, ◌++◌, length, Some, refl, sym, ap, ◌∙◌, subst, arith}
use Rattle.std.specs.Prelude.{if◌then◌else◌}
use Rattle.std.proofs.lemmas.List.Elements.{Contains-push}
use Rattle.std.proofs.lemmas.Option.{same_Some}
use Rattle.odb_disk.specs.declared.ask.DiskAnswer.{DiskAnswer}
use Rattle.odb_disk.specs.declared.ask.DiskAnswer.TheVariants as answers
use Rattle.odb_disk.specs.declared.ask.DiskAsk.TheVariants as disk_asks
use Rattle.odb_disk.specs.declared.disk_error.DiskError.TheVariants as disk_errors
use Rattle.odb_disk.specs.declared.meta.Kind.{Kind}
use Rattle.odb_disk.specs.declared.meta.Kind.TheVariants as kinds
use Rattle.gix_odb_events.specs.PackId.{most_slots}
use Rattle.gix_odb_search.specs.ListOrder as lists
use Rattle.gix_odb_events.specs.Answers.{Answer as CoreAnswer}
use Rattle.gix_odb_events.specs.declared.listing.Listing.{Listing}
use Rattle.gix_odb_events.specs.declared.answer.Answer.{Answer}
use Rattle.gix_odb_events.specs.declared.answer.Answer.TheVariants as told
use Rattle.gix_odb_events.specs.declared.answer.Ask.{Ask}
use Rattle.gix_odb_events.specs.declared.answer.Ask.TheVariants as asks
use Rattle.gix_odb_search.specs.declared.lister.ListStep.{ListStep}
use Rattle.gix_odb_search.specs.declared.lister.ListStep.TheVariants as listed
use Rattle.gix_odb_search.specs.declared.lister.Lister.{Lister}
use Rattle.gix_odb_calls.specs.declared.call.CallError.TheVariants as call_errors
use Rattle.gix_odb_calls.specs.declared.call.Reply.{Reply}
use Rattle.gix_odb_calls.specs.declared.call.Reply.TheVariants as replies
use Rattle.gix_odb_calls.specs.declared.init.Error.TheVariants as opening_errors
use Rattle.gix_odb_calls.specs.declared.init.Slots.{Slots}
use Rattle.gix_odb_calls.specs.declared.init.Slots.TheVariants.{AsNeededByDiskState, Given}
use Rattle.gix_odb.specs.LookExchanges.{Exchange, WasTold}
use Rattle.gix_odb.specs.LookUpOrder.{Setting}
use Rattle.gix_odb.specs.Shown.{folders_of}
use Rattle.gix_odb.proofs.ListerLaws.Folders.{GoesToFolder, IsAtFolder, fed-goes, first_folder}
use Rattle.gix_odb.proofs.ListerLaws.Tells.{Breaks, ListedTells, fed-tells}
use Rattle.gix_odb.proofs.ListerLaws.Streams.{HasNone, StreamBehind, StreamOf, Told, listing_streams, told_by}
use Rattle.gix_odb.specs.Asked.{AreSuited, IsSuited}
use Rattle.gix_odb.proofs.AskedLemmas.{holds_behind}
use Rattle.gix_odb.proofs.RefreshLaws.Causes.{Breaks-more}
use Rattle.gix_odb.proofs.RefreshLaws.Known.{told_of, told_of-push}
use Rattle.gix_odb.specs.OpenOrder.{begun, listed_on, looked, numbered, refused, shown, slots_for}
use Rattle.gix_odb.specs.OpenExchanges.{AreAsked, HasListed, IsCaused, IsNoDir, IsNumber, ShowsNoDirectory, asks_of, behind, fed_by, list_behind, list_by}
use Rattle.gix_odb.specs.declared.open_state.OpenStage.{OpenStage}
use Rattle.gix_odb.specs.declared.open_state.OpenStage.TheVariants as opens
use Rattle.gix_odb.specs.Store.{listed_for}

-- after one more exchange
list_behind-push : (setting : Setting) (step : ListStep) (past : List Exchange) (exchange : Exchange)
    → list_behind (listed_for setting.parts) step (past ++ exchange ∷ []) ≡ list_by (listed_for setting.parts) (list_behind (listed_for setting.parts) step past) exchange.answer
list_behind-push setting step [] exchange = refl
list_behind-push setting step (first ∷ past) exchange = list_behind-push setting (list_by (listed_for setting.parts) step first.answer) past exchange

-- a core with so many slots was made for the store, at which the handle was registered
abbrev pub WasRegistered : Setting → List Exchange → (number : ℕ) → Type 0
WasRegistered setting past number = (answer : CoreAnswer) × WasTold past (asks.NewCore number (length (folders_of setting))) (told.Core answer)

-- a reply with an error has its cause; one with a number of slots is that of a handle that was registered at a core with so many
abbrev pub IsExplained : Setting → Slots → List Exchange → Reply → Type 0
IsExplained setting slots past (replies.Refused (call_errors.Open error)) = IsCaused setting slots past error
IsExplained setting slots past (replies.Opened number) = WasRegistered setting past number × IsNumber setting slots past number × (number ≤ most_slots)
IsExplained setting slots past reply = ⊥

module _ (setting : Setting) (slots : Slots) where
  -- a listing runs
  pub record Lists (now : Told) (past : List Exchange) (lister : Lister) (percent minimum : ℕ) : Type 0 where
    pub asked : slots ≡ AsNeededByDiskState percent minimum
    pub has : HasListed setting past (listed.More lister)
    pub at : IsAtFolder setting lister.head
    pub breaks : Breaks past lister.stage
    pub stream : StreamOf now lister

  abbrev pub KnowsAt : Told → List Exchange → OpenStage → Type 0
  KnowsAt now past opens.Looking = HasNone now × (past ≡ [])
  KnowsAt now past (opens.Listing lister percent minimum) = Lists now past lister percent minimum
  KnowsAt now past (opens.Registering number) = HasNone now × IsNumber setting slots past number × (number ≤ most_slots)
  KnowsAt now past (opens.Done reply) = HasNone now × IsExplained setting slots past reply

  abbrev pub Knows : List Exchange → OpenStage → Type 0
  Knows past state = KnowsAt (told_of past) past state

  -- ---- a number

  module _ (now : Told) (more : List Exchange) (none : HasNone now) where
    number_goes : (number : ℕ) → IsNumber setting slots more number → KnowsAt now more (numbered number)
    number_goes number is = by (nat_le number most_slots) refl
      where
        by : (few : Bool) → nat_le number most_slots ≡ few
            → KnowsAt now more (if few then opens.Registering number else refused (opening_errors.TooManySlots number))
        by true e = (none, is, grind (arith, e))
        by false e = (none, (is, grind (arith, e)))

  -- ---- the stat

  -- the stat with this answer
  abbrev look : DiskAnswer → Exchange
  look answer = record { ask = asks.Disk (disk_asks.Look setting.parts.objects true); answer = told.Disk answer }

  abbrev one : DiskAnswer → List Exchange
  one answer = look answer ∷ []

  module _ (now : Told) (none : HasNone now) where
    begun_goes : (answer : DiskAnswer) (own : Slots) → slots ≡ own → KnowsAt now (one answer) (begun setting.parts.objects own)
    begun_goes answer (Given number) is =
        number_goes now (one answer) none number (subst (λ (s : Slots). IsNumber setting s (one answer) number) (sym is) refl)
    begun_goes answer (AsNeededByDiskState percent minimum) is = record {
      asked = is;
      has = record { look = look answer; listing = []; are = refl; comes = refl };
      at = (setting.parts.objects, first_folder setting, refl);
      breaks = tt;
      stream = none;
    }

    no_directory : (answer : DiskAnswer) → ShowsNoDirectory answer → KnowsAt now (one answer) (refused opening_errors.NotADirectory)
    no_directory answer shows = (none, (answer, shows, Contains-push [] (look answer)))

    looked_goes : (answer : DiskAnswer) → KnowsAt now (one answer) (looked setting.parts.objects slots answer)
    looked_goes (answers.Meta meta) = by meta.kind refl
      where
        by : (kind : Kind) → meta.kind ≡ kind → KnowsAt now (one (answers.Meta meta)) (shown setting.parts.objects slots kind)
        by kinds.Dir is = begun_goes (answers.Meta meta) slots refl
        by kinds.File is = no_directory (answers.Meta meta) (subst IsNoDir (sym is) tt)
        by kinds.Link is = no_directory (answers.Meta meta) (subst IsNoDir (sym is) tt)
    looked_goes (answers.Refused disk_errors.Failed) =
        (none, record { exchange = look (answers.Refused disk_errors.Failed); among = Contains-push [] _; failed = refl })
    looked_goes answer = no_directory answer tt

  -- ---- the listing

  module _ (now : Told) (past : List Exchange) where
    abbrev with_one : Ask → Answer → List Exchange
    with_one ask answer = past ++ record { ask = ask; answer = answer } ∷ []

    module _ (lister : Lister) (percent minimum : ℕ) (here : Lists now past lister percent minimum) (answer : DiskAnswer)
        (suits : IsSuited (asks.Disk (lists.ask_of lister)) (told.Disk answer)) where
      abbrev exchange : Exchange
      exchange = record { ask = asks.Disk (lists.ask_of lister); answer = told.Disk answer }

      abbrev more : List Exchange
      more = past ++ exchange ∷ []

      abbrev later : Told
      later = told_by now (asks.Disk (lists.ask_of lister)) (told.Disk answer)

      listed_more : HasListed setting more (lists.fed (listed_for setting.parts) lister answer)
      listed_more = record {
        look = here.has.look;
        listing = here.has.listing ++ exchange ∷ [];
        are = ap (λ (all : List Exchange). all ++ exchange ∷ []) here.has.are;
        comes =
            list_behind-push setting (listed.More (lists.started setting.parts.objects 0)) here.has.listing exchange
            ∙ ap (λ (step : ListStep). list_by (listed_for setting.parts) step (told.Disk answer)) here.has.comes;
      }

      step_goes : (step : ListStep) → HasListed setting more step → GoesToFolder setting step → ListedTells setting more step → StreamBehind later step
          → KnowsAt later more (listed_on percent minimum step)
      step_goes (listed.More next) has at tells stream =
          record { asked = here.asked; has = has; at = at; breaks = tells; stream = stream }
      step_goes (listed.Listed listing) has at tells stream =
          number_goes later more stream (slots_for percent minimum (length listing.rows))
          (subst (λ (s : Slots). IsNumber setting s more (slots_for percent minimum (length listing.rows))) (sym here.asked) (listing, has, refl))
      step_goes listed.Broken has at tells stream = (stream, tells)
      step_goes (listed.TooManyPacks actual path) has at tells stream = (stream, tells)

      lister_goes : KnowsAt later more (listed_on percent minimum (lists.fed (listed_for setting.parts) lister answer))
      lister_goes =
          step_goes (lists.fed (listed_for setting.parts) lister answer) listed_more (fed-goes setting lister here.at answer)
          (fed-tells setting more lister here.at (Breaks-more past (exchange ∷ []) lister.stage here.breaks) answer suits (Contains-push past exchange))
          (listing_streams (listed_for setting.parts) lister.head now lister.stage here.stream answer)

    -- ---- one more exchange

    abbrev Goes : OpenStage → Ask → Answer → Type 0
    Goes state ask answer = IsSuited ask answer → KnowsAt (told_by now ask answer) (with_one ask answer) (fed_by setting slots state answer)

    look_goes : HasNone now × (past ≡ []) → (answer : Answer) → Goes opens.Looking (asks.Disk (disk_asks.Look setting.parts.objects true)) answer
    look_goes (none, is) (told.Disk answer) suits =
        let later : Told = told_by now (asks.Disk (disk_asks.Look setting.parts.objects true)) (told.Disk answer) in
        subst (λ (before : List Exchange). KnowsAt later (before ++ look answer ∷ []) (looked setting.parts.objects slots answer)) (sym is)
        (looked_goes later none answer)
    look_goes known (told.Core answer) suits = absurd suits

    listing_goes : (lister : Lister) (percent minimum : ℕ) → Lists now past lister percent minimum → (answer : Answer)
        → Goes (opens.Listing lister percent minimum) (asks.Disk (lists.ask_of lister)) answer
    listing_goes lister percent minimum here (told.Disk answer) suits = lister_goes lister percent minimum here answer suits
    listing_goes lister percent minimum here (told.Core answer) suits = absurd suits

    -- ---- the registration

    module _ (number : ℕ) (answer : CoreAnswer) where
      abbrev registered : Exchange
      registered = record { ask = asks.NewCore number (length (folders_of setting)); answer = told.Core answer }

      -- a listing that is at its end stays there
      listed_still : (listing : Listing) → HasListed setting past (listed.Listed listing)
          → HasListed setting (past ++ registered ∷ []) (listed.Listed listing)
      listed_still listing has = record {
        look = has.look;
        listing = has.listing ++ registered ∷ [];
        are = ap (λ (all : List Exchange). all ++ registered ∷ []) has.are;
        comes =
            list_behind-push setting (listed.More (lists.started setting.parts.objects 0)) has.listing registered
            ∙ ap (λ (step : ListStep). list_by (listed_for setting.parts) step (told.Core answer)) has.comes;
      }

      number_still : (own : Slots) → IsNumber setting own past number → IsNumber setting own (past ++ registered ∷ []) number
      number_still (Given given) is = is
      number_still (AsNeededByDiskState percent minimum) (listing, has, same) = (listing, listed_still listing has, same)

    register_goes : (number : ℕ) → KnowsAt now past (opens.Registering number) → (answer : Answer)
        → Goes (opens.Registering number) (asks.NewCore number (length (folders_of setting))) answer
    register_goes number (none, is, few) (told.Disk answer) suits = absurd suits
    register_goes number (none, is, few) (told.Core answer) suits =
        (none, ((answer, Contains-push past (registered number answer)), number_still number answer slots is, few))

    goes : (state : OpenStage) → KnowsAt now past state → (ask : Ask) (answer : Answer) → asks_of setting state ≡ Some ask → Goes state ask answer
    goes opens.Looking known ask answer is =
        subst (λ (own : Ask). Goes opens.Looking own answer) (same_Some (asks.Disk (disk_asks.Look setting.parts.objects true)) ask is) (look_goes known answer)
    goes (opens.Listing lister percent minimum) known ask answer is =
        subst (λ (own : Ask). Goes (opens.Listing lister percent minimum) own answer) (same_Some (asks.Disk (lists.ask_of lister)) ask is)
        (listing_goes lister percent minimum known answer)
    goes (opens.Registering number) known ask answer is =
        subst (λ (own : Ask). Goes (opens.Registering number) own answer) (same_Some (asks.NewCore number (length (folders_of setting))) ask is)
        (register_goes number known answer)
    goes (opens.Done reply) known ask answer is = absurd (cc is)

  kept : (past : List Exchange) (state : OpenStage) (exchange : Exchange) → Knows past state → asks_of setting state ≡ Some exchange.ask
      → IsSuited exchange.ask exchange.answer
      → Knows (past ++ exchange ∷ []) (fed_by setting slots state exchange.answer)
  kept past state exchange known asked suits =
      subst (λ (now : Told). KnowsAt now (past ++ exchange ∷ []) (fed_by setting slots state exchange.answer)) (sym (told_of-push past exchange))
      (goes (told_of past) past state known exchange.ask exchange.answer asked suits)

  -- ---- all exchanges

  pub opening_knows : (exchanges : List Exchange) → AreAsked setting slots opens.Looking exchanges → AreSuited exchanges
      → Knows exchanges (behind setting slots opens.Looking exchanges)
  opening_knows exchanges asked suited =
      holds_behind (asks_of setting) (fed_by setting slots) Knows (λ exchange. IsSuited exchange.ask exchange.answer) kept opens.Looking exchanges (refl, refl)
      asked suited
