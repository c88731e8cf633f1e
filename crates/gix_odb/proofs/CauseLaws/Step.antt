-- What an exchange adds to what is known of a look-up.
use Rattle.std.proofs.Common.{◌≡◌, ℕ, ◌+◌, ◌<◌, Bool, true, false, List, Contains, Option, Some, None, Ok, Err, refl, sym, ap, subst}
use Rattle.std.specs.Prelude.{if◌then◌else◌}
use Rattle.odb_base.specs.Path.{Path}
use Rattle.odb_disk.specs.declared.ask.DiskAnswer.{DiskAnswer}
use Rattle.gix_hash.specs.declared.kind.Kind.{Kind}
use Rattle.gix_hash.specs.declared.object_id.ObjectId.{ObjectId}
use Rattle.gix_odb_events.specs.Answers as core
use Rattle.gix_odb_events.specs.View.{last_state}
use Rattle.gix_odb_events.specs.declared.event.Effect.{Effect}
use Rattle.gix_odb_events.specs.declared.event.Effect.TheVariants as effects
use Rattle.gix_odb_events.specs.declared.event.Event.TheVariants as events
use Rattle.gix_odb_events.specs.declared.view.View.{View}
use Rattle.gix_odb_events.specs.declared.listing.Listing.{Listing}
use Rattle.gix_odb_search.specs.ListOrder as lists
use Rattle.gix_odb_search.specs.TryOrder as tries
use Rattle.gix_odb_events.specs.declared.answer.Answer.{Answer}
use Rattle.gix_odb_events.specs.declared.answer.Answer.TheVariants as told
use Rattle.gix_odb_events.specs.declared.answer.Ask.{Ask}
use Rattle.gix_odb_events.specs.declared.answer.Ask.TheVariants as asks
use Rattle.gix_odb_search.specs.declared.lister.ListStep.{ListStep}
use Rattle.gix_odb_search.specs.declared.lister.ListStep.TheVariants as listed
use Rattle.gix_odb_search.specs.declared.search.Notes.{Notes}
use Rattle.gix_odb_search.specs.declared.index_loader.IndexLoader.TheVariants as loaders
use Rattle.gix_odb_search.proofs.TrierLaws.{fed-comes}
use Rattle.gix_odb.specs.Caused.{IsRefused}
use Rattle.gix_odb.specs.LookExchanges.{HasFailed}
use Rattle.gix_odb_events.specs.declared.event.Event.{Event}
use Rattle.gix_odb_events.specs.declared.event.Refusal.{Refusal}
use Rattle.gix_odb_search.specs.declared.lister.Lister.{Lister}
use Rattle.gix_odb_search.specs.declared.trier.Stage.{Stage as TryStage}
use Rattle.gix_odb_search.specs.declared.trier.Stage.TheVariants as try_stages
use Rattle.gix_odb_search.specs.declared.trier.Trier.{Trier}
use Rattle.gix_odb_calls.specs.Verdict.{asking, folder_ask, folder_verdict}
use Rattle.gix_odb_calls.specs.declared.verdict.FolderCall.{FolderCall}
use Rattle.gix_odb.specs.Caused.{TellsNumber}
use Rattle.gix_odb.specs.LookExchanges.{Exchange, IsLast, WasTold, first_number, is_publish, published_in}
use Rattle.gix_odb.specs.LookUpOrder.{Setting, ask_at}
use Rattle.gix_odb.specs.LookUpOrder.{by_refresh}
use Rattle.gix_odb.specs.LookUpOrder.{fed_at}
use Rattle.gix_odb.specs.LookUpOrder.{trier_fed, view_of, view_shown, with_own, without_absent}
use Rattle.gix_odb.specs.Shown.{folders_of}
use Rattle.gix_odb.specs.True.{IsTrue}
use Rattle.gix_odb.specs.RefreshOrder.{by_listed, by_look, by_published}
use Rattle.gix_odb.specs.RefreshOrder as refreshes
use Rattle.gix_odb.specs.declared.refresh.Refresh.TheVariants as fronts
use Rattle.gix_odb.specs.declared.refresh.RefreshStep.TheVariants as steps
use Rattle.gix_odb.specs.declared.look_up.LookHead.{LookHead}
use Rattle.gix_odb.specs.declared.look_up.LookStage.{LookStage}
use Rattle.gix_odb.specs.declared.look_up.LookStage.TheVariants as stages
use Rattle.gix_odb.specs.declared.look_up.LookUp.{LookUp}
use Rattle.gix_odb.specs.declared.look_up.LooseRound.{LooseRound}
use Rattle.gix_odb.specs.declared.look_up.Part.{Part}
use Rattle.gix_odb.specs.declared.look_up.Part.TheVariants as parts
use Rattle.gix_odb.specs.declared.look_up.Purpose.{Purpose}
use Rattle.gix_odb.specs.declared.look_up.Purpose.TheVariants as purposes
use Rattle.gix_odb.proofs.ListerLaws.Folders.{IsAtFolder}
use Rattle.gix_odb.proofs.ListerLaws.Tells.{ListedTells}
use Rattle.gix_odb.proofs.ListerLaws.Tells as listers
use Rattle.gix_odb.proofs.ListerLaws.Tells.{HasFailed-from_told}
use Rattle.gix_odb.proofs.CauseLaws.Pasts.{Noted, no_more_own, one_more_own}
use Rattle.gix_odb.proofs.CauseLaws.Standing.{IsOfFolder, StandsAt}
use Rattle.gix_odb.proofs.CauseLaws.Known.{Counts, HasBegun, KnowsAt, ShowedPart, folder_tells}
use Rattle.gix_odb.proofs.CauseLaws.Known.{refusal_explained}
use Rattle.gix_odb.proofs.CauseLaws.Onward.{by_checked-known, by_listed-known, by_look-known, by_tried-known, by_verdict-known, counted-known, try_view-known}
use Rattle.gix_odb.specs.Store.{listed_for}

module _ (Shown : Path → ℕ → List ℕ → Type 0) (setting : Setting) (hash : Kind) (id : ObjectId)
    (exchanges : List Exchange) where
  abbrev Knows : LookHead → LookStage → Type 0
  Knows head stage = KnowsAt Shown setting hash id exchanges head stage

  -- the core refused an event with this refusal
  abbrev Refuses : Refusal → Type 0
  Refuses refusal = IsRefused exchanges refusal

  -- what an answer at a stage shows, where so many lists were published before it
  pub record Answered (before : ℕ) (head : LookHead) (stage : LookStage) (answer : Answer) : Type 0 where
    pub begun : head.begun ≡ first_number exchanges
    pub own : head.own ≡ before
    pub room : (listing : Listing) (view : View) → ask_at stage ≡ Some (asks.Core (events.Publish listing)) → answer ≡ told.Core (Ok (effects.Published view))
        → head.own < last_state
    pub shows : (view : View) → view_of answer ≡ Some view → HasBegun head
    pub ask : Ask
    pub asked : ask_at stage ≡ Some ask
    pub was : WasTold exchanges ask answer
    pub last : IsLast exchanges (record { ask = ask; answer = answer })
    pub truth : IsTrue Shown setting hash ask answer
    pub published : published_in exchanges ≡ before + is_publish ask answer

  abbrev pub Knowing : LookUp → Type 0
  Knowing look = Counts exchanges look.head × Knows look.head look.stage

  module _ (before : ℕ) (head : LookHead) where
    module _ (stage : LookStage) (answer : Answer) (t : Answered before head stage answer) (ask : Ask) (asked : ask_at stage ≡ Some ask) where
      same_ask : t.ask ≡ ask
      same_ask = cc (t.asked, asked)

      was_told : WasTold exchanges ask answer
      was_told = subst (λ a. WasTold exchanges a answer) same_ask t.was

      last_told : IsLast exchanges (record { ask = ask; answer = answer })
      last_told = subst (λ a. IsLast exchanges (record { ask = a; answer = answer })) same_ask t.last

      is_true : IsTrue Shown setting hash ask answer
      is_true = subst (λ a. IsTrue Shown setting hash a answer) same_ask t.truth

      now_published : published_in exchanges ≡ before + is_publish ask answer
      now_published = subst (λ a. published_in exchanges ≡ before + is_publish a answer) same_ask t.published

      -- nothing was published
      quiet : is_publish ask answer ≡ 0 → Counts exchanges head
      quiet none = record {
        begun = t.begun;
        own = no_more_own head.own before (published_in exchanges) t.own (subst (λ n. published_in exchanges ≡ before + n) none now_published);
      }

    -- ---- the indices of a list

    trier_publishes_none : (stage : TryStage) (answer : Answer) → is_publish (tries.ask_at stage) answer ≡ 0
    trier_publishes_none (try_stages.Loading (loaders.Reading place)) answer = refl
    trier_publishes_none (try_stages.Loading (loaders.Storing place file)) answer = refl
    trier_publishes_none (try_stages.Loading (loaders.Passing place why)) answer = refl
    trier_publishes_none (try_stages.ReadingPack pack) answer = refl
    trier_publishes_none (try_stages.StoringPack pack file) answer = refl
    trier_publishes_none (try_stages.PassingPack pack) answer = refl

    trying-known : (trier : Trier) (part : Part) (answer : Answer) → Answered before head (stages.Trying trier part) answer
        → Knows head (stages.Trying trier part)
        → Knowing (fed_at setting head (stages.Trying trier part) answer)
    trying-known trier part answer t knows =
        let was = was_told (stages.Trying trier part) answer t (tries.ask_of trier) refl in (
          quiet (stages.Trying trier part) answer t (tries.ask_of trier) refl (trier_publishes_none trier.stage answer),
          by_tried-known Shown setting hash id exchanges head part knows.1 trier.goal (trier_fed trier answer)
              (fed-comes (HasFailed exchanges) Refuses trier answer knows.0 knows.2
              (HasFailed-from_told exchanges (tries.ask_of trier) answer was)
              (λ event refusal asked is. record { event = event; told = told_so (tries.ask_of trier) answer event refusal asked is was })),
        )
      where
        told_so : (ask : Ask) (answer : Answer) (event : Event) (refusal : Refusal) → ask ≡ asks.Core event → answer ≡ told.Core (Err refusal)
            → WasTold exchanges ask answer
            → WasTold exchanges (asks.Core event) (told.Core (Err refusal))
        told_so ask answer event refusal asked is was = subst (λ a. WasTold exchanges a (told.Core (Err refusal))) asked (subst (WasTold exchanges ask) is was)

    -- ---- the loose folders

    module _ (round : LooseRound) (knows : Noted exchanges round.notes × ShowedPart head round.part) where
      module _ (folder : Path) (among : Contains (folders_of setting) folder) where
        abbrev call_asked : FolderCall
        call_asked = asking setting.parts.alloc_limit_bytes head.want id folder

        abbrev at_call : LookStage
        at_call = stages.Loose round call_asked

        asking-known : (answer : DiskAnswer) → Answered before head at_call (told.Disk answer) → Knowing (fed_at setting head at_call (told.Disk answer))
        asking-known answer t =
            let ask = asks.Disk (folder_ask call_asked) in
            let was = was_told at_call (told.Disk answer) t ask refl in (
              quiet at_call (told.Disk answer) t ask refl refl,
              by_verdict-known Shown setting hash id exchanges head round knows.0 knows.1 (folder_verdict call_asked answer)
                  (folder_tells Shown setting hash id exchanges head.want folder among answer
                  (λ is. HasFailed-from_told exchanges ask (told.Disk answer) was (ap (λ (a : DiskAnswer). told.Disk a) is))
                  (record { answer = answer; told = was; is = refl })),
            )

        -- the disk answers
        never_core : (answer : core.Answer) → Answered before head at_call (told.Core answer) → ⊥
        never_core answer t = is_true at_call (told.Core answer) t (asks.Disk (folder_ask call_asked)) refl

      loose-known : (call : FolderCall) → IsOfFolder setting head.want id call → (answer : Answer) → Answered before head (stages.Loose round call) answer
          → Knowing (fed_at setting head (stages.Loose round call) answer)
      loose-known call (folder, among, is) (told.Disk answer) t =
          subst (λ c. Answered before head (stages.Loose round c) (told.Disk answer) → Knowing (fed_at setting head (stages.Loose round c) (told.Disk answer)))
          (sym is) (asking-known folder among answer) t
      loose-known call (folder, among, is) (told.Core answer) t =
          absurd (subst (λ call. Answered before head (stages.Loose round call) (told.Core answer) → ⊥) (sym is) (never_core folder among answer) t)

    -- ---- a listing

    listing-known : (lister : Lister) (purpose : Purpose) (notes : Notes) → IsAtFolder setting lister.head
        → Knows head (stages.Refreshing (fronts.Listing lister) purpose notes)
        → (answer : Answer)
        → Answered before head (stages.Refreshing (fronts.Listing lister) purpose notes) answer
        → Knowing (fed_at setting head (stages.Refreshing (fronts.Listing lister) purpose notes) answer)
    listing-known lister purpose notes at knows (told.Disk answer) t =
        let stage : LookStage = stages.Refreshing (fronts.Listing lister) purpose notes in
        let truth = is_true stage (told.Disk answer) t (asks.Disk (lists.ask_of lister)) refl in
        listing_counts (lists.fed (listed_for setting.parts) lister answer) (quiet stage (told.Disk answer) t (asks.Disk (lists.ask_of lister)) refl refl)
        (listers.fed-tells setting exchanges lister at knows.2 answer truth.0
        (was_told stage (told.Disk answer) t (asks.Disk (lists.ask_of lister)) refl))
      where
        listing_counts : (step : ListStep) → Counts exchanges head → ListedTells setting exchanges step
            → Knowing (by_refresh setting head purpose notes (by_listed step))
        listing_counts (listed.More next) counts tells = (counts, by_listed-known Shown setting hash id exchanges head purpose notes knows.0 knows.1 (listed.More next) tells)
        listing_counts (listed.Listed listing) counts tells = (counts, by_listed-known Shown setting hash id exchanges head purpose notes knows.0 knows.1 (listed.Listed listing) tells)
        listing_counts listed.Broken counts tells = (counts, by_listed-known Shown setting hash id exchanges head purpose notes knows.0 knows.1 listed.Broken tells)
        listing_counts (listed.TooManyPacks actual path) counts tells =
            (counts, by_listed-known Shown setting hash id exchanges head purpose notes knows.0 knows.1 (listed.TooManyPacks actual path) tells)
    listing-known lister purpose notes at knows (told.Core answer) t =
        (quiet (stages.Refreshing (fronts.Listing lister) purpose notes) (told.Core answer) t (asks.Disk (lists.ask_of lister)) refl refl, knows)

    -- ---- the core

    tells_view : (effect : Effect) (view : View) → view_shown effect ≡ Some view → TellsNumber (told.Core (Ok effect)) view.list_no
    tells_view (effects.Outdated list_no) view is = absurd (cc is)
    tells_view effect view is = (view, is, refl)

    -- a refresh leaves the counts where nothing is published
    look_counts : (purpose : Purpose) (notes : Notes) → Counts exchanges head → (view : Option View)
        → Counts exchanges (by_refresh setting head purpose notes (by_look setting.parts.objects view)).head
    look_counts purpose notes counts None = counts
    look_counts purpose notes counts (Some view) = by view.read
      where
        by : (b : Bool)
            → Counts exchanges
            (by_refresh setting head purpose notes (if b then steps.Read view else steps.More (refreshes.listing_from setting.parts.objects view.list_no))).head
        by true = counts
        by false = counts

    reading-known : (purpose : Purpose) (notes : Notes) → Noted exchanges notes → (answer : Answer)
        → Answered before head (stages.Refreshing fronts.Reading purpose notes) answer
        → Knowing (fed_at setting head (stages.Refreshing fronts.Reading purpose notes) answer)
    reading-known purpose notes noted (told.Disk answer) t =
        (quiet (stages.Refreshing fronts.Reading purpose notes) (told.Disk answer) t (asks.Core events.Look) refl refl, noted)
    reading-known purpose notes noted (told.Core (Ok effect)) t =
        let counts = quiet (stages.Refreshing fronts.Reading purpose notes) (told.Core (Ok effect)) t (asks.Core events.Look) refl refl in (
          look_counts purpose notes counts (view_shown effect),
          by_look-known Shown setting hash id exchanges head purpose notes noted (view_shown effect) (λ view is. t.shows view is),
        )
    reading-known purpose notes noted (told.Core (Err refusal)) t = (
      quiet (stages.Refreshing fronts.Reading purpose notes) (told.Core (Err refusal)) t (asks.Core events.Look) refl refl,
      refusal_explained Shown setting hash id exchanges head.want refusal
          (record {
            event = events.Look;
            told = was_told (stages.Refreshing fronts.Reading purpose notes) (told.Core (Err refusal)) t (asks.Core events.Look) refl;
          }),
    )

    checking-known : (list_no : ℕ) (notes : Notes) → Noted exchanges notes → (answer : Answer) → Answered before head (stages.Checking list_no notes) answer
        → Knowing (fed_at setting head (stages.Checking list_no notes) answer)
    checking-known list_no notes noted (told.Disk answer) t =
        (quiet (stages.Checking list_no notes) (told.Disk answer) t (asks.Core events.Look) refl refl, noted)
    checking-known list_no notes noted (told.Core (Ok effect)) t =
        let counts = quiet (stages.Checking list_no notes) (told.Core (Ok effect)) t (asks.Core events.Look) refl refl in
        let last = last_told (stages.Checking list_no notes) (told.Core (Ok effect)) t (asks.Core events.Look) refl in (
          counts,
          by_checked-known Shown setting hash id exchanges head counts (record { ask = asks.Core events.Look; answer = told.Core (Ok effect) }) last list_no notes noted (view_shown effect)
              (λ view is. (t.shows view is, tells_view effect view is)),
        )
    checking-known list_no notes noted (told.Core (Err refusal)) t = (
      quiet (stages.Checking list_no notes) (told.Core (Err refusal)) t (asks.Core events.Look) refl refl,
      refusal_explained Shown setting hash id exchanges head.want refusal
          (record { event = events.Look; told = was_told (stages.Checking list_no notes) (told.Core (Err refusal)) t (asks.Core events.Look) refl }),
    )

    module _ (listing : Listing) (purpose : Purpose) (notes : Notes) (knows : Noted exchanges notes × HasBegun head) where
      abbrev at_publish : LookStage
      at_publish = stages.Refreshing (fronts.Publishing listing) purpose notes

      abbrev publish : Ask
      publish = asks.Core (events.Publish listing)

      counts_so : (answer : Answer) → Answered before head at_publish answer → is_publish publish answer ≡ 0 → Counts exchanges head
      counts_so answer t none = quiet at_publish answer t publish refl none

      by_published-known : (effect : Effect) → Answered before head at_publish (told.Core (Ok effect))
          → Knowing (by_refresh setting head purpose notes (by_published listing effect))
      by_published-known (effects.Published view) t = (
        record {
          begun = t.begun;
          own =
              one_more_own head.own before (published_in exchanges) t.own (t.room listing view refl refl)
              (now_published at_publish (told.Core (Ok (effects.Published view))) t publish refl);
        },
        try_view-known Shown setting hash id exchanges (with_own head) (parts.Published view.list_no) knows.1 view view.todo (without_absent notes) knows.0,
      )
      by_published-known (effects.Unchanged view) t = (
        counts_so (told.Core (Ok (effects.Unchanged view))) t refl,
        try_view-known Shown setting hash id exchanges head (parts.Published view.list_no) knows.1 view view.todo (without_absent notes) knows.0,
      )
      by_published-known (effects.Outdated list_no) t =
          let counts = counts_so (told.Core (Ok (effects.Outdated list_no))) t refl in
          let last = last_told at_publish (told.Core (Ok (effects.Outdated list_no))) t publish refl in (
            counts,
            counted-known Shown setting hash id exchanges head counts knows.1 (record { ask = publish; answer = told.Core (Ok (effects.Outdated list_no)) }) last list_no refl
                (stages.Refreshing fronts.Reading purposes.Again notes) knows.0,
          )
      by_published-known (effects.Seen view) t = (counts_so (told.Core (Ok (effects.Seen view))) t refl, knows)
      by_published-known (effects.Reported view report) t = (counts_so (told.Core (Ok (effects.Reported view report))) t refl, knows)
      by_published-known effects.Removed t = (counts_so (told.Core (Ok effects.Removed)) t refl, knows)
      by_published-known (effects.Put view stored) t = (counts_so (told.Core (Ok (effects.Put view stored))) t refl, knows)

      publishing-known : (answer : Answer) → Answered before head at_publish answer → Knowing (fed_at setting head at_publish answer)
      publishing-known (told.Disk answer) t = (counts_so (told.Disk answer) t refl, knows)
      publishing-known (told.Core (Ok effect)) t = by_published-known effect t
      publishing-known (told.Core (Err refusal)) t = (
        counts_so (told.Core (Err refusal)) t refl,
        refusal_explained Shown setting hash id exchanges head.want refusal
            (record { event = events.Publish listing; told = was_told at_publish (told.Core (Err refusal)) t publish refl }),
      )

    -- ---- any stage

    pub fed_at-known : (stage : LookStage) (answer : Answer) → Answered before head stage answer → StandsAt setting head.want id stage → Knows head stage
        → Knowing (fed_at setting head stage answer)
    fed_at-known (stages.Trying trier part) answer t stands knows = trying-known trier part answer t knows
    fed_at-known (stages.Loose round call) answer t stands knows = loose-known round knows call stands answer t
    fed_at-known (stages.Refreshing fronts.Reading purpose notes) answer t stands knows = reading-known purpose notes knows answer t
    fed_at-known (stages.Refreshing (fronts.Listing lister) purpose notes) answer t stands knows = listing-known lister purpose notes stands knows answer t
    fed_at-known (stages.Refreshing (fronts.Publishing listing) purpose notes) answer t stands knows = publishing-known listing purpose notes knows answer t
    fed_at-known (stages.Checking list_no notes) answer t stands knows = checking-known list_no notes knows answer t
    fed_at-known (stages.Done reply) answer t stands knows = absurd (cc t.asked)
