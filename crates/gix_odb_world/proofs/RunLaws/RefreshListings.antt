-- The listing that a refresh passes to the core of its store: its rows were seen, and where one tree answers they are the tree's listed files.
use Rattle.std.proofs.Common.{◌≡◌, Bool, true, false, cond, List, [], ◌∷◌, Contains, Option, Some, None, Ok, Err, sym, subst}
use Rattle.std.specs.List.{All}
use Rattle.std.proofs.lemmas.Option.{same_Some}
use Rattle.odb_disk.specs.declared.ask.DiskAnswer.{DiskAnswer}
use Rattle.odb_disk.specs.declared.ask.DiskAsk.{DiskAsk}
use Rattle.odb_disk.specs.Tree.{Tree}
use Rattle.odb_disk.specs.declared.entry.Entry.{Entry}
use Rattle.gix_odb_events.specs.declared.listing.Listing.{Listing}
use Rattle.gix_odb_events.specs.declared.listing.ListingRow.{ListingRow}
use Rattle.gix_odb_events.specs.declared.event.Effect.{Effect}
use Rattle.gix_odb_events.specs.declared.event.Effect.TheVariants as effects
use Rattle.gix_odb_events.specs.declared.event.Event.TheVariants as events_of
use Rattle.gix_odb_events.specs.declared.view.View.{View}
use Rattle.gix_odb_search.specs.ListOrder as lists
use Rattle.gix_odb_search.specs.ListedStore.{ListedStore}
use Rattle.gix_odb_search.specs.MultiPack.{unnamed}
use Rattle.gix_odb_search.specs.LongestFirst.{longest_first}
use Rattle.gix_odb_events.specs.declared.answer.Answer.{Answer}
use Rattle.gix_odb_events.specs.declared.answer.Answer.TheVariants as told
use Rattle.gix_odb_events.specs.declared.answer.Ask.{Ask}
use Rattle.gix_odb_events.specs.declared.answer.Ask.TheVariants as parts
use Rattle.gix_odb_search.specs.declared.lister.ListStep.{ListStep}
use Rattle.gix_odb_search.specs.declared.lister.ListStep.TheVariants as steps
use Rattle.gix_odb.specs.LookExchanges.{Exchange, WasTold}
use Rattle.gix_odb.specs.LookUpOrder.{Setting}
use Rattle.gix_odb.specs.Shown.{folders_of}
use Rattle.gix_odb.proofs.ListerLaws.Lists.{has_first, has_later}
use Rattle.gix_odb.specs.ListedFiles.{AreOfTree, IsToldOfTree, all_rows, listed_in}
use Rattle.gix_odb.specs.ListerCalls.{IsRowSeen}
use Rattle.gix_odb.proofs.ListingLaws.OfTree.{ListsStage, ListsStep, listing_lists, starts_listing}
use Rattle.gix_odb.proofs.ListingLaws.Seen.{SeesLister, SeesStep, listing_sees, starts_seeing}
use Rattle.gix_odb.specs.RefreshOrder.{asked_of, by_listed, by_look, by_published, listing_from, started, step_fed, view_shown}
use Rattle.gix_odb.specs.Refreshed.{AreAsked, behind}
use Rattle.gix_odb.specs.declared.refresh.RefreshStep.{RefreshStep}
use Rattle.gix_odb.specs.declared.refresh.RefreshStep.TheVariants as ends
use Rattle.gix_odb.specs.declared.refresh.Refresh.TheVariants as stages
use Rattle.gix_odb.specs.Store.{listed_for}

same_part : (one other : Ask) → ◌≡◌ {A = Option Ask} (Some one) (Some other) → one ≡ other
same_part one other is = same_Some one other is

-- what holds of the rows of the listing so far holds of those that are passed on
published : (P : List ListingRow → Type 0) (own listing : Listing) → P own.rows → asked_of (ends.More (stages.Publishing own)) ≡ Some (parts.Core (events_of.Publish listing)) → P listing.rows
published P own listing here is = let same : own ≡ listing = cc is in subst (λ (l : Listing). P l.rows) same here

module _ (setting : Setting) where
  abbrev store : ListedStore
  store = listed_for setting.parts

  abbrev fed_by : RefreshStep → Answer → RefreshStep
  fed_by step answer = step_fed setting.parts.objects store step answer

  -- ---- what was seen

  module _ (all : List Exchange) where
    abbrev Told : DiskAsk → DiskAnswer → Type 0
    Told ask answer = WasTold all (parts.Disk ask) (told.Disk answer)

    abbrev AreSeen : List ListingRow → Type 0
    AreSeen rows = All (IsRowSeen Told) rows

    abbrev Sees : RefreshStep → Type 0
    Sees (ends.More (stages.Listing lister)) = SeesLister Told store lister
    Sees (ends.More (stages.Publishing listing)) = AreSeen listing.rows
    Sees step = Unit {0}

    listed_seen : (step : ListStep) → SeesStep Told store step → Sees (by_listed step)
    listed_seen (steps.More lister) here = here
    listed_seen (steps.Listed listing) here = here
    listed_seen steps.Broken here = tt
    listed_seen (steps.TooManyPacks actual path) here = tt

    view_seen : (view : View) (b : Bool) → Sees (cond b (ends.Read view) (ends.More (listing_from setting.parts.objects view.list_no)))
    view_seen view true = tt
    view_seen view false = starts_seeing Told store setting.parts.objects view.list_no

    look_seen : (view : Option View) → Sees (by_look setting.parts.objects view)
    look_seen None = tt
    look_seen (Some view) = view_seen view view.read

    published_seen : (listing : Listing) → AreSeen listing.rows → (effect : Effect) → Sees (by_published listing effect)
    published_seen listing here (effects.Published view) = tt
    published_seen listing here (effects.Unchanged view) = tt
    published_seen listing here (effects.Outdated number) = tt
    published_seen listing here effect = here

    fed_seen : (step : RefreshStep) → Sees step → (ask : Ask) (answer : Answer) → asked_of step ≡ Some ask → WasTold all ask answer → Sees (fed_by step answer)
    fed_seen (ends.More (stages.Listing lister)) here ask (told.Disk answer) is was =
        listed_seen (lists.fed store lister answer)
        (listing_sees Told store lister.head here.rows lister.stage here.stage answer
        (subst (λ (a : Ask). WasTold all a (told.Disk answer)) (sym (same_part (parts.Disk (lists.ask_of lister)) ask is)) was))
    fed_seen (ends.More (stages.Listing lister)) here ask (told.Core answer) is was = here
    fed_seen (ends.More stages.Reading) here ask (told.Disk answer) is was = tt
    fed_seen (ends.More stages.Reading) here ask (told.Core (Ok effect)) is was = look_seen (view_shown effect)
    fed_seen (ends.More stages.Reading) here ask (told.Core (Err refusal)) is was = tt
    fed_seen (ends.More (stages.Publishing listing)) here ask (told.Disk answer) is was = here
    fed_seen (ends.More (stages.Publishing listing)) here ask (told.Core (Ok effect)) is was = published_seen listing here effect
    fed_seen (ends.More (stages.Publishing listing)) here ask (told.Core (Err refusal)) is was = tt
    fed_seen (ends.Read view) here ask answer is was = tt
    fed_seen (ends.Current view own) here ask answer is was = tt
    fed_seen (ends.Outdated list_no) here ask answer is was = tt
    fed_seen (ends.Refused error) here ask answer is was = tt

    seen_behind : (step : RefreshStep) → Sees step → (exchanges : List Exchange) → AreAsked setting step exchanges
        → ((exchange : Exchange) → Contains exchanges exchange → Contains all exchange) → Sees (behind setting step exchanges)
    seen_behind step here [] asked among = here
    seen_behind step here (exchange ∷ exchanges) asked among =
        seen_behind (fed_by step exchange.answer)
        (fed_seen step here exchange.ask exchange.answer asked.0 (among exchange (has_first exchange exchanges)))
        exchanges asked.1 (λ other is. among other (has_later exchange exchanges other is))

    start_seen : (view : View) (b : Bool) → Sees (cond b (ends.Read view) (ends.More stages.Reading))
    start_seen view true = tt
    start_seen view false = tt

    handed_seen : (step : RefreshStep) → Sees step → (listing : Listing) → asked_of step ≡ Some (parts.Core (events_of.Publish listing)) → AreSeen listing.rows
    handed_seen (ends.More stages.Reading) here listing is = absurd (cc is)
    handed_seen (ends.More (stages.Listing lister)) here listing is = absurd (cc is)
    handed_seen (ends.More (stages.Publishing own)) here listing is = published AreSeen own listing here is
    handed_seen (ends.Read view) here listing is = absurd (cc is)
    handed_seen (ends.Current view own) here listing is = absurd (cc is)
    handed_seen (ends.Outdated list_no) here listing is = absurd (cc is)
    handed_seen (ends.Refused error) here listing is = absurd (cc is)

  -- ---- what one tree lists

  module _ (tree : Tree) where
    abbrev total : List ListingRow
    total = all_rows tree store.multi (folders_of setting)

    abbrev AreAll : List ListingRow → Type 0
    AreAll rows = rows ≡ longest_first (unnamed total)

    abbrev Lists : List Entry → RefreshStep → Type 0
    Lists coming (ends.More (stages.Listing lister)) = ListsStage tree store total coming lister.head lister.stage
    Lists coming (ends.More (stages.Publishing listing)) = AreAll listing.rows
    Lists coming step = Unit {0}

    listed_so : (coming : List Entry) (step : ListStep) → ListsStep tree store total coming step → Lists coming (by_listed step)
    listed_so coming (steps.More lister) here = here
    listed_so coming (steps.Listed listing) here = here
    listed_so coming steps.Broken here = tt
    listed_so coming (steps.TooManyPacks actual path) here = tt

    view_listed : (coming : List Entry) (view : View) (b : Bool) → Lists coming (cond b (ends.Read view) (ends.More (listing_from setting.parts.objects view.list_no)))
    view_listed coming view true = tt
    view_listed coming view false = starts_listing tree store setting.parts.objects view.list_no coming

    look_listed : (coming : List Entry) (view : Option View) → Lists coming (by_look setting.parts.objects view)
    look_listed coming None = tt
    look_listed coming (Some view) = view_listed coming view view.read

    published_listed : (coming : List Entry) (listing : Listing) → AreAll listing.rows → (effect : Effect) → Lists coming (by_published listing effect)
    published_listed coming listing here (effects.Published view) = tt
    published_listed coming listing here (effects.Unchanged view) = tt
    published_listed coming listing here (effects.Outdated number) = tt
    published_listed coming listing here effect = here

    fed_listed : (coming : List Entry) (step : RefreshStep) → Lists coming step → (ask : Ask) (answer : Answer) (left : List Entry) → asked_of step ≡ Some ask
        → IsToldOfTree tree coming ask answer left → Lists left (fed_by step answer)
    fed_listed coming (ends.More (stages.Listing lister)) here ask (told.Disk answer) left is of =
        listed_so left (lists.fed store lister answer)
        (listing_lists tree store total lister.head coming lister.stage here answer left
        (subst (λ (a : Ask). IsToldOfTree tree coming a (told.Disk answer) left) (sym (same_part (parts.Disk (lists.ask_of lister)) ask is)) of))
    fed_listed coming (ends.More (stages.Listing lister)) here ask (told.Core answer) left is of =
        absurd (subst (λ (a : Ask). IsToldOfTree tree coming a (told.Core answer) left) (sym (same_part (parts.Disk (lists.ask_of lister)) ask is)) of)
    fed_listed coming (ends.More stages.Reading) here ask (told.Disk answer) left is of = tt
    fed_listed coming (ends.More stages.Reading) here ask (told.Core (Ok effect)) left is of = look_listed left (view_shown effect)
    fed_listed coming (ends.More stages.Reading) here ask (told.Core (Err refusal)) left is of = tt
    fed_listed coming (ends.More (stages.Publishing listing)) here ask (told.Disk answer) left is of = here
    fed_listed coming (ends.More (stages.Publishing listing)) here ask (told.Core (Ok effect)) left is of = published_listed left listing here effect
    fed_listed coming (ends.More (stages.Publishing listing)) here ask (told.Core (Err refusal)) left is of = tt
    fed_listed coming (ends.Read view) here ask answer left is of = tt
    fed_listed coming (ends.Current view own) here ask answer left is of = tt
    fed_listed coming (ends.Outdated list_no) here ask answer left is of = tt
    fed_listed coming (ends.Refused error) here ask answer left is of = tt

    listed_behind : (coming : List Entry) (step : RefreshStep) → Lists coming step → (exchanges : List Exchange) → AreAsked setting step exchanges
        → AreOfTree tree coming exchanges → (left : List Entry) × Lists left (behind setting step exchanges)
    listed_behind coming step here [] asked of = (coming, here)
    listed_behind coming step here (exchange ∷ exchanges) asked of =
        listed_behind of.0 (fed_by step exchange.answer) (fed_listed coming step here exchange.ask exchange.answer of.0 asked.0 of.1) exchanges asked.1 of.2

    start_listed : (view : View) (b : Bool) → Lists [] (cond b (ends.Read view) (ends.More stages.Reading))
    start_listed view true = tt
    start_listed view false = tt

    handed_listed : (left : List Entry) (step : RefreshStep) → Lists left step → (listing : Listing) → asked_of step ≡ Some (parts.Core (events_of.Publish listing))
        → AreAll listing.rows
    handed_listed left (ends.More stages.Reading) here listing is = absurd (cc is)
    handed_listed left (ends.More (stages.Listing lister)) here listing is = absurd (cc is)
    handed_listed left (ends.More (stages.Publishing own)) here listing is = published AreAll own listing here is
    handed_listed left (ends.Read view) here listing is = absurd (cc is)
    handed_listed left (ends.Current view own) here listing is = absurd (cc is)
    handed_listed left (ends.Outdated list_no) here listing is = absurd (cc is)
    handed_listed left (ends.Refused error) here listing is = absurd (cc is)

  -- ---- the laws

  module _ (snapshot : View) (exchanges : List Exchange) (asked : AreAsked setting (started snapshot) exchanges) (listing : Listing)
      (is : asked_of (behind setting (started snapshot) exchanges) ≡ Some (parts.Core (events_of.Publish listing))) where
    -- Each row's index was itself a file in one of the exchanges, and its pack's path showed a file in one; or it is that of a multi-pack index, which
    -- was read in one, with the row's content and time.
    pub rows_of_a_refresh_were_seen : All (IsRowSeen (λ ask answer. WasTold exchanges (parts.Disk ask) (told.Disk answer))) listing.rows
    rows_of_a_refresh_were_seen =
        handed_seen exchanges (behind setting (started snapshot) exchanges)
        (seen_behind exchanges (started snapshot) (start_seen exchanges snapshot snapshot.read) exchanges asked (λ exchange among. among)) listing is

    -- Where one tree answered all calls of the disk, the rows are the tree's listed files, in the order in which they are tried.
    pub rows_of_a_refresh_are_those_of_the_tree : (tree : Tree) → AreOfTree tree [] exchanges → listing.rows ≡ longest_first (listed_in tree (listed_for setting.parts).multi (folders_of setting))
    rows_of_a_refresh_are_those_of_the_tree tree of =
        let lists_so = listed_behind tree [] (started snapshot) (start_listed tree snapshot snapshot.read) exchanges asked of in
        handed_listed tree lists_so.0 (behind setting (started snapshot) exchanges) lists_so.1 listing is
