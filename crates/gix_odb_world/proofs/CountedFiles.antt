-- The files that an opening counts have different paths, each was shown in the opening, and where the tree stayed so, they are its listed files.
pub mod OfTree
pub mod OneTurn
pub mod Calls
use Rattle.std.proofs.Common.{◌≡◌, ℕ, true, List, [], ◌∷◌, length, All, Contains, slice_index_or, sym, ◌∙◌, subst}
use Rattle.std.specs.List.{IsDistinct}
use Rattle.std.proofs.lemmas.Option.{same_Some}
use Rattle.odb_disk.specs.MemDisk.{Volume}
use Rattle.odb_disk.specs.declared.ask.DiskAnswer.{DiskAnswer}
use Rattle.odb_disk.specs.declared.ask.DiskAsk.{DiskAsk}
use Rattle.odb_disk.specs.declared.ask.DiskAsk.TheVariants as disk_asks
use Rattle.odb_disk.specs.Tree.{Tree}
use Rattle.odb_disk.specs.declared.entry.Entry.{Entry}
use Rattle.gix_odb_events.specs.PackFiles.{same_path}
use Rattle.gix_odb_events.specs.declared.listing.Listing.{Listing}
use Rattle.gix_odb_events.specs.declared.listing.ListingRow.{ListingRow}
use Rattle.gix_odb_search.specs.ListOrder as lists
use Rattle.gix_odb_events.specs.declared.answer.Answer.{Answer}
use Rattle.gix_odb_events.specs.declared.answer.Answer.TheVariants as told
use Rattle.gix_odb_events.specs.declared.answer.Ask.{Ask}
use Rattle.gix_odb_events.specs.declared.answer.Ask.TheVariants as asks
use Rattle.gix_odb_search.specs.declared.lister.ListStep.{ListStep}
use Rattle.gix_odb_search.specs.declared.lister.ListStep.TheVariants as listed
use Rattle.gix_odb_calls.specs.declared.init.Slots.{Slots}
use Rattle.gix_odb_calls.specs.declared.init.Slots.TheVariants.{AsNeededByDiskState, Given}
use Rattle.gix_odb.specs.LookExchanges.{Exchange, WasTold}
use Rattle.gix_odb.specs.LookUpOrder.{Setting}
use Rattle.gix_odb.specs.Store.{listed_for}
use Rattle.gix_odb.specs.Shown.{IsIndexRow}
use Rattle.gix_odb.proofs.ListerLaws.Known.{KnowsListStep}
use Rattle.gix_odb.proofs.ListerLaws.Lists.{has_first, has_later}
use Rattle.gix_odb.proofs.ListerLaws.Known.{fed_known, started_known}
use Rattle.gix_odb.specs.Asked.{AreSuited, IsSuited}
use Rattle.gix_odb.specs.ListedFiles.{AreOfTree}
use Rattle.gix_odb.specs.ListerCalls.{Call, IsRowSeen, WasCalled, behind_calls}
use Rattle.gix_odb.proofs.ListingLaws.{listed_rows_are_those_of_the_tree, listed_rows_have_different_paths, listed_rows_were_seen}
use Rattle.gix_odb.specs.Contents.{folder_list}
use Rattle.gix_odb.specs.Moments.{Sometime}
use Rattle.gix_odb.specs.OpenExchanges.{AreAsked, HasListed, IsNumber, fed_by, list_behind, list_by}
use Rattle.gix_odb.specs.declared.open_state.OpenStage.TheVariants as opens
use Rattle.gix_odb_world.specs.AtWork.{Store, setting_in}
use Rattle.gix_odb_world.specs.Counted.{AreCounted, IsCountedNumber, WasShownRow}
use Rattle.gix_odb_history.specs.Event.{Event}
use Rattle.gix_odb_history.specs.Run.{tree_at}
use Rattle.gix_odb_world.specs.Running.Listed.{AreGiven}
use Rattle.gix_odb_world.specs.Running.Query.{IsGiven}
use Rattle.gix_odb_world.specs.Told.{told_since}
use Rattle.gix_odb_world.proofs.CountedFiles.Calls.{HasCalls, calls_behind_the_look}
use Rattle.gix_odb_world.proofs.CountedFiles.OfTree.{of_tree_to}
use Rattle.gix_odb_world.proofs.ListedRows.{IsOfDisk, row_was_listed}

-- ---- the rows of a listing are of the store's folders

module _ (setting : Setting) where
  step_known : (step : ListStep) (answer : Answer) → KnowsListStep setting step → KnowsListStep setting (list_by (listed_for setting.parts) step answer)
  step_known (listed.More lister) (told.Disk answer) known = fed_known setting lister answer known
  step_known (listed.More lister) (told.Core answer) known = known
  step_known (listed.Listed listing) answer known = known
  step_known listed.Broken answer known = known
  step_known (listed.TooManyPacks actual path) answer known = known

  listing_known : (step : ListStep) (exchanges : List Exchange) → KnowsListStep setting step → KnowsListStep setting (list_behind (listed_for setting.parts) step exchanges)
  listing_known step [] known = known
  listing_known step (exchange ∷ exchanges) known =
      listing_known (list_by (listed_for setting.parts) step exchange.answer) exchanges (step_known step exchange.answer known)

-- ---- the calls of an opening that counted

module _ (setting : Setting) (slots : Slots) where
  abbrev start : ListStep
  start = listed.More (lists.started setting.parts.objects 0)

  -- after the stat, and with the answers of one tree from there on
  pub record HasCounted (look : Exchange) (listing : List Exchange) : Type 0 where
    pub has : HasCalls setting slots start listing
    pub of_tree : (tree : Tree) → AreOfTree tree [] (look ∷ listing) → AreOfTree tree [] listing

  counted_behind : (ask : Ask) (answer : Answer) (listing : List Exchange) → asks.Disk (disk_asks.Look setting.parts.objects true) ≡ ask → IsSuited ask answer
      → AreAsked setting slots (fed_by setting slots opens.Looking answer) listing → AreSuited listing
      → HasCounted (record { ask = ask; answer = answer }) listing
  counted_behind ask answer listing is suits asked suited =
      subst (λ (own : Ask). IsSuited own answer → HasCounted (record { ask = own; answer = answer }) listing) is (by answer asked) suits
    where
      by : (answer : Answer) → AreAsked setting slots (fed_by setting slots opens.Looking answer) listing
          → IsSuited (asks.Disk (disk_asks.Look setting.parts.objects true)) answer
          → HasCounted (record { ask = asks.Disk (disk_asks.Look setting.parts.objects true); answer = answer }) listing
      by (told.Disk answer) asked suits = record {
        has = calls_behind_the_look setting slots answer listing asked suited;
        of_tree = λ tree of. subst (λ (coming : List Entry). AreOfTree tree coming listing) of.1.1 of.2;
      }
      by (told.Core answer) asked suits = absurd suits

-- ---- what is promised of the files that were counted

module _ (first : Volume) (events : List Event) (handle : ℕ) (store : Store) (begun : ℕ) (distinct : IsDistinct same_path (folder_list store.parts))
    (given : AreGiven first events handle begun)
    (asked : AreAsked (setting_in store) store.parts.slots opens.Looking (told_since events handle begun)) (suited : AreSuited (told_since events handle begun)) where
  abbrev setting : Setting
  setting = setting_in store

  abbrev exchanges : List Exchange
  exchanges = told_since events handle begun

  abbrev trees : ℕ → Tree
  trees = tree_at first events

  module _ (counted : Listing) (has : HasListed setting exchanges (listed.Listed counted)) where
    all_asked : AreAsked setting store.parts.slots opens.Looking (has.look ∷ has.listing)
    all_asked = subst (λ (xs : List Exchange). AreAsked setting store.parts.slots opens.Looking xs) has.are asked

    looks : HasCounted setting store.parts.slots has.look has.listing
    looks =
        counted_behind setting store.parts.slots has.look.ask has.look.answer has.listing
        (same_Some (asks.Disk (disk_asks.Look setting.parts.objects true)) has.look.ask all_asked.0)
        (suited has.look (subst (λ (xs : List Exchange). Contains xs has.look) (sym has.are) (has_first has.look has.listing)))
        all_asked.1
        (λ one among. suited one (subst (λ (xs : List Exchange). Contains xs one) (sym has.are) (has_later has.look has.listing one among)))

    abbrev calls : List Call
    calls = looks.has.calls

    ends : behind_calls (listed_for setting.parts) (start setting store.parts.slots) calls ≡ listed.Listed counted
    ends = looks.has.comes ∙ has.comes

    -- the calls are among the exchanges, and a disk gave their answers
    given_then : (ask : DiskAsk) (answer : DiskAnswer) → WasCalled calls ask answer → Sometime begun (length events) (λ moment. IsOfDisk (trees moment) ask answer)
    given_then ask answer was =
        let at : IsGiven first events handle begun ask answer =
        given.given ask answer
        (subst (λ (xs : List Exchange). WasTold xs (asks.Disk ask) (told.Disk answer)) (sym has.are)
        (has_later has.look has.listing (record { ask = asks.Disk ask; answer = told.Disk answer }) (looks.has.made (record { ask = ask; answer = answer }) was))) in
        record { moment = at.moment; from = at.from; to = at.to; was = record { disk = at.disk; shown = at.shown; is = sym at.is } }

    row_was_shown : (row : ListingRow) → IsRowSeen (WasCalled calls) row → IsIndexRow setting row → WasShownRow trees setting begun (length events) row
    row_was_shown row seen known = (known, row_was_listed (WasCalled calls) trees begun (length events) given_then row seen)

    are_counted : AreCounted trees setting begun (length events) counted.rows
    are_counted =
        let seen : All (IsRowSeen (WasCalled calls)) counted.rows = listed_rows_were_seen (listed_for setting.parts) setting.parts.objects 0 calls counted looks.has.are ends in
        let known : All (IsIndexRow setting) counted.rows =
        subst (KnowsListStep setting) has.comes (listing_known setting (start setting store.parts.slots) has.listing (started_known setting 0)) in
        record {
          different = listed_rows_have_different_paths (listed_for setting.parts) setting.parts.objects 0 calls counted looks.has.are ends distinct;
          shown = λ k d within. row_was_shown (slice_index_or counted.rows k d) (seen k d within) (known k d within);
          of_tree = λ tree stood.
              let all = given.of_tree tree stood in
              listed_rows_are_those_of_the_tree (listed_for setting.parts) setting.parts.objects 0 calls counted looks.has.are ends tree
              (looks.has.of_tree tree []
              (looks.of_tree tree
              (subst (λ (xs : List Exchange). AreOfTree tree [] xs) has.are (of_tree_to tree [] exchanges all.0 all.1))));
        }

  -- An opening that ends with a number of slots has the one that was given, or the one for the files that it counted.
  pub number_is_counted : (slots : Slots) (number : ℕ) → IsNumber setting slots exchanges number
      → IsCountedNumber trees setting exchanges begun (length events) slots number
  number_is_counted (Given own) number is = is
  number_is_counted (AsNeededByDiskState percent minimum) number is = (is.0, is.1, are_counted is.0 is.1, is.2)
