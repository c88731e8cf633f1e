-- Laws of runs about the listings that calls pass to the core of their store.
use Rattle.std.proofs.Common.{◌≡◌, ℕ, List, [], take, refl, arith}
use Rattle.std.proofs.lemmas.List.Elements.{All-weaker}
use Rattle.odb_disk.specs.MemDisk.{Volume}
use Rattle.odb_disk.specs.declared.ask.DiskAnswer.{DiskAnswer}
use Rattle.odb_disk.specs.declared.ask.DiskAsk.{DiskAsk}
use Rattle.odb_disk.specs.Tree.{Tree}
use Rattle.gix_odb_events.specs.declared.listing.Listing.{Listing}
use Rattle.gix_odb_events.specs.declared.listing.ListingRow.{ListingRow}
use Rattle.gix_odb_events.specs.declared.event.Event.TheVariants as events_of
use Rattle.gix_odb_search.specs.LongestFirst.{longest_first}
use Rattle.gix_odb_events.specs.declared.answer.Answer.TheVariants as told_by
use Rattle.gix_odb_events.specs.declared.answer.Ask.TheVariants as parts
use Rattle.gix_odb.specs.LookExchanges.{Exchange, WasTold}
use Rattle.gix_odb.specs.Contents.{folder_list}
use Rattle.gix_odb.specs.Moments.{Sometime}
use Rattle.gix_odb.specs.ListedFiles.{listed_in}
use Rattle.gix_odb.specs.ListedRows.{WasListed}
use Rattle.gix_odb.specs.ListerCalls.{IsRowSeen}
use Rattle.gix_odb.specs.Store.{listed_for}
use Rattle.gix_odb_world.specs.AtWork.{Running, setting_in}
use Rattle.gix_odb_history.specs.Event.{Event}
use Rattle.gix_odb_history.specs.Run.{disk_after, tree_at}
use Rattle.gix_odb_world.specs.Told.{told_since}
use Rattle.gix_odb_world.specs.RunLaws.Listed.{AreRowsShown, StoodStill}
use Rattle.gix_odb_world.specs.RunLaws.Turn.{AsksCore, IsTurnAt}
use Rattle.gix_odb_world.proofs.ListedRows.{IsOfDisk, row_was_listed}
use Rattle.gix_odb_world.proofs.RunLaws.CallTurns.{IsListed, listed_by_turn}
use Rattle.gix_odb_world.proofs.RunLaws.KnownRun.{IsKnownRun}
use Rattle.gix_odb_world.proofs.RunLaws.OneTree.{one_tree, to_some}
use Rattle.gix_odb_world.proofs.RunLaws.ToldThen.{told_then}

module _ (first : Volume) (events : List Event) (is : IsKnownRun first events) where
  abbrev trees : ℕ → Tree
  trees moment = tree_at first events moment

  -- a row that was seen in a handle's answers was shown then
  module _ (place handle begun : ℕ) where
    abbrev told : List Exchange
    told = told_since (take place events) handle begun

    given_then : (ask : DiskAsk) (answer : DiskAnswer) → WasTold told (parts.Disk ask) (told_by.Disk answer)
        → Sometime begun place (λ moment. IsOfDisk (trees moment) ask answer)
    given_then ask answer was =
        let given = told_then first events is place handle begun ask answer was in
        let before = given.before in
        record {
          moment = given.moment;
          from = given.from;
          to = omega (arith, before);
          was = record { disk = disk_after first (take given.moment events); shown = refl; is = given.answered };
        }

    row_listed : (row : ListingRow) → IsRowSeen (λ ask answer. WasTold told (parts.Disk ask) (told_by.Disk answer)) row → WasListed trees begun place row
    row_listed row seen = row_was_listed (λ ask answer. WasTold told (parts.Disk ask) (told_by.Disk answer)) trees begun place given_then row seen

  -- ---- the laws

  module _ (place : ℕ) (e : Event) (handle : ℕ) (running : Running) (turn : IsTurnAt events place e handle running) (listing : Listing)
      (publishes : AsksCore e (events_of.Publish listing)) where
    abbrev exchanges : List Exchange
    exchanges = told_since (take place events) handle running.begun

    listed : IsListed running.store exchanges listing
    listed = listed_by_turn first events is place e handle running turn listing publishes

    -- The rows of a listing that a call passes to the core, a query or a write, have different paths. Each is that of an index, or of the multi-pack
    -- index, in the pack directory of one of the folders of the handle's store. An index was itself a file at a moment of the call, and its pack's path
    -- showed a file at one; the path of a multi-pack index showed the row's content at the row's time at one.
    pub rows_that_a_turn_publishes_were_shown : AreRowsShown (setting_in running.store) trees running.begun place listing.rows
    rows_that_a_turn_publishes_were_shown = record {
      different = listed.different;
      at = listed.at;
      shown =
          All-weaker (IsRowSeen (λ ask answer. WasTold exchanges (parts.Disk ask) (told_by.Disk answer))) (WasListed trees running.begun place)
          (row_listed place handle running.begun) listing.rows listed.seen;
    }

    -- Where the tree stayed the same since the call began, the rows are exactly the tree's listed files, in the order in which they are tried.
    pub rows_that_a_turn_publishes_are_those_of_the_tree : StoodStill trees running.begun place
        → listing.rows ≡ longest_first (listed_in (trees running.begun) (listed_for running.store.parts).multi (folder_list running.store.parts))
    rows_that_a_turn_publishes_are_those_of_the_tree stood =
        let tree : Tree = trees running.begun in
        let one = one_tree tree first events is place handle running turn.turns.status stood in
        listed.of_tree tree (to_some tree [] exchanges one.left one.are)
