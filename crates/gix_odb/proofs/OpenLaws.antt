-- Laws of openings: how many slots one gets, why it is refused, which streams it reads, and how many turns it takes.
pub mod Known
pub mod Turns
use Rattle.std.proofs.Common.{◌≡◌, ◌⊎◌, inl, inr, ℕ, suc, ◌+◌, ◌-◌, ◌*◌, ◌≤◌, true, List, [], ◌∷◌, length, All, Option, Some, None, Ok, refl, sym, ap, ◌∙◌, subst, arith}
use Rattle.std.specs.List.{IsDistinct}
use Rattle.std.proofs.lemmas.Option.{same_Some}
use Rattle.odb_base.specs.Path.{Path}
use Rattle.odb_disk.specs.Ask.{change_of_ask}
use Rattle.odb_disk.specs.declared.ask.DiskAsk.{DiskAsk}
use Rattle.odb_disk.specs.declared.ask.DiskAsk.TheVariants as disk_asks
use Rattle.odb_disk.specs.Tree.{Tree}
use Rattle.gix_odb_events.specs.PackId.{most_slots}
use Rattle.gix_odb_search.specs.ListOrder as lists
use Rattle.gix_odb_events.specs.declared.answer.Answer.{Answer}
use Rattle.gix_odb_events.specs.declared.answer.Answer.TheVariants as told
use Rattle.gix_odb_events.specs.declared.answer.Ask.{Ask}
use Rattle.gix_odb_events.specs.declared.answer.Ask.TheVariants as asks
use Rattle.gix_odb_events.specs.declared.event.Event.{Event}
use Rattle.gix_odb_calls.specs.declared.call.CallError.TheVariants as call_errors
use Rattle.gix_odb_calls.specs.declared.call.Reply.{Reply}
use Rattle.gix_odb_calls.specs.declared.call.Reply.TheVariants as replies
use Rattle.gix_odb_calls.specs.declared.init.Error.{Error}
use Rattle.gix_odb_calls.specs.declared.init.Slots.{Slots}
use Rattle.gix_odb.specs.LookExchanges.{AreAnswered, Exchange}
use Rattle.gix_odb.specs.Laps.{AreWithin, turns_of_lap}
use Rattle.gix_odb.specs.LookUpOrder.{Setting}
use Rattle.gix_odb.specs.Shown.{folders_of}
use Rattle.gix_odb.proofs.HandedLaws.{IsOwnStream, left_open}
use Rattle.gix_odb.proofs.ListerLaws.Reads.{AsksOwn, ChangesNothing, lister_own, lister_reads}
use Rattle.gix_odb.proofs.HandedLaws.Reading.{path_is_looked_at}
use Rattle.gix_odb.proofs.ListerLaws.Streams.{HasNone, IsOpen}
use Rattle.gix_odb.proofs.ListerLaws.Folders.{IsFolderOfPacks, lister_opens_there}
use Rattle.gix_odb.specs.Asked.{AreSuited}
use Rattle.gix_odb.proofs.RefreshLaws.Known.{told_of}
use Rattle.gix_odb.specs.OpenOrder.{ask_of}
use Rattle.gix_odb.specs.OpenExchanges.{AreAsked, IsCaused, IsNumber, asks_of, behind}
use Rattle.gix_odb.specs.declared.open_state.OpenStage.{OpenStage}
use Rattle.gix_odb.specs.declared.open_state.OpenStage.TheVariants as opens
use Rattle.gix_odb.proofs.OpenLaws.Known.{IsExplained, Knows, WasRegistered, opening_knows}
use Rattle.gix_odb.proofs.OpenLaws.Turns.{turns_taken}

-- an opening asks for no event of a core
pub openings_ask_no_event : (setting : Setting) (state : OpenStage) (event : Event) → ¬ (asks_of setting state ≡ Some (asks.Core event))
openings_ask_no_event setting opens.Looking event is = cc is
openings_ask_no_event setting (opens.Listing lister percent minimum) event is = cc is
openings_ask_no_event setting (opens.Registering number) event is = cc is
openings_ask_no_event setting (opens.Done reply) event is = cc is

module _ (setting : Setting) (slots : Slots) (exchanges : List Exchange) (asked : AreAsked setting slots opens.Looking exchanges)
    (suited : AreSuited exchanges) where
  abbrev state : OpenStage
  state = behind setting slots opens.Looking exchanges

  knows : Knows setting slots exchanges state
  knows = opening_knows setting slots exchanges asked suited

  -- ---- how it ends

  -- the number of slots of the core is the one that was given, or the one for as many indices as the listing found
  pub openings_register_their_number : (number : ℕ) → state ≡ opens.Registering number → IsNumber setting slots exchanges number
  openings_register_their_number number is = (subst (Knows setting slots exchanges) is knows).1

  -- and no store may have more
  pub openings_register_few_slots : (number : ℕ) → state ≡ opens.Registering number → number ≤ most_slots
  openings_register_few_slots number is = (subst (Knows setting slots exchanges) is knows).2

  -- each error has its cause
  pub refused_openings_have_causes : (error : Error) → state ≡ opens.Done (replies.Refused (call_errors.Open error)) → IsCaused setting slots exchanges error
  refused_openings_have_causes error is = (subst (Knows setting slots exchanges) is knows).1

  -- one that opened its store had a core made with its number of slots, at which its handle was registered
  pub opened_stores_have_their_number : (number : ℕ) → state ≡ opens.Done (replies.Opened number)
      → WasRegistered setting exchanges number × IsNumber setting slots exchanges number × (number ≤ most_slots)
  opened_stores_have_their_number number is = (subst (Knows setting slots exchanges) is knows).1

  -- an opening that is done without the registration of its handle was refused
  pub openings_that_register_none_are_refused : ((number : ℕ) → ¬ (WasRegistered setting exchanges number))
      → (reply : Reply) → state ≡ opens.Done reply → (error : Error) × (reply ≡ replies.Refused (call_errors.Open error))
  openings_that_register_none_are_refused none reply is = by reply (subst (Knows setting slots exchanges) is knows).1
    where
      by : (own : Reply) → IsExplained setting slots exchanges own → (error : Error) × (own ≡ replies.Refused (call_errors.Open error))
      by (replies.Refused (call_errors.Open error)) here = (error, refl)
      by (replies.Refused (call_errors.Find error)) here = absurd here
      by (replies.Refused (call_errors.Write error)) here = absurd here
      by (replies.Opened number) here = absurd (none number here.0)
      by (replies.Found kind bytes) here = absurd here
      by (replies.Header header) here = absurd here
      by (replies.Tested there) here = absurd here
      by replies.NotFound here = absurd here
      by (replies.Wrote id) here = absurd here

  -- ---- what is asked of the disk

  -- a call of the disk changes nothing in any tree
  pub openings_change_no_file : (ask : DiskAsk) → asks_of setting state ≡ Some (asks.Disk ask) → (tree : Tree) → change_of_ask tree ask ≡ None
  openings_change_no_file ask is = by state is
    where
      by : (now : OpenStage) → asks_of setting now ≡ Some (asks.Disk ask) → ChangesNothing (asks.Disk ask)
      by opens.Looking is =
          subst ChangesNothing (same_Some (asks.Disk (disk_asks.Look setting.parts.objects true)) (asks.Disk ask) is) (path_is_looked_at setting.parts.objects true)
      by (opens.Listing lister percent minimum) is =
          subst ChangesNothing (same_Some (asks.Disk (lists.ask_of lister)) (asks.Disk ask) is) (lister_reads lister.head.folder lister.stage)
      by (opens.Registering number) is = absurd (cc is)
      by (opens.Done reply) is = absurd (cc is)

  asks_own : (now : OpenStage) → Knows setting slots exchanges now → (ask : DiskAsk) → asks_of setting now ≡ Some (asks.Disk ask)
      → AsksOwn (told_of exchanges) (asks.Disk ask)
  asks_own opens.Looking known ask is =
      subst (AsksOwn (told_of exchanges)) (same_Some (asks.Disk (disk_asks.Look setting.parts.objects true)) (asks.Disk ask) is) tt
  asks_own (opens.Listing lister percent minimum) known ask is =
      subst (AsksOwn (told_of exchanges)) (same_Some (asks.Disk (lists.ask_of lister)) (asks.Disk ask) is)
      (lister_own (told_of exchanges) lister.head.folder lister.stage known.stream)
  asks_own (opens.Registering number) known ask is = absurd (cc is)
  asks_own (opens.Done reply) known ask is = absurd (cc is)

  is_own_stream : (dir : ℕ) → (folder : Path) × IsOpen (told_of exchanges) folder dir → IsOwnStream exchanges dir
  is_own_stream dir (folder, here) =
      record { folder = folder; last = here.last; left = here.left; stream = here.stream; told = here.told; of = here.of; number = here.number }

  -- it reads and closes only the stream that it opened last
  pub streams_of_openings_are_their_own : (dir : ℕ)
      → (asks_of setting state ≡ Some (asks.Disk (disk_asks.NextEntry dir))) ⊎ (asks_of setting state ≡ Some (asks.Disk (disk_asks.CloseDir dir)))
      → IsOwnStream exchanges dir
  streams_of_openings_are_their_own dir (inl is) = is_own_stream dir (asks_own state knows (disk_asks.NextEntry dir) is)
  streams_of_openings_are_their_own dir (inr is) = is_own_stream dir (asks_own state knows (disk_asks.CloseDir dir) is)

  -- it has none open where it opens one
  pub openings_open_one_stream_at_a_time : (path : Path) → asks_of setting state ≡ Some (asks.Disk (disk_asks.OpenDir path)) → left_open exchanges ≡ None
  openings_open_one_stream_at_a_time path is = asks_own state knows (disk_asks.OpenDir path) is

  -- a directory that it opens is the folder of packs of one of the folders
  pub openings_open_folders_of_packs : (path : Path) → asks_of setting state ≡ Some (asks.Disk (disk_asks.OpenDir path)) → IsFolderOfPacks setting path
  openings_open_folders_of_packs path is = by state knows is
    where
      by : (now : OpenStage) → Knows setting slots exchanges now → asks_of setting now ≡ Some (asks.Disk (disk_asks.OpenDir path)) → IsFolderOfPacks setting path
      by opens.Looking known is = absurd (cc is)
      by (opens.Listing lister percent minimum) known is =
          let same : lists.ask_of lister ≡ disk_asks.OpenDir path = cc is in lister_opens_there setting path lister.head known.at lister.stage same
      by (opens.Registering number) known is = absurd (cc is)
      by (opens.Done reply) known is = absurd (cc is)

  -- and leaves none open when it calls the disk no more
  pub openings_leave_no_stream_open : ((ask : DiskAsk) → ¬ (asks_of setting state ≡ Some (asks.Disk ask))) → left_open exchanges ≡ None
  openings_leave_no_stream_open none = by state knows none
    where
      by : (now : OpenStage) → Knows setting slots exchanges now → ((ask : DiskAsk) → ¬ (asks_of setting now ≡ Some (asks.Disk ask)))
          → left_open exchanges ≡ None
      by opens.Looking known none = absurd (none (disk_asks.Look setting.parts.objects true) refl)
      by (opens.Listing lister percent minimum) known none = absurd (none (lists.ask_of lister) refl)
      by (opens.Registering number) known none = known.0
      by (opens.Done reply) known none = known.0

  -- ---- how many turns it takes

  -- with the registration of its handle, fewer than a lap of a store without slots has, where no stream gives more than `entries` entries
  pub an_opening_takes_at_most_a_lap : (entries : ℕ) → AreWithin entries None exchanges → AreAnswered exchanges
      → length exchanges + 1 ≤ turns_of_lap 0 (length (folders_of setting)) entries
  an_opening_takes_at_most_a_lap entries within answered =
      let taken = turns_taken setting slots entries None (turns_of_lap 0 (length (folders_of setting)) entries - 1) opens.Looking exchanges
      (wide (length setting.parts.folders) entries) asked within answered
      in
      omega (arith, taken)
    where
      wide : (folders entries : ℕ) → (3 * entries + 3) + (folders - 0) * (3 * entries + 3) + 2 ≤ turns_of_lap 0 (suc folders) entries - 1
      wide folders entries =
          let whole : folders - 0 ≡ folders = omega arith in
          rw whole (omega arith)
