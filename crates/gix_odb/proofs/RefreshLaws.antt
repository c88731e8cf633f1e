-- Laws of refreshes: what one passes to the core, which streams it reads, why it is refused, and how many turns it takes.
pub mod Known
pub mod Causes
pub mod Differ
pub mod Turns
pub mod Seen
use Rattle.std.proofs.Common.{◌≡◌, ◌⊎◌, inl, inr, ℕ, ◌≤◌, Bool, true, false, List, [], ◌∷◌, length, All, Contains, Some, None, refl, sym, ap, ◌∙◌, subst}
use Rattle.std.specs.Prelude.{if◌then◌else◌}
use Rattle.std.proofs.lemmas.Option.{same_Some}
use Rattle.odb_base.specs.Path.{Path}
use Rattle.odb_disk.specs.Ask.{change_of_ask}
use Rattle.odb_disk.specs.declared.ask.DiskAsk.{DiskAsk}
use Rattle.odb_disk.specs.declared.ask.DiskAsk.TheVariants as disk_asks
use Rattle.odb_disk.specs.Tree.{Tree}
use Rattle.gix_hash.specs.declared.kind.Kind.{Kind as HashKind}
use Rattle.gix_odb_events.specs.declared.listing.Listing.{Listing}
use Rattle.gix_odb_events.specs.declared.event.Event.{Event}
use Rattle.gix_odb_events.specs.declared.event.Event.TheVariants as events
use Rattle.gix_odb_events.specs.declared.view.View.{View}
use Rattle.gix_odb_search.specs.ListOrder as lists
use Rattle.gix_odb_search.specs.ListedStore.{ListedStore}
use Rattle.gix_odb_events.specs.declared.answer.Answer.{Answer}
use Rattle.gix_odb_events.specs.declared.answer.Ask.{Ask}
use Rattle.gix_odb_events.specs.declared.answer.Ask.TheVariants as asks
use Rattle.gix_odb_calls.specs.declared.load_index.Error.{Error}
use Rattle.gix_odb.specs.Exchange.{AreAnswered, Exchange}
use Rattle.gix_odb.specs.Lap.{AreWithin, turns_of_lap}
use Rattle.gix_odb.specs.Store.{Setting, listed_for}
use Rattle.gix_odb.specs.True.{IsReadShown}
use Rattle.gix_odb.specs.Shown.{IsHanded, IsIndexRow, folders_of}
use Rattle.gix_odb.proofs.ListerLaws.Folders.{IsFolderOfPacks, lister_opens_there}
use Rattle.gix_odb.proofs.ListerLaws.Reads.{AsksOwn, ChangesNothing, lister_own, lister_reads}
use Rattle.gix_odb.proofs.ListerLaws.Streams.{IsOpen, IsOwnStream, left_open}
use Rattle.gix_odb.specs.Asked.{AreSuited}
use Rattle.gix_odb.specs.RefreshOrder.{IsReady, ask_of, asked_of, started, step_fed}
use Rattle.gix_odb.specs.Refreshed.{AreAsked, IsCaused, WasUnread, behind}
use Rattle.gix_odb.specs.declared.refresh.Refresh.{Refresh}
use Rattle.gix_odb.specs.declared.refresh.Refresh.TheVariants as stages
use Rattle.gix_odb.specs.declared.refresh.RefreshStep.{RefreshStep}
use Rattle.gix_odb.specs.declared.refresh.RefreshStep.TheVariants as steps
use Rattle.gix_odb.proofs.RefreshLaws.Causes.{StepCaused, refresh_caused}
use Rattle.gix_odb.proofs.ListingLaws.HandedRows.{rows_handed}
use Rattle.gix_odb.proofs.RefreshLaws.Known.{Knows, refresh_knows, told_of}
use Rattle.gix_odb.proofs.RefreshLaws.Seen.{GoesSeeing, refresh_sees}
use Rattle.gix_odb.proofs.RefreshLaws.Turns.{StepHasTurns, lap_is_wide, turns_taken}

-- ---- where nothing is asked

-- a refresh whose handle has seen a list that was read is ready
pub a_read_snapshot_is_ready : (snapshot : View) → snapshot.read ≡ true → started snapshot ≡ steps.Read snapshot
a_read_snapshot_is_ready snapshot is = ap (λ (read : Bool). if read then steps.Read snapshot else steps.More stages.Reading) is

-- and stays ready
pub a_ready_refresh_stays_ready : (setting : Setting) (step : RefreshStep) → IsReady step → (further : List Exchange) → behind setting step further ≡ step
a_ready_refresh_stays_ready setting step ready [] = refl
a_ready_refresh_stays_ready setting (steps.Read view) ready (exchange ∷ further) = a_ready_refresh_stays_ready setting (steps.Read view) ready further
a_ready_refresh_stays_ready setting (steps.Current view own) ready (exchange ∷ further) =
    a_ready_refresh_stays_ready setting (steps.Current view own) ready further
a_ready_refresh_stays_ready setting (steps.Outdated list_no) ready (exchange ∷ further) =
    a_ready_refresh_stays_ready setting (steps.Outdated list_no) ready further
a_ready_refresh_stays_ready setting (steps.More refresh) ready (exchange ∷ further) = absurd ready
a_ready_refresh_stays_ready setting (steps.Refused error) ready (exchange ∷ further) = absurd ready

-- as it does after one answer
pub a_ready_step_stays : (objects : Path) (store : ListedStore) (step : RefreshStep) → IsReady step → (answer : Answer) → step_fed objects store step answer ≡ step
a_ready_step_stays objects store (steps.More refresh) ready answer = absurd ready
a_ready_step_stays objects store (steps.Read view) ready answer = refl
a_ready_step_stays objects store (steps.Current view own) ready answer = refl
a_ready_step_stays objects store (steps.Outdated list_no) ready answer = refl
a_ready_step_stays objects store (steps.Refused error) ready answer = absurd ready

pub a_ready_refresh_asks_nothing : (step : RefreshStep) → IsReady step → asked_of step ≡ None
a_ready_refresh_asks_nothing (steps.More refresh) ready = absurd ready
a_ready_refresh_asks_nothing (steps.Read view) ready = refl
a_ready_refresh_asks_nothing (steps.Current view own) ready = refl
a_ready_refresh_asks_nothing (steps.Outdated list_no) ready = refl
a_ready_refresh_asks_nothing (steps.Refused error) ready = absurd ready

-- a refresh asks nothing exactly where it is ready or refused
pub a_refresh_that_asks_nothing_has_ended : (step : RefreshStep) → asked_of step ≡ None
    → IsReady step ⊎ ((error : Error) × (step ≡ steps.Refused error))
a_refresh_that_asks_nothing_has_ended (steps.More refresh) is = absurd (cc is)
a_refresh_that_asks_nothing_has_ended (steps.Read view) is = inl tt
a_refresh_that_asks_nothing_has_ended (steps.Current view own) is = inl tt
a_refresh_that_asks_nothing_has_ended (steps.Outdated list_no) is = inl tt
a_refresh_that_asks_nothing_has_ended (steps.Refused error) is = inr (error, refl)

-- ---- what is asked

-- what holds of each ask of a refresh holds of what a step asks
by_ask : (P : RefreshStep → Ask → Type 0) → ((refresh : Refresh) → P (steps.More refresh) (ask_of refresh)) → (step : RefreshStep) (ask : Ask)
    → asked_of step ≡ Some ask → P step ask
by_ask P each (steps.More refresh) ask is = subst (P (steps.More refresh)) (same_Some (ask_of refresh) ask is) (each refresh)
by_ask P each (steps.Read view) ask is = absurd (cc is)
by_ask P each (steps.Current view own) ask is = absurd (cc is)
by_ask P each (steps.Outdated list_no) ask is = absurd (cc is)
by_ask P each (steps.Refused error) ask is = absurd (cc is)

-- ---- what is asked of the core

-- the events that look-ups ask
abbrev pub IsOfLooks : Event → Type 0
IsOfLooks events.Look = Unit {0}
IsOfLooks (events.PutIndex slot path file) = Unit {0}
IsOfLooks (events.PutPack pack path file) = Unit {0}
IsOfLooks (events.PassOver slot path why) = Unit {0}
IsOfLooks (events.Publish listing) = Unit {0}
IsOfLooks event = ⊥

abbrev pub AsksOfLooks : Ask → Type 0
AsksOfLooks (asks.Disk ask) = Unit {0}
AsksOfLooks (asks.Core event) = IsOfLooks event
AsksOfLooks (asks.NewCore slots folders) = ⊥

pub refresh_asks_of_looks : (refresh : Refresh) → AsksOfLooks (ask_of refresh)
refresh_asks_of_looks stages.Reading = tt
refresh_asks_of_looks (stages.Listing lister) = tt
refresh_asks_of_looks (stages.Publishing listing) = tt

-- the core's state is read, and a listing is published: events that look-ups ask too
pub refreshes_ask_events_of_looks_alone : (step : RefreshStep) (event : Event) → asked_of step ≡ Some (asks.Core event) → IsOfLooks event
refreshes_ask_events_of_looks_alone step event is = by_ask (λ step ask. AsksOfLooks ask) refresh_asks_of_looks step (asks.Core event) is

-- and no core is made
pub refreshes_have_no_core_made : (step : RefreshStep) (slots folders : ℕ) → ¬ (asked_of step ≡ Some (asks.NewCore slots folders))
refreshes_have_no_core_made step slots folders is = by_ask (λ step ask. AsksOfLooks ask) refresh_asks_of_looks step (asks.NewCore slots folders) is

-- an ask of the core is of one of these
abbrev pub HandsOn : (Event → Type 0) → RefreshStep → Type 0
HandsOn P (steps.More stages.Reading) = P events.Look
HandsOn P (steps.More (stages.Publishing listing)) = P (events.Publish listing)
HandsOn P step = Unit {0}

abbrev HandsOnBy : (Event → Type 0) → RefreshStep → Ask → Type 0
HandsOnBy P step (asks.Core event) = HandsOn P step → P event
HandsOnBy P step ask = Unit {0}

hands_on_by : (P : Event → Type 0) (refresh : Refresh) → HandsOnBy P (steps.More refresh) (ask_of refresh)
hands_on_by P stages.Reading = λ here. here
hands_on_by P (stages.Listing lister) = tt
hands_on_by P (stages.Publishing listing) = λ here. here

pub handed_on : (P : Event → Type 0) (step : RefreshStep) (event : Event) → HandsOn P step → asked_of step ≡ Some (asks.Core event) → P event
handed_on P step event here is = by_ask (HandsOnBy P) (hands_on_by P) step (asks.Core event) is here

module _ (setting : Setting) (snapshot : View) (exchanges : List Exchange) (asked : AreAsked setting (started snapshot) exchanges) where
  abbrev refresh : RefreshStep
  refresh = behind setting (started snapshot) exchanges

  knows : Knows setting exchanges refresh
  knows = refresh_knows setting snapshot exchanges asked

  -- ---- what is passed to the core

  abbrev HandsRows : Event → Type 0
  HandsRows (events.Publish listing) = All (IsIndexRow setting) listing.rows
  HandsRows event = Unit {0}

  hands_rows : (now : RefreshStep) → Knows setting exchanges now → HandsOn HandsRows now
  hands_rows (steps.More stages.Reading) known = tt
  hands_rows (steps.More (stages.Listing lister)) known = tt
  hands_rows (steps.More (stages.Publishing listing)) known = known.1
  hands_rows (steps.Read view) known = tt
  hands_rows (steps.Current view own) known = tt
  hands_rows (steps.Outdated list_no) known = tt
  hands_rows (steps.Refused error) known = tt

  -- the rows of a listing that is passed to the core are of indices in the folders of packs
  pub rows_are_of_the_folders : (listing : Listing) → asked_of refresh ≡ Some (asks.Core (events.Publish listing)) → All (IsIndexRow setting) listing.rows
  rows_are_of_the_folders listing is = handed_on HandsRows refresh (events.Publish listing) (hands_rows refresh knows) is

  -- so what is passed to the core is of the folders, and the multi-pack indices of its rows were shown, where what was read was
  pub what_a_refresh_hands_on_is_of_the_folders : (Shown : Path → ℕ → List ℕ → Type 0) (hash : HashKind)
      → ((exchange : Exchange) → Contains exchanges exchange → IsReadShown Shown exchange.ask exchange.answer)
      → (event : Event) → asked_of refresh ≡ Some (asks.Core event) → IsHanded Shown setting hash event
  what_a_refresh_hands_on_is_of_the_folders Shown hash shown event is =
      handed_on (IsHanded Shown setting hash) refresh event (by refresh knows (refresh_sees Shown setting snapshot exchanges asked shown)) is
    where
      by : (now : RefreshStep) → Knows setting exchanges now → GoesSeeing Shown setting now → HandsOn (IsHanded Shown setting hash) now
      by (steps.More stages.Reading) known seen = tt
      by (steps.More (stages.Listing lister)) known seen = tt
      by (steps.More (stages.Publishing listing)) known seen = rows_handed Shown setting hash listing.rows known.1 seen
      by (steps.Read view) known seen = tt
      by (steps.Current view own) known seen = tt
      by (steps.Outdated list_no) known seen = tt
      by (steps.Refused error) known seen = tt

  -- ---- what is asked of the disk

  refresh_changes_nothing : (now : Refresh) → ChangesNothing (ask_of now)
  refresh_changes_nothing stages.Reading = tt
  refresh_changes_nothing (stages.Listing lister) = lister_reads lister.head.folder lister.stage
  refresh_changes_nothing (stages.Publishing listing) = tt

  -- a call of the disk changes nothing in any tree
  pub refreshes_change_no_file : (ask : DiskAsk) → asked_of refresh ≡ Some (asks.Disk ask) → (tree : Tree) → change_of_ask tree ask ≡ None
  refreshes_change_no_file ask is = by_ask (λ step ask. ChangesNothing ask) refresh_changes_nothing refresh (asks.Disk ask) is

  refresh_asks_own : (now : Refresh) → Knows setting exchanges (steps.More now) → AsksOwn (told_of exchanges) (ask_of now)
  refresh_asks_own stages.Reading known = tt
  refresh_asks_own (stages.Listing lister) known = lister_own (told_of exchanges) lister.head.folder lister.stage known.1
  refresh_asks_own (stages.Publishing listing) known = tt

  asks_own : (ask : Ask) → asked_of refresh ≡ Some ask → AsksOwn (told_of exchanges) ask
  asks_own ask is = by_ask (λ step ask. Knows setting exchanges step → AsksOwn (told_of exchanges) ask) refresh_asks_own refresh ask is knows

  is_own_stream : (dir : ℕ) → (folder : Path) × IsOpen (told_of exchanges) folder dir → IsOwnStream exchanges dir
  is_own_stream dir (folder, here) =
      record { folder = folder; last = here.last; left = here.left; stream = here.stream; told = here.told; of = here.of; number = here.number }

  -- it reads and closes only the stream that it opened last
  pub streams_of_refreshes_are_their_own : (dir : ℕ)
      → (asked_of refresh ≡ Some (asks.Disk (disk_asks.NextEntry dir))) ⊎ (asked_of refresh ≡ Some (asks.Disk (disk_asks.CloseDir dir)))
      → IsOwnStream exchanges dir
  streams_of_refreshes_are_their_own dir (inl is) = is_own_stream dir (asks_own (asks.Disk (disk_asks.NextEntry dir)) is)
  streams_of_refreshes_are_their_own dir (inr is) = is_own_stream dir (asks_own (asks.Disk (disk_asks.CloseDir dir)) is)

  -- it has none open where it opens one
  pub refreshes_open_one_stream_at_a_time : (path : Path) → asked_of refresh ≡ Some (asks.Disk (disk_asks.OpenDir path)) → left_open exchanges ≡ None
  refreshes_open_one_stream_at_a_time path is = asks_own (asks.Disk (disk_asks.OpenDir path)) is

  abbrev OpensThere : Path → Ask → Type 0
  OpensThere path ask = ask ≡ asks.Disk (disk_asks.OpenDir path) → IsFolderOfPacks setting path

  opens_there : (path : Path) (now : Refresh) → StepCaused setting exchanges (steps.More now) → OpensThere path (ask_of now)
  opens_there path stages.Reading sound is = absurd (cc is)
  opens_there path (stages.Listing lister) sound is =
      let same : lists.ask_of lister ≡ disk_asks.OpenDir path = cc is in lister_opens_there setting path lister.head sound.0 lister.stage same
  opens_there path (stages.Publishing listing) sound is = absurd (cc is)

  -- a directory that it opens is the folder of packs of one of the folders
  pub refreshes_open_folders_of_packs : AreSuited exchanges → (path : Path) → asked_of refresh ≡ Some (asks.Disk (disk_asks.OpenDir path))
      → IsFolderOfPacks setting path
  refreshes_open_folders_of_packs suited path is =
      by_ask (λ step ask. StepCaused setting exchanges step → OpensThere path ask) (opens_there path) refresh (asks.Disk (disk_asks.OpenDir path)) is
      (refresh_caused setting snapshot exchanges asked suited) refl

  -- and leaves none open when it has ended
  pub refreshes_leave_no_stream_open : asked_of refresh ≡ None → left_open exchanges ≡ None
  refreshes_leave_no_stream_open is = by refresh knows is
    where
      by : (now : RefreshStep) → Knows setting exchanges now → asked_of now ≡ None → left_open exchanges ≡ None
      by (steps.More now) known is = absurd (cc is)
      by (steps.Read view) known is = known
      by (steps.Current view own) known is = known
      by (steps.Outdated list_no) known is = known
      by (steps.Refused error) known is = known.0

  -- ---- why it is refused

  -- each error has its cause
  pub refused_refreshes_have_causes : AreSuited exchanges → (error : Error) → refresh ≡ steps.Refused error → IsCaused setting exchanges error
  refused_refreshes_have_causes suited error is = subst (StepCaused setting exchanges) is (refresh_caused setting snapshot exchanges asked suited)

  -- a refresh is refused only where the store was unread
  pub only_unread_stores_are_refused : (error : Error) → refresh ≡ steps.Refused error → WasUnread snapshot exchanges
  only_unread_stores_are_refused error is =
      record { handle = unread snapshot.read refl; core = (subst (Knows setting exchanges) is knows).1 }
    where
      unread : (read : Bool) → snapshot.read ≡ read → snapshot.read ≡ false
      unread false same = same
      unread true same =
          let ready : refresh ≡ steps.Read snapshot =
          ap (λ (now : RefreshStep). behind setting now exchanges) (a_read_snapshot_is_ready snapshot same)
          ∙ a_ready_refresh_stays_ready setting (steps.Read snapshot) tt exchanges in
          let wrong : steps.Read snapshot ≡ steps.Refused error = sym ready ∙ is in
          absurd (cc wrong)

  -- ---- how many turns it takes

  -- at most as many as a lap has, where no stream gives more than `entries` entries
  pub a_refresh_takes_at_most_a_lap : (slots entries : ℕ) → AreWithin entries None exchanges → AreAnswered exchanges
      → length exchanges ≤ turns_of_lap slots (length (folders_of setting)) entries
  a_refresh_takes_at_most_a_lap slots entries within answered =
      turns_taken setting.parts.objects (listed_for setting.parts) entries None (turns_of_lap slots (length (folders_of setting)) entries) (started snapshot) exchanges
      (by snapshot.read) asked within answered
    where
      by : (read : Bool)
          → StepHasTurns setting.parts.objects (listed_for setting.parts) entries None (if read then steps.Read snapshot else steps.More stages.Reading)
          (turns_of_lap slots (length (folders_of setting)) entries)
      by true = tt
      by false = lap_is_wide setting.parts.objects (listed_for setting.parts) entries slots
