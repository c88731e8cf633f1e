-- A look-up reads and closes only the stream that it opened last, and has at most one open at a time.
use Rattle.std.proofs.Common.{◌≡◌, ℕ, false, List, [], ◌∷◌, ◌++◌, slice_get, Option, Some, None, is_some, refl, sym, ap, ◌∙◌, subst}
use Rattle.odb_base.specs.Path.{Path}
use Rattle.odb_disk.specs.declared.ask.DiskAnswer.{DiskAnswer}
use Rattle.odb_disk.specs.declared.ask.DiskAnswer.TheVariants as answers
use Rattle.odb_disk.specs.declared.ask.DiskAsk.TheVariants as disk_asks
use Rattle.odb_disk.specs.declared.disk_error.DiskError.TheVariants as disk_errors
use Rattle.odb_disk.specs.declared.entry.Entry.{Entry}
use Rattle.odb_disk.specs.declared.meta.Kind.{Kind}
use Rattle.odb_disk.specs.declared.meta.Kind.TheVariants as kinds
use Rattle.gix_odb_events.specs.declared.listing.ListingRow.{ListingRow}
use Rattle.gix_odb_events.specs.Answers as core
use Rattle.gix_odb_search.specs.ListOrder.{ask_at, at_paths, behind_folder, by_index, by_kind, by_multi, by_pack, by_pack_kind, fed_at, multi_row, opened, read}
use Rattle.gix_odb_search.specs.ListOrder.{with_row}
use Rattle.gix_odb_search.specs.PackFolder.{index_paths, multi_index_path}
use Rattle.gix_odb_events.specs.declared.answer.Answer.{Answer}
use Rattle.gix_odb_events.specs.declared.answer.Answer.TheVariants as told
use Rattle.gix_odb_events.specs.declared.answer.Ask.{Ask}
use Rattle.gix_odb_events.specs.declared.answer.Ask.TheVariants as asks
use Rattle.gix_odb_search.specs.declared.lister.ListHead.{ListHead}
use Rattle.gix_odb_search.specs.declared.lister.ListStage.{ListStage}
use Rattle.gix_odb_search.specs.declared.lister.ListStage.TheVariants as stages
use Rattle.gix_odb_search.specs.declared.lister.ListStep.{ListStep}
use Rattle.gix_odb_search.specs.declared.lister.ListStep.TheVariants as ends
use Rattle.gix_odb_search.specs.declared.lister.Lister.{Lister}
use Rattle.gix_odb.specs.Exchange.{Exchange}
use Rattle.gix_odb.specs.Stream.{Stream, reads, stream_by, stream_from, stream_in}
use Rattle.gix_odb_search.specs.ListedStore.{ListedStore}
use Rattle.gix_odb_search.specs.declared.folders.IndexPath.{IndexPath}
use Rattle.gix_odb_search.specs.declared.folders.IndexPath.TheVariants as files
use Rattle.gix_odb_search.proofs.MultiReadLaws.{multi_leads}

-- ---- which stream exchanges opened

-- a stream that was opened: its folder and its number
pub record Opened : Type 0 where
  pub folder : Path
  pub dir : ℕ

-- after one more exchange
abbrev pub opened_by : Option Opened → Ask → Answer → Option Opened
opened_by before (asks.Disk (disk_asks.OpenDir folder)) (told.Disk (answers.Dir dir)) = Some (record { folder = folder; dir = dir })
opened_by before ask answer = before

abbrev pub opened_from : Option Opened → List Exchange → Option Opened
opened_from before [] = before
opened_from before (exchange ∷ exchanges) = opened_from (opened_by before exchange.ask exchange.answer) exchanges

-- the stream that was opened last
abbrev pub opened_last : List Exchange → Option Opened
opened_last exchanges = opened_from None exchanges

abbrev pub open_by : Option Opened → Ask → Answer → Option Opened
open_by before (asks.Disk (disk_asks.OpenDir folder)) (told.Disk (answers.Dir dir)) = Some (record { folder = folder; dir = dir })
open_by before (asks.Disk (disk_asks.CloseDir dir)) (told.Disk answer) = None
open_by before ask answer = before

abbrev pub open_from : Option Opened → List Exchange → Option Opened
open_from before [] = before
open_from before (exchange ∷ exchanges) = open_from (open_by before exchange.ask exchange.answer) exchanges

-- the stream that was opened last, unless one was closed since
abbrev pub left_open : List Exchange → Option Opened
left_open exchanges = open_from None exchanges

-- after one more exchange at the end
opened_from-push : (before : Option Opened) (past : List Exchange) (exchange : Exchange)
    → opened_from before (past ++ exchange ∷ []) ≡ opened_by (opened_from before past) exchange.ask exchange.answer
opened_from-push before [] exchange = refl
opened_from-push before (first ∷ past) exchange = opened_from-push (opened_by before first.ask first.answer) past exchange

pub opened_last-push : (past : List Exchange) (exchange : Exchange)
    → opened_last (past ++ exchange ∷ []) ≡ opened_by (opened_last past) exchange.ask exchange.answer
opened_last-push past exchange = opened_from-push None past exchange

open_from-push : (before : Option Opened) (past : List Exchange) (exchange : Exchange)
    → open_from before (past ++ exchange ∷ []) ≡ open_by (open_from before past) exchange.ask exchange.answer
open_from-push before [] exchange = refl
open_from-push before (first ∷ past) exchange = open_from-push (open_by before first.ask first.answer) past exchange

pub left_open-push : (past : List Exchange) (exchange : Exchange)
    → left_open (past ++ exchange ∷ []) ≡ open_by (left_open past) exchange.ask exchange.answer
left_open-push past exchange = open_from-push None past exchange

-- after one more exchange
stream_from-push : (before : Option Stream) (past : List Exchange) (exchange : Exchange)
    → stream_from before (past ++ exchange ∷ []) ≡ stream_by (stream_from before past) exchange.ask exchange.answer
stream_from-push before [] exchange = refl
stream_from-push before (first ∷ past) exchange = stream_from-push (stream_by before first.ask first.answer) past exchange

pub stream_in-push : (past : List Exchange) (exchange : Exchange) → stream_in (past ++ exchange ∷ []) ≡ stream_by (stream_in past) exchange.ask exchange.answer
stream_in-push past exchange = stream_from-push None past exchange

-- all that exchanges show of streams
pub record Told : Type 0 where
  pub last : Option Opened
  pub left : Option Opened
  pub stream : Option Stream

abbrev pub told_by : Told → Ask → Answer → Told
told_by before ask answer =
    record { last = opened_by before.last ask answer; left = open_by before.left ask answer; stream = stream_by before.stream ask answer }

-- ---- what is known of them while folders are listed

-- this stream of a folder was opened last, is open, and the exchanges show it
pub record IsOpen (now : Told) (folder : Path) (dir : ℕ) : Type 0 where
  pub last : now.last ≡ Some (record { folder = folder; dir = dir })
  pub left : now.left ≡ Some (record { folder = folder; dir = dir })
  pub stream : Stream
  pub told : now.stream ≡ Some stream
  pub of : stream.folder ≡ folder
  pub number : stream.dir ≡ dir

-- A stream of this number was opened last, in a folder, and is still open; and the exchanges show what the stream of this folder gave.
pub record IsOwnStream (exchanges : List Exchange) (dir : ℕ) : Type 0 where
  pub folder : Path
  pub last : opened_last exchanges ≡ Some (record { folder = folder; dir = dir })
  pub left : left_open exchanges ≡ Some (record { folder = folder; dir = dir })
  pub stream : Stream
  pub told : stream_in exchanges ≡ Some stream
  pub of : stream.folder ≡ folder
  pub number : stream.dir ≡ dir

abbrev pub HasNone : Told → Type 0
HasNone now = now.left ≡ None

abbrev pub StreamAt : Told → Path → ListStage → Type 0
StreamAt now folder (stages.Reading dir entries) = IsOpen now folder dir
StreamAt now folder (stages.Closing dir entries) = IsOpen now folder dir
StreamAt now folder (stages.Breaking dir) = IsOpen now folder dir
StreamAt now folder stage = HasNone now

abbrev pub StreamOf : Told → Lister → Type 0
StreamOf now lister = StreamAt now lister.head.folder lister.stage

abbrev pub StreamBehind : Told → ListStep → Type 0
StreamBehind now (ends.More lister) = StreamOf now lister
StreamBehind now (ends.Listed listing) = HasNone now
StreamBehind now ends.Broken = HasNone now
StreamBehind now (ends.TooManyPacks actual path) = HasNone now

-- ---- a call that opens no stream

abbrev pub OpensNone : Ask → Type 0
OpensNone (asks.Disk (disk_asks.OpenDir path)) = ⊥
OpensNone ask = Unit {0}

pub none_stays_open : (before : Told) (ask : Ask) (answer : Answer) → OpensNone ask → HasNone before → HasNone (told_by before ask answer)
none_stays_open before ask answer opens none = subst (λ (left : Option Opened). open_by left ask answer ≡ None) (sym none) (by ask answer opens)
  where
    by : (ask : Ask) (answer : Answer) → OpensNone ask → open_by None ask answer ≡ None
    by (asks.Disk (disk_asks.OpenDir path)) answer opens = absurd opens
    by (asks.Disk (disk_asks.CloseDir dir)) (told.Disk answer) opens = refl
    by (asks.Disk (disk_asks.CloseDir dir)) (told.Core answer) opens = refl
    by ask answer opens = refl

-- ---- an answer to a listing

module _ (store : ListedStore) (head : ListHead) where
  -- after a stream that is closed, or that wasn't opened
  behind_has_none : (now : Told) → HasNone now → (own : ListHead) (next : Option Path) → StreamBehind now (behind_folder own next)
  behind_has_none now none own None = none
  behind_has_none now none own (Some folder) = none

  paths_have_none : (now : Told) → HasNone now → (own : ListHead) (left : List IndexPath) → StreamBehind now (at_paths store own left)
  paths_have_none now none own [] = behind_has_none now none own (slice_get store.folders own.next)
  paths_have_none now none own (files.Single path ∷ left) = none
  paths_have_none now none own (files.Multi ∷ left) = none

  open_goes : (before : Told) → HasNone before → (answer : DiskAnswer)
      → StreamBehind (told_by before (asks.Disk (disk_asks.OpenDir head.folder)) (told.Disk answer)) (opened store head answer)
  open_goes before none (answers.Dir dir) =
      record { last = refl; left = refl; stream = record { folder = head.folder; dir = dir; entries = [] }; told = refl; of = refl; number = refl }
  open_goes before none (answers.Refused disk_errors.Absent) =
      behind_has_none (told_by before (asks.Disk (disk_asks.OpenDir head.folder)) (told.Disk (answers.Refused disk_errors.Absent))) none head
      (slice_get store.folders head.next)
  open_goes before none answer = none

  -- the stream that exchanges show stays one of its folder while it is read
  reads_of_folder : (stream : Stream) (folder : Path) (dir : ℕ) → stream.folder ≡ folder → stream.dir ≡ dir → (answer : DiskAnswer)
      → (next : Stream) × (reads (Some stream) answer ≡ Some next) × (next.folder ≡ folder) × (next.dir ≡ dir)
  reads_of_folder stream folder dir of number (answers.Entry entry) = (record stream { entries = stream.entries ++ entry ∷ [] }, refl, of, number)
  reads_of_folder stream folder dir of number answer = (stream, refl, of, number)

  module _ (before : Told) (dir : ℕ) (entries : List Entry) (here : IsOpen before head.folder dir) (answer : DiskAnswer) where
    abbrev read_then : Told
    read_then = told_by before (asks.Disk (disk_asks.NextEntry dir)) (told.Disk answer)

    read_open : IsOpen read_then head.folder dir
    read_open =
        let next = reads_of_folder here.stream head.folder dir here.of here.number answer in
        record { last = here.last; left = here.left; stream = next.0; told = ap (λ (s : Option Stream). reads s answer) here.told ∙ next.1; of = next.2; number = next.3 }

  read_goes : (before : Told) (dir : ℕ) (entries : List Entry) → IsOpen before head.folder dir → (answer : DiskAnswer)
      → StreamBehind (told_by before (asks.Disk (disk_asks.NextEntry dir)) (told.Disk answer)) (read head dir entries answer)
  read_goes before dir entries here (answers.Entry entry) = read_open before dir entries here (answers.Entry entry)
  read_goes before dir entries here answers.End = read_open before dir entries here answers.End
  read_goes before dir entries here answer = read_open before dir entries here answer

  index_goes : (now : Told) → HasNone now → (path : Path) (left : List IndexPath) (answer : DiskAnswer)
      → StreamBehind now (by_index store head path left answer)
  index_goes now none path left (answers.Meta meta) = by meta.kind
    where
      by : (kind : Kind) → StreamBehind now (by_kind store head path left meta kind)
      by kinds.File = none
      by kind = paths_have_none now none head left
  index_goes now none path left (answers.Refused disk_errors.Failed) = none
  index_goes now none path left answer = paths_have_none now none head left

  pack_goes : (now : Told) → HasNone now → (row : ListingRow) (left : List IndexPath) (answer : DiskAnswer)
      → StreamBehind now (by_pack store head row left answer)
  pack_goes now none row left (answers.Meta meta) = by meta.kind
    where
      by : (kind : Kind) → StreamBehind now (by_pack_kind store head row left kind)
      by kinds.File = paths_have_none now none (with_row head row) left
      by kind = paths_have_none now none head left
  pack_goes now none row left (answers.Refused disk_errors.Failed) = none
  pack_goes now none row left answer = paths_have_none now none head left

  multi_goes : (now : Told) → HasNone now → (left : List IndexPath) (answer : DiskAnswer) → StreamBehind now (by_multi store head left answer)
  multi_goes now none left answer =
      multi_leads (StreamBehind now) store head left answer
      (λ bytes time is usable. paths_have_none now none (with_row head (multi_row (multi_index_path head.folder) bytes time)) left)
      (λ bytes time is multi many. none) (paths_have_none now none head left) (λ is. none)

  pub listing_streams : (before : Told) (stage : ListStage) → StreamAt before head.folder stage → (answer : DiskAnswer)
      → StreamBehind (told_by before (asks.Disk (ask_at head.folder stage)) (told.Disk answer)) (fed_at store head stage answer)
  listing_streams before stages.Opening here answer = open_goes before here answer
  listing_streams before (stages.Reading dir entries) here answer = read_goes before dir entries here answer
  listing_streams before (stages.Closing dir entries) here answer =
      paths_have_none (told_by before (asks.Disk (disk_asks.CloseDir dir)) (told.Disk answer)) refl head (index_paths (is_some store.multi) head.folder entries)
  listing_streams before (stages.Breaking dir) here answer = refl
  listing_streams before (stages.Index path left) here answer =
      index_goes (told_by before (asks.Disk (disk_asks.Look path false)) (told.Disk answer)) here path left answer
  listing_streams before (stages.Pack row left) here answer =
      pack_goes (told_by before (asks.Disk (ask_at head.folder (stages.Pack row left))) (told.Disk answer)) here row left answer
  listing_streams before (stages.Multi left) here answer =
      multi_goes (told_by before (asks.Disk (disk_asks.Read (multi_index_path head.folder))) (told.Disk answer)) here left answer

-- an answer of the core leaves the stream as it is
pub core_leaves_streams : (before : Told) (folder : Path) (stage : ListStage) (answer : core.Answer) → StreamAt before folder stage
    → StreamAt (told_by before (asks.Disk (ask_at folder stage)) (told.Core answer)) folder stage
core_leaves_streams before folder stages.Opening answer here = here
core_leaves_streams before folder (stages.Reading dir entries) answer here =
    record { last = here.last; left = here.left; stream = here.stream; told = here.told; of = here.of; number = here.number }
core_leaves_streams before folder (stages.Closing dir entries) answer here =
    record { last = here.last; left = here.left; stream = here.stream; told = here.told; of = here.of; number = here.number }
core_leaves_streams before folder (stages.Breaking dir) answer here =
    record { last = here.last; left = here.left; stream = here.stream; told = here.told; of = here.of; number = here.number }
core_leaves_streams before folder (stages.Index path left) answer here = here
core_leaves_streams before folder (stages.Pack row left) answer here = here
core_leaves_streams before folder (stages.Multi left) answer here = here
