-- Where more is shown, and more is said of loose objects, all that was true, found or a cause before still is.
use Rattle.std.proofs.Common.{ℕ, List, Option, Some, None, inl, inr}
use Rattle.std.proofs.lemmas.List.Elements.{All-weaker}
use Rattle.odb_base.specs.Path.{Path}
use Rattle.odb_disk.specs.declared.ask.DiskAnswer.{DiskAnswer}
use Rattle.odb_disk.specs.declared.ask.DiskAnswer.TheVariants as disk_answers
use Rattle.odb_disk.specs.declared.ask.DiskAsk.{DiskAsk}
use Rattle.odb_disk.specs.declared.ask.DiskAsk.TheVariants as disk_asks
use Rattle.gix_hash.specs.declared.kind.Kind.{Kind}
use Rattle.gix_hash.specs.declared.object_id.ObjectId.{ObjectId}
use Rattle.gix_pack_read.specs.FileBytes.{FileBytes}
use Rattle.gix_pack_read.specs.declared.data.Error as pack
use Rattle.gix_pack_read.specs.declared.data.Error.TheVariants as pack_errors
use Rattle.gix_odb_events.specs.PackFiles.{PackFile}
use Rattle.gix_odb_events.specs.declared.listing.ListingRow.{ListingRow}
use Rattle.gix_odb_events.specs.declared.loaded.LoadedIndex.{LoadedIndex}
use Rattle.gix_odb_events.specs.declared.loaded.LoadedIndex.TheVariants.{Single, Multi}
use Rattle.gix_odb_events.specs.declared.loaded.SnapshotIndex.{SnapshotIndex}
use Rattle.gix_odb_events.specs.declared.event.Event.{Event}
use Rattle.gix_odb_events.specs.declared.event.Event.TheVariants as events
use Rattle.gix_odb_events.specs.declared.view.View.{View}
use Rattle.gix_odb_events.specs.declared.answer.Answer.{Answer}
use Rattle.gix_odb_events.specs.declared.answer.Answer.TheVariants as told
use Rattle.gix_odb_events.specs.declared.answer.Ask.{Ask}
use Rattle.gix_odb_events.specs.declared.answer.Ask.TheVariants as asks
use Rattle.gix_odb_calls.specs.declared.call.Reply.{Reply}
use Rattle.gix_odb_calls.specs.declared.find.Error.{Error}
use Rattle.gix_odb_calls.specs.declared.find.Error.TheVariants as errors
use Rattle.gix_odb_calls.specs.declared.load_index.Error as load
use Rattle.gix_odb_calls.specs.declared.load_index.Error.TheVariants as load_errors
use Rattle.gix_object.specs.declared.want.Want.{Want}
use Rattle.gix_object.specs.declared.want.Want.TheVariants.{Object, Header, Presence}
use Rattle.gix_odb.specs.Caused.{IsCaused, IsLoadCaused, IsPackError, IsUnloaded, IsUnsettled}
use Rattle.gix_odb.specs.LookExchanges.{Exchange}
use Rattle.gix_odb.specs.Found.{IsFound, IsInIndex, IsInPack}
use Rattle.gix_odb.specs.LookUpOrder.{Setting}
use Rattle.gix_odb.specs.Shown.{IsContentShown, IsFileShown, IsHanded, IsIndexShown, IsIndexShownAt, IsPackShown, IsPackShownAt, IsRowHanded, IsShownView, ShowedBytes}
use Rattle.gix_odb.specs.True.{AreTrue, IsTrue}

module _ (Shown Wider : Path → ℕ → List ℕ → Type 0) (wider : (path : Path) (time : ℕ) (bytes : List ℕ) → Shown path time bytes → Wider path time bytes)
    (setting : Setting) (hash : Kind) where
  showed-wider : (path : Path) (bytes : List ℕ) → ShowedBytes Shown path bytes → ShowedBytes Wider path bytes
  showed-wider path bytes (time, shown) = (time, wider path time bytes shown)

  -- ---- what is read and shown

  IsIndexShownAt-wider : (path : Path) (file : FileBytes) → IsIndexShownAt Shown setting hash path file → IsIndexShownAt Wider setting hash path file
  IsIndexShownAt-wider path file is = record { kind = is.kind; parsed = is.parsed; shown = showed-wider path file.bytes is.shown }

  IsPackShownAt-wider : (path : Path) (file : FileBytes) → IsPackShownAt Shown setting hash path file → IsPackShownAt Wider setting hash path file
  IsPackShownAt-wider path file is = record { kind = is.kind; parsed = is.parsed; shown = showed-wider path file.bytes is.shown }

  IsPackShown-wider : (pack : PackFile) → IsPackShown Shown setting hash pack → IsPackShown Wider setting hash pack
  IsPackShown-wider pack read = λ file is. IsPackShownAt-wider pack.path file (read file is)

  IsFileShown-wider : (path : Path) (l : LoadedIndex) → IsFileShown Shown setting hash path l → IsFileShown Wider setting hash path l
  IsFileShown-wider path (Single file) is = record { at = is.at; there = IsIndexShownAt-wider path file is.there }
  IsFileShown-wider path (Multi bytes) is = record { at = is.at; shown = showed-wider path bytes is.shown }

  IsIndexShown-wider : (index : SnapshotIndex) → IsIndexShown Shown setting hash index → IsIndexShown Wider setting hash index
  IsIndexShown-wider index is = record {
    file = IsFileShown-wider index.path index.index is.file;
    are = is.are;
    packs = All-weaker (IsPackShown Shown setting hash) (IsPackShown Wider setting hash) IsPackShown-wider index.packs is.packs;
  }

  pub IsShownView-wider : (view : View) → IsShownView Shown setting hash view → IsShownView Wider setting hash view
  IsShownView-wider view is = record {
    indices = All-weaker (IsIndexShown Shown setting hash) (IsIndexShown Wider setting hash) IsIndexShown-wider view.snapshot.indices is.indices;
    kept = All-weaker (IsIndexShown Shown setting hash) (IsIndexShown Wider setting hash) IsIndexShown-wider view.snapshot.kept is.kept;
    todo = is.todo;
  }

  content-wider : (row : ListingRow) (multi : Option (List ℕ)) → IsContentShown Shown setting hash row multi → IsContentShown Wider setting hash row multi
  content-wider row None shown = tt
  content-wider row (Some bytes) shown = wider row.path row.time bytes shown

  pub IsHanded-wider : (event : Event) → IsHanded Shown setting hash event → IsHanded Wider setting hash event
  IsHanded-wider (events.PutIndex slot path file) handed = (handed.0, IsIndexShownAt-wider path file handed.1)
  IsHanded-wider (events.PutPack pack path file) handed = IsPackShownAt-wider path file handed
  IsHanded-wider (events.Publish listing) handed =
      All-weaker (IsRowHanded Shown setting hash) (IsRowHanded Wider setting hash) (λ row own. (own.0, content-wider row row.multi own.1)) listing.rows handed
  IsHanded-wider event handed = handed

  -- ---- what is found

  module _ (id : ObjectId) where
    IsInIndex-wider : (pack : Path) (offset : ℕ) → IsInIndex Shown setting hash id pack offset → IsInIndex Wider setting hash id pack offset
    IsInIndex-wider pack offset (inl single) =
        inl (record {
          path = single.path;
          at = single.at;
          is = single.is;
          bytes = single.bytes;
          shown = showed-wider single.path single.bytes single.shown;
          gives = single.gives;
        })
    IsInIndex-wider pack offset (inr multi) =
        inr (record {
          path = multi.path;
          at = multi.at;
          name = multi.name;
          is = multi.is;
          bytes = multi.bytes;
          shown = showed-wider multi.path multi.bytes multi.shown;
          gives = multi.gives;
        })

    IsInPack-wider : (Content : (pack : List ℕ) → (offset : ℕ) → Type 0) → IsInPack Shown setting hash id Content
        → IsInPack Wider setting hash id Content
    IsInPack-wider Content is = record {
      path = is.path;
      offset = is.offset;
      index = IsInIndex-wider is.path is.offset is.index;
      pack = is.pack;
      parsed = is.parsed;
      shown = showed-wider is.path is.pack is.shown;
      content = is.content;
    }

    pub IsFound-wider : (want : Want) (reply : Reply) → IsFound Shown setting hash id want reply → IsFound Wider setting hash id want reply
    IsFound-wider Object reply found = IsInPack-wider _ found
    IsFound-wider Header reply found = IsInPack-wider _ found
    IsFound-wider Presence reply found = (found.0, found.1, IsInIndex-wider found.0 found.1 found.2, found.3)

  -- ---- what is true, and what is a cause

  disk-wider : (ask : DiskAsk) (answer : DiskAnswer) → IsTrue Shown setting hash (asks.Disk ask) (told.Disk answer)
      → IsTrue Wider setting hash (asks.Disk ask) (told.Disk answer)
  disk-wider (disk_asks.Read path) (disk_answers.File bytes time) is = (is.0, wider path time bytes is.1)
  disk-wider ask answer is = (is.0, is.1)

  pub IsTrue-wider : (ask : Ask) (answer : Answer) → IsTrue Shown setting hash ask answer → IsTrue Wider setting hash ask answer
  IsTrue-wider (asks.Disk ask) (told.Disk answer) is = disk-wider ask answer is
  IsTrue-wider (asks.Core event) (told.Core answer) is = λ view shows. IsShownView-wider view (is view shows)
  IsTrue-wider (asks.Disk ask) (told.Core answer) is = absurd is
  IsTrue-wider (asks.Core event) (told.Disk answer) is = absurd is
  IsTrue-wider (asks.NewCore slots folders) (told.Core answer) is = λ view shows. IsShownView-wider view (is view shows)
  IsTrue-wider (asks.NewCore slots folders) (told.Disk answer) is = absurd is

  pub AreTrue-wider : (exchanges : List Exchange) → AreTrue Shown setting hash exchanges → AreTrue Wider setting hash exchanges
  AreTrue-wider exchanges are = λ exchange among. IsTrue-wider exchange.ask exchange.answer (are exchange among)

  module _ (id : ObjectId) where
    IsPackError-wider : (want : Want) (error : pack.Error) → IsPackError Shown setting hash id want error
        → IsPackError Wider setting hash id want error
    IsPackError-wider Object error is = IsInPack-wider id _ is
    IsPackError-wider Header pack_errors.BadPack is = IsInPack-wider id _ is
    IsPackError-wider Header pack_errors.BadEntry is = IsInPack-wider id _ is
    IsPackError-wider Header pack_errors.DeltaEntry is = IsInPack-wider id _ is
    IsPackError-wider Header (pack_errors.OutOfMemory size) is = is
    IsPackError-wider Header (pack_errors.EntryType code) is = IsInPack-wider id _ is
    IsPackError-wider Presence error is = is

    -- a cause in exchanges
    module _ (exchanges : List Exchange) where
      IsUnloaded-wider : IsUnloaded Shown setting hash id exchanges → IsUnloaded Wider setting hash id exchanges
      IsUnloaded-wider is = record {
        path = is.path;
        offset = is.offset;
        index = IsInIndex-wider id is.path is.offset is.index;
        answer = is.answer;
        told = is.told;
        none = is.none;
      }

      IsUnsettled-wider : (begun own now : ℕ) → IsUnsettled Shown setting hash id exchanges begun own now
          → IsUnsettled Wider setting hash id exchanges begun own now
      IsUnsettled-wider begun own now is =
          record { first = is.first; published = is.published; exchange = is.exchange; last = is.last; number = is.number; many = is.many }

      IsLoadCaused-wider : (error : load.Error) → IsLoadCaused Shown setting hash id exchanges error
          → IsLoadCaused Wider setting hash id exchanges error
      IsLoadCaused-wider load_errors.Io is = is
      IsLoadCaused-wider (load_errors.InsufficientSlots current needed) is = is
      IsLoadCaused-wider load_errors.GenerationOverflow is = is
      IsLoadCaused-wider (load_errors.TooManyPacksInMultiIndex actual limit path) is = is
      IsLoadCaused-wider (load_errors.Unsettled begun own now) is = IsUnsettled-wider begun own now is
      IsLoadCaused-wider load_errors.NoMemory is = is

      pub IsCaused-wider : (want : Want) (error : Error) → IsCaused Shown setting hash id want exchanges error
          → IsCaused Wider setting hash id want exchanges error
      IsCaused-wider want (errors.Loose error) cause = cause
      IsCaused-wider want (errors.LoadIndex error) cause = IsLoadCaused-wider error cause
      IsCaused-wider want errors.LoadPack cause = IsUnloaded-wider cause
      IsCaused-wider want errors.Pack cause = IsPackError-wider want _ cause
      IsCaused-wider want (errors.EntryType code) cause = IsPackError-wider want _ cause
      IsCaused-wider want errors.DeltaEntry cause = IsPackError-wider want _ cause
      IsCaused-wider want (errors.OutOfMemory size) cause = IsPackError-wider want _ cause
      IsCaused-wider want errors.NoMemory cause = cause
