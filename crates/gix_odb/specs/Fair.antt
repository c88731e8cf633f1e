-- An object that stays unchanged in a pack, and what a look-up is answered while it does.
use Rattle.std.specs.Prelude.{◌≡◌, ℕ, true, List, [], ◌∷◌, ◌++◌, map, All, Contains, Option, Some, None, is_some}
use Rattle.odb_base.specs.Path.{Name, Path}
use Rattle.odb_disk.specs.declared.ask.DiskAnswer.{DiskAnswer}
use Rattle.odb_disk.specs.declared.ask.DiskAnswer.TheVariants as disk_answers
use Rattle.odb_disk.specs.declared.ask.DiskAsk.{DiskAsk}
use Rattle.odb_disk.specs.declared.ask.DiskAsk.TheVariants as disk_asks
use Rattle.odb_disk.specs.declared.entry.Entry.{Entry}
use Rattle.odb_disk.specs.declared.meta.Kind.TheVariants as kinds
use Rattle.gix_hash.specs.declared.kind.Kind.{Kind}
use Rattle.gix_hash.specs.declared.object_id.ObjectId.{ObjectId}
use Rattle.gix_pack_read.specs.FileBytes.{FileBytes}
use Rattle.gix_pack_read.specs.MultiIndex.{told as index_in}
use Rattle.gix_odb_events.specs.PackPath.{folder_of, pack_in, pack_path}
use Rattle.gix_odb_events.specs.PackFiles.{PackFile}
use Rattle.gix_odb_events.specs.declared.listing.ListingRow.{ListingRow}
use Rattle.gix_odb_events.specs.declared.loaded.LoadedIndex.TheVariants.{Single, Multi}
use Rattle.gix_odb_events.specs.declared.loaded.SnapshotIndex.{SnapshotIndex}
use Rattle.gix_odb_events.specs.Answers.{Refreshes}
use Rattle.gix_odb_events.specs.View.{HasRow}
use Rattle.gix_odb_events.specs.Answers as core
use Rattle.gix_odb_events.specs.declared.event.Event.{Event}
use Rattle.gix_odb_events.specs.declared.event.Event.TheVariants as events
use Rattle.gix_odb_events.specs.declared.view.View.{View}
use Rattle.gix_odb_search.specs.MultiPack.{is_usable}
use Rattle.gix_odb_search.specs.PackFolder.{is_index_name, multi_index_name, multi_index_path, pack_folder}
use Rattle.gix_odb_search.specs.declared.multi_pack.MultiUse.{MultiUse}
use Rattle.gix_odb_events.specs.declared.answer.Answer.{Answer}
use Rattle.gix_odb_events.specs.declared.answer.Answer.TheVariants as told
use Rattle.gix_odb_events.specs.declared.answer.Ask.{Ask}
use Rattle.gix_odb_events.specs.declared.answer.Ask.TheVariants as asks
use Rattle.gix_odb.specs.LookExchanges.{Exchange, IsAnswerTo}
use Rattle.gix_odb.specs.Found.{Gives, GivesIn}
use Rattle.gix_odb.specs.LookUpOrder.{view_of}
use Rattle.gix_odb.specs.Stream.{Stream, stream_in}

-- what gives the object's offset: the pack's own index, or the multi-pack index of the folder
pub data Carrier : Type 0 where
  ItsIndex : Carrier
  TheMulti : Carrier

-- where an object lies: in the folder of packs of a folder, in the pack of an index of a name, at an offset that the carrier gives it
pub record PackedPlace : Type 0 where
  pub folder : Path
  pub carrier : Carrier
  pub name : Name
  pub offset : ℕ

-- the pack's own index has the name of one; and a store uses multi-pack indices if one of them is the carrier
abbrev pub IsCarriedBy : Option MultiUse → Name → Carrier → Type 0
IsCarriedBy multi name ItsIndex = is_index_name name ≡ true
IsCarriedBy multi name TheMulti = is_some multi ≡ true

abbrev pub IsCarried : Option MultiUse → PackedPlace → Type 0
IsCarried multi place = IsCarriedBy multi place.name place.carrier

abbrev pub index_at : PackedPlace → Path
index_at place = pack_folder place.folder ++ place.name ∷ []

abbrev pub multi_at : PackedPlace → Path
multi_at place = multi_index_path (pack_folder place.folder)

abbrev pub pack_at : PackedPlace → Path
pack_at place = pack_path (index_at place)

-- the name of the carrier in the folder of packs
abbrev pub name_by : Carrier → Name → Name
name_by ItsIndex name = name
name_by TheMulti name = multi_index_name

abbrev pub carrier_name : PackedPlace → Name
carrier_name place = name_by place.carrier place.name

-- a path is that of the pack's own index, and this is the carrier
abbrev pub IsIndexBy : Carrier → (index path : Path) → Type 0
IsIndexBy ItsIndex index path = path ≡ index
IsIndexBy TheMulti index path = ⊥

abbrev pub IsItsIndex : PackedPlace → Path → Type 0
IsItsIndex place path = IsIndexBy place.carrier (index_at place) path

-- ---- answers of the disk

abbrev pub IsFile : DiskAnswer → Type 0
IsFile (disk_answers.File bytes time) = Unit {0}
IsFile answer = ⊥

abbrev pub IsFileMeta : DiskAnswer → Type 0
IsFileMeta (disk_answers.Meta meta) = meta.kind ≡ kinds.File
IsFileMeta answer = ⊥

abbrev pub IsDir : DiskAnswer → Type 0
IsDir (disk_answers.Dir dir) = Unit {0}
IsDir answer = ⊥

-- the stream of the place's folder gives the carrier as a file, before it ends
abbrev pub IsStreamFair : PackedPlace → Option Stream → DiskAnswer → Type 0
IsStreamFair place None answer = Unit {0}
IsStreamFair place (Some stream) (disk_answers.Entry entry) = stream.folder ≡ pack_folder place.folder → entry.name ≡ carrier_name place → entry.kind ≡ kinds.File
IsStreamFair place (Some stream) disk_answers.End =
    stream.folder ≡ pack_folder place.folder → (entry : Entry) × Contains stream.entries entry × (entry.name ≡ carrier_name place)
IsStreamFair place (Some stream) answer = Unit {0}

-- ---- answers of the core

-- a view shows a multi-pack index with the content of a row, and its packs
pub record ShowsContent (view : View) (row : ListingRow) (bytes : List ℕ) : Type 0 where
  pub index : SnapshotIndex
  pub among : Contains view.snapshot.indices index
  pub multi : index.index ≡ Multi bytes
  pub packs : map (λ (pack : PackFile). pack.path) index.packs ≡ map (pack_in (folder_of row.path)) (index_in bytes).names

-- a view has a row: an index is shown or still to be loaded, and a multi-pack index is shown
abbrev pub HasRowOf : View → ListingRow → Option (List ℕ) → Type 0
HasRowOf view row None = (slot : ℕ) × HasRow view slot row
HasRowOf view row (Some bytes) = ShowsContent view row bytes

-- the view of a published listing has its rows
abbrev pub HasRows : Event → core.Answer → Type 0
HasRows (events.Publish listing) answer =
    (view : View) → Refreshes answer view → All (λ (row : ListingRow). HasRowOf view row row.multi) listing.rows
HasRows event answer = Unit {0}

module _ (multi : Option MultiUse) (hash : Kind) (id : ObjectId) (place : PackedPlace) where
  -- the bytes of an index give the id the offset of the place
  abbrev pub IsIndexSound : List ℕ → Type 0
  IsIndexSound bytes = Gives hash bytes id place.offset

  abbrev pub IsSoundFile : DiskAnswer → Type 0
  IsSoundFile (disk_answers.File bytes time) = IsIndexSound bytes
  IsSoundFile answer = ⊥

  -- a multi-pack index that the store can use gives the id the offset of the place, in its pack
  abbrev pub IsMultiSound : List ℕ → Type 0
  IsMultiSound bytes = GivesIn multi bytes id place.name place.offset

  -- What is read of the folder's multi-pack index: where it is the carrier, it is sound; else it agrees with the index, if the store can use it and it
  -- names the index.
  abbrev pub IsMultiFair : Carrier → DiskAnswer → Type 0
  IsMultiFair ItsIndex (disk_answers.File bytes time) = is_usable multi bytes ≡ true → Contains (index_in bytes).names place.name → IsMultiSound bytes
  IsMultiFair ItsIndex answer = Unit {0}
  IsMultiFair TheMulti (disk_answers.File bytes time) = IsMultiSound bytes
  IsMultiFair TheMulti answer = ⊥

  -- Each call of the disk that finds the carrier, the pack, or their folder, gives it. A call that failed is none of these. Of the pack
  -- it is enough that it is a file: what it holds decides only whether the object is found or refused.
  abbrev pub IsDiskFair : List Exchange → DiskAsk → DiskAnswer → Type 0
  IsDiskFair past (disk_asks.Read path) answer =
      (IsItsIndex place path → IsSoundFile answer) × (path ≡ multi_at place → IsMultiFair place.carrier answer) × (path ≡ pack_at place → IsFile answer)
  IsDiskFair past (disk_asks.Look path follow) answer =
      (IsItsIndex place path → IsFileMeta answer) × (path ≡ pack_at place → follow ≡ true → IsFileMeta answer)
  IsDiskFair past (disk_asks.OpenDir path) answer = path ≡ pack_folder place.folder → IsDir answer
  IsDiskFair past (disk_asks.NextEntry dir) answer = IsStreamFair place (stream_in past) answer
  IsDiskFair past ask answer = Unit {0}

  -- what is shown of the place's index is sound, and it is of the one pack of the same name
  pub record IsIndexFair (index : SnapshotIndex) : Type 0 where
    pub file : FileBytes
    pub single : index.index ≡ Single file
    pub kind : file.kind ≡ hash
    pub sound : IsIndexSound file.bytes
    pub one : map (λ (pack : PackFile). pack.path) index.packs ≡ pack_at place ∷ []

  abbrev pub IsFairIfThere : SnapshotIndex → Type 0
  IsFairIfThere index = IsItsIndex place index.path → IsIndexFair index

  pub record IsViewFair (view : View) : Type 0 where
    pub indices : All IsFairIfThere view.snapshot.indices
    pub kept : All IsFairIfThere view.snapshot.kept

  abbrev pub IsCoreFair : Event → core.Answer → Type 0
  IsCoreFair event answer = ((view : View) → view_of (told.Core answer) ≡ Some view → IsViewFair view) × HasRows event answer

  -- ---- any answer

  -- an exchange is fair, as no answer of another kind than its ask is
  abbrev pub IsFair : List Exchange → Ask → Answer → Type 0
  IsFair past (asks.Disk ask) (told.Disk answer) = IsDiskFair past ask answer
  IsFair past (asks.Core event) (told.Core answer) = IsCoreFair event answer
  IsFair past ask answer = IsAnswerTo ask answer

  -- each exchange after others is fair
  abbrev pub AreFair : (past coming : List Exchange) → Type 0
  AreFair past [] = Unit {0}
  AreFair past (exchange ∷ exchanges) = IsFair past exchange.ask exchange.answer × AreFair (past ++ exchange ∷ []) exchanges
