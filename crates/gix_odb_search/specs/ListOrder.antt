-- The order of work in which the folders of packs are listed, for the list that a store is to have after one of a number. Indices next to
-- their packs are found, and multi-pack indices, if the store uses them.
use Rattle.std.specs.Prelude.{ℕ, ◌+◌, ◌++◌, Bool, true, false, List, [], ◌∷◌, length, nat_le, slice_get, Option, Some, None, is_some, if◌then◌else◌}
use Rattle.odb_base.specs.Path.{Path}
use Rattle.odb_disk.specs.declared.ask.DiskAsk.{DiskAsk}
use Rattle.odb_disk.specs.declared.ask.DiskAsk.TheVariants as asks
use Rattle.odb_disk.specs.declared.ask.DiskAnswer.{DiskAnswer}
use Rattle.odb_disk.specs.declared.ask.DiskAnswer.TheVariants as answers
use Rattle.odb_disk.specs.declared.disk_error.DiskError.TheVariants as disk_errors
use Rattle.odb_disk.specs.declared.entry.Entry.{Entry}
use Rattle.odb_disk.specs.declared.meta.Kind.TheVariants as kinds
use Rattle.odb_disk.specs.declared.meta.Kind.{Kind}
use Rattle.odb_disk.specs.declared.meta.Meta.{Meta}
use Rattle.gix_odb_events.specs.PackPath.{pack_path}
use Rattle.gix_odb_events.specs.declared.listing.Listing.{Listing}
use Rattle.gix_odb_events.specs.declared.listing.ListingRow.{ListingRow}
use Rattle.gix_odb_search.specs.LongestFirst.{longest_first}
use Rattle.gix_odb_search.specs.ListedStore.{ListedStore}
use Rattle.gix_odb_search.specs.MultiPack.{is_multi_index, most_packs, packs_named, unnamed}
use Rattle.gix_odb_search.specs.PackFolder.{index_paths, multi_index_path, pack_folder}
use Rattle.gix_odb_search.specs.declared.folders.IndexPath.{IndexPath}
use Rattle.gix_odb_search.specs.declared.folders.IndexPath.TheVariants as paths
use Rattle.gix_odb_search.specs.declared.lister.ListStep.{ListStep}
use Rattle.gix_odb_search.specs.declared.lister.ListStep.TheVariants as ends
use Rattle.gix_odb_search.specs.declared.lister.Lister.{Lister}
use Rattle.gix_odb_search.specs.declared.lister.ListHead.{ListHead}
use Rattle.gix_odb_search.specs.declared.lister.ListStage.{ListStage}
use Rattle.gix_odb_search.specs.declared.lister.ListStage.TheVariants as stages

-- ---- what is asked for

abbrev pub open_of : Path → DiskAsk
open_of folder = asks.OpenDir folder

abbrev pub look_of : Path → (follow : Bool) → DiskAsk
look_of path follow = asks.Look path follow

abbrev pub pack_of : ListingRow → Path
pack_of row = pack_path row.path

abbrev pub read_of : Path → DiskAsk
read_of path = asks.Read path

-- a folder is opened, its stream is read and closed; then each index is statted, links not followed, and its pack, links followed; and the
-- multi-pack index is read
abbrev pub ask_at : Path → ListStage → DiskAsk
ask_at folder stages.Opening = open_of folder
ask_at folder (stages.Reading dir entries) = asks.NextEntry dir
ask_at folder (stages.Closing dir entries) = asks.CloseDir dir
ask_at folder (stages.Breaking dir) = asks.CloseDir dir
ask_at folder (stages.Index path left) = look_of path false
ask_at folder (stages.Pack row left) = look_of (pack_of row) true
ask_at folder (stages.Multi left) = read_of (multi_index_path folder)

abbrev pub ask_of : Lister → DiskAsk
ask_of lister = ask_at lister.head.folder lister.stage

-- ---- what comes next

-- the objects directory comes first, after the list of a number
abbrev pub started : Path → (base : ℕ) → Lister
started objects base = record { head = record { base = base; folder = pack_folder objects; next = 0; rows = [] }; stage = stages.Opening }

abbrev pub more : ListHead → ListStage → ListStep
more head stage = ends.More (record { head = head; stage = stage })

-- What was listed: an index that a multi-pack index names has no row of its own. The rows are in the order in which they are tried.
abbrev pub listing_of : ListHead → Listing
listing_of head = record { base = head.base; rows = longest_first (unnamed head.rows) }

-- after a folder the next one is opened; after the last one all are listed
abbrev pub behind_folder : ListHead → Option Path → ListStep
behind_folder head None = ends.Listed (listing_of head)
behind_folder head (Some folder) = more (record head { folder = pack_folder folder; next = head.next + 1 }) stages.Opening

-- the next index of a folder is statted, and the multi-pack index read, if one is left
abbrev pub at_paths : ListedStore → ListHead → List IndexPath → ListStep
at_paths store head [] = behind_folder head (slice_get store.folders head.next)
at_paths store head (paths.Single path ∷ left) = more head (stages.Index path left)
at_paths store head (paths.Multi ∷ left) = more head (stages.Multi left)

-- a folder that isn't there has no packs
abbrev pub opened : ListedStore → ListHead → DiskAnswer → ListStep
opened store head (answers.Dir dir) = more head (stages.Reading dir [])
opened store head (answers.Refused disk_errors.Absent) = behind_folder head (slice_get store.folders head.next)
opened store head answer = ends.Broken

-- a stream that can't be read on is closed all the same
abbrev pub read : ListHead → ℕ → List Entry → DiskAnswer → ListStep
read head dir entries (answers.Entry entry) = more head (stages.Reading dir (entries ++ entry ∷ []))
read head dir entries answers.End = more head (stages.Closing dir entries)
read head dir entries answer = more head (stages.Breaking dir)

abbrev pub closed : ListedStore → ListHead → List Entry → ListStep
closed store head entries = at_paths store head (index_paths (is_some store.multi) head.folder entries)

-- the row of an index from its stat
abbrev pub row_of : Path → Meta → ListingRow
row_of path meta = record { path = path; time = meta.time; len = meta.len; multi = None }

-- an index is a file itself, else it has no row
abbrev pub by_kind : ListedStore → ListHead → Path → List IndexPath → Meta → Kind → ListStep
by_kind store head path left meta kinds.File = more head (stages.Pack (row_of path meta) left)
by_kind store head path left meta kind = at_paths store head left

abbrev pub by_index : ListedStore → ListHead → Path → List IndexPath → DiskAnswer → ListStep
by_index store head path left (answers.Meta meta) = by_kind store head path left meta meta.kind
by_index store head path left (answers.Refused disk_errors.Failed) = ends.Broken
by_index store head path left answer = at_paths store head left

abbrev pub with_row : ListHead → ListingRow → ListHead
with_row head row = record head { rows = head.rows ++ row ∷ [] }

-- the pack of an index leads to a file, else the index has no row
abbrev pub by_pack_kind : ListedStore → ListHead → ListingRow → List IndexPath → Kind → ListStep
by_pack_kind store head row left kinds.File = at_paths store (with_row head row) left
by_pack_kind store head row left kind = at_paths store head left

abbrev pub by_pack : ListedStore → ListHead → ListingRow → List IndexPath → DiskAnswer → ListStep
by_pack store head row left (answers.Meta meta) = by_pack_kind store head row left meta.kind
by_pack store head row left (answers.Refused disk_errors.Failed) = ends.Broken
by_pack store head row left answer = at_paths store head left

-- ---- a multi-pack index

-- its row, from one read
abbrev pub multi_row : Path → (bytes : List ℕ) → (time : ℕ) → ListingRow
multi_row path bytes time = record { path = path; time = time; len = length bytes; multi = Some bytes }

-- it has its row, unless it names more packs than a store may use
abbrev pub by_packs : ListedStore → ListHead → ListingRow → List IndexPath → (packs : ℕ) → ListStep
by_packs store head row left packs = if nat_le packs most_packs then at_paths store (with_row head row) left else ends.TooManyPacks packs row.path

-- bytes that aren't a multi-pack index of the store have no row
abbrev pub by_bytes : ListedStore → ListHead → List IndexPath → (bytes : List ℕ) → (time : ℕ) → ListStep
by_bytes store head left bytes time =
    if is_multi_index store.multi bytes
    then by_packs store head (multi_row (multi_index_path head.folder) bytes time) left (packs_named bytes)
    else at_paths store head left

-- a path that gives none has no row, unless the call failed
abbrev pub by_multi : ListedStore → ListHead → List IndexPath → DiskAnswer → ListStep
by_multi store head left (answers.File bytes time) = by_bytes store head left bytes time
by_multi store head left (answers.Refused disk_errors.Failed) = ends.Broken
by_multi store head left answer = at_paths store head left

-- ---- an answer

abbrev pub fed_at : ListedStore → ListHead → ListStage → DiskAnswer → ListStep
fed_at store head stages.Opening answer = opened store head answer
fed_at store head (stages.Reading dir entries) answer = read head dir entries answer
fed_at store head (stages.Closing dir entries) answer = closed store head entries
fed_at store head (stages.Breaking dir) answer = ends.Broken
fed_at store head (stages.Index path left) answer = by_index store head path left answer
fed_at store head (stages.Pack row left) answer = by_pack store head row left answer
fed_at store head (stages.Multi left) answer = by_multi store head left answer

abbrev pub fed : ListedStore → Lister → DiskAnswer → ListStep
fed store lister answer = fed_at store lister.head lister.stage answer
