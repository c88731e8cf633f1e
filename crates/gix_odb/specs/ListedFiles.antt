-- The files of packs that a tree lists for a store, and when one unchanging tree answers.
use Rattle.std.specs.Prelude.{◌≡◌, ℕ, ◌&&◌, ◌||◌, ◌++◌, Bool, true, false, List, [], ◌∷◌, Option, Some, None, is_some, Result, Ok, Err}
use Rattle.std.specs.List.{filter, filter_map}
use Rattle.odb_base.specs.Path.{Path}
use Rattle.odb_disk.specs.Entries.{opened}
use Rattle.odb_disk.specs.Tree.{Tree}
use Rattle.odb_disk.specs.Tree.Follow.{Refusal, looked, read_of}
use Rattle.odb_disk.specs.declared.disk_error.DiskError.TheVariants as disk_errors
use Rattle.odb_disk.specs.declared.entry.Entry.{Entry}
use Rattle.odb_disk.specs.declared.meta.Meta.{Meta}
use Rattle.odb_disk.specs.Ask.{answer_of, dir_answer}
use Rattle.odb_disk.specs.declared.ask.DiskAnswer.{DiskAnswer}
use Rattle.odb_disk.specs.declared.ask.DiskAnswer.TheVariants as answers
use Rattle.odb_disk.specs.declared.ask.DiskAsk.{DiskAsk}
use Rattle.odb_disk.specs.declared.ask.DiskAsk.TheVariants as asks
use Rattle.gix_odb_events.specs.PackPath.{pack_path}
use Rattle.gix_odb_events.specs.declared.listing.ListingRow.{ListingRow}
use Rattle.gix_odb_search.specs.ListOrder.{multi_row, row_of}
use Rattle.gix_odb_search.specs.MultiPack.{is_usable, unnamed}
use Rattle.gix_odb_search.specs.PackFolder.{index_path_in, is_file, is_index_name, is_multi_index_name, multi_index_path, pack_folder}
use Rattle.gix_odb_search.specs.declared.folders.IndexPath.{IndexPath}
use Rattle.gix_odb_search.specs.declared.folders.IndexPath.TheVariants.{Single, Multi}
use Rattle.gix_odb_search.specs.declared.multi_pack.MultiUse.{MultiUse}
use Rattle.gix_odb_events.specs.declared.answer.Answer.{Answer}
use Rattle.gix_odb_events.specs.declared.answer.Answer.TheVariants as told
use Rattle.gix_odb_events.specs.declared.answer.Ask.{Ask}
use Rattle.gix_odb_events.specs.declared.answer.Ask.TheVariants as part_asks
use Rattle.gix_odb.specs.LookExchanges.{Exchange}
use Rattle.gix_odb.specs.OpenStream.{GivesNext}

-- ---- the listed files of a tree

-- a stat finds a file
abbrev pub finds_file : Result Meta Refusal → Bool
finds_file (Ok meta) = is_file meta.kind
finds_file (Err refusal) = false

abbrev pub row_where : Bool → ListingRow → Option ListingRow
row_where true row = Some row
row_where false row = None

-- an index whose pack is a file or isn't, by a stat of the index itself: one that is a file has a row
abbrev pub row_found : Path → (has_pack : Bool) → Result Meta Refusal → Option ListingRow
row_found path has_pack (Ok meta) = row_where (is_file meta.kind && has_pack) (row_of path meta)
row_found path has_pack (Err refusal) = None

-- the row of a path that is itself a file, and whose pack's path shows one
abbrev pub row_at : Tree → Path → Option ListingRow
row_at tree path = row_found path (finds_file (looked tree (pack_path path) true)) (looked tree path false)

-- the row of a multi-pack index by its content, if a store can use it
abbrev pub multi_found : Option MultiUse → Path → Result (List ℕ × ℕ) Refusal → Option ListingRow
multi_found multi path (Ok (bytes, time)) = row_where (is_usable multi bytes) (multi_row path bytes time)
multi_found multi path (Err refusal) = None

abbrev pub multi_where : Bool → Option ListingRow → Option ListingRow
multi_where true row = row
multi_where false row = None

-- the row of a path that is itself a file with a multi-pack index that the store can use
abbrev pub multi_at : Tree → Option MultiUse → Path → Option ListingRow
multi_at tree multi path = multi_where (finds_file (looked tree path false)) (multi_found multi path (read_of tree path))

abbrev pub row_of_file : Tree → Option MultiUse → (packs : Path) → IndexPath → Option ListingRow
row_of_file tree multi packs (Single path) = row_at tree path
row_of_file tree multi packs Multi = multi_at tree multi (multi_index_path packs)

-- the name of an index, or of the multi-pack index where it is looked for
abbrev pub has_index_name : (multi : Bool) → Entry → Bool
has_index_name multi entry = is_index_name entry.name || (multi && is_multi_index_name entry.name)

-- the rows of the indices among the entries of a folder of packs, in their order
abbrev pub rows_of : Tree → Option MultiUse → (packs : Path) → List Entry → List ListingRow
rows_of tree multi packs entries =
    filter_map (λ entry. row_of_file tree multi packs (index_path_in packs entry)) (filter (has_index_name (is_some multi)) entries)

-- a folder that doesn't open has none
abbrev pub rows_opened : Tree → Option MultiUse → (packs : Path) → Result (List Entry) Refusal → List ListingRow
rows_opened tree multi packs (Ok entries) = rows_of tree multi packs entries
rows_opened tree multi packs (Err refusal) = []

abbrev pub rows_in : Tree → Option MultiUse → (packs : Path) → List ListingRow
rows_in tree multi packs = rows_opened tree multi packs (opened tree packs)

-- the rows of the folders, one folder after another
abbrev pub all_rows : Tree → Option MultiUse → (folders : List Path) → List ListingRow
all_rows tree multi [] = []
all_rows tree multi (folder ∷ folders) = rows_in tree multi (pack_folder folder) ++ all_rows tree multi folders

-- the listed files of the folders: an index that a listed multi-pack index names isn't one
abbrev pub listed_in : Tree → Option MultiUse → (folders : List Path) → List ListingRow
listed_in tree multi folders = unnamed (all_rows tree multi folders)

-- ---- answers of one tree

-- this answer, unless the call failed
abbrev pub IsOrFails : DiskAnswer → DiskAnswer → Type 0
IsOrFails (answers.Refused disk_errors.Failed) own = Unit {0}
IsOrFails answer own = answer ≡ own

-- An opening of a folder is answered by the tree, unless it failed. Its stream is to give what the folder's directory lists.
abbrev pub Opens : Result (List Entry) Refusal → DiskAnswer → (left : List Entry) → Type 0
Opens entries (answers.Dir dir) left = entries ≡ Ok left
Opens entries answer left = IsOrFails answer (dir_answer 0 entries)

-- A tree answers a call, while these entries are still to come from the stream that was opened last, and leaves those. That stream gives
-- them in order, and then its end. Any call may fail.
abbrev pub IsOfTree : Tree → (coming : List Entry) → DiskAsk → DiskAnswer → (left : List Entry) → Type 0
IsOfTree tree coming (asks.OpenDir path) answer left = Opens (opened tree path) answer left
IsOfTree tree coming (asks.NextEntry dir) answer left = GivesNext coming answer left
IsOfTree tree coming ask answer left = IsOrFails answer (answer_of tree ask) × (left ≡ coming)

-- an event of the core leaves the streams alone, as does a new core
abbrev pub IsToldOfTree : Tree → (coming : List Entry) → Ask → Answer → (left : List Entry) → Type 0
IsToldOfTree tree coming (part_asks.Disk ask) (told.Disk answer) left = IsOfTree tree coming ask answer left
IsToldOfTree tree coming (part_asks.Core event) (told.Core answer) left = left ≡ coming
IsToldOfTree tree coming (part_asks.NewCore slots folders) (told.Core answer) left = left ≡ coming
IsToldOfTree tree coming ask answer left = ⊥

-- one tree answers the calls of exchanges
abbrev pub AreOfTree : Tree → (coming : List Entry) → List Exchange → Type 0
AreOfTree tree coming [] = Unit {0}
AreOfTree tree coming (exchange ∷ exchanges) =
    (left : List Entry) × IsToldOfTree tree coming exchange.ask exchange.answer left × AreOfTree tree left exchanges
