-- Slots: what each holds, and which row of a listing it has.
use Rattle.std.specs.Prelude.{◌≡◌, ℕ, ◌≤◌, Bool, true, false, ◌&&◌, ◌||◌, ◌==◌, List, length, map, slice_get, Option, Some, None, unwrap_or}
use Rattle.std.specs.List.{AllZip, IsDistinct, filter_map, list_any}
use lib.Pointwise.{pointwise}
use Rattle.odb_base.specs.Path.{Path}
use Rattle.gix_odb_events.specs.PackFiles.{same_path, new_packs}
use Rattle.gix_odb_events.specs.OnDiskFile.{file_at, is_disposable, is_loaded, loaded, put_back, trashed, with_state}
use Rattle.gix_odb_events.specs.declared.listed.Listed.{Listed}
use Rattle.gix_odb_events.specs.declared.listing.ListingRow.{ListingRow}
use Rattle.gix_odb_events.specs.declared.on_disk_file.FileState.TheVariants.{Unloaded, Loaded}
use Rattle.gix_odb_events.specs.declared.on_disk_file.OnDiskFile.{OnDiskFile}
use Rattle.gix_odb_events.specs.declared.slot.Filled.{Filled}
use Rattle.gix_odb_events.specs.declared.slot.IndexFile.{IndexFile}
use Rattle.gix_odb_events.specs.declared.slot.IndexFile.TheVariants.{Single, Multi}

-- a slot: nothing, or an index with its packs
abbrev pub Slot : Type 0
Slot = Option Filled

-- the slot at a place; empty beyond the slots
abbrev pub slot_at : List Slot → ℕ → Slot
slot_at slots place = unwrap_or (slice_get slots place) None

-- ---- which row a slot holds

abbrev pub index_path : IndexFile → Path
index_path (Single file) = file.path
index_path (Multi file) = file.path

-- whether an index is a row's: it has its path and is of its kind, single or multi, and a multi-index has its time
abbrev pub is_index_of : ListingRow → Option (List ℕ) → IndexFile → ℕ → Bool
is_index_of row None (Single file) time = same_path file.path row.path
is_index_of row (Some multi) (Multi file) time = same_path file.path row.path && time == row.time
is_index_of row None (Multi file) time = false
is_index_of row (Some multi) (Single file) time = false

abbrev pub holds : ListingRow → Slot → Bool
holds row None = false
holds row (Some filled) = is_index_of row row.multi filled.index filled.time

-- ---- the contents of a slot that a new row takes

-- a single index is to be read, a multi-index was read by the listing
abbrev pub new_index : Path → Option (List ℕ) → IndexFile
new_index path None = Single (file_at path Unloaded)
new_index path (Some multi) = Multi (file_at path (Loaded multi))

abbrev pub new_filled : ListingRow → Filled
new_filled row = record { index = new_index row.path row.multi; time = row.time; packs = new_packs row.path row.multi }

-- ---- a slot after a listing, if no new row takes it

abbrev pub index_put_back : IndexFile → IndexFile
index_put_back (Single file) = Single (with_state put_back file)
index_put_back (Multi file) = Multi (with_state put_back file)

abbrev pub index_trashed : IndexFile → IndexFile
index_trashed (Single file) = Single (with_state trashed file)
index_trashed (Multi file) = Multi (with_state trashed file)

abbrev pub filled_put_back : Filled → Filled
filled_put_back filled = record { index = index_put_back filled.index; time = filled.time; packs = map (with_state put_back) filled.packs }

abbrev pub filled_trashed : Filled → Filled
filled_trashed filled = record { index = index_trashed filled.index; time = filled.time; packs = map (with_state trashed) filled.packs }

-- ---- slots that differ

-- whether two indices are the same: the same path and kind, and of multi-indices the same time
abbrev pub same_index : IndexFile → ℕ → IndexFile → ℕ → Bool
same_index (Single one) time (Single other) later = same_path one.path other.path
same_index (Multi one) time (Multi other) later = same_path one.path other.path && time == later
same_index one time other later = false

-- no two slots hold the same single index, or the same multi-index of the same time
abbrev pub IsApart : List Slot → Type 0
IsApart slots = IsDistinct (λ one other. same_index one.index one.time other.index other.time) (filter_map (λ slot. slot) slots)

-- ---- what is kept of a slot, and what no listing needs of it

-- a file of the same path, of which the same bytes were read. It may have become garbage, or be garbage no longer
pub record KeepsFile {A : Type 0} (before after : OnDiskFile A) : Type 0 where
  pub path : after.path ≡ before.path
  pub bytes : loaded after.state ≡ loaded before.state

abbrev pub KeepsIndex : IndexFile → IndexFile → Type 0
KeepsIndex (Single before) (Single after) = KeepsFile before after
KeepsIndex (Multi before) (Multi after) = KeepsFile before after
KeepsIndex before after = ⊥

-- the same index of the same time with the same packs, and what was read of them
pub record KeepsFiles (before after : Filled) : Type 0 where
  pub index : KeepsIndex before.index after.index
  pub time : after.time ≡ before.time
  pub packs : AllZip KeepsFile before.packs after.packs

abbrev pub is_index_disposable : IndexFile → Bool
is_index_disposable (Single file) = is_disposable file.state
is_index_disposable (Multi file) = is_disposable file.state

-- whether one of the files is garbage or missing
abbrev pub has_disposable : Filled → Bool
has_disposable filled = is_index_disposable filled.index || list_any (λ pack. is_disposable pack.state) filled.packs

-- ---- reports of a slot

abbrev pub is_index_loaded : IndexFile → Bool
is_index_loaded (Single file) = is_loaded file.state
is_index_loaded (Multi file) = is_loaded file.state

abbrev pub is_multi : IndexFile → Bool
is_multi (Single file) = false
is_multi (Multi file) = true

-- the row of a report for a listed slot
abbrev pub listed_of : Filled → Listed
listed_of filled = record { path = index_path filled.index; multi = is_multi filled.index; loaded = is_index_loaded filled.index; disposable = has_disposable filled }

-- the most packs of a slot: as many as fit 32 bits, since a multi-pack index has this number in its header
abbrev pub IsFewPacks : Filled → Type 0
IsFewPacks filled = length filled.packs ≤ 4294967296

abbrev pub HasFewPacks : Slot → Type 0
HasFewPacks None = Unit {0}
HasFewPacks (Some filled) = IsFewPacks filled
