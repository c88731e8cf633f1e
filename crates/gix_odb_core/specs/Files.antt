-- The files of a slot after one was read or passed over.
use Rattle.std.specs.Prelude.{Bool, false, ◌&&◌, ◌||◌, not, map, Option, Some, None, if◌then◌else◌}
use Rattle.std.specs.List.{list_any}
use Rattle.odb_base.specs.Path.{Path}
use Rattle.gix_pack_read.specs.FileBytes.{FileBytes}
use Rattle.gix_odb_events.specs.OnDiskFile.{file_at, is_loaded, is_unloaded, passed, stored, with_state}
use Rattle.gix_odb_events.specs.Slots.{Slot}
use Rattle.gix_odb_events.specs.PackFiles.{same_path}
use Rattle.gix_odb_events.specs.declared.on_disk_file.FileState.TheVariants.{Loaded}
use Rattle.gix_odb_events.specs.declared.on_disk_file.OnDiskFile.{OnDiskFile}
use Rattle.gix_odb_events.specs.declared.slot.Filled.{Filled}
use Rattle.gix_odb_events.specs.declared.slot.IndexFile.{IndexFile}
use Rattle.gix_odb_events.specs.declared.slot.IndexFile.TheVariants.{Single, Multi}

-- ---- files that were read

-- whether a file is stored at a place: its path is the one that was read, and none is loaded there
abbrev pub takes : {A : Type 0} → Path → OnDiskFile A → Bool
takes path file = same_path file.path path && not (is_loaded file.state)

abbrev pub index_with : Path → FileBytes → IndexFile → Option IndexFile
index_with path bytes (Single file) = if takes path file then Some (Single (file_at file.path (Loaded bytes))) else None
index_with path bytes (Multi file) = None

abbrev pub with_index : Filled → Option IndexFile → Option Filled
with_index filled None = None
with_index filled (Some index) = Some (record filled { index = index })

-- what a slot holds after an index is stored in it, if it is
abbrev pub slot_with_index : Path → FileBytes → Slot → Option Filled
slot_with_index path bytes None = None
slot_with_index path bytes (Some filled) = with_index filled (index_with path bytes filled.index)

-- a pack is stored in each file of the slot that has its path and isn't loaded
abbrev pub stored_at : {A : Type 0} → Path → A → OnDiskFile A → OnDiskFile A
stored_at path bytes file = if same_path file.path path then with_state (stored bytes) file else file

abbrev pub slot_with_pack : Path → FileBytes → Slot → Option Filled
slot_with_pack path bytes None = None
slot_with_pack path bytes (Some filled) = if list_any (takes path) filled.packs then Some (record filled { packs = map (stored_at path bytes) filled.packs }) else None

-- ---- files that were passed over

-- whether a file becomes missing when this path is passed over: it has this path, and isn't read yet
abbrev pub turns_missing : {A : Type 0} → Path → OnDiskFile A → Bool
turns_missing path file = same_path file.path path && is_unloaded file.state

abbrev pub index_turns_missing : Path → IndexFile → Bool
index_turns_missing path (Single file) = turns_missing path file
index_turns_missing path (Multi file) = turns_missing path file

-- whether one of the files of a slot becomes missing
abbrev pub slot_turns_missing : Path → Slot → Bool
slot_turns_missing path None = false
slot_turns_missing path (Some filled) = index_turns_missing path filled.index || list_any (turns_missing path) filled.packs

-- an unloaded file at this path is missing
abbrev pub passed_at : {A : Type 0} → Path → OnDiskFile A → OnDiskFile A
passed_at path file = if same_path file.path path then with_state passed file else file

abbrev pub index_passed : Path → IndexFile → IndexFile
index_passed path (Single file) = Single (passed_at path file)
index_passed path (Multi file) = Multi (passed_at path file)

abbrev pub slot_passed : Path → Slot → Slot
slot_passed path None = None
slot_passed path (Some filled) = Some (record filled { index = index_passed path filled.index; packs = map (passed_at path) filled.packs })
