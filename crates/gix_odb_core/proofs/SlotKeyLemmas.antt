-- Files that are stored or passed over leave the keys of slots.
use Rattle.std.proofs.Common.{◌≡◌, ℕ, Bool, true, false, cond, List, map, set, Option, Some, None, refl, ap, ◌∙◌}
use Rattle.std.specs.List.{list_any}
use Rattle.std.specs.Option.{IfSome}
use Rattle.std.proofs.Math.Seq.{map-set_same}
use Rattle.odb_base.specs.Path.{Path}
use Rattle.gix_pack_read.specs.FileBytes.{FileBytes}
use Rattle.gix_odb_events.specs.OnDiskFile.{file_at, passed, with_state}
use Rattle.gix_odb_events.specs.PackFiles.{same_path}
use Rattle.gix_odb_events.specs.Slots.{Slot, index_path, slot_at}
use Rattle.gix_odb_events.specs.declared.on_disk_file.FileState.TheVariants.{Loaded}
use Rattle.gix_odb_events.specs.declared.on_disk_file.OnDiskFile.{OnDiskFile}
use Rattle.gix_odb_events.specs.declared.slot.Filled.{Filled}
use Rattle.gix_odb_events.specs.declared.slot.IndexFile.{IndexFile}
use Rattle.gix_odb_events.specs.declared.slot.IndexFile.TheVariants.{Single, Multi}
use Rattle.gix_odb_core.specs.Files.{index_passed, index_with, slot_passed, slot_with_index, slot_with_pack, stored_at, takes, with_index}
use Rattle.gix_odb_core.specs.IndexKeys.{index_time}
use Rattle.gix_odb_core.specs.SlotTable.{Key, keys_of, slot_key}
use Rattle.gix_odb_core.proofs.SlotsAfterLemmas.{slot_at-get_or}

-- what is stored or passed keeps the key of the slot
abbrev pub KeepsKey : Slot → Filled → Type 0
KeepsKey slot filled = slot_key (Some filled) ≡ slot_key slot

pub key-with_index : (path : Path) (bytes : FileBytes) (slot : Slot) → IfSome (slot_with_index path bytes slot) (KeepsKey slot)
key-with_index path bytes None = tt
key-with_index path bytes (Some filled) = by filled.index
  where
    chosen : (file : OnDiskFile FileBytes) (b : Bool)
        → IfSome (with_index filled (cond b (Some (Single (file_at file.path (Loaded bytes)))) None)) (λ stored. slot_key (Some stored) ≡ Some (file.path, None))
    chosen file true = refl
    chosen file false = tt

    by : (index : IndexFile) → IfSome (with_index filled (index_with path bytes index)) (λ stored. slot_key (Some stored) ≡ Some (index_path index, index_time index filled.time))
    by (Single file) = chosen file (takes path file)
    by (Multi file) = tt

pub key-with_pack : (path : Path) (bytes : FileBytes) (slot : Slot) → IfSome (slot_with_pack path bytes slot) (KeepsKey slot)
key-with_pack path bytes None = tt
key-with_pack path bytes (Some filled) = by (list_any (takes path) filled.packs)
  where
    by : (b : Bool) → IfSome (cond b (Some (record filled { packs = map (stored_at path bytes) filled.packs })) None) (KeepsKey (Some filled))
    by true = refl
    by false = tt

pub key-passed : (path : Path) (slot : Slot) → slot_key (slot_passed path slot) ≡ slot_key slot
key-passed path None = refl
key-passed path (Some filled) = by filled.index
  where
    same : {A : Type 0} (file : OnDiskFile A) (b : Bool) → (cond b (with_state passed file) file).path ≡ file.path
    same file true = refl
    same file false = refl

    by : (index : IndexFile) → ◌≡◌ {A = Option Key} (Some (index_path (index_passed path index), index_time (index_passed path index) filled.time)) (Some (index_path index, index_time index filled.time))
    by (Single file) = ap (λ (p : Path). Some (p, None)) (same file (same_path file.path path))
    by (Multi file) = ap (λ (p : Path). Some (p, Some filled.time)) (same file (same_path file.path path))

-- slots of which one is another with the same key have the same keys
pub keys-set : (slots : List Slot) (place : ℕ) (slot : Slot) → slot_key slot ≡ slot_key (slot_at slots place) → keys_of (set slots place slot) ≡ keys_of slots
keys-set slots place slot same = map-set_same slot_key slots place slot None (same ∙ ap slot_key (slot_at-get_or slots place))
