-- A file that is passed over changes nothing if no file of the slot becomes missing by it.
use Rattle.std.proofs.Common.{◌≡◌, ℕ, Bool, true, false, cond, ◌||◌, ◌&&◌, List, [], ◌∷◌, map, set, Some, None, refl, ap, ◌∙◌}
use Rattle.std.specs.List.{list_any}
use Rattle.std.proofs.lemmas.List.{set-get_or}
use Rattle.odb_base.specs.Path.{Path}
use Rattle.gix_odb_core.proofs.SlotsAfterLemmas.{slot_at-get_or}
use Rattle.gix_odb_core.specs.Files.{index_passed, index_turns_missing, passed_at, slot_passed, slot_turns_missing, turns_missing}
use Rattle.gix_odb_events.specs.OnDiskFile.{is_unloaded, passed, with_state}
use Rattle.gix_odb_events.specs.Slots.{slot_at, Slot}
use Rattle.gix_odb_events.specs.PackFiles.{PackFile, same_path}
use Rattle.gix_odb_events.specs.declared.on_disk_file.FileState.{FileState}
use Rattle.gix_odb_events.specs.declared.on_disk_file.FileState.TheVariants.{Unloaded, Loaded, Garbage, Missing}
use Rattle.gix_odb_events.specs.declared.on_disk_file.OnDiskFile.{OnDiskFile}
use Rattle.gix_odb_events.specs.declared.slot.IndexFile.{IndexFile}
use Rattle.gix_odb_events.specs.declared.slot.IndexFile.TheVariants.{Single, Multi}

neither : (a b : Bool) → (a || b) ≡ false → (a ≡ false) × (b ≡ false)
neither true b h = absurd cc
neither false b h = (refl, h)

module _ {A : Type 0} (path : Path) where
  state-same : (state : FileState A) → is_unloaded state ≡ false → passed state ≡ state
  state-same Unloaded read = absurd cc
  state-same (Loaded file) read = refl
  state-same (Garbage file) read = refl
  state-same Missing read = refl

  file-same : (file : OnDiskFile A) → turns_missing path file ≡ false → passed_at path file ≡ file
  file-same file stays = by (same_path file.path path) stays
    where
      by : (b : Bool) → (b && is_unloaded file.state) ≡ false → ◌≡◌ {A = OnDiskFile A} (cond b (with_state passed file) file) file
      by true stays = ap (λ (state : FileState A). record file { state = state }) (state-same file.state stays)
      by false stays = refl

  files-same : (files : List (OnDiskFile A)) → list_any (turns_missing path) files ≡ false → map (passed_at path) files ≡ files
  files-same [] stay = refl
  files-same (file ∷ files) stay =
      let each = neither (turns_missing path file) (list_any (turns_missing path) files) stay in
      ap (λ (f : OnDiskFile A). f ∷ map (passed_at path) files) (file-same file each.0) ∙ ap (λ (l : List (OnDiskFile A)). file ∷ l) (files-same files each.1)

index-same : (path : Path) (index : IndexFile) → index_turns_missing path index ≡ false → index_passed path index ≡ index
index-same path (Single file) stays = ap Single (file-same path file stays)
index-same path (Multi file) stays = ap Multi (file-same path file stays)

slot-same : (path : Path) (slot : Slot) → slot_turns_missing path slot ≡ false → slot_passed path slot ≡ slot
slot-same path None stays = refl
slot-same path (Some filled) stays =
    let each = neither (index_turns_missing path filled.index) (list_any (turns_missing path) filled.packs) stays in
    ap (λ (index : IndexFile). Some (record filled { index = index; packs = map (passed_at path) filled.packs })) (index-same path filled.index each.0)
    ∙ ap (λ (packs : List PackFile). Some (record filled { packs = packs })) (files-same path filled.packs each.1)

-- the slot at a place, set to itself
put_same : (slots : List Slot) (place : ℕ) → set slots place (slot_at slots place) ≡ slots
put_same slots place = ap (set slots place) (slot_at-get_or slots place) ∙ set-get_or slots place None

pub slots-same : (path : Path) (slots : List Slot) (place : ℕ) → slot_turns_missing path (slot_at slots place) ≡ false → set slots place (slot_passed path (slot_at slots place)) ≡ slots
slots-same path slots place stays = ap (set slots place) (slot-same path (slot_at slots place) stays) ∙ put_same slots place
