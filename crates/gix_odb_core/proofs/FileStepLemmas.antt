-- How an event changes a file of a slot, and a slot that it neither empties nor takes over.
use Rattle.std.proofs.Common.{◌≡◌, ℕ, Bool, true, false, cond, List, [], ◌∷◌, map, Some, None, ◌⊎◌, inl, inr, refl, sym, subst}
use Rattle.std.specs.List.{AllZip, list_any}
use Rattle.std.proofs.lemmas.Bool.{and_parts, not-true}
use Rattle.odb_base.specs.Path.{Path}
use Rattle.gix_pack_read.specs.FileBytes.{FileBytes}
use Rattle.gix_odb_events.specs.OnDiskFile.{file_at, is_loaded, loaded, passed, put_back, stored, trashed, with_state}
use Rattle.gix_odb_core.specs.Origins.{PassesOver, PutsIndex, PutsPack}
use Rattle.gix_odb_events.specs.Slots.{Slot, filled_put_back, filled_trashed, index_put_back, index_trashed}
use Rattle.gix_odb_events.specs.PackFiles.{same_path}
use Rattle.gix_odb_core.specs.Files.{index_passed, index_with, passed_at, slot_passed, slot_with_index, slot_with_pack, stored_at, takes, with_index}
use Rattle.gix_odb_events.specs.declared.event.Event.{Event}
use Rattle.gix_odb_events.specs.declared.on_disk_file.FileState.{FileState}
use Rattle.gix_odb_events.specs.declared.on_disk_file.FileState.TheVariants.{Unloaded, Loaded, Garbage, Missing}
use Rattle.gix_odb_events.specs.declared.on_disk_file.OnDiskFile.{OnDiskFile}
use Rattle.gix_odb_events.specs.declared.slot.Filled.{Filled}
use Rattle.gix_odb_events.specs.declared.slot.IndexFile.{IndexFile}
use Rattle.gix_odb_events.specs.declared.slot.IndexFile.TheVariants.{Single, Multi}
use Rattle.gix_odb_events.proofs.SamePathLaws.{same_path-true}

-- ---- states

-- what was read stays read; what is read since was put; what is missing since was passed over
pub record StateStep {A : Type 0} (puts : A → Type 0) (passes : Type 0) (before after : FileState A) : Type 0 where
  pub kept : (file : A) → loaded before ≡ Some file → loaded after ≡ Some file
  pub brought : (file : A) → loaded after ≡ Some file → (loaded before ≡ Some file) ⊎ puts file
  pub missed : after ≡ Missing → (before ≡ Missing) ⊎ passes

module _ {A : Type 0} (puts : A → Type 0) (passes : Type 0) where
  pub state-same : (state : FileState A) → StateStep puts passes state state
  state-same state = record { kept = λ file is. is; brought = λ file is. inl is; missed = λ is. inl is }

  pub state-put_back : (state : FileState A) → StateStep puts passes state (put_back state)
  state-put_back Unloaded = state-same Unloaded
  state-put_back (Loaded old) = state-same (Loaded old)
  state-put_back (Garbage old) = record { kept = λ file is. is; brought = λ file is. inl is; missed = λ is. absurd cc }
  state-put_back Missing = record { kept = λ file is. absurd cc; brought = λ file is. absurd cc; missed = λ is. absurd cc }

  pub state-trashed : (state : FileState A) → StateStep puts passes state (trashed state)
  state-trashed Unloaded = state-same Unloaded
  state-trashed (Loaded old) = record { kept = λ file is. is; brought = λ file is. inl is; missed = λ is. absurd cc }
  state-trashed (Garbage old) = state-same (Garbage old)
  state-trashed Missing = state-same Missing

  pub state-passed : passes → (state : FileState A) → StateStep puts passes state (passed state)
  state-passed over Unloaded = record { kept = λ file is. absurd cc; brought = λ file is. absurd cc; missed = λ is. inr over }
  state-passed over (Loaded old) = state-same (Loaded old)
  state-passed over (Garbage old) = state-same (Garbage old)
  state-passed over Missing = state-same Missing

  -- a file is put where none was read
  pub state-put : (new : A) → puts new → (state : FileState A) → is_loaded state ≡ false → StateStep puts passes state (Loaded new)
  state-put new carries Unloaded unread = record { kept = λ file is. absurd cc; brought = λ file is. inr (let same : new ≡ file = cc in subst puts same carries); missed = λ is. absurd cc }
  state-put new carries (Loaded old) unread = absurd cc
  state-put new carries (Garbage old) unread = absurd cc
  state-put new carries Missing unread = record { kept = λ file is. absurd cc; brought = λ file is. inr (let same : new ≡ file = cc in subst puts same carries); missed = λ is. absurd cc }

  pub state-stored : (new : A) → puts new → (state : FileState A) → StateStep puts passes state (stored new state)
  state-stored new carries Unloaded = state-put new carries Unloaded refl
  state-stored new carries (Loaded old) = state-same (Loaded old)
  state-stored new carries (Garbage old) = state-same (Garbage old)
  state-stored new carries Missing = state-put new carries Missing refl

-- ---- files

pub record FileStep {A : Type 0} (puts : Path → A → Type 0) (passes : Path → Type 0) (before after : OnDiskFile A) : Type 0 where
  pub path : after.path ≡ before.path
  pub state : StateStep (puts after.path) (passes after.path) before.state after.state

module _ {A : Type 0} (puts : Path → A → Type 0) (passes : Path → Type 0) where
  pub file-same : (file : OnDiskFile A) → FileStep puts passes file file
  file-same file = record { path = refl; state = state-same (puts file.path) (passes file.path) file.state }

  files-same : (files : List (OnDiskFile A)) → AllZip (FileStep puts passes) files files
  files-same [] = tt
  files-same (file ∷ files) = (file-same file, files-same files)

  files-each : (change : OnDiskFile A → OnDiskFile A) → ((file : OnDiskFile A) → FileStep puts passes file (change file)) → (files : List (OnDiskFile A))
      → AllZip (FileStep puts passes) files (map change files)
  files-each change step [] = tt
  files-each change step (file ∷ files) = (step file, files-each change step files)

  file-put_back : (file : OnDiskFile A) → FileStep puts passes file (with_state put_back file)
  file-put_back file = record { path = refl; state = state-put_back (puts file.path) (passes file.path) file.state }

  file-trashed : (file : OnDiskFile A) → FileStep puts passes file (with_state trashed file)
  file-trashed file = record { path = refl; state = state-trashed (puts file.path) (passes file.path) file.state }

  file-passed : (path : Path) → passes path → (file : OnDiskFile A) → FileStep puts passes file (passed_at path file)
  file-passed path over file = by (same_path file.path path) refl
    where
      by : (b : Bool) → same_path file.path path ≡ b → FileStep puts passes file (cond b (with_state passed file) file)
      by true same =
          let here : path ≡ file.path = sym (same_path-true file.path path same) in
          record { path = refl; state = state-passed (puts file.path) (passes file.path) (subst passes here over) file.state }
      by false same = file-same file

  file-stored : (path : Path) (new : A) → puts path new → (file : OnDiskFile A) → FileStep puts passes file (stored_at path new file)
  file-stored path new carries file = by (same_path file.path path) refl
    where
      by : (b : Bool) → same_path file.path path ≡ b → FileStep puts passes file (cond b (with_state (stored new) file) file)
      by true same =
          let here : path ≡ file.path = sym (same_path-true file.path path same) in
          record { path = refl; state = state-stored (puts file.path) (passes file.path) new (subst (λ p. puts p new) here carries) file.state }
      by false same = file-same file

-- ---- slots

abbrev pub IndexStep : Event → ℕ → IndexFile → IndexFile → Type 0
IndexStep happens place (Single before) (Single after) = FileStep (PutsIndex happens place) (PassesOver happens place) before after
IndexStep happens place (Multi before) (Multi after) = FileStep (λ _ _. ⊥) (PassesOver happens place) before after
IndexStep happens place before after = ⊥

pub record FilledStep (happens : Event) (place : ℕ) (before after : Filled) : Type 0 where
  pub index : IndexStep happens place before.index after.index
  pub time : after.time ≡ before.time
  pub packs : AllZip (FileStep (PutsPack happens place) (PassesOver happens place)) before.packs after.packs

abbrev pub SlotStep : Event → ℕ → Slot → Slot → Type 0
SlotStep happens place None None = Unit {0}
SlotStep happens place (Some before) (Some after) = FilledStep happens place before after
SlotStep happens place before after = ⊥

module _ (happens : Event) (place : ℕ) where
  index-same : (index : IndexFile) → IndexStep happens place index index
  index-same (Single file) = file-same (PutsIndex happens place) (PassesOver happens place) file
  index-same (Multi file) = file-same (λ _ _. ⊥) (PassesOver happens place) file

  pub slot-same : (slot : Slot) → SlotStep happens place slot slot
  slot-same None = tt
  slot-same (Some filled) = record { index = index-same filled.index; time = refl; packs = files-same (PutsPack happens place) (PassesOver happens place) filled.packs }

  pub filled-put_back : (filled : Filled) → FilledStep happens place filled (filled_put_back filled)
  filled-put_back filled =
      record {
        index = by filled.index;
        time = refl;
        packs = files-each (PutsPack happens place) (PassesOver happens place) (with_state put_back) (file-put_back (PutsPack happens place) (PassesOver happens place)) filled.packs;
      }
    where
      by : (index : IndexFile) → IndexStep happens place index (index_put_back index)
      by (Single file) = file-put_back (PutsIndex happens place) (PassesOver happens place) file
      by (Multi file) = file-put_back (λ _ _. ⊥) (PassesOver happens place) file

  pub filled-trashed : (filled : Filled) → FilledStep happens place filled (filled_trashed filled)
  filled-trashed filled =
      record {
        index = by filled.index;
        time = refl;
        packs = files-each (PutsPack happens place) (PassesOver happens place) (with_state trashed) (file-trashed (PutsPack happens place) (PassesOver happens place)) filled.packs;
      }
    where
      by : (index : IndexFile) → IndexStep happens place index (index_trashed index)
      by (Single file) = file-trashed (PutsIndex happens place) (PassesOver happens place) file
      by (Multi file) = file-trashed (λ _ _. ⊥) (PassesOver happens place) file

  pub slot-passed : (path : Path) → PassesOver happens place path → (slot : Slot) → SlotStep happens place slot (slot_passed path slot)
  slot-passed path over None = tt
  slot-passed path over (Some filled) =
      record {
        index = by filled.index;
        time = refl;
        packs = files-each (PutsPack happens place) (PassesOver happens place) (passed_at path) (file-passed (PutsPack happens place) (PassesOver happens place) path over) filled.packs;
      }
    where
      by : (index : IndexFile) → IndexStep happens place index (index_passed path index)
      by (Single file) = file-passed (PutsIndex happens place) (PassesOver happens place) path over file
      by (Multi file) = file-passed (λ _ _. ⊥) (PassesOver happens place) path over file

  pub slot-with_pack : (path : Path) (new : FileBytes) → PutsPack happens place path new → (slot : Slot) (now : Filled) → slot_with_pack path new slot ≡ Some now
      → SlotStep happens place slot (Some now)
  slot-with_pack path new carries None now is = absurd cc
  slot-with_pack path new carries (Some filled) now is = by (list_any (takes path) filled.packs) is
    where
      step : FilledStep happens place filled (record filled { packs = map (stored_at path new) filled.packs })
      step =
          record {
            index = index-same filled.index;
            time = refl;
            packs = files-each (PutsPack happens place) (PassesOver happens place) (stored_at path new) (file-stored (PutsPack happens place) (PassesOver happens place) path new carries) filled.packs;
          }

      by : (b : Bool) → cond b (Some (record filled { packs = map (stored_at path new) filled.packs })) None ≡ Some now → FilledStep happens place filled now
      by true is = let same : ◌≡◌ {A = Filled} (record filled { packs = map (stored_at path new) filled.packs }) now = cc in subst (FilledStep happens place filled) same step
      by false is = absurd cc

  pub slot-with_index : (path : Path) (new : FileBytes) → PutsIndex happens place path new → (slot : Slot) (now : Filled) → slot_with_index path new slot ≡ Some now
      → SlotStep happens place slot (Some now)
  slot-with_index path new carries None now is = absurd cc
  slot-with_index path new carries (Some filled) now is = by filled.index at is
    where
      at : (index : IndexFile) → IndexStep happens place filled.index index → FilledStep happens place filled (record filled { index = index })
      at index step = record { index = step; time = refl; packs = files-same (PutsPack happens place) (PassesOver happens place) filled.packs }

      put : (file : OnDiskFile FileBytes) → takes path file ≡ true → IndexStep happens place (Single file) (Single (file_at file.path (Loaded new)))
      put file takes_it =
          let parts = and_parts _ _ takes_it in
          let here : path ≡ file.path = sym (same_path-true file.path path parts.0) in
          record {
            path = refl;
            state = state-put (PutsIndex happens place file.path) (PassesOver happens place file.path) new (subst (λ p. PutsIndex happens place p new) here carries) file.state (not-true _ parts.1);
          }

      by : (index : IndexFile) → ((next : IndexFile) → IndexStep happens place index next → FilledStep happens place filled (record filled { index = next }))
          → with_index filled (index_with path new index) ≡ Some now → FilledStep happens place filled now
      by (Multi file) then is = absurd cc
      by (Single file) then is = single (takes path file) refl is
        where
          single : (b : Bool) → takes path file ≡ b → with_index filled (cond b (Some (Single (file_at file.path (Loaded new)))) None) ≡ Some now → FilledStep happens place filled now
          single true takes_it is =
              let same : ◌≡◌ {A = Filled} (record filled { index = Single (file_at file.path (Loaded new)) }) now = cc in
              subst (FilledStep happens place filled) same (then (Single (file_at file.path (Loaded new))) (put file takes_it))
          single false takes_it is = absurd cc
