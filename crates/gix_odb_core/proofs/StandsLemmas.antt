-- A listing with no unsettled slot and no new row leaves the slots unchanged, and no other listing does.
use Rattle.std.proofs.Common.{◌≡◌, ◌≢◌, ℕ, Bool, true, false, cond, ◌||◌, not, List, [], ◌∷◌, length, map, drop, get_or, Some, None, ◌⊎◌, inl, inr, refl, sym, ap, ◌∙◌}
use Rattle.std.specs.List.{list_any, zip}
use Rattle.gix_pack_read.specs.FileBytes.{FileBytes}
use Rattle.gix_odb_events.specs.OnDiskFile.{is_disposable, put_back, trashed, with_state}
use Rattle.gix_odb_core.specs.Publish.{free_places, has_trashable, is_index_trashable, is_kept, is_trashable, is_unsettled, new_rows, settled, slots_after, taken, with_taken}
use Rattle.gix_odb_events.specs.Slots.{Slot, filled_put_back, filled_trashed, has_disposable, index_put_back, index_trashed, is_index_disposable}
use Rattle.gix_odb_events.specs.PackFiles.{PackFile}
use Rattle.gix_odb_events.specs.declared.listing.ListingRow.{ListingRow}
use Rattle.gix_odb_events.specs.declared.on_disk_file.FileState.{FileState}
use Rattle.gix_odb_events.specs.declared.on_disk_file.FileState.TheVariants.{Unloaded, Loaded, Garbage, Missing}
use Rattle.gix_odb_events.specs.declared.on_disk_file.OnDiskFile.{OnDiskFile}
use Rattle.gix_odb_events.specs.declared.slot.Filled.{Filled}
use Rattle.gix_odb_events.specs.declared.slot.IndexFile.{IndexFile}
use Rattle.gix_odb_events.specs.declared.slot.IndexFile.TheVariants.{Single, Multi}

neither : (a b : Bool) → (a || b) ≡ false → (a ≡ false) × (b ≡ false)
neither true b h = absurd cc
neither false b h = (refl, h)

either : (a b : Bool) → (a || b) ≡ true → (a ≡ true) ⊎ (b ≡ true)
either true b h = inl refl
either false b h = inr h

-- ---- a change of each item of a list, and a test of which items it changes

module _ {A : Type 0} (test : A → Bool) (change : A → A) where
  all-same : ((item : A) → test item ≡ false → change item ≡ item) → (items : List A) → list_any test items ≡ false → map change items ≡ items
  all-same each [] none = refl
  all-same each (item ∷ items) none =
      let both = neither (test item) (list_any test items) none in
      ap (λ (i : A). i ∷ map change items) (each item both.0) ∙ ap (λ (l : List A). item ∷ l) (all-same each items both.1)

  any-changes : ((item : A) → test item ≡ true → change item ≢ item) → (items : List A) → list_any test items ≡ true → map change items ≢ items
  any-changes each [] some same = absurd cc
  any-changes each (item ∷ items) some same =
      elim (either (test item) (list_any test items) some) [
        | inl here ↦ each item here (ap (λ (l : List A). get_or l 0 item) same)
        | inr more ↦ any-changes each items more (ap (λ (l : List A). drop 1 l) same)
      ]

-- ---- which files change when they are put back, and when they are trashed

module _ {A : Type 0} where
  put_back-same : (state : FileState A) → is_disposable state ≡ false → put_back state ≡ state
  put_back-same Unloaded wanted = refl
  put_back-same (Loaded file) wanted = refl
  put_back-same (Garbage file) wanted = absurd cc
  put_back-same Missing wanted = absurd cc

  put_back-changes : (state : FileState A) → is_disposable state ≡ true → put_back state ≢ state
  put_back-changes Unloaded left same = absurd cc
  put_back-changes (Loaded file) left same = absurd cc
  put_back-changes (Garbage file) left same = absurd cc
  put_back-changes Missing left same = absurd cc

  trashed-same : (state : FileState A) → is_trashable state ≡ false → trashed state ≡ state
  trashed-same Unloaded left = refl
  trashed-same (Loaded file) left = absurd cc
  trashed-same (Garbage file) left = refl
  trashed-same Missing left = refl

  trashed-changes : (state : FileState A) → is_trashable state ≡ true → trashed state ≢ state
  trashed-changes Unloaded wanted same = absurd cc
  trashed-changes (Loaded file) wanted same = absurd cc
  trashed-changes (Garbage file) wanted same = absurd cc
  trashed-changes Missing wanted same = absurd cc

  file-put_back-same : (file : OnDiskFile A) → is_disposable file.state ≡ false → with_state put_back file ≡ file
  file-put_back-same file wanted = ap (λ (state : FileState A). record file { state = state }) (put_back-same file.state wanted)

  file-put_back-changes : (file : OnDiskFile A) → is_disposable file.state ≡ true → with_state put_back file ≢ file
  file-put_back-changes file left same = put_back-changes file.state left (ap (λ (f : OnDiskFile A). f.state) same)

  file-trashed-same : (file : OnDiskFile A) → is_trashable file.state ≡ false → with_state trashed file ≡ file
  file-trashed-same file left = ap (λ (state : FileState A). record file { state = state }) (trashed-same file.state left)

  file-trashed-changes : (file : OnDiskFile A) → is_trashable file.state ≡ true → with_state trashed file ≢ file
  file-trashed-changes file wanted same = trashed-changes file.state wanted (ap (λ (f : OnDiskFile A). f.state) same)

-- a single index, and a multi-pack index
abbrev single_of : IndexFile → OnDiskFile FileBytes → OnDiskFile FileBytes
single_of (Single file) other = file
single_of (Multi file) other = other

abbrev multi_of : IndexFile → OnDiskFile (List ℕ) → OnDiskFile (List ℕ)
multi_of (Single file) other = other
multi_of (Multi file) other = file

index-put_back-same : (index : IndexFile) → is_index_disposable index ≡ false → index_put_back index ≡ index
index-put_back-same (Single file) wanted = ap Single (file-put_back-same file wanted)
index-put_back-same (Multi file) wanted = ap Multi (file-put_back-same file wanted)

index-put_back-changes : (index : IndexFile) → is_index_disposable index ≡ true → index_put_back index ≢ index
index-put_back-changes (Single file) left same = file-put_back-changes file left (ap (λ (i : IndexFile). single_of i file) same)
index-put_back-changes (Multi file) left same = file-put_back-changes file left (ap (λ (i : IndexFile). multi_of i file) same)

index-trashed-same : (index : IndexFile) → is_index_trashable index ≡ false → index_trashed index ≡ index
index-trashed-same (Single file) left = ap Single (file-trashed-same file left)
index-trashed-same (Multi file) left = ap Multi (file-trashed-same file left)

index-trashed-changes : (index : IndexFile) → is_index_trashable index ≡ true → index_trashed index ≢ index
index-trashed-changes (Single file) wanted same = file-trashed-changes file wanted (ap (λ (i : IndexFile). single_of i file) same)
index-trashed-changes (Multi file) wanted same = file-trashed-changes file wanted (ap (λ (i : IndexFile). multi_of i file) same)

pub filled-put_back-same : (filled : Filled) → has_disposable filled ≡ false → filled_put_back filled ≡ filled
filled-put_back-same filled wanted =
    let each = neither (is_index_disposable filled.index) (list_any (λ file. is_disposable file.state) filled.packs) wanted in
    ap (λ (index : IndexFile). record filled { index = index; packs = map (with_state put_back) filled.packs }) (index-put_back-same filled.index each.0)
    ∙ ap (λ (packs : List PackFile). record filled { packs = packs }) (all-same (λ file. is_disposable file.state) (with_state put_back) file-put_back-same filled.packs each.1)

filled-put_back-changes : (filled : Filled) → has_disposable filled ≡ true → filled_put_back filled ≢ filled
filled-put_back-changes filled left same =
    elim (either (is_index_disposable filled.index) (list_any (λ file. is_disposable file.state) filled.packs) left) [
      | inl index ↦ index-put_back-changes filled.index index (ap (λ (f : Filled). f.index) same)
      | inr packs ↦ any-changes (λ file. is_disposable file.state) (with_state put_back) file-put_back-changes filled.packs packs (ap (λ (f : Filled). f.packs) same)
    ]

pub filled-trashed-same : (filled : Filled) → has_trashable filled ≡ false → filled_trashed filled ≡ filled
filled-trashed-same filled left =
    let each = neither (is_index_trashable filled.index) (list_any (λ file. is_trashable file.state) filled.packs) left in
    ap (λ (index : IndexFile). record filled { index = index; packs = map (with_state trashed) filled.packs }) (index-trashed-same filled.index each.0)
    ∙ ap (λ (packs : List PackFile). record filled { packs = packs }) (all-same (λ file. is_trashable file.state) (with_state trashed) file-trashed-same filled.packs each.1)

filled-trashed-changes : (filled : Filled) → has_trashable filled ≡ true → filled_trashed filled ≢ filled
filled-trashed-changes filled wanted same =
    elim (either (is_index_trashable filled.index) (list_any (λ file. is_trashable file.state) filled.packs) wanted) [
      | inl index ↦ index-trashed-changes filled.index index (ap (λ (f : Filled). f.index) same)
      | inr packs ↦ any-changes (λ file. is_trashable file.state) (with_state trashed) file-trashed-changes filled.packs packs (ap (λ (f : Filled). f.packs) same)
    ]

-- ---- the slots

abbrev held_by : Slot → Filled → Filled
held_by None other = other
held_by (Some filled) other = filled

abbrev is_held : Slot → Bool
is_held None = false
is_held (Some filled) = true

module _ (stable : Bool) (rows : List ListingRow) where
  slot-same : (slot : Slot) → is_unsettled stable rows slot ≡ false → settled stable rows slot ≡ slot
  slot-same None stays = refl
  slot-same (Some filled) stays = by (is_kept rows (Some filled)) stable stays
    where
      by : (kept still : Bool) → cond kept (has_disposable filled) (not still || has_trashable filled) ≡ false
          → ◌≡◌ {A = Slot} (cond kept (Some (filled_put_back filled)) (cond still (Some (filled_trashed filled)) None)) (Some filled)
      by true still stays = ap (λ (f : Filled). Some f) (filled-put_back-same filled stays)
      by false true stays = ap (λ (f : Filled). Some f) (filled-trashed-same filled stays)
      by false false stays = absurd cc

  slot-changes : (slot : Slot) → is_unsettled stable rows slot ≡ true → settled stable rows slot ≢ slot
  slot-changes None moves = absurd cc
  slot-changes (Some filled) moves = by (is_kept rows (Some filled)) stable moves
    where
      by : (kept still : Bool) → cond kept (has_disposable filled) (not still || has_trashable filled) ≡ true
          → ¬ (◌≡◌ {A = Slot} (cond kept (Some (filled_put_back filled)) (cond still (Some (filled_trashed filled)) None)) (Some filled))
      by true still moves same = filled-put_back-changes filled moves (ap (λ (s : Slot). held_by s filled) same)
      by false true moves same = filled-trashed-changes filled moves (ap (λ (s : Slot). held_by s filled) same)
      by false false moves same = let differ : false ≡ true = ap is_held same in absurd cc

none : {A : Type 0} (items : List A) → length items ≡ 0 → items ≡ []
none [] empty = refl
none (item ∷ items) empty = absurd cc

zip-none : (places : List ℕ) → ◌≡◌ {A = List (ℕ × ListingRow)} (zip places []) []
zip-none [] = refl
zip-none (place ∷ places) = refl

module _ (stable : Bool) (rows : List ListingRow) (slots : List Slot) (list : List ℕ) (fewer : length (new_rows slots rows) ≡ 0) where
  -- where no row is new, none takes a slot
  pub taken-none : taken stable rows slots list ≡ []
  taken-none = ap (zip (free_places stable rows slots list)) (none (new_rows slots rows) fewer) ∙ zip-none (free_places stable rows slots list)

  all-settled : slots_after stable rows slots list ≡ map (settled stable rows) slots
  all-settled = ap (λ (pairs : List (ℕ × ListingRow)). with_taken pairs (map (settled stable rows) slots)) taken-none

  pub slots_after-same : list_any (is_unsettled stable rows) slots ≡ false → slots_after stable rows slots list ≡ slots
  slots_after-same stay = all-settled ∙ all-same (is_unsettled stable rows) (settled stable rows) (slot-same stable rows) slots stay

  pub slots_after-changes : list_any (is_unsettled stable rows) slots ≡ true → slots_after stable rows slots list ≢ slots
  slots_after-changes moves same = any-changes (is_unsettled stable rows) (settled stable rows) (slot-changes stable rows) slots moves (sym all-settled ∙ same)
