-- Slots of multi-pack indices: what they had read stays in memory, and each is of rows of one path and one time.
use Rattle.std.proofs.Common.{◌≡◌, ℕ, ◌==◌, true, List, Contains, Option, Some, None, option_map, refl, sym, ◌∙◌, subst}
use Rattle.std.specs.List.{filter_map}
use Rattle.std.proofs.lemmas.Bool.{and_parts, eqb-true}
use Rattle.std.proofs.lemmas.List.Elements.{All-contains, Contains-get_or}
use Rattle.gix_odb_events.specs.OnDiskFile.{is_loaded, loaded}
use Rattle.gix_odb_events.specs.PackFiles.{same_path}
use Rattle.gix_odb_events.specs.Shown.{loaded_index}
use Rattle.gix_odb_events.specs.Slots.{Slot, is_index_of, slot_at}
use Rattle.gix_odb_events.specs.declared.listing.ListingRow.{ListingRow}
use Rattle.gix_odb_events.specs.declared.loaded.LoadedIndex.TheVariants as shown
use Rattle.gix_odb_events.specs.declared.on_disk_file.FileState.{FileState}
use Rattle.gix_odb_events.specs.declared.on_disk_file.FileState.TheVariants.{Unloaded, Loaded, Garbage, Missing}
use Rattle.gix_odb_events.specs.declared.on_disk_file.OnDiskFile.{OnDiskFile}
use Rattle.gix_odb_events.specs.declared.slot.Filled.{Filled}
use Rattle.gix_odb_events.specs.declared.slot.IndexFile.{IndexFile}
use Rattle.gix_odb_events.specs.declared.slot.IndexFile.TheVariants.{Single, Multi}
use Rattle.gix_odb_events.proofs.SamePathLaws.{same_path-true}
use Rattle.gix_odb_events.proofs.ShownLemmas.{gives}
use Rattle.gix_odb_core.specs.Origins.{IsMultiOf, IsOfRow}
use Rattle.gix_odb_core.specs.Steps.{IsShape, is_read}
use Rattle.gix_odb_core.specs.declared.shape.Shape.{Shape}
use Rattle.gix_odb_core.proofs.SlotsAfterLemmas.{filled_within, slot_at-get_or}

-- ---- it was read

-- the index of each filled slot was read, if it is a multi-pack index
pub multi_slot_is_read : (shape : Shape) → IsShape shape → (place : ℕ) (filled : Filled) → slot_at shape.slots place ≡ Some filled → is_read filled.index ≡ true
multi_slot_is_read shape is place filled at =
    let within : Contains shape.slots (Some filled) =
    subst (Contains shape.slots) (sym (slot_at-get_or shape.slots place) ∙ at) (Contains-get_or shape.slots place None (filled_within shape.slots place filled at)) in
    All-contains (λ (f : Filled). is_read f.index ≡ true) (filter_map (λ (slot : Slot). slot) shape.slots) filled is.multis
    (gives (λ (slot : Slot). slot) shape.slots (Some filled) filled within refl)

read_content : (state : FileState (List ℕ)) → is_loaded state ≡ true → (bytes : List ℕ) × (loaded state ≡ Some bytes)
read_content Unloaded read = absurd (cc read)
read_content (Loaded bytes) read = (bytes, refl)
read_content (Garbage bytes) read = (bytes, refl)
read_content Missing read = absurd (cc read)

never_unread : (state : FileState (List ℕ)) → is_loaded state ≡ true → ¬ (option_map shown.Multi (loaded state) ≡ None)
never_unread Unloaded read unread = cc read
never_unread (Loaded bytes) read unread = cc unread
never_unread (Garbage bytes) read unread = cc unread
never_unread Missing read unread = cc read

-- so a slot is of the row of a single index, if its index is still to be read
pub unread_slot_is_single : (row : ListingRow) (multi : Option (List ℕ)) (index : IndexFile) (time : ℕ) → is_index_of row multi index time ≡ true
    → is_read index ≡ true → loaded_index index ≡ None → multi ≡ None
unread_slot_is_single row None index time held read unread = refl
unread_slot_is_single row (Some bytes) (Single file) time held read unread = absurd (cc held)
unread_slot_is_single row (Some bytes) (Multi file) time held read unread = absurd (never_unread file.state read unread)

-- ---- its rows

-- a slot of the path and the time of a row, with a content that was read
pub record IsMultiSlot (row : ListingRow) (filled : Filled) : Type 0 where
  pub file : OnDiskFile (List ℕ)
  pub is : filled.index ≡ Multi file
  pub path : file.path ≡ row.path
  pub time : filled.time ≡ row.time
  pub bytes : List ℕ
  pub content : loaded file.state ≡ Some bytes

-- a slot that holds the row of a multi-pack index
pub slot_of_multi : (row : ListingRow) (bytes : List ℕ) (filled : Filled) → is_index_of row (Some bytes) filled.index filled.time ≡ true
    → is_read filled.index ≡ true → IsMultiSlot row filled
slot_of_multi row bytes filled = by filled.index refl
  where
    by : (index : IndexFile) → filled.index ≡ index → is_index_of row (Some bytes) index filled.time ≡ true → is_read index ≡ true → IsMultiSlot row filled
    by (Single file) is held read = absurd (cc held)
    by (Multi file) is held read =
        let parts = and_parts (same_path file.path row.path) (filled.time == row.time) held in
        let content = read_content file.state read in
        record {
          file = file;
          is = is;
          path = same_path-true file.path row.path parts.0;
          time = eqb-true filled.time row.time parts.1;
          bytes = content.0;
          content = content.1;
        }

-- the row that it is of has the same path and time, and the content that was read
pub row_of_multi_slot : (row origin : ListingRow) (filled : Filled) → IsOfRow origin filled → (slot : IsMultiSlot row filled)
    → (origin.path ≡ row.path) × (origin.time ≡ row.time) × (origin.multi ≡ Some slot.bytes)
row_of_multi_slot row origin filled of slot =
    let multi : origin.multi ≡ Some slot.bytes = subst (IsMultiOf origin) slot.is of.multi slot.bytes slot.content in
    let held : is_index_of origin (Some slot.bytes) (Multi slot.file) filled.time ≡ true =
    subst (λ (index : IndexFile). is_index_of origin (Some slot.bytes) index filled.time ≡ true) slot.is
    (subst (λ (m : Option (List ℕ)). is_index_of origin m filled.index filled.time ≡ true) multi of.holds_it) in
    let parts = and_parts (same_path slot.file.path origin.path) (filled.time == origin.time) held in (
      sym (same_path-true slot.file.path origin.path parts.0) ∙ slot.path,
      sym (eqb-true filled.time origin.time parts.1) ∙ slot.time,
      multi,
    )
