-- What is shown of slots: the loaded files of the listed ones, those of the others, and what is to be loaded.
use Rattle.std.specs.Prelude.{ℕ, Bool, true, false, List, [], ◌∷◌, Option, Some, None, option_map, if◌then◌else◌, nat_eq}
use Rattle.std.specs.List.{filter_map, list_any, enumerate_from}
use Rattle.gix_odb_events.specs.OnDiskFile.{loaded}
use Rattle.gix_odb_events.specs.Slots.{Slot, index_path, slot_at}
use Rattle.gix_odb_events.specs.declared.loaded.LoadedIndex.{LoadedIndex}
use Rattle.gix_odb_events.specs.declared.loaded.LoadedIndex.TheVariants as shown
use Rattle.gix_odb_events.specs.declared.loaded.SnapshotIndex.{SnapshotIndex}
use Rattle.gix_odb_events.specs.declared.loaded.Todo.{Todo}
use Rattle.gix_odb_events.specs.declared.slot.Filled.{Filled}
use Rattle.gix_odb_events.specs.declared.slot.IndexFile.{IndexFile}
use Rattle.gix_odb_events.specs.declared.slot.IndexFile.TheVariants as index

-- the index of a slot, if its bytes are in memory: it is loaded, or garbage
abbrev pub loaded_index : IndexFile → Option LoadedIndex
loaded_index (index.Single file) = option_map shown.Single (loaded file.state)
loaded_index (index.Multi file) = option_map shown.Multi (loaded file.state)

-- the index of a slot in a snapshot
abbrev pub shown_slot : ℕ → Slot → Option SnapshotIndex
shown_slot place None = None
shown_slot place (Some filled) =
    option_map (λ index. record { slot = place; path = index_path filled.index; index = index; packs = filled.packs }) (loaded_index filled.index)

-- an index that is to be loaded, if none of its bytes are in memory
abbrev pub todo_of : ℕ → Option LoadedIndex → Filled → Option Todo
todo_of place None filled = Some (record { slot = place; path = index_path filled.index })
todo_of place (Some index) filled = None

-- the index of a slot that is to be loaded, if it is
abbrev pub unloaded_slot : ℕ → Slot → Option Todo
unloaded_slot place None = None
unloaded_slot place (Some filled) = todo_of place (loaded_index filled.index) filled

-- whether a slot is listed
abbrev pub is_listed : List ℕ → ℕ → Bool
is_listed list place = list_any (nat_eq place) list

-- the loaded files of the listed slots, in the order of the list
abbrev pub shown_indices : List Slot → List ℕ → List SnapshotIndex
shown_indices slots list = filter_map (λ place. shown_slot place (slot_at slots place)) list

-- the index in a snapshot of a slot that isn't listed
abbrev pub kept_at : List ℕ → ℕ × Slot → Option SnapshotIndex
kept_at list at = if is_listed list at.0 then None else shown_slot at.0 at.1

-- those of the filled slots that aren't listed, in the order of the slots
abbrev pub shown_kept : List Slot → List ℕ → List SnapshotIndex
shown_kept slots list = filter_map (kept_at list) (enumerate_from 0 slots)

-- what is to be loaded of the listed slots, in the order of the list
abbrev pub shown_todo : List Slot → List ℕ → List Todo
shown_todo slots list = filter_map (λ place. unloaded_slot place (slot_at slots place)) list

-- the first of a list
abbrev pub first_of : {X : Type 0} → List X → Option X
first_of [] = None
first_of (x ∷ rest) = Some x
