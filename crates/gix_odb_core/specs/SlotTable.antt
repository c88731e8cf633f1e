-- The slot of an index by its path, and the table in which it is searched.
use Rattle.std.specs.Prelude.{ℕ, Bool, false, ◌&&◌, ◌==◌, List, length, map, filter, get_or, count_by, Option, Some, None, is_some}
use Rattle.std.specs.List.{position, range_with_len}
use Rattle.std.specs.List.Sorted.{IsPermutation, IsSorted}
use Rattle.std.specs.Option.{option_cmp}
use Rattle.std.specs.Ordering.{nat_cmp, on, then_cmp}
use Rattle.std.specs.declared.cmp.Ordering.{Ordering}
use Rattle.odb_base.specs.Path.{Path}
use Rattle.gix_odb_events.specs.PackFiles.{same_path}
use Rattle.gix_odb_events.specs.Slots.{Slot, index_path}
use Rattle.gix_odb_events.specs.declared.slot.IndexFile.{IndexFile}
use Rattle.gix_odb_events.specs.declared.slot.IndexFile.TheVariants.{Single, Multi}
use Rattle.gix_odb_core.specs.IndexKeys.{index_time, parts_cmp}

-- whether an index is the one of a path: a single one where no time is given, and else the multi-index of that time
abbrev pub is_index_at : Path → Option ℕ → IndexFile → ℕ → Bool
is_index_at path None (Single file) own = same_path file.path path
is_index_at path None (Multi file) own = false
is_index_at path (Some time) (Single file) own = false
is_index_at path (Some time) (Multi file) own = same_path file.path path && own == time

abbrev pub has_index : Path → Option ℕ → Slot → Bool
has_index path time None = false
has_index path time (Some filled) = is_index_at path time filled.index filled.time

-- the first slot that holds it
abbrev pub slot_of : Path → Option ℕ → List Slot → Option ℕ
slot_of path time slots = position (has_index path time) slots

abbrev pub filled_count : List Slot → ℕ
filled_count slots = count_by is_some slots

-- ---- the table. No public clause cites what follows

-- a path, and the time of a multi-index
abbrev pub Key : Type 0
Key = Path × Option ℕ

abbrev pub pair_cmp : Key → Key → Ordering
pair_cmp one other = parts_cmp one.0 one.1 other.0 other.1

-- the key of what a slot holds, if it is filled
abbrev pub slot_key : Slot → Option Key
slot_key None = None
slot_key (Some filled) = Some (index_path filled.index, index_time filled.index filled.time)

abbrev pub keys_of : List Slot → List (Option Key)
keys_of slots = map slot_key slots

abbrev pub key_at : List (Option Key) → ℕ → Option Key
key_at keys place = get_or keys place None

-- places in the order of their keys, and those of one key by their numbers
abbrev pub place_cmp : List (Option Key) → ℕ → ℕ → Ordering
place_cmp keys = then_cmp (on (key_at keys) (option_cmp pair_cmp)) nat_cmp

abbrev pub filled_places : List (Option Key) → List ℕ
filled_places keys = filter (λ place. is_some (key_at keys place)) (range_with_len 0 (length keys))

-- a table has each place of a key once, in that order
pub record IsTable (keys : List (Option Key)) (table : List ℕ) : Type 0 where
  pub places : IsPermutation (filled_places keys) table
  pub rises : IsSorted (place_cmp keys) table
