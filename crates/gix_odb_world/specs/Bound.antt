-- How many turns a call may take.
use Rattle.std.specs.Prelude.{◌≡◌, ℕ, ◌+◌, ◌*◌, ◌≤◌, ◌&&◌, ◌==◌, Bool, true, [], ◌∷◌, ◌++◌, length, codes, Contains, Option, Some, None, Ok, List}
use Rattle.std.specs.List.{list_all, list_any}
use Rattle.odb_base.specs.Path.{Path, Name}
use Rattle.odb_disk.specs.Tree.{Tree}
use Rattle.odb_disk.specs.Tree.Follow.{listed}
use Rattle.gix_odb_calls.specs.declared.call.Call.{Call}
use Rattle.gix_odb_calls.specs.declared.call.Call.TheVariants.{Write}
use Rattle.gix_odb_loose.specs.WriteJobs.{pieces_of}
use Rattle.gix_odb.specs.Laps.{turns_of_lap}
use Rattle.gix_odb.specs.Contents.{folder_list}
use Rattle.gix_odb_calls.specs.declared.store_parts.StoreParts.{StoreParts}
use Rattle.gix_odb_world.specs.AtWork.{Modes, Store, Task, OpenStore, MakeCall}

-- ---- the numbers besides those of a lap, which is one way through all that a store's list names, and through its folders

-- the laps that no change of the list causes: the first, and the one that finds the list unchanged
abbrev pub laps_without_change : ℕ
laps_without_change = 2

-- The turns of a write besides those of its pieces. It takes fewer: one for each of its `temp_names`, and one each for its header, its
-- directory, its rename and the removal of its file.
abbrev pub turns_beside_pieces : ℕ
turns_beside_pieces = 40

-- the most changes of the list that a call may be set to tolerate: the bound is a number of 128 bits then
abbrev pub most_changes : ℕ
most_changes = 1000000

-- ---- the bound

-- a write has some turns more, and one for each begun piece
abbrev pub turns_of_write : Option ℕ → ℕ
turns_of_write None = 0
turns_of_write (Some bytes) = turns_beside_pieces + pieces_of bytes

-- the bound for a store with so many slots and folders, so many changes of the list that a call tolerates,
-- and at most so many entries in a folder that it lists
abbrev pub turn_bound : ℕ → ℕ → ℕ → ℕ → Option ℕ → ℕ
turn_bound slots folders max_changes entries write =
    (max_changes + laps_without_change) * turns_of_lap slots folders entries + turns_of_write write

-- two lower-case hex digits
abbrev pub is_prefix_name : Name → Bool
is_prefix_name name = (length name == 2) && list_all (λ digit. list_any (λ d. d == digit) (codes "0123456789abcdef")) name

-- the folders whose entries a call may list: `pack` and the prefix folders of each folder of the store
pub data IsListed (store : StoreParts) : Path → Type 0 where
  Pack : (folder : Path) (among : Contains (folder_list store) folder) → IsListed store (folder ++ codes "pack" ∷ [])
  Prefix : (folder : Path) (name : Name) (among : Contains (folder_list store) folder) (hex : is_prefix_name name ≡ true)
      → IsListed store (folder ++ name ∷ [])

-- no folder that a call may list has more entries, at any moment from `begun` to `now`
abbrev pub HasAtMost : (ℕ → Tree) → StoreParts → ℕ → ℕ → ℕ → Type 0
HasAtMost trees store begun now entries =
    (moment : ℕ) → begun ≤ moment → moment ≤ now → (folder : Path) (names : List Name) → IsListed store folder
    → listed (trees moment) folder ≡ Ok names → length names ≤ entries

-- how many bytes a call is to write, if it is a write
abbrev pub bytes_to_write : Call → Option ℕ
bytes_to_write (Write kind size bytes known) = Some (length bytes)
bytes_to_write call = None

-- the bound of a call of a handle of a store, with so many bytes if it is a write: the slots are those of the store's core, and the call
-- tolerates the changes that its store was opened with
abbrev pub bound_of_call : Store → Modes → (entries : ℕ) → (bytes : Option ℕ) → ℕ
bound_of_call store modes entries bytes = turn_bound modes.slots (length (folder_list store.parts)) store.max_changes entries bytes

-- the bound of a task; an opening is bounded with no slots and no changes
abbrev pub bound_of_task : Store → Modes → Task → (entries : ℕ) → ℕ
bound_of_task store modes OpenStore entries = turn_bound 0 (length (folder_list store.parts)) 0 entries None
bound_of_task store modes (MakeCall call) entries = bound_of_call store modes entries (bytes_to_write call)
