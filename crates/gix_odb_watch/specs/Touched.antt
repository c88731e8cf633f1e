-- Which watched paths a change touches, by its places. No public clause cites this.
use Rattle.std.specs.Prelude.{◌≡◌, ◌⊎◌, ◌&&◌, Bool, true, List, [], ◌∷◌, Option, Some, None, is_some, Result, Ok, Err, if◌then◌else◌}
use lib.Pointwise.{pointwise}
use Rattle.std.specs.List.{list_any, starts_with}
use Rattle.std.specs.Ordering.{eq_by_cmp}
use Rattle.odb_base.specs.Path.{Path, last_name, parent_of, path_cmp, same_name}
use Rattle.odb_disk.specs.Tree.{Tree}
use Rattle.odb_disk.specs.Tree.Write as writing
use Rattle.odb_disk.specs.Tree.Write.{file_spot}
use Rattle.odb_disk.specs.declared.change.Change.{Change}
use Rattle.odb_disk.specs.declared.change.Change.TheVariants.{PutFile, MakeDir, PutLink, Rename, Append, Remove, SetTime}
use Rattle.gix_odb_watch.specs.Kept.{IsIn}
use Rattle.gix_odb_watch.specs.Watched.{named_kind, pack_directory}

abbrev pub place_if : Result Path writing.Refusal → List Path
place_if (Ok place) = place ∷ []
place_if (Err refusal) = []

-- where a change puts, takes or writes something
abbrev pub places_of : Tree → Change → List Path
places_of tree (PutFile path time bytes) = path ∷ []
places_of tree (MakeDir path dev) = path ∷ []
places_of tree (PutLink path target) = path ∷ []
places_of tree (Rename from to) = from ∷ to ∷ []
places_of tree (Append path bytes) = place_if (file_spot tree path)
places_of tree (Remove path) = path ∷ []
places_of tree (SetTime path time) = path ∷ []

-- ---- folders with paths

-- whether a path has a last name, and one that is watched
abbrev pub is_watched : Path → Bool
is_watched path = is_some (named_kind (last_name path))

-- the directory of a path whose name is watched; any other path itself
abbrev pub directory_of : Path → Option Path
directory_of path = if is_watched path then parent_of path else Some path

-- a folder, and its pack directory or a watched path in that
abbrev pub Spot : Type 0
Spot = Path × Path

abbrev pub IsSpot : Spot → Type 0
IsSpot spot = directory_of spot.1 ≡ Some (pack_directory spot.0)

-- whether a folder is watched, and this is its pack directory
abbrev pub is_folder_of : List Path → (folder directory : Path) → Bool
is_folder_of watched folder directory = list_any (eq_by_cmp path_cmp folder) watched && pointwise same_name (pack_directory folder) directory

-- the watched folder of which this is the pack directory, if it is one
abbrev pub TellsFolder : List Path → (directory : Path) → Option Path → Type 0
TellsFolder watched directory None = (folder : Path) → IsIn watched folder → directory ≡ pack_directory folder → ⊥
TellsFolder watched directory (Some folder) = IsIn watched folder × (directory ≡ pack_directory folder)

-- ---- what is added to a list

-- elements are added: all that must be, and none that may not
pub record Adds {X : Type 0} (May Must : X → Type 0) (old new : List X) : Type 0 where
  pub keeps : (x : X) → IsIn old x → IsIn new x
  pub only : (x : X) → IsIn new x → IsIn old x ⊎ May x
  pub whole : (x : X) → Must x → IsIn new x

-- those of each of some things are
abbrev pub AddsEach : {R X : Type 0} → (May Must : R → X → Type 0) → List R → (old new : List X) → Type 0
AddsEach {R} {X} May Must rs old new = Adds (λ x. (r : R) × IsIn rs r × May r x) (λ x. (r : R) × IsIn rs r × Must r x) old new

-- ---- what a change touches

abbrev pub IsAmong : (folders : List Path) → Spot → Type 0
IsAmong folders spot = IsIn folders spot.0 × IsSpot spot

-- the pack directory of a folder that lies at a place or below it
abbrev pub IsInside : (folders : List Path) → (place : Path) → Spot → Type 0
IsInside folders place spot = IsIn folders spot.0 × (spot.1 ≡ pack_directory spot.0) × (starts_with same_name spot.0 place ≡ true)

-- a spot at a place, or a pack directory below it
abbrev pub IsTouched : (folders : List Path) → (place : Path) → Spot → Type 0
IsTouched folders place spot = IsAmong folders spot × ((spot.1 ≡ place) ⊎ ((spot.1 ≡ pack_directory spot.0) × (starts_with same_name spot.1 place ≡ true)))

-- The spots are the pack directories of the linked folders, and the spots of watched ones that one of the places touches.
pub record AreTouched (watched linked places : List Path) (spots : List Spot) : Type 0 where
  pub first : List Spot
  pub are_linked : Adds (IsAmong linked) (IsInside linked []) [] first
  pub are_touched : AddsEach (λ (place : Path). IsAmong watched) (IsTouched watched) places first spots
