-- Files that are missing, and since when, and files that are garbage, for laws of what journals replay to.
use Rattle.std.specs.Prelude.{◌≡◌, ◌⊎◌, ◌++◌, ◌||◌, ℕ, Bool, true, false, List, [], ◌∷◌, Some, Err}
use Rattle.std.specs.List.{list_any}
use Rattle.odb_base.specs.Path.{Path}
use Rattle.gix_odb_core.specs.Origins.{PassesOver}
use Rattle.gix_odb_events.specs.Slots.{slot_at}
use Rattle.gix_odb_core.specs.Replay.{after_entry, replay}
use Rattle.gix_odb_events.specs.PackFiles.{PackFile}
use Rattle.gix_odb_events.specs.declared.event.Refusal.TheVariants as refusals
use Rattle.gix_odb_core.specs.declared.journal.Entry.{Entry}
use Rattle.gix_odb_events.specs.declared.on_disk_file.FileState.{FileState}
use Rattle.gix_odb_events.specs.declared.on_disk_file.FileState.TheVariants.{Unloaded, Loaded, Garbage, Missing}
use Rattle.gix_odb_core.specs.declared.shape.Shape.{Shape}
use Rattle.gix_odb_events.specs.declared.slot.Filled.{Filled}
use Rattle.gix_odb_events.specs.declared.slot.IndexFile.{IndexFile}
use Rattle.gix_odb_events.specs.declared.slot.IndexFile.TheVariants.{Single, Multi}

abbrev pub IsIndexMissing : Path → IndexFile → Type 0
IsIndexMissing path (Single file) = (file.path ≡ path) × (file.state ≡ Missing)
IsIndexMissing path (Multi file) = (file.path ≡ path) × (file.state ≡ Missing)

-- one of the packs has that path and is missing
abbrev pub IsPackMissing : Path → List PackFile → Type 0
IsPackMissing path [] = ⊥
IsPackMissing path (pack ∷ packs) = ((pack.path ≡ path) × (pack.state ≡ Missing)) ⊎ IsPackMissing path packs

-- the file of a path is missing from the slot at a place
abbrev pub IsMissingAt : Shape → ℕ → Path → Type 0
IsMissingAt shape place path = (filled : Filled) × (slot_at shape.slots place ≡ Some filled) × (IsIndexMissing path filled.index ⊎ IsPackMissing path filled.packs)

-- it is missing, and stays so over entries
abbrev pub StaysMissing : Shape → List Entry → ℕ → Path → Type 0
StaysMissing shape [] place path = IsMissingAt shape place path
StaysMissing shape (entry ∷ entries) place path = IsMissingAt shape place path × StaysMissing (after_entry shape entry) entries place path

-- an entry passed the file over, and it has been missing since
pub record IsMissedSince (opening : Shape) (entries : List Entry) (place : ℕ) (path : Path) : Type 0 where
  pub past : List Entry
  pub entry : Entry
  pub later : List Entry
  pub splits : entries ≡ past ++ entry ∷ later
  pub took : entry.answer ≡ Err refusals.NoMemory → ⊥
  pub passes : PassesOver entry.event place path
  pub stays : StaysMissing (replay opening (past ++ entry ∷ [])) later place path

-- ---- garbage

abbrev pub is_garbage : {A : Type 0} → FileState A → Bool
is_garbage Unloaded = false
is_garbage (Loaded file) = false
is_garbage (Garbage file) = true
is_garbage Missing = false

abbrev pub is_index_garbage : IndexFile → Bool
is_index_garbage (Single file) = is_garbage file.state
is_index_garbage (Multi file) = is_garbage file.state

-- whether one of the files is garbage
abbrev pub has_garbage : Filled → Bool
has_garbage filled = is_index_garbage filled.index || list_any (λ pack. is_garbage pack.state) filled.packs
