-- Which event brought the contents of a slot's file, and which passed it over, for laws of what journals replay to.
use Rattle.std.specs.Prelude.{◌≡◌, ℕ, Bool, true, false, List, map, Some, None, Ok}
use Rattle.std.specs.List.{AllByRecursion, Contains}
use Rattle.odb_base.specs.Path.{Path}
use Rattle.gix_pack_read.specs.FileBytes.{FileBytes}
use Rattle.gix_odb_events.specs.OnDiskFile.{loaded}
use Rattle.gix_odb_core.specs.Replay.{is_refresh}
use Rattle.gix_odb_events.specs.Answers.{Answer}
use Rattle.gix_odb_events.specs.Slots.{holds}
use Rattle.gix_odb_events.specs.PackFiles.{PackFile, new_packs}
use Rattle.gix_odb_events.specs.declared.event.Effect.TheVariants as effects
use Rattle.gix_odb_events.specs.declared.event.Event.{Event}
use Rattle.gix_odb_events.specs.declared.event.Event.TheVariants as event
use Rattle.gix_odb_events.specs.declared.event.PassWhy.{PassWhy}
use Rattle.gix_odb_core.specs.declared.journal.Entry.{Entry}
use Rattle.gix_odb_events.specs.declared.listing.Listing.{Listing}
use Rattle.gix_odb_events.specs.declared.listing.ListingRow.{ListingRow}
use Rattle.gix_odb_events.specs.declared.pack_id.PackId.{PackId}
use Rattle.gix_odb_events.specs.declared.slot.Filled.{Filled}
use Rattle.gix_odb_events.specs.declared.slot.IndexFile.{IndexFile}
use Rattle.gix_odb_events.specs.declared.slot.IndexFile.TheVariants.{Single, Multi}
use Rattle.gix_odb_events.specs.declared.loaded.LoadedIndex.{LoadedIndex}
use Rattle.gix_odb_events.specs.declared.loaded.LoadedIndex.TheVariants as shown
use Rattle.gix_odb_events.specs.declared.loaded.SnapshotIndex.{SnapshotIndex}

-- an event carries the bytes of an index at a path, for a slot
abbrev pub PutsIndex : Event → ℕ → Path → FileBytes → Type 0
PutsIndex happens place path file = happens ≡ event.PutIndex place path file

-- an event carries the bytes of a pack at a path, for a slot
abbrev pub PutsPack : Event → ℕ → Path → FileBytes → Type 0
PutsPack happens place path file = (pack : PackId) × (happens ≡ event.PutPack pack path file) × (pack.index ≡ place)

-- an event passes over a path of a slot
abbrev pub PassesOver : Event → ℕ → Path → Type 0
PassesOver happens place path = (why : PassWhy) × (happens ≡ event.PassOver place path why)

-- an event publishes a listing with this row
abbrev pub Lists : Event → ListingRow → Type 0
Lists happens row = (listing : Listing) × (happens ≡ event.Publish listing) × Contains listing.rows row

-- whether an answer reports that a file was stored
abbrev pub is_stored : Answer → Bool
is_stored (Ok (effects.Put view stored)) = stored
is_stored answer = false

-- some entry has such an event and such an answer
abbrev pub Tells : List Entry → (Answer → Bool) → (Event → Type 0) → Type 0
Tells entries is_so P = (entry : Entry) × Contains entries entry × (is_so entry.answer ≡ true) × P entry.event

-- an entry published a listing with this row, or confirmed the list by it
abbrev pub TellsListing : List Entry → ListingRow → Type 0
TellsListing entries row = Tells entries is_refresh (λ happens. Lists happens row)

-- an entry stored the file of such an event
abbrev pub TellsPut : List Entry → (Event → Type 0) → Type 0
TellsPut entries P = Tells entries is_stored P

-- what was read of a multi-index is what its row had
abbrev pub IsMultiOf : ListingRow → IndexFile → Type 0
IsMultiOf row (Single file) = Unit {0}
IsMultiOf row (Multi file) = (bytes : List ℕ) → loaded file.state ≡ Some bytes → row.multi ≡ Some bytes

-- a slot holds a row, with its packs
pub record IsOfRow (row : ListingRow) (filled : Filled) : Type 0 where
  pub holds_it : holds row (Some filled) ≡ true
  pub multi : IsMultiOf row filled.index
  pub packs : map (λ pack. pack.path) filled.packs ≡ map (λ pack. pack.path) (new_packs row.path row.multi)

-- what was read of a single index was stored by an entry
abbrev pub IsIndexTold : List Entry → ℕ → IndexFile → Type 0
IsIndexTold entries place (Single file) = (bytes : FileBytes) → loaded file.state ≡ Some bytes → TellsPut entries (λ happens. PutsIndex happens place file.path bytes)
IsIndexTold entries place (Multi file) = Unit {0}

-- what was read of packs was stored by entries
abbrev pub ArePacksTold : List Entry → ℕ → List PackFile → Type 0
ArePacksTold entries place packs = AllByRecursion (λ pack. (bytes : FileBytes) → loaded pack.state ≡ Some bytes → TellsPut entries (λ happens. PutsPack happens place pack.path bytes)) packs

-- each slot is of a row that was published, and what was read of its single index and of its packs was stored
pub record IsTold (entries : List Entry) (place : ℕ) (filled : Filled) : Type 0 where
  pub row : ListingRow
  pub listed : TellsListing entries row
  pub of_row : IsOfRow row filled
  pub index : IsIndexTold entries place filled.index
  pub packs : ArePacksTold entries place filled.packs

-- what a view shows of an index was stored by an entry, or was in its row
abbrev pub IsLoadedTold : List Entry → ℕ → Path → ListingRow → LoadedIndex → Type 0
IsLoadedTold entries slot path row (shown.Single bytes) = (row.multi ≡ None) × TellsPut entries (λ happens. PutsIndex happens slot path bytes)
IsLoadedTold entries slot path row (shown.Multi bytes) = row.multi ≡ Some bytes

-- a shown index is of a row that was published, and what is shown of it and of its packs was stored by entries
pub record IsShownTold (entries : List Entry) (shows : SnapshotIndex) : Type 0 where
  pub row : ListingRow
  pub listed : TellsListing entries row
  pub path : shows.path ≡ row.path
  pub index : IsLoadedTold entries shows.slot shows.path row shows.index
  pub pack_paths : map (λ pack. pack.path) shows.packs ≡ map (λ pack. pack.path) (new_packs row.path row.multi)
  pub packs : ArePacksTold entries shows.slot shows.packs
