-- Laws of what a view shows: each shown index is of a row that the journal published, and its bytes and those of its packs were stored by entries.
use Rattle.std.proofs.Common.{◌≡◌, ℕ, ◌<◌, true, List, length, Option, Some, None, option_map, refl, subst, arith}
use Rattle.gix_pack_read.specs.FileBytes.{FileBytes}
use Rattle.gix_odb_core.specs.Views.{view_of}
use Rattle.gix_odb_events.specs.View.{IsShown}
use Rattle.gix_odb_events.specs.OnDiskFile.{loaded}
use Rattle.gix_odb_core.specs.Origins.{IsIndexTold, IsLoadedTold, IsMultiOf, IsShownTold, IsTold}
use Rattle.gix_odb_core.specs.Possible.{IsOpened}
use Rattle.gix_odb_events.specs.Slots.{slot_at, index_path, is_index_of}
use Rattle.gix_odb_core.specs.Replay.{IsLegal, replay}
use Rattle.gix_odb_events.specs.Shown.{loaded_index, shown_slot}
use Rattle.gix_odb_core.specs.declared.journal.Entry.{Entry}
use Rattle.gix_odb_events.specs.declared.listing.ListingRow.{ListingRow}
use Rattle.gix_odb_core.specs.declared.shape.Shape.{Shape}
use Rattle.gix_odb_events.specs.declared.slot.Filled.{Filled}
use Rattle.gix_odb_events.specs.declared.slot.IndexFile.{IndexFile}
use Rattle.gix_odb_events.specs.declared.slot.IndexFile.TheVariants.{Single, Multi}
use Rattle.gix_odb_events.specs.declared.loaded.LoadedIndex.{LoadedIndex}
use Rattle.gix_odb_events.specs.declared.loaded.LoadedIndex.TheVariants as shown
use Rattle.gix_odb_events.specs.declared.loaded.SnapshotIndex.{SnapshotIndex}
use Rattle.gix_odb_core.proofs.NumberLaws.{entries_lower_no_number}
use Rattle.gix_odb_core.proofs.OriginLaws.{journal_tells_each_slot}
use Rattle.gix_odb_core.proofs.ShownLemmas.{shown_from, shown_of_slot}
use Rattle.gix_odb_core.proofs.SlotLemmas.{holds_path}
use Rattle.gix_odb_core.proofs.SlotsAfterLemmas.{filled_within}

module _ (entries : List Entry) (place : ℕ) (row : ListingRow) where
  loaded_told : (index : IndexFile) (time : ℕ) (l : LoadedIndex) → is_index_of row row.multi index time ≡ true → IsMultiOf row index → IsIndexTold entries place index → loaded_index index ≡ Some l
      → IsLoadedTold entries place (index_path index) row l
  loaded_told (Single file) time l holds of told is = by (loaded file.state) refl is
    where
      alone : (m : Option (List ℕ)) → is_index_of row m (Single file) time ≡ true → m ≡ None
      alone None is = refl
      alone (Some multi) is = absurd cc

      by : (o : Option FileBytes) → loaded file.state ≡ o → option_map shown.Single o ≡ Some l → IsLoadedTold entries place file.path row l
      by None at maps = absurd cc
      by (Some bytes) at maps = let same : shown.Single bytes ≡ l = cc in subst (IsLoadedTold entries place file.path row) same (alone row.multi holds, told bytes at)
  loaded_told (Multi file) time l holds of told is = by (loaded file.state) refl is
    where
      by : (o : Option (List ℕ)) → loaded file.state ≡ o → option_map shown.Multi o ≡ Some l → IsLoadedTold entries place file.path row l
      by None at maps = absurd cc
      by (Some bytes) at maps = let same : shown.Multi bytes ≡ l = cc in subst (IsLoadedTold entries place file.path row) same (of bytes at)

-- what a slot whose origin is in the entries shows
told_shows : (entries : List Entry) (place : ℕ) (filled : Filled) (shows : SnapshotIndex) → IsTold entries place filled → shown_slot place (Some filled) ≡ Some shows → IsShownTold entries shows
told_shows entries place filled shows told is = by (loaded_index filled.index) refl is
  where
    shown_as : LoadedIndex → SnapshotIndex
    shown_as l = record { slot = place; path = index_path filled.index; index = l; packs = filled.packs }

    by : (o : Option LoadedIndex) → loaded_index filled.index ≡ o → option_map shown_as o ≡ Some shows → IsShownTold entries shows
    by None at maps = absurd cc
    by (Some l) at maps =
        let same : shown_as l ≡ shows = cc in
        subst (IsShownTold entries) same (record {
          row = told.row;
          listed = told.listed;
          path = holds_path told.row filled told.of_row.holds_it;
          index = loaded_told entries place told.row filled.index filled.time l told.of_row.holds_it told.of_row.multi told.index at;
          pack_paths = told.of_row.packs;
          packs = told.packs;
        })

-- each index that a view shows is of a row that an entry of the legal journal published; what is shown of it, and of its packs, was stored by entries
pub journal_tells_what_is_shown : (opening : Shape) → IsOpened opening → (entries : List Entry) → IsLegal opening entries → (number : ℕ) (shows : SnapshotIndex)
    → IsShown (view_of (replay opening entries) number) shows → IsShownTold entries shows
journal_tells_what_is_shown opening opened entries legal number shows is = by (shown_from (replay opening entries) number shows is)
  where
    by : (place : ℕ) × (filled : Filled) × (slot_at (replay opening entries).slots place ≡ Some filled) × (shown_slot place (Some filled) ≡ Some shows) → IsShownTold entries shows
    by (place, filled, at, gives) = told_shows entries place filled shows (journal_tells_each_slot opening opened entries legal place filled at) gives

-- its slot is one of those that the core was made with
pub shown_slot_is_within : (opening : Shape) (entries : List Entry) (number : ℕ) (shows : SnapshotIndex) → IsShown (view_of (replay opening entries) number) shows
    → shows.slot < length opening.slots
shown_slot_is_within opening entries number shows is = by (shown_from (replay opening entries) number shows is)
  where
    by : (place : ℕ) × (filled : Filled) × (slot_at (replay opening entries).slots place ≡ Some filled) × (shown_slot place (Some filled) ≡ Some shows) → shows.slot < length opening.slots
    by (place, filled, at, gives) =
        let here = (shown_of_slot place filled shows gives).0 in
        let within = filled_within (replay opening entries).slots place filled at in
        let many = (entries_lower_no_number entries opening).slots in
        omega arith
