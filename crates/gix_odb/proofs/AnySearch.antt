-- Whatever a search among indices finds, the work goes on with the next index that is still to be loaded, finds something, fails, or reads a
-- pack.
use Rattle.std.proofs.Common.{ℕ, List, Option, Some, None, option_map, Result, Ok, Err, slice_get}
use Rattle.std.specs.List.{find}
use Rattle.std.specs.Ordering.{is_eq}
use Rattle.odb_base.specs.Path.{Path}
use Rattle.gix_hash.specs.ObjectId.{id_cmp}
use Rattle.gix_pack_read.specs.MultiIndex.{told}
use Rattle.gix_pack_read.specs.FileBytes.{FileBytes}
use Rattle.gix_pack_read.specs.Index.{index_rows}
use Rattle.gix_pack_read.specs.Rows.{PackRow, Row}
use Rattle.gix_odb_events.specs.OnDiskFile.{loaded}
use Rattle.gix_odb_events.specs.PackFiles.{PackFile}
use Rattle.gix_odb_events.specs.declared.loaded.LoadedIndex.{LoadedIndex}
use Rattle.gix_odb_events.specs.declared.loaded.LoadedIndex.TheVariants.{Single, Multi}
use Rattle.gix_odb_events.specs.declared.loaded.SnapshotIndex.{SnapshotIndex}
use Rattle.gix_odb_search.specs.Goal.{given_by}
use Rattle.gix_odb_search.specs.Search.{at_spot, given_or_not, in_file, in_packs, search, tried}
use Rattle.gix_odb_search.specs.Spot.{spot_in}
use Rattle.gix_odb_search.specs.TryOrder.{at, at_search, at_todo}
use Rattle.gix_odb_search.specs.declared.goal.Error.{Error}
use Rattle.gix_odb_search.specs.declared.goal.Found.{Found}
use Rattle.gix_odb_search.specs.declared.goal.Goal.{Goal}
use Rattle.gix_object.specs.declared.want.Want.{Want}
use Rattle.gix_object.specs.declared.want.Want.TheVariants.{Object, Header, Presence}
use Rattle.gix_odb_search.specs.declared.search.AbsentFile.{AbsentFile}
use Rattle.gix_odb_search.specs.declared.search.WantedPack.{WantedPack}
use Rattle.gix_odb_search.specs.declared.trier.Ahead.{Ahead}
use Rattle.gix_odb_search.specs.declared.trier.Stage.TheVariants as stages
use Rattle.gix_odb_search.specs.declared.trier.Tried.{Tried}
use Rattle.gix_odb_search.specs.declared.trier.Tried.TheVariants as ends
use Rattle.gix_odb_search.proofs.SeekLaws.{Comes, search_comes, search_ends, unloaded_comes}

abbrev AnyFound : Found → Type 0
AnyFound found = Unit {0}

abbrev AnyError : Error → Type 0
AnyError error = Unit {0}

abbrev AnyPack : WantedPack → Type 0
AnyPack pack = Unit {0}

module _ (goal : Goal) (absent : List AbsentFile) (index : SnapshotIndex) where
  given_comes : (given : Result Found Error) → Comes AnyFound AnyError AnyPack (given_or_not given)
  given_comes (Ok found) = tt
  given_comes (Err error) = tt

  module _ (place offset : ℕ) where
    file_comes : (path : Path) (file : Option FileBytes)
        → Comes AnyFound AnyError AnyPack (in_file goal absent index (record { place = place; offset = offset }) path file)
    file_comes path None = unloaded_comes AnyFound AnyError AnyPack goal absent index (record { place = place; offset = offset }) path tt
    file_comes path (Some file) = given_comes (given_by goal.want goal.limit file offset)

    packs_come : (pack : Option PackFile)
        → Comes AnyFound AnyError AnyPack (in_packs goal absent index (record { place = place; offset = offset }) pack)
    packs_come None = tt
    packs_come (Some pack) = file_comes pack.path (loaded pack.state)

    spot_comes : (wanted : Want) → Comes AnyFound AnyError AnyPack (at_spot wanted goal absent index (Some (record { place = place; offset = offset })))
    spot_comes Presence = tt
    spot_comes Object = packs_come (slice_get index.packs place)
    spot_comes Header = packs_come (slice_get index.packs place)

  row_comes : (row : Option Row)
      → Comes AnyFound AnyError AnyPack (at_spot goal.want goal absent index (option_map (λ (r : Row). record { place = 0; offset = r.offset }) row))
  row_comes None = tt
  row_comes (Some row) = spot_comes 0 row.offset goal.want

  pack_row_comes : (row : Option PackRow)
      → Comes AnyFound AnyError AnyPack (at_spot goal.want goal absent index (option_map (λ (r : PackRow). record { place = r.pack; offset = r.offset }) row))
  pack_row_comes None = tt
  pack_row_comes (Some row) = spot_comes row.pack row.offset goal.want

  index_comes : (own : LoadedIndex) → Comes AnyFound AnyError AnyPack (at_spot goal.want goal absent index (spot_in own goal.id))
  index_comes (Single file) = row_comes (find (λ (row : Row). is_eq (id_cmp row.id goal.id)) (index_rows file.kind file.bytes))
  index_comes (Multi bytes) = pack_row_comes (find (λ (row : PackRow). is_eq (id_cmp row.id goal.id)) (told bytes).rows)

  tried_comes : Comes AnyFound AnyError AnyPack (tried goal absent index)
  tried_comes = index_comes index.index

module _ (P : Tried → Type 0) (goal : Goal) (ahead : Ahead) (further : P (at_todo goal ahead ahead.todo)) (hit : (found : Found) → P (ends.Hit found))
    (bad : (error : Error) → P (ends.Bad error)) (wanted : (pack : WantedPack) → P (at goal ahead (stages.ReadingPack pack))) (absent : List AbsentFile) where
  -- what the search in one index leads to
  pub any_try : (index : SnapshotIndex) → P (at_search goal ahead (tried goal absent index))
  any_try index =
      search_ends AnyFound AnyError AnyPack P goal ahead (tried goal absent index) (tried_comes goal absent index) further (λ found any. hit found)
      (λ error any. bad error) (λ pack any. wanted pack)

  -- and in several
  pub any_search : (indices : List SnapshotIndex) → P (at_search goal ahead (search goal absent indices))
  any_search indices =
      search_ends AnyFound AnyError AnyPack P goal ahead (search goal absent indices)
      (search_comes AnyFound AnyError AnyPack goal absent (λ index. Unit {0}) (λ index any. tried_comes goal absent index) indices (λ k d lt. tt)) further
      (λ found any. hit found) (λ error any. bad error) (λ pack any. wanted pack)
