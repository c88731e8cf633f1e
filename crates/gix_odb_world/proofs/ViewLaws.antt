-- Laws of what a core shows that got only files that were shown, and rows of the folders: it shows nothing else.
use Rattle.std.proofs.Common.{◌≡◌, ℕ, List, [], ◌∷◌, get_or, map, All, Contains, Option, Some, None, refl, sym, ap, ◌∙◌, subst, inl, inr}
use Rattle.std.specs.List.{AllByRecursion}
use Rattle.std.proofs.lemmas.List.Elements.{All-contains, All-contains_itself, All-from_recursion}
use Rattle.odb_base.specs.Path.{Name, Path}
use Rattle.gix_hash.specs.declared.kind.Kind.{Kind}
use Rattle.gix_pack_read.specs.FileBytes.{FileBytes}
use Rattle.gix_pack_read.specs.MultiIndex.{told as index_in}
use Rattle.gix_odb_events.specs.PackPath.{folder_of, pack_in, pack_path}
use Rattle.gix_odb_events.specs.PackFiles.{PackFile, new_pack, new_packs}
use Rattle.gix_odb_events.specs.declared.listing.ListingRow.{ListingRow}
use Rattle.gix_odb_events.specs.declared.loaded.LoadedIndex.{LoadedIndex}
use Rattle.gix_odb_events.specs.declared.loaded.LoadedIndex.TheVariants.{Single, Multi}
use Rattle.gix_odb_events.specs.declared.loaded.SnapshotIndex.{SnapshotIndex}
use Rattle.gix_odb_events.specs.declared.loaded.Todo.{Todo}
use Rattle.gix_odb_core.specs.Origins.{ArePacksTold, IsLoadedTold, IsShownTold, PutsIndex, PutsPack, TellsListing, TellsPut}
use Rattle.gix_odb_core.specs.Possible.{IsOpened, IsPossible}
use Rattle.gix_odb_core.specs.Replay.{IsLegal, replay}
use Rattle.gix_odb_core.specs.Views.{view_of}
use Rattle.gix_odb_events.specs.declared.event.Event.{Event}
use Rattle.gix_odb_core.specs.declared.journal.Entry.{Entry}
use Rattle.gix_odb_core.specs.declared.shape.Shape.{Shape}
use Rattle.gix_odb_events.specs.declared.view.View.{View}
use Rattle.gix_odb_core.proofs.OriginLaws.{journal_tells_each_slot}
use Rattle.gix_odb_core.proofs.ShapeLaws.{journal_comes_to_a_shape}
use Rattle.gix_odb_core.proofs.ShownLaws.{journal_tells_what_is_shown}
use Rattle.gix_odb_core.proofs.SlotLemmas.{holds_path}
use Rattle.gix_odb_core.proofs.TodoLaws.{what_is_to_be_loaded_is_unread}
use Rattle.gix_odb.specs.LookUpOrder.{Setting}
use Rattle.gix_odb.specs.Shown.{IsContentShown, IsFileShown, IsHanded, IsIndexPath, IsIndexShown, IsIndexShownAt, IsMultiAt, IsPackShown, IsPackShownAt, IsRowAs, IsRowHanded}
use Rattle.gix_odb.specs.Shown.{IsShownView, packs_of}
use Rattle.gix_odb_world.proofs.MultiSlots.{multi_slot_is_read, unread_slot_is_single}

-- the packs of a new slot of a multi-pack index
pub paths_of_new_packs : (path : Path) (multi : List ℕ) → map (λ (pack : PackFile). pack.path) (new_packs path (Some multi)) ≡ packs_of path (Multi multi)
paths_of_new_packs path multi = by (index_in multi).names
  where
    by : (names : List Name) → map (λ (pack : PackFile). pack.path) (map (new_pack (folder_of path)) names) ≡ map (pack_in (folder_of path)) names
    by [] = refl
    by (name ∷ names) = ap (λ (paths : List Path). pack_in (folder_of path) name ∷ paths) (by names)

module _ (Shown : Path → ℕ → List ℕ → Type 0) (setting : Setting) (hash : Kind) (entries : List Entry)
    (handed : (entry : Entry) → Contains entries entry → IsHanded Shown setting hash entry.event) where
  -- a row that was published is one of an index of the folders, or of a multi-pack index that was shown there
  pub row_of : (row : ListingRow) → TellsListing entries row → IsRowHanded Shown setting hash row
  row_of row (entry, among, so, (listing, is, has)) =
      All-contains (IsRowHanded Shown setting hash) listing.rows row (subst (λ (e : Event). IsHanded Shown setting hash e) is (handed entry among)) has

  index_of : (slot : ℕ) (path : Path) (file : FileBytes) → TellsPut entries (λ happens. PutsIndex happens slot path file)
      → IsIndexShownAt Shown setting hash path file
  index_of slot path file (entry, among, so, is) = (subst (λ (e : Event). IsHanded Shown setting hash e) is (handed entry among)).1

  pack_of : (slot : ℕ) (path : Path) (file : FileBytes) → TellsPut entries (λ happens. PutsPack happens slot path file)
      → IsPackShownAt Shown setting hash path file
  pack_of slot path file (entry, among, so, (pack, is, there)) = subst (λ (e : Event). IsHanded Shown setting hash e) is (handed entry among)

  read_of_slot : (slot : ℕ) (packs : List PackFile) → ArePacksTold entries slot packs → All (IsPackShown Shown setting hash) packs
  read_of_slot slot packs told =
      All-from_recursion (IsPackShown Shown setting hash) packs (by packs told)
    where
      by : (packs : List PackFile) → ArePacksTold entries slot packs → AllByRecursion (IsPackShown Shown setting hash) packs
      by [] told = tt
      by (pack ∷ packs) told = ((λ file is. pack_of slot pack.path file (told.0 file is)), by packs told.1)

  shown_of : (index : SnapshotIndex) → IsShownTold entries index → IsIndexShown Shown setting hash index
  shown_of index told = record {
    file = file_of index.index told.index;
    are = packs_are index.index told.index;
    packs = read_of_slot index.slot index.packs told.packs;
  }
    where
      row : IsRowHanded Shown setting hash told.row
      row = row_of told.row told.listed

      file_of : (l : LoadedIndex) → IsLoadedTold entries index.slot index.path told.row l → IsFileShown Shown setting hash index.path l
      file_of (Single file) had = record {
        at = subst (IsIndexPath setting) (sym told.path) (subst (IsRowAs setting told.row) had.0 row.0);
        there = index_of index.slot index.path file had.1;
      }
      file_of (Multi bytes) had = record {
        at = subst (λ (path : Path). IsMultiAt setting path bytes) (sym told.path) (subst (IsRowAs setting told.row) had row.0);
        shown = (
          told.row.time,
          subst (λ (path : Path). Shown path told.row.time bytes) (sym told.path) (subst (IsContentShown Shown setting hash told.row) had row.1),
        );
      }

      new_paths : (multi : Option (List ℕ)) → told.row.multi ≡ multi → map (λ (pack : PackFile). pack.path) index.packs ≡ map (λ (pack : PackFile). pack.path) (new_packs told.row.path multi)
      new_paths multi is = told.pack_paths ∙ ap (λ (m : Option (List ℕ)). map (λ (pack : PackFile). pack.path) (new_packs told.row.path m)) is

      packs_are : (l : LoadedIndex) → IsLoadedTold entries index.slot index.path told.row l → map (λ (pack : PackFile). pack.path) index.packs ≡ packs_of index.path l
      packs_are (Single file) had = new_paths None had.0 ∙ ap (λ (path : Path). pack_path path ∷ []) (sym told.path)
      packs_are (Multi bytes) had =
          new_paths (Some bytes) had ∙ (paths_of_new_packs told.row.path bytes ∙ ap (λ (path : Path). packs_of path (Multi bytes)) (sym told.path))

  module _ (opening : Shape) (opened : IsOpened opening) (legal : IsLegal opening entries) (possible : IsPossible opening entries) (number : ℕ) where
    abbrev view : View
    view = view_of (replay opening entries) number

    -- what is still to be loaded is a single index of the folders, since a multi-pack index was read by the listing
    to_be_loaded : (todo : Todo) → Contains view.todo todo → IsIndexPath setting todo.path
    to_be_loaded todo has =
        let is = what_is_to_be_loaded_is_unread (replay opening entries) number todo has in
        let told = journal_tells_each_slot opening opened entries legal todo.slot is.filled is.holds in
        let single =
        unread_slot_is_single told.row told.row.multi is.filled.index is.filled.time told.of_row.holds_it
        (multi_slot_is_read (replay opening entries) (journal_comes_to_a_shape opening opened entries possible) todo.slot is.filled is.holds) is.unread in
        subst (IsIndexPath setting) (sym (is.path ∙ holds_path told.row is.filled told.of_row.holds_it))
        (subst (IsRowAs setting told.row) single (row_of told.row told.listed).0)

    each : (indices : List SnapshotIndex) → ((index : SnapshotIndex) → Contains indices index → IsIndexShown Shown setting hash index)
        → All (IsIndexShown Shown setting hash) indices
    each indices shows i d within = shows (get_or indices i d) (All-contains_itself indices i d within)

    -- a view of the core after these entries
    pub what_a_core_shows_was_shown : IsShownView Shown setting hash view
    what_a_core_shows_was_shown =
        let told = journal_tells_what_is_shown opening opened entries legal number in
        record {
          indices = each view.snapshot.indices (λ index among. shown_of index (told index (inl among)));
          kept = each view.snapshot.kept (λ index among. shown_of index (told index (inr among)));
          todo = λ i d within. to_be_loaded (get_or view.todo i d) (All-contains_itself view.todo i d within);
        }
