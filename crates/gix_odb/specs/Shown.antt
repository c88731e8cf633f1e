-- What a store's core shows that the disk showed before: the indices of the folders of packs, and their packs.
use Rattle.std.specs.Prelude.{◌≡◌, ℕ, true, List, [], ◌∷◌, ◌++◌, map, All, Contains, Option, Some, None}
use Rattle.odb_base.specs.Path.{Name, Path}
use Rattle.gix_hash.specs.declared.kind.Kind.{Kind}
use Rattle.gix_pack_read.specs.FileBytes.{FileBytes}
use Rattle.gix_pack_read.specs.Index.{is_index}
use Rattle.gix_pack_read.specs.MultiIndex.{told}
use Rattle.gix_pack_read.specs.Pack.{is_pack}
use Rattle.gix_odb_events.specs.OnDiskFile.{loaded}
use Rattle.gix_odb_events.specs.PackPath.{folder_of, pack_in, pack_path}
use Rattle.gix_odb_events.specs.PackFiles.{PackFile}
use Rattle.gix_odb_events.specs.declared.listing.ListingRow.{ListingRow}
use Rattle.gix_odb_events.specs.declared.loaded.LoadedIndex.{LoadedIndex}
use Rattle.gix_odb_events.specs.declared.loaded.LoadedIndex.TheVariants.{Single, Multi}
use Rattle.gix_odb_events.specs.declared.loaded.SnapshotIndex.{SnapshotIndex}
use Rattle.gix_odb_events.specs.declared.loaded.Todo.{Todo}
use Rattle.gix_odb_events.specs.declared.event.Event.{Event}
use Rattle.gix_odb_events.specs.declared.event.Event.TheVariants as events
use Rattle.gix_odb_events.specs.declared.view.View.{View}
use Rattle.gix_odb_search.specs.MultiPack.{is_usable}
use Rattle.gix_odb_search.specs.PackFolder.{is_index_name, multi_index_path, pack_folder}
use Rattle.gix_odb_events.specs.declared.answer.Ask.{Ask}
use Rattle.gix_odb_events.specs.declared.answer.Ask.TheVariants as asks
use Rattle.gix_odb_calls.specs.StoreParts.{folder_list}
use Rattle.gix_odb.specs.Store.{Setting, listed_for}

-- the folders of a store, the objects directory first
abbrev pub folders_of : Setting → List Path
folders_of setting = folder_list setting.parts

-- the path of an index in the folder of packs of one of the folders
pub record IsIndexPath (setting : Setting) (path : Path) : Type 0 where
  pub folder : Path
  pub among : Contains (folders_of setting) folder
  pub name : Name
  pub named : is_index_name name ≡ true
  pub is : path ≡ pack_folder folder ++ name ∷ []

-- the path of the multi-pack index in the folder of packs of one of the folders
pub record IsMultiPath (setting : Setting) (path : Path) : Type 0 where
  pub folder : Path
  pub among : Contains (folders_of setting) folder
  pub is : path ≡ multi_index_path (pack_folder folder)

-- a multi-pack index of one of the folders, which the store can use
pub record IsMultiAt (setting : Setting) (path : Path) (bytes : List ℕ) : Type 0 where
  pub at : IsMultiPath setting path
  pub usable : is_usable (listed_for setting.parts).multi bytes ≡ true

abbrev pub IsRowAs : Setting → ListingRow → Option (List ℕ) → Type 0
IsRowAs setting row None = IsIndexPath setting row.path
IsRowAs setting row (Some bytes) = IsMultiAt setting row.path bytes

-- the row of an index or of a multi-pack index in one of the folders
abbrev pub IsIndexRow : Setting → ListingRow → Type 0
IsIndexRow setting row = IsRowAs setting row row.multi

-- the paths of the packs of an index: the one of the same name, or those that a multi-pack index names
abbrev pub packs_of : Path → LoadedIndex → List Path
packs_of path (Single file) = pack_path path ∷ []
packs_of path (Multi bytes) = map (pack_in (folder_of path)) (told bytes).names

-- Here `Shown path time bytes` says that a file with these bytes and this time was shown at this path since the store was opened.

-- a file with these bytes was shown at a path, at any of its times
abbrev pub ShowedBytes : (Shown : Path → ℕ → List ℕ → Type 0) → Path → List ℕ → Type 0
ShowedBytes Shown path bytes = (time : ℕ) × Shown path time bytes

module _ (Shown : Path → ℕ → List ℕ → Type 0) (setting : Setting) (hash : Kind) where
  -- an index whose bytes were shown at a path
  pub record IsIndexShownAt (path : Path) (file : FileBytes) : Type 0 where
    pub kind : file.kind ≡ hash
    pub parsed : is_index hash file.bytes ≡ true
    pub shown : ShowedBytes Shown path file.bytes

  -- a pack whose bytes were shown at a path
  pub record IsPackShownAt (path : Path) (file : FileBytes) : Type 0 where
    pub kind : file.kind ≡ hash
    pub parsed : is_pack hash file.bytes ≡ true
    pub shown : ShowedBytes Shown path file.bytes

  -- a pack was shown at its path, if it is loaded
  abbrev pub IsPackShown : PackFile → Type 0
  IsPackShown pack = (file : FileBytes) → loaded pack.state ≡ Some file → IsPackShownAt pack.path file

  -- an index of one of the folders, which was shown there
  pub record IsSingleShown (path : Path) (file : FileBytes) : Type 0 where
    pub at : IsIndexPath setting path
    pub there : IsIndexShownAt path file

  -- a multi-pack index of one of the folders, which was shown there
  pub record IsMultiShown (path : Path) (bytes : List ℕ) : Type 0 where
    pub at : IsMultiAt setting path bytes
    pub shown : ShowedBytes Shown path bytes

  abbrev pub IsFileShown : Path → LoadedIndex → Type 0
  IsFileShown path (Single file) = IsSingleShown path file
  IsFileShown path (Multi bytes) = IsMultiShown path bytes

  -- an index or a multi-pack index that was shown, with the packs that it is of
  pub record IsIndexShown (index : SnapshotIndex) : Type 0 where
    pub file : IsFileShown index.path index.index
    pub are : map (λ (pack : PackFile). pack.path) index.packs ≡ packs_of index.path index.index
    pub packs : All IsPackShown index.packs

  -- what a view shows
  pub record IsShownView (view : View) : Type 0 where
    pub indices : All IsIndexShown view.snapshot.indices
    pub kept : All IsIndexShown view.snapshot.kept
    pub todo : All (λ (todo : Todo). IsIndexPath setting todo.path) view.todo

  -- a multi-pack index of a row was shown, with the row's time
  abbrev pub IsContentShown : ListingRow → Option (List ℕ) → Type 0
  IsContentShown row None = Unit {0}
  IsContentShown row (Some bytes) = Shown row.path row.time bytes

  -- the row of an index of one of the folders, or of a multi-pack index that was shown there
  abbrev pub IsRowHanded : ListingRow → Type 0
  IsRowHanded row = IsIndexRow setting row × IsContentShown row row.multi

  -- what a look-up passes to the core: files that were shown, and rows of indices of the folders
  abbrev pub IsHanded : Event → Type 0
  IsHanded (events.PutIndex slot path file) = IsIndexPath setting path × IsIndexShownAt path file
  IsHanded (events.PutPack pack path file) = IsPackShownAt path file
  IsHanded (events.Publish listing) = All IsRowHanded listing.rows
  IsHanded event = Unit {0}

  abbrev pub IsHandedBy : Ask → Type 0
  IsHandedBy (asks.Core event) = IsHanded event
  IsHandedBy ask = Unit {0}
