-- The packs of an index, and when two paths are the same.
use Rattle.std.specs.Prelude.{ℕ, Bool, List, [], ◌∷◌, map, Option, Some, None}
use Rattle.std.specs.List.{IsDistinct}
use lib.Pointwise.{pointwise}
use Rattle.odb_base.specs.Path.{Path, same_name}
use Rattle.gix_pack_read.specs.MultiIndex.{told}
use Rattle.gix_pack_read.specs.FileBytes.{FileBytes}
use Rattle.gix_odb_events.specs.OnDiskFile.{file_at}
use Rattle.gix_odb_events.specs.PackPath.{folder_of, name_of, pack_in}
use Rattle.gix_odb_events.specs.declared.listing.ListingRow.{ListingRow}
use Rattle.gix_odb_events.specs.declared.on_disk_file.FileState.TheVariants.{Unloaded}
use Rattle.gix_odb_events.specs.declared.on_disk_file.OnDiskFile.{OnDiskFile}

-- a pack of a slot; contracts see a pack as its bytes and hash
abbrev pub PackFile : Type 0
PackFile = OnDiskFile FileBytes

abbrev pub same_path : Path → Path → Bool
same_path = pointwise same_name

-- no two rows have the same path
abbrev pub HasDifferentPaths : List ListingRow → Type 0
HasDifferentPaths rows = IsDistinct same_path (map (λ row. row.path) rows)

abbrev pub new_pack : Path → List ℕ → PackFile
new_pack folder name = file_at (pack_in folder name) Unloaded

-- one pack beside a single index, or one for each name of a multi-index
abbrev pub new_packs : Path → Option (List ℕ) → List PackFile
new_packs path None = new_pack (folder_of path) (name_of path) ∷ []
new_packs path (Some multi) = map (new_pack (folder_of path)) (told multi).names
