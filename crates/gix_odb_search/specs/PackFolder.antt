-- The folder of packs, and the indices among its entries, a multi-pack index too.
use Rattle.std.specs.Prelude.{◌++◌, ◌&&◌, ◌||◌, Bool, true, false, List, [], ◌∷◌, length, map, filter, codes, nat_eq, nat_lt, if◌then◌else◌}
use Rattle.std.specs.List.{ends_with, list_any}
use Rattle.odb_base.specs.Path.{Name, Path, is_name, same_name}
use Rattle.odb_disk.specs.declared.entry.Entry.{Entry}
use Rattle.odb_disk.specs.declared.meta.Kind.{Kind}
use Rattle.odb_disk.specs.declared.meta.Kind.TheVariants.{File}
use Rattle.gix_odb_search.specs.declared.folders.IndexPath.{IndexPath}
use Rattle.gix_odb_search.specs.declared.folders.IndexPath.TheVariants.{Single, Multi}

-- the folder of packs of a store's folder
abbrev pub pack_folder : Path → Path
pack_folder folder = folder ++ codes "pack" ∷ []

-- an index is named by something and `.idx`
abbrev pub is_index_name : Name → Bool
is_index_name name = is_name name && nat_lt 4 (length name) && ends_with nat_eq name (codes ".idx")

-- the multi-pack index has this name
abbrev pub multi_index_name : Name
multi_index_name = codes "multi-pack-index"

abbrev pub is_multi_index_name : Name → Bool
is_multi_index_name name = same_name name multi_index_name

abbrev pub is_file : Kind → Bool
is_file File = true
is_file kind = false

-- a file by its name: an index, or the multi-pack index where it is looked for
abbrev pub is_index_entry : (multi : Bool) → Entry → Bool
is_index_entry multi entry = is_file entry.kind && (is_index_name entry.name || (multi && is_multi_index_name entry.name))

-- the entries, each unless one of these names, or of an earlier entry, is its name
abbrev pub firsts_without : List Name → List Entry → List Entry
firsts_without names [] = []
firsts_without names (entry ∷ entries) =
    if list_any (same_name entry.name) names then firsts_without names entries
    else entry ∷ firsts_without (entry.name ∷ names) entries

abbrev pub firsts : List Entry → List Entry
firsts entries = firsts_without [] entries

-- the path of the multi-pack index of a folder of packs
abbrev pub multi_index_path : Path → Path
multi_index_path folder = folder ++ multi_index_name ∷ []

-- such an entry is an index, or else the multi-pack index
abbrev pub path_by : (index : Bool) → (folder : Path) → Name → IndexPath
path_by true folder name = Single (folder ++ name ∷ [])
path_by false folder name = Multi

abbrev pub index_path_in : Path → Entry → IndexPath
index_path_in folder entry = path_by (is_index_name entry.name) folder entry.name

-- the indices among the entries of a folder, in their order, and the multi-pack index where it is looked for
abbrev pub index_paths : (multi : Bool) → Path → List Entry → List IndexPath
index_paths multi folder entries = map (index_path_in folder) (filter (is_index_entry multi) (firsts entries))
