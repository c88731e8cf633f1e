-- The path of an index's pack: beside the index, by its name with another ending.
use Rattle.std.specs.Prelude.{◌-◌, ◌++◌, [], ◌∷◌, length, take, codes, nat_eq, unwrap_or, if◌then◌else◌}
use Rattle.std.specs.List.{ends_with}
use Rattle.odb_base.specs.Path.{Name, Path, is_name, last_name, parent_of}

-- the name of an index without `.idx`, if it has this ending
abbrev pub stem_of : Name → Name
stem_of name = if ends_with nat_eq name (codes ".idx") then take (length name - 4) name else name

abbrev pub pack_name : Name → Name
pack_name name = stem_of name ++ codes ".pack"

-- the path in a folder of the pack of an index with this name. Each name of an index gives a name; a text that gives none gives the folder
abbrev pub pack_in : Path → Name → Path
pack_in folder name = if is_name (pack_name name) then folder ++ pack_name name ∷ [] else folder

-- the folder of an index, and its name
abbrev pub folder_of : Path → Path
folder_of path = unwrap_or (parent_of path) []

abbrev pub name_of : Path → Name
name_of path = unwrap_or (last_name path) []

-- the path of an index's pack
abbrev pub pack_path : Path → Path
pack_path path = pack_in (folder_of path) (name_of path)
