-- The entries of a walk, and what their calls return.
use Rattle.std.specs.Prelude.{ℕ, Bool, true, false, ◌||◌, codes, unwrap_or}
use Rattle.odb_base.specs.Path.{Path, Name, last_name}
use Rattle.odb_disk.specs.declared.meta.Kind.{Kind}
use Rattle.odb_disk.specs.declared.meta.Kind.TheVariants.{File, Dir, Link}
use Rattle.walkdir.specs.declared.dent.DirEntry.{DirEntry}

abbrev pub entry_at : Path → Kind → Bool → ℕ → ℕ → DirEntry
entry_at path kind followed depth ino = record { path = path; kind = kind; followed = followed; depth = depth; ino = ino }

abbrev pub is_dir_kind : Kind → Bool
is_dir_kind Dir = true
is_dir_kind File = false
is_dir_kind Link = false

abbrev pub is_link_kind : Kind → Bool
is_link_kind Link = true
is_link_kind File = false
is_link_kind Dir = false

abbrev pub is_dir : DirEntry → Bool
is_dir entry = is_dir_kind entry.kind

-- an entry is a link if its walk didn't follow it
abbrev pub is_link : DirEntry → Bool
is_link entry = is_link_kind entry.kind

-- whether the path is a link, also one that was followed
abbrev pub is_behind_link : DirEntry → Bool
is_behind_link entry = is_link entry || entry.followed

-- the last name, `/` for the root of the disk
abbrev pub file_name_of : DirEntry → Name
file_name_of entry = unwrap_or (last_name entry.path) (codes "/")
