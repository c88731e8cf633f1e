-- Git's order of the entries of a tree.
use Rattle.std.specs.Prelude.{ℕ, [], ◌∷◌, ◌++◌, List, if◌then◌else◌}
use Rattle.std.specs.Cmp.{IsTotalOrder}
use Rattle.std.specs.Cmp.Lexicographic.{nat_list_cmp_total}
use Rattle.std.specs.declared.cmp.Ordering.{Ordering}
use Rattle.odb_base.specs.Path.{name_cmp}
use Rattle.walkdir.specs.Entry.{file_name_of, is_dir}
use Rattle.walkdir.specs.Sorted.{by_key, by_key_total}
use Rattle.walkdir.specs.declared.dent.DirEntry.{DirEntry}

-- the byte of `/`
abbrev pub slash : ℕ
slash = 47

-- what counts after a name: a slash after that of a directory
abbrev pub slash_behind : DirEntry → List ℕ
slash_behind entry = if is_dir entry then slash ∷ [] else []

abbrev pub git_name : DirEntry → List ℕ
git_name entry = file_name_of entry ++ slash_behind entry

-- the order of the bytes of these names
abbrev pub git_order : DirEntry → DirEntry → Ordering
git_order = by_key name_cmp git_name

pub git_order_total : IsTotalOrder git_order
git_order_total = by_key_total nat_list_cmp_total git_name
