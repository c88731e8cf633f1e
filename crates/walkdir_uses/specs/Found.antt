-- What the entries of a walk say of a folder.
use Rattle.std.specs.Prelude.{◌≡◌, ◌⊎◌, ℕ, ◌-◌, ◌^◌, ◌==◌, Bool, true, false, not, min, List, [], ◌∷◌, ◌++◌, Contains, map, filter, sum_by, Option, Some, None, Ok, Err}
use Rattle.std.specs.Result.{result_ok}
use Rattle.odb_base.specs.Path.{Path, Name, name_cmp}
use Rattle.odb_disk.specs.Tree.{Tree}
use Rattle.odb_disk.specs.Tree.Follow.{looked}
use Rattle.odb_disk.specs.declared.meta.Kind.{Kind}
use Rattle.odb_disk.specs.declared.meta.Kind.TheVariants.{File, Dir, Link}
use Rattle.odb_disk.specs.declared.meta.Meta.{Meta}
use Rattle.walkdir.specs.Entry.{file_name_of}
use Rattle.walkdir.specs.Error.{is_no_memory}
use Rattle.walkdir.specs.FilteredWalk.{BeginsFiltered}
use Rattle.walkdir.specs.Options.{default_options}
use Rattle.walkdir.specs.Sorted.{all_equal, by_key}
use Rattle.walkdir.specs.Walk.{Walking, Item, IsWalk, Order, Tells, told_at}
use Rattle.walkdir.specs.WalkLaws.{with_most}
use Rattle.walkdir.specs.declared.dent.DirEntry.{DirEntry}
use Rattle.walkdir.specs.declared.error.Error.{Error}
use Rattle.walkdir.specs.declared.sort.NoSort.{NoSort}

-- the walk of all below a folder, in the order of the disk's streams
abbrev pub below : Tree → Path → Walking
below tree folder = record { tree = tree; root = folder; options = default_options; order = None }

-- the walk of the entries of a folder itself, in the order of the bytes of their names
abbrev pub inside : Tree → Path → Walking
inside tree folder = record { tree = tree; root = folder; options = record default_options { min_depth = 1; max_depth = 1 }; order = Some (by_key name_cmp file_name_of) }

-- entries in the order of the disk's streams
abbrev pub as_given : NoSort → Order
as_given sorter = all_equal

-- a walk gives these entries and no error, and this holds of them
abbrev pub FoundIn : Walking → (List DirEntry → Type 0) → Type 0
FoundIn walk Holds = (entries : List DirEntry) × IsWalk walk (map Ok entries) × Holds entries

-- no other entries are those of a walk without errors, however many directories may be open
abbrev pub AreOnly : Walking → List DirEntry → Type 0
AreOnly walk entries = (most : ℕ) (others : List DirEntry) → IsWalk (with_most walk most) (map Ok others) → others ≡ entries

-- a walk gives entries alone, and then this error
abbrev pub ComesFirst : Walking → Error → Type 0
ComesFirst walk error = (entries : List DirEntry) × (rest : List Item) × IsWalk walk (map Ok entries ++ Err error ∷ rest)

-- why a call that walks stops: memory ran out, or the first error of its walk
abbrev pub IsStoppedBy : Walking → Error → Type 0
IsStoppedBy walk error = (is_no_memory error ≡ true) ⊎ ComesFirst walk error

-- What a filter leaves of the first items of a walk: entries alone, and then this error.
abbrev pub ComesFirstOf : Walking → (DirEntry → Bool) → Error → Type 0
ComesFirstOf walk accepts error = (entries : List DirEntry) × BeginsFiltered walk accepts (map Ok entries ++ Err error ∷ [])

-- why a call that walks with a filter stops: memory ran out, or the first error that is left
abbrev pub IsStoppedIn : Walking → (DirEntry → Bool) → Error → Type 0
IsStoppedIn walk accepts error = (is_no_memory error ≡ true) ⊎ ComesFirstOf walk accepts error

-- entries alone, and then this error
abbrev pub EndsWith : List Item → Error → Type 0
EndsWith items error = (entries : List DirEntry) × (items ≡ map Ok entries ++ Err error ∷ [])

abbrev pub is_file_kind : Kind → Bool
is_file_kind File = true
is_file_kind Dir = false
is_file_kind Link = false

abbrev pub is_file : DirEntry → Bool
is_file entry = is_file_kind entry.kind

abbrev pub paths_of_files : List DirEntry → List Path
paths_of_files entries = map (λ entry. entry.path) (filter is_file entries)

-- ---- sizes

abbrev pub length_of : Option Meta → ℕ
length_of None = 0
length_of (Some meta) = meta.len

-- the length of what is at an entry's path
abbrev pub size_at : Tree → DirEntry → ℕ
size_at tree entry = length_of (result_ok (looked tree entry.path entry.followed))

-- this error is the result of a stat of the path of a file among entries
abbrev pub IsRefusedAmong : Tree → List DirEntry → Error → Type 0
IsRefusedAmong tree entries error =
    (entry : DirEntry) × Contains (filter is_file entries) entry × Tells entry.depth entry.path (Err error) (told_at entry.depth entry.path (looked tree entry.path entry.followed))

-- a walk gives entries and no error, and this error is the result of a stat of the path of a file among them
abbrev pub IsRefusedLook : Walking → Error → Type 0
IsRefusedLook walk error = FoundIn walk (λ entries. IsRefusedAmong walk.tree entries error)

-- a total is kept in 64 bits, and saturates
abbrev pub greatest_total : ℕ
greatest_total = 2 ^ 64 - 1

-- the lengths of the files among entries, added up
abbrev pub total_size : Tree → List DirEntry → ℕ
total_size tree entries = min (sum_by (size_at tree) (filter is_file entries)) greatest_total

-- ---- names

abbrev pub is_hidden : Name → Bool
is_hidden [] = false
is_hidden (byte ∷ name) = byte == 46

abbrev pub visible_names : List DirEntry → List Name
visible_names entries = filter (λ name. not (is_hidden name)) (map file_name_of entries)

abbrev pub is_visible : DirEntry → Bool
is_visible entry = not (is_hidden (file_name_of entry))
