-- Paths: an absolute list of names. The empty list is the root, `/`.
use Rattle.std.specs.Prelude.{◌≡◌, ◌≢◌, ◌++◌, ℕ, ◌==◌, ◌||◌, Bool, not, List, [], ◌∷◌, length, take, codes, nat_eq, false, Option, Some, None, if◌then◌else◌}
use Rattle.std.specs.List.{slice_split, list_any, list_all, flat_map, after_last}
use Rattle.std.specs.Ordering.{nat_cmp}
use Rattle.std.specs.Cmp.Lexicographic.{slice_cmp}
use Rattle.std.specs.declared.cmp.Ordering.{Ordering}
use lib.Pointwise.{pointwise}

-- a name, as its bytes
abbrev pub Name : Type 0
Name = List ℕ

abbrev pub Path : Type 0
Path = List Name

-- the byte before each name in a path's text: `/`
abbrev pub slash : ℕ
slash = 47

-- the byte before an extension: `.`
abbrev pub dot : ℕ
dot = 46

-- the byte that ends a text of the system, and so is in no name
abbrev pub nul : ℕ
nul = 0

-- whether two names have the same bytes
abbrev pub same_name : Name → Name → Bool
same_name = pointwise nat_eq

-- whether bytes are a name: not empty, not `.` or `..`, and without NUL and `/`
unfoldable pub is_name : Name → Bool
is_name name =
    not (same_name name [] || same_name name (codes ".") || same_name name (codes "..") || list_any (λ b. b == nul) name || list_any (λ b. b == slash) name)

-- the order of names, by their bytes; that of paths, name by name
abbrev pub name_cmp : Name → Name → Ordering
name_cmp = slice_cmp nat_cmp

abbrev pub path_cmp : Path → Path → Ordering
path_cmp = slice_cmp name_cmp

-- the text of a path: a slash before each name, and `/` for the root
unfoldable pub text_of : Path → List ℕ
text_of [] = codes "/"
text_of (name ∷ names) = flat_map (λ n. slash ∷ n) (name ∷ names)

-- the names between slashes after the first one; if nothing follows it, the path is the root
unfoldable pub named : List Name → Option Path
named [] = None
named ([] ∷ []) = Some []
named (name ∷ names) = if list_all is_name (name ∷ names) then Some (name ∷ names) else None

-- nothing precedes the first slash
unfoldable pub rooted : List Name → Option Path
rooted [] = None
rooted ([] ∷ names) = named names
rooted ((b ∷ bytes) ∷ names) = None

-- the path that a text spells, if it spells one
unfoldable pub path_of : List ℕ → Option Path
path_of text = rooted (slice_split (λ b. b == slash) text)

-- the directory that contains a path, by its names; none for the root
unfoldable pub parent_of : Path → Option Path
parent_of [] = None
parent_of (name ∷ names) = Some (take (length names) (name ∷ names))

unfoldable pub last_name : Path → Option Name
last_name [] = None
last_name (name ∷ []) = Some name
last_name (name ∷ other ∷ names) = last_name (other ∷ names)

-- whether a dot follows the first byte
unfoldable pub has_extension : Name → Bool
has_extension [] = false
has_extension (first ∷ rest) = list_any (λ b. b == dot) rest

-- what follows the last dot, unless there is none or only one at the front
unfoldable pub extension_of : Name → Option (List ℕ)
extension_of name = if has_extension name then Some (after_last (λ b. b == dot) name) else None

-- both lists of names go on with this one, or don't go on alike
abbrev pub HasSameFirst : List Name → List Name → Option Name → Type 0
HasSameFirst (own ∷ owns) (its ∷ others) (Some name) = (own ≡ name) × (its ≡ name)
HasSameFirst (own ∷ owns) (its ∷ others) None = own ≢ its
HasSameFirst owns others (Some name) = ⊥
HasSameFirst owns others None = Unit {0}

-- two paths begin with these names, and don't go on alike
pub record IsCommonFront (path other front : Path) : Type 0 where
  pub own : List Name
  pub its : List Name
  pub path_is : path ≡ front ++ own
  pub other_is : other ≡ front ++ its
  pub apart : HasSameFirst own its None
