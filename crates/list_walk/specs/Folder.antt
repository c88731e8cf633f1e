-- Folders as people name them.
use Rattle.std.specs.Prelude.{ℕ, ◌==◌, Bool, true, false, List, [], ◌∷◌, ◌++◌, codes, nat_eq, Option, Some, None, Result, Ok, Err, if◌then◌else◌}
use Rattle.std.specs.List.{slice_split, starts_with}
use Rattle.odb_base.specs.Path.{Name, Path, is_name, parent_of, same_name}
use Rattle.list_walk.specs.declared.folder.Way.{Way}
use Rattle.list_walk.specs.declared.misread.Misread.{Misread}
use Rattle.list_walk.specs.declared.misread.Misread.TheVariants.{NoFolder, UpBehindName}

-- where a name begins: at the root, or where the program was started, if that is known
abbrev pub is_absolute : List ℕ → Bool
is_absolute name = starts_with nat_eq name (codes "/")

abbrev pub start_of : Option Path → List ℕ → Option Path
start_of home name = if is_absolute name then Some [] else home

-- the directory above, and above the root the root
abbrev pub or_same : Way → Option Path → Way
or_same way None = way
or_same way (Some path) = record way { path = path }

-- Up, if no name has been followed yet. A name may be a link, after which up isn't back.
abbrev pub above : Way → Result Way Misread
above way = if way.is_front then Ok (or_same way (parent_of way.path)) else Err UpBehindName

abbrev pub along : Way → Name → Result Way Misread
along way name = if is_name name then Ok (record { path = way.path ++ name ∷ []; is_front = false }) else Err NoFolder

-- where one part of a name leads: an empty one and `.` nowhere, `..` up
abbrev pub with_part : Way → Name → Result Way Misread
with_part way part =
    if same_name part [] then Ok way
    else if same_name part (codes ".") then Ok way
    else if same_name part (codes "..") then above way
    else along way part

abbrev pub led_on : (Way → Result Way Misread) → Result Way Misread → Result Way Misread
led_on further (Err why) = Err why
led_on further (Ok way) = further way

-- where parts lead one after the other
unfoldable pub led : Way → List Name → Result Way Misread
led way [] = Ok way
led way (part ∷ parts) = led_on (λ next. led next parts) (with_part way part)

abbrev pub path_at : Result Way Misread → Result Path Misread
path_at (Err why) = Err why
path_at (Ok way) = Ok way.path

abbrev pub led_from : Path → List ℕ → Result Path Misread
led_from start name = path_at (led (record { path = start; is_front = true }) (slice_split (λ b. b == 47) name))

abbrev pub folder_from : Option Path → List ℕ → Result Path Misread
folder_from None name = Err NoFolder
folder_from (Some start) name = led_from start name

-- the path of a folder by its name, which isn't empty
unfoldable pub folder_of : Option Path → List ℕ → Result Path Misread
folder_of home [] = Err NoFolder
folder_of home (first ∷ rest) = folder_from (start_of home (first ∷ rest)) (first ∷ rest)
