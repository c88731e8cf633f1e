-- What always holds of the stack of a walk, as a statement and as a test.
use Rattle.std.specs.Prelude.{◌≡◌, ℕ, ◌+◌, ◌≤◌, ◌==◌, ◌&&◌, ◌||◌, Bool, true, false, not, nat_lt, is_some, List, [], ◌∷◌, length, reverse, take, Option, Some, None, Ok, Err, IfSome}
use lib.Pointwise.{pointwise}
use Rattle.odb_base.specs.Path.{Path, same_name}
use Rattle.walkdir.specs.Entry.{is_dir}
use Rattle.walkdir.specs.Error.{is_stream_refusal}
use Rattle.walkdir.specs.Walk.{Item}
use Rattle.walkdir.specs.declared.builder.Options.{Options}
use Rattle.walkdir.specs.Within.{LiesIn, is_child, lies_in}
use Rattle.walkdir.specs.declared.dent.DirEntry.{DirEntry}
use Rattle.walkdir.specs.declared.error.ErrorInner.{ErrorInner}
use Rattle.walkdir.specs.declared.error.ErrorInner.TheVariants.{Io, Loop, NoMemory}
use Rattle.walkdir.specs.declared.directory.DirList.{DirList}
use Rattle.walkdir.specs.declared.directory.Items.{Items}
use Rattle.walkdir.specs.Directory.{AreAt, HasNothing, held, stream_in}
use Rattle.walkdir.specs.Stack.{own_streams}

-- ---- what always holds of a stack

-- the entry of a directory that is given after its contents is as deep as the directory itself, and what was read of it
-- one deeper. From the greatest depth on a directory has nothing
pub record FitsAt (options : Options) (depth : ℕ) (list : DirList) : Type 0 where
  pub after : IfSome list.after (λ entry. (entry.depth ≡ depth) × (is_dir entry ≡ true) × (options.contents_first ≡ true))
  pub children : AreAt list.path (depth + 1) (held list.items)
  pub deepest : options.max_depth ≤ depth → HasNothing list.items

-- a directory is in the one above it, and so is its entry that is given after its contents
abbrev pub IsNested : DirList → List DirList → Type 0
IsNested list outer = LiesIn list.path outer × IfSome list.after (λ entry. LiesIn entry.path outer)

unfoldable pub Fits : Options → List DirList → Type 0
Fits options [] = Unit {0}
Fits options (list ∷ outer) = FitsAt options (length outer) list × IsNested list outer × Fits options outer

-- A walk's options, its root until it begins, its directories, the outermost first, and the number of those that have
-- no stream any more.
pub record IsSound (options : Options) (start : Option Path) (lists : List DirList) (first_open : ℕ) : Type 0 where
  pub begun : IfSome start (λ _. lists ≡ [])
  pub some_open : 1 ≤ options.max_open
  pub in_range : first_open ≤ length lists
  pub few : length lists ≤ first_open + options.max_open
  pub closed : own_streams (take first_open lists) ≡ []
  pub fits : Fits options (reverse lists)

-- ---- as tests

abbrev pub same_path : Path → Path → Bool
same_path = pointwise same_name

abbrev pub is_of_directory : Path → ℕ → ℕ → ErrorInner → Bool
is_of_directory path depth own (Io (Some at) error) = same_path at path && (own + 1 == depth)
is_of_directory path depth own (Io None error) = (own == depth) && is_stream_refusal error
is_of_directory path depth own (Loop ancestor child) = false
is_of_directory path depth own NoMemory = true

abbrev pub is_at : Path → ℕ → Item → Bool
is_at path depth (Ok entry) = (entry.depth == depth) && is_child path entry.path
is_at path depth (Err error) = is_of_directory path depth error.depth error.inner

unfoldable pub are_at : Path → ℕ → List Item → Bool
are_at path depth [] = true
are_at path depth (item ∷ items) = is_at path depth item && are_at path depth items

abbrev pub is_after : Options → ℕ → Option DirEntry → Bool
is_after options depth None = true
is_after options depth (Some entry) = (entry.depth == depth) && (is_dir entry && options.contents_first)

abbrev pub has_nothing : Items → Bool
has_nothing items = not (is_some (stream_in items)) && (length (held items) == 0)

abbrev pub fits_at : Options → ℕ → DirList → Bool
fits_at options depth list =
    is_after options depth list.after
    && (are_at list.path (depth + 1) (held list.items) && (nat_lt depth options.max_depth || has_nothing list.items))

abbrev pub after_lies_in : Option DirEntry → List DirList → Bool
after_lies_in None outer = true
after_lies_in (Some entry) outer = lies_in entry.path outer

abbrev pub is_nested : DirList → List DirList → Bool
is_nested list outer = lies_in list.path outer && after_lies_in list.after outer

unfoldable pub all_fit : Options → List DirList → Bool
all_fit options [] = true
all_fit options (list ∷ outer) = fits_at options (length outer) list && (is_nested list outer && all_fit options outer)

unfoldable pub is_sound : Options → Option Path → List DirList → ℕ → Bool
is_sound options start lists first_open =
    (not (is_some start) || (length lists == 0)) && ((length (own_streams (take first_open lists)) == 0) && all_fit options (reverse lists))
