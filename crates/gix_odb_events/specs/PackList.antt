-- Lists of packs: whether their paths are in ascending order, and where one is.
use Rattle.std.specs.Prelude.{◌≡◌, ℕ, Bool, true, false, List, [], ◌∷◌, take, slice_get, Option, Some, None, ⊤}
use Rattle.std.specs.List.{list_any}
use Rattle.std.specs.Option.{option_map_or}
use Rattle.std.specs.declared.cmp.Ordering.TheVariants.{Less}
use Rattle.odb_base.specs.Path.{Path, path_cmp}
use Rattle.gix_odb_events.specs.PackFiles.{PackFile, same_path}

-- the packs of a list: one alone, or several
abbrev pub packs_in : Option PackFile → List PackFile → List PackFile
packs_in None many = many
packs_in (Some pack) many = pack ∷ []

-- each path is before the next
abbrev pub IsRising : List PackFile → Type 0
IsRising [] = ⊤
IsRising (pack ∷ []) = ⊤
IsRising (pack ∷ next ∷ rest) = (path_cmp pack.path next.path ≡ Less) × IsRising (next ∷ rest)

-- the paths are in ascending order where they are known to be
abbrev pub IsRisingIf : Bool → List PackFile → Type 0
IsRisingIf false packs = ⊤
IsRisingIf true packs = IsRising packs

abbrev pub has_path : Path → PackFile → Bool
has_path path pack = same_path pack.path path

-- whether there is a pack, and it has a path
abbrev pub has_path_at : Path → Option PackFile → Bool
has_path_at path found = option_map_or (has_path path) found false

-- the first pack of a path is at a place
pub record HasFirst (path : Path) (packs : List PackFile) (place : ℕ) : Type 0 where
  pub here : has_path_at path (slice_get packs place) ≡ true
  pub before : list_any (has_path path) (take place packs) ≡ false
