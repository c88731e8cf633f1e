-- Which packs were absent, by the paths of each slot. No public clause cites this.
use Rattle.std.specs.Prelude.{◌≡◌, ℕ, Bool, false, List, Option, Some, None}
use Rattle.std.specs.BTreeMap.{BTreeMap, get}
use Rattle.std.specs.BTreeSet.{BTreeSet, contains}
use Rattle.std.specs.Ordering.{nat_cmp}
use Rattle.odb_base.specs.Path.{Path, path_cmp}
use Rattle.gix_odb_search.specs.Search.{was_absent}
use Rattle.gix_odb_search.specs.declared.search.AbsentFile.{AbsentFile}

-- whether a path is among those of a slot
abbrev pub is_among : Option (BTreeSet Path) → Path → Bool
is_among None path = false
is_among (Some paths) path = contains path_cmp paths path

-- whether a path is listed under a slot
abbrev pub in_index : BTreeMap ℕ (BTreeSet Path) → (slot : ℕ) → Path → Bool
in_index index slot path = is_among (get nat_cmp index slot) path

-- a path is listed under a slot exactly where its pack is in the list
abbrev pub IsIndexOf : BTreeMap ℕ (BTreeSet Path) → List AbsentFile → Type 0
IsIndexOf index list = (slot : ℕ) (path : Path) → in_index index slot path ≡ was_absent list slot path
