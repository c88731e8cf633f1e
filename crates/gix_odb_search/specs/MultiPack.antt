-- Multi-pack indices: when a store can use one, and which indices it names.
use Rattle.std.specs.Prelude.{ℕ, ◌++◌, ◌&&◌, ◌||◌, Bool, true, false, not, if◌then◌else◌, List, [], ◌∷◌, length, map, nat_le, Option, Some, None, is_some}
use Rattle.std.specs.List.{filter, flat_map, list_any}
use Rattle.odb_base.specs.Path.{Name, Path, is_name}
use Rattle.gix_hash.specs.declared.kind.Kind.{Kind}
use Rattle.gix_hash.specs.declared.kind.Kind.TheVariants.{Sha1, Sha256}
use Rattle.gix_pack_read.specs.Bytes.{is_within}
use Rattle.gix_pack_read.specs.MultiIndex.{MultiIndex, multi_index_of, told}
use Rattle.gix_odb_events.specs.PackFiles.{same_path}
use Rattle.gix_odb_events.specs.PackPath.{folder_of}
use Rattle.gix_odb_events.specs.declared.listing.ListingRow.{ListingRow}
use Rattle.gix_odb_search.specs.declared.multi_pack.MultiUse.{MultiUse}

-- ---- when it can be used

-- the most packs that a multi-pack index of a store names: a pack's place in it has 16 bits
abbrev pub most_packs : ℕ
most_packs = 65535

abbrev pub same_hash : Kind → Kind → Bool
same_hash Sha1 Sha1 = true
same_hash Sha256 Sha256 = true
same_hash hash other = false

abbrev pub is_of_hash : Kind → Option MultiIndex → Bool
is_of_hash hash None = false
is_of_hash hash (Some index) = same_hash hash index.kind

-- bytes are a multi-pack index of a store that uses them: within its limit, and of its hash
abbrev pub is_multi_index : Option MultiUse → List ℕ → Bool
is_multi_index None bytes = false
is_multi_index (Some multi) bytes = is_within multi.limit (length bytes) && is_of_hash multi.hash (multi_index_of bytes)

-- the number of packs that it names
abbrev pub packs_named : List ℕ → ℕ
packs_named bytes = length (told bytes).names

abbrev pub is_usable : Option MultiUse → List ℕ → Bool
is_usable multi bytes = is_multi_index multi bytes && nat_le (packs_named bytes) most_packs

-- ---- which indices it names

-- the path in a folder of an index with a name. Each name in a multi-pack index gives one; a text that gives none gives the folder
abbrev pub index_in : Path → Name → Path
index_in folder name = if is_name name then folder ++ name ∷ [] else folder

-- the indices that a multi-pack index names are next to it
abbrev pub paths_named : Path → Option (List ℕ) → List Path
paths_named path None = []
paths_named path (Some bytes) = map (index_in (folder_of path)) (told bytes).names

-- the indices that the multi-pack indices among rows name
abbrev pub named_in : List ListingRow → List Path
named_in rows = flat_map (λ row. paths_named row.path row.multi) rows

abbrev pub is_among : List Path → Path → Bool
is_among paths path = list_any (λ own. same_path own path) paths

-- rows without the indices that a multi-pack index among them names
abbrev pub unnamed : List ListingRow → List ListingRow
unnamed rows = filter (λ row. is_some row.multi || not (is_among (named_in rows) row.path)) rows
