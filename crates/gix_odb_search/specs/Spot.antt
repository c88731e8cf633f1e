-- Where an index says that the object of an id is.
use Rattle.std.specs.Prelude.{ℕ, List, Option, option_map}
use Rattle.std.specs.List.{find}
use Rattle.std.specs.Ordering.{is_eq}
use Rattle.gix_hash.specs.ObjectId.{id_cmp}
use Rattle.gix_hash.specs.declared.object_id.ObjectId.{ObjectId}
use Rattle.gix_pack_read.specs.MultiIndex.{told}
use Rattle.gix_pack_read.specs.FileBytes.{FileBytes}
use Rattle.gix_pack_read.specs.Index.{index_rows}
use Rattle.gix_pack_read.specs.Rows.{PackRow, Row}
use Rattle.gix_odb_events.specs.declared.loaded.LoadedIndex.{LoadedIndex}
use Rattle.gix_odb_events.specs.declared.loaded.LoadedIndex.TheVariants.{Single, Multi}
use Rattle.gix_odb_search.specs.declared.spot.Spot.{Spot}

-- an index has one pack
abbrev pub in_single : FileBytes → ObjectId → Option Spot
in_single file id = option_map (λ (row : Row). record { place = 0; offset = row.offset }) (find (λ (row : Row). is_eq (id_cmp row.id id)) (index_rows file.kind file.bytes))

-- a multi-pack index has those that it names
abbrev pub in_multi : List ℕ → ObjectId → Option Spot
in_multi bytes id = option_map (λ (row : PackRow). record { place = row.pack; offset = row.offset }) (find (λ (row : PackRow). is_eq (id_cmp row.id id)) (told bytes).rows)

abbrev pub spot_in : LoadedIndex → ObjectId → Option Spot
spot_in (Single file) id = in_single file id
spot_in (Multi bytes) id = in_multi bytes id
