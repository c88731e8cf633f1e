-- Where an index says that an object is.
use Rattle.std.proofs.Common.{◌≡◌, ℕ, ◌<◌, true, List, length, map, drop, slice_get, Contains, Some, None, option_map, refl, sym, ap, ◌∙◌, subst, arith}
use Rattle.std.specs.List.{zip}
use Rattle.std.specs.Int.{w32, from_be_bytes}
use Rattle.std.proofs.lemmas.Bool.{and_parts}
use Rattle.std.proofs.lemmas.List.{length-map}
use Rattle.std.proofs.lemmas.Option.{slice_get-map, slice_get_within}
use Rattle.gix_hash.specs.declared.kind.Kind.{Kind}
use Rattle.gix_hash.specs.declared.object_id.ObjectId.{ObjectId}
use Rattle.gix_pack_read.specs.Bytes.{table}
use Rattle.gix_pack_read.specs.Rows.{Row, is_rising, offset_in}
use Rattle.gix_pack_read.proofs.ListLemmas.{zip_get}
use Rattle.gix_pack_read.proofs.RowsLemmas.{length-table}
use Rattle.gix_pack_read.proofs.SearchLemmas.{length-ids_of}
use Rattle.gix_pack_read.specs.FileBytes.{FileBytes}
use Rattle.gix_pack_read.specs.Index.{ids_place, index_ids, index_offsets, index_rows, is_index, narrow_offsets, objects_in, offsets_place, tables_agree, wide_offsets}
use Rattle.gix_odb_search.specs.Spot.{in_single}
use Rattle.gix_odb_search.specs.declared.spot.Spot.{Spot}
use Rattle.gix_odb_search.proofs.SpotLemmas.{first_parts, found, missing}

abbrev id_seen : Row → ObjectId
id_seen row = row.id

abbrev spot_of : Row → Spot
spot_of row = record { place = 0; offset = row.offset }

abbrev row_of : ObjectId × ℕ → Row
row_of pair = record { id = pair.0; offset = pair.1 }

module _ (kind : Kind) (bytes : List ℕ) where
  same_length : length (index_ids kind bytes) ≡ length (index_offsets kind bytes)
  same_length =
      let n = objects_in bytes in
      let rest = drop (offsets_place kind n) bytes in
      length-ids_of kind n (drop ids_place bytes)
      ∙ sym (length-map (narrow_offsets kind bytes) (offset_in (wide_offsets kind bytes)) ∙ length-map (table 4 n rest) (from_be_bytes w32) ∙ length-table 4 n rest)

  ids_in_rows : map id_seen (index_rows kind bytes) ≡ index_ids kind bytes
  ids_in_rows = first_parts row_of id_seen (λ _. refl) (index_ids kind bytes) (index_offsets kind bytes) same_length

  rises : is_index kind bytes ≡ true → is_rising (index_ids kind bytes) ≡ true
  unfolding is_index tables_agree
  rises whole = (and_parts _ _ (and_parts _ _ (and_parts _ _ whole).1).0).0

  pub row_within : (n : ℕ) (id : ObjectId) → slice_get (index_ids kind bytes) n ≡ Some id → n < objects_in bytes
  row_within n id get =
      let within = slice_get_within (index_ids kind bytes) n id get in
      let long = length-ids_of kind (objects_in bytes) (drop ids_place bytes) in
      omega arith

pub single_missing : (file : FileBytes) (id : ObjectId) → ¬ (Contains (index_ids file.kind file.bytes) id) → None ≡ in_single file id
single_missing file id without =
    sym (ap (option_map spot_of) (missing id_seen id (index_rows file.kind file.bytes)
    (λ has. without (subst (λ (ids : List ObjectId). Contains ids id) (ids_in_rows file.kind file.bytes) has))))

pub single_found : (file : FileBytes) (n : ℕ) (id : ObjectId) (offset : ℕ) → is_index file.kind file.bytes ≡ true → slice_get (index_ids file.kind file.bytes) n ≡ Some id
    → slice_get (index_offsets file.kind file.bytes) n ≡ Some offset → Some (record { place = 0; offset = offset }) ≡ in_single file id
single_found file n id offset whole own at =
    let ids = index_ids file.kind file.bytes in
    let offsets = index_offsets file.kind file.bytes in
    sym (ap (option_map spot_of) (found id_seen id (index_rows file.kind file.bytes) n (record { id = id; offset = offset })
    (subst (λ (ids : List ObjectId). is_rising ids ≡ true) (sym (ids_in_rows file.kind file.bytes)) (rises file.kind file.bytes whole))
    (slice_get-map row_of (zip ids offsets) n ∙ ap (option_map row_of) (zip_get ids offsets n id offset own at)) refl))
