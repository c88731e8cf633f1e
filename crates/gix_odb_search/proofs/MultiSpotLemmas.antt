-- Where a multi-pack index says that an object is.
use Rattle.std.proofs.Common.{◌≡◌, ℕ, Bool, true, false, cond, List, length, map, slice_get, Contains, Option, Some, None, option_map, refl, sym, ap, ◌∙◌}
use Rattle.std.specs.Prelude.{option_and_then}
use Rattle.std.proofs.lemmas.Bool.{and_parts}
use Rattle.std.proofs.lemmas.Option.{same_Some, slice_get-map, slice_get_read}
use Rattle.gix_hash.specs.declared.kind.Kind.{Kind}
use Rattle.gix_hash.specs.declared.object_id.ObjectId.{ObjectId}
use Rattle.gix_pack_read.specs.MultiIndex.{MultiIndex, Parts, are_parts, multi_index_from, multi_index_of, objects_in, offset_row_len, offset_rows, pack_row, part_ids, parts_of, rows_of, told}
use Rattle.gix_pack_read.specs.MultiIndex.Chunks.{kind_in, packs_in}
use Rattle.gix_pack_read.specs.Rows.{PackRow, is_rising}
use Rattle.gix_pack_read.proofs.RowsLemmas.{length-table}
use Rattle.gix_pack_read.proofs.SearchLemmas.{length-ids_of}
use Rattle.gix_odb_search.specs.Spot.{in_multi}
use Rattle.gix_odb_search.specs.declared.spot.Spot.{Spot}
use Rattle.gix_odb_search.proofs.SpotLemmas.{first_parts, found, missing}

abbrev id_seen : PackRow → ObjectId
id_seen row = row.id

abbrev pub spot_of : PackRow → Spot
spot_of row = record { place = row.pack; offset = row.offset }

-- ---- the ids of a parsed index rise

pub if_some : {X : Type 0} (b : Bool) (o : Option X) (x : X) → cond b o None ≡ Some x → o ≡ Some x
if_some true o x h = h
if_some false o x h = cc h

pub then_some : {X : Type 0} (b : Bool) (y x : X) → cond b (Some y) None ≡ Some x → (b ≡ true) × (y ≡ x)
then_some true y x h = (refl, same_Some y x h)
then_some false y x h = cc h

ids_in_rows : (kind : Kind) (parts : Parts) → map id_seen (rows_of kind parts) ≡ part_ids kind parts
ids_in_rows kind parts =
    first_parts (pack_row parts.wides) id_seen (λ _. refl) (part_ids kind parts) (offset_rows parts)
    (length-ids_of kind (objects_in parts) parts.ids ∙ sym (length-table offset_row_len (objects_in parts) parts.offsets))

parts_rise : (kind : Kind) (packs : ℕ) (parts : Parts) → are_parts kind packs parts ≡ true → is_rising (part_ids kind parts) ≡ true
unfolding are_parts
parts_rise kind packs parts h = (and_parts _ _ (and_parts _ _ (and_parts _ _ h).0).0).1

index_rises : (kind : Kind) (packs : ℕ) (parts : Parts) (index : MultiIndex) → multi_index_from kind packs parts ≡ Some index → is_rising (map id_seen index.rows) ≡ true
unfolding multi_index_from
index_rises kind packs parts index is =
    let made = then_some (are_parts kind packs parts) _ index is in
    ap (λ (i : MultiIndex). is_rising (map id_seen i.rows)) (sym made.1) ∙ ap is_rising (ids_in_rows kind parts) ∙ parts_rise kind packs parts made.0

with_parts : (kind : Kind) (packs : ℕ) (parts : Option Parts) (index : MultiIndex) → option_and_then (λ (p : Parts). multi_index_from kind packs p) parts ≡ Some index
    → is_rising (map id_seen index.rows) ≡ true
with_parts kind packs None index is = cc is
with_parts kind packs (Some parts) index is = index_rises kind packs parts index is

rises : (bytes : List ℕ) (index : MultiIndex) → multi_index_of bytes ≡ Some index → is_rising (map id_seen index.rows) ≡ true
unfolding multi_index_of
rises bytes index is = with_parts (kind_in bytes) (packs_in bytes) (parts_of bytes) index (if_some _ _ index is)

-- ---- where an object is

by_parts : (row : Option PackRow) (id : ObjectId) (pack offset : ℕ) → option_map id_seen row ≡ Some id → option_map (λ (row : PackRow). row.pack) row ≡ Some pack
    → option_map (λ (row : PackRow). row.offset) row ≡ Some offset → row ≡ Some (record { id = id; pack = pack; offset = offset })
by_parts None id pack offset own its at = cc own
by_parts (Some row) id pack offset own its at =
    let same_id : row.id ≡ id = same_Some row.id id own in
    let same_pack : row.pack ≡ pack = same_Some row.pack pack its in
    let same_offset : row.offset ≡ offset = same_Some row.offset offset at in
    ap (λ (x : ObjectId). Some (record { id = x; pack = row.pack; offset = row.offset })) same_id
    ∙ ap (λ (x : ℕ). Some (record { id = id; pack = x; offset = row.offset })) same_pack
    ∙ ap (λ (x : ℕ). Some (record { id = id; pack = pack; offset = x })) same_offset

-- a row that has the id says where the object is
pub row_spot : (bytes : List ℕ) (id : ObjectId) (row : PackRow) → multi_index_of bytes ≡ Some (told bytes) → Contains (told bytes).rows row → row.id ≡ id
    → in_multi bytes id ≡ Some (spot_of row)
row_spot bytes id row whole (n, within, is) own =
    let rows = (told bytes).rows in
    ap (option_map spot_of)
    (found id_seen id rows n row (rises bytes (told bytes) whole) (slice_get_read rows (length rows) n row refl within (sym is)) own)

pub multi_missing : (bytes : List ℕ) (id : ObjectId) → ¬ (Contains (map (λ (row : PackRow). row.id) (told bytes).rows) id) → None ≡ in_multi bytes id
multi_missing bytes id without = sym (ap (option_map spot_of) (missing id_seen id (told bytes).rows without))

pub multi_found : (bytes : List ℕ) (n : ℕ) (id : ObjectId) (pack offset : ℕ) → multi_index_of bytes ≡ Some (told bytes)
    → slice_get (map (λ (row : PackRow). row.id) (told bytes).rows) n ≡ Some id
    → option_map (λ (row : PackRow). row.pack) (slice_get (told bytes).rows n) ≡ Some pack
    → option_map (λ (row : PackRow). row.offset) (slice_get (told bytes).rows n) ≡ Some offset
    → Some (record { place = pack; offset = offset }) ≡ in_multi bytes id
multi_found bytes n id pack offset whole own its at =
    let rows = (told bytes).rows in
    let row = by_parts (slice_get rows n) id pack offset (sym (slice_get-map id_seen rows n) ∙ own) its at in
    sym (ap (option_map spot_of) (found id_seen id rows n (record { id = id; pack = pack; offset = offset }) (rises bytes (told bytes) whole) row refl))
