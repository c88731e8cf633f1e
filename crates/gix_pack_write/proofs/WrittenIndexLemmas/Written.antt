-- The index that is written is that of its objects, and is read back.
use Rattle.std.proofs.Common.{◌≡◌, ℕ, ◌*◌, ◌^◌, ◌<◌, true, List, [], ◌++◌, length, map, replicate, Some, refl, sym, ap, subst, ◌∙◌, arith}
use Rattle.std.proofs.lemmas.Simd.{map-map}
use Rattle.std.specs.List.{AllByRecursion, filter, flat_map}
use Rattle.std.proofs.lemmas.List.{length-map}
use Rattle.gix_hash.specs.Hash.{hash_of}
use Rattle.gix_hash.specs.ObjectId.{bytes_of, IsId}
use Rattle.gix_hash.specs.declared.kind.Kind.{Kind}
use Rattle.gix_hash.specs.declared.object_id.ObjectId.{ObjectId}
use Rattle.gix_object.specs.Data.{Object}
use Rattle.gix_pack_read.specs.Index.{rows_of_index, signature}
use Rattle.gix_pack_write.specs.PlacedIndexRow.{front_of_rows, index_placed}
use Rattle.gix_pack_write.specs.PlacedRow.{id_of, offset_of, placed_from, row_of, IsPlaced}
use Rattle.gix_pack_read.specs.Rows.{Row, counts_of, is_rising}
use Rattle.gix_pack_write.specs.WrittenIndex.{index_bytes, index_front, index_of, IsIndexOf, ReadsIndex}
use Rattle.gix_pack_write.specs.WrittenTables.{is_wide, long_number_bytes, narrow_from, number_bytes, table_of}
use Rattle.gix_pack_read.specs.Pack.{entries_place}
use Rattle.gix_pack_write.specs.WrittenPack.{pack_front, pack_hash, rows_in_order}
use Rattle.gix_pack_write.specs.declared.rows.Placed.{Placed}
use Rattle.gix_pack_write.proofs.PlacedLemmas.{length-placed_from, rows_placed}
use Rattle.gix_pack_write.proofs.TableLemmas.{each_of_table, is_table, length-table_of, rising-table_of}
use Rattle.gix_pack_write.proofs.TableLemmas.Seen.{map-table_of}
use Rattle.gix_pack_write.proofs.WrittenTableLemmas.{length-hash_of}
use Rattle.gix_pack_write.proofs.WrittenIndexLemmas.{all_nested, index_read}

-- ---- what is written

abbrev id_seen : Row → ObjectId
id_seen row = row.id

abbrev offset_seen : Row → ℕ
offset_seen row = row.offset

front_seen : (rows : List Placed) (pack : List ℕ) → index_front (map id_seen (map row_of rows)) (map offset_seen (map row_of rows)) pack ≡ front_of_rows rows pack
unfolding index_front
front_seen rows pack =
    let ids : map id_seen (map row_of rows) ≡ map id_of rows = map-map id_seen row_of rows in
    let offsets : map offset_seen (map row_of rows) ≡ map offset_of rows = map-map offset_seen row_of rows in
    ap (λ (i : List ObjectId). index_front i (map offset_seen (map row_of rows)) pack) ids ∙ ap (λ (o : List ℕ). index_front (map id_of rows) o pack) offsets
    ∙ ap (λ (k : ℕ). signature ++ number_bytes (counts_of (map id_of rows)) ++ flat_map bytes_of (map id_of rows) ++ replicate (4 * k) 0 ++ number_bytes (narrow_from 0 (map offset_of rows))
    ++ long_number_bytes (filter is_wide (map offset_of rows)) ++ pack) (length-map rows id_of)

bytes_seen : (hash : Kind) (rows : List Placed) (pack : List ℕ) → index_bytes hash (map row_of rows) pack ≡ front_of_rows rows pack ++ bytes_of (hash_of hash (front_of_rows rows pack))
unfolding index_bytes
bytes_seen hash rows pack = ap (λ (front : List ℕ). front ++ bytes_of (hash_of hash front)) (front_seen rows pack)

table_seen : (hash : Kind) (objects : List Object) → map row_of (index_placed hash objects) ≡ table_of id_seen (rows_in_order hash objects)
table_seen hash objects = map-table_of row_of id_of id_seen (λ (row : Placed). refl) (placed_from hash 0 entries_place objects) ∙ ap (table_of id_seen) (rows_placed hash 0 objects)

pub index_written : (hash : Kind) (objects : List Object) (rows : List Placed) (front : List ℕ) → rows ≡ index_placed hash objects → front ≡ front_of_rows rows (pack_hash hash objects)
    → front ++ bytes_of (hash_of hash front) ≡ index_of hash objects
unfolding index_of
index_written hash objects rows front rows_are front_is =
    ap (λ (bytes : List ℕ). bytes ++ bytes_of (hash_of hash bytes)) front_is ∙ sym (bytes_seen hash rows (pack_hash hash objects))
    ∙ ap (λ (seen : List Row). index_bytes hash seen (pack_hash hash objects)) (ap (map row_of) rows_are ∙ table_seen hash objects)

pub is_index_of : (hash : Kind) (objects : List Object) → IsIndexOf hash objects (index_of hash objects)
unfolding index_of
is_index_of hash objects =
    record {
      rows = table_of id_seen (rows_in_order hash objects);
      table = is_table id_seen (rows_in_order hash objects);
      bytes_are = refl;
    }

-- ---- what is known of the rows in between

pub index_rows_are : (hash : Kind) (objects : List Object) (none given table rows : List Placed) → none ≡ [] → given ≡ none ++ placed_from hash 0 entries_place objects
    → table ≡ table_of id_of given → rows ≡ table → rows ≡ index_placed hash objects
index_rows_are hash objects none given table rows empty given_is table_is rows_is =
    rows_is ∙ table_is ∙ ap (table_of id_of) (given_is ∙ ap (λ (first : List Placed). first ++ placed_from hash 0 entries_place objects) empty)

pub each_given : (hash : Kind) (none given whole : List Placed) → none ≡ [] → given ≡ none ++ whole → (AllByRecursion (IsPlaced hash) none → AllByRecursion (IsPlaced hash) given)
    → AllByRecursion (IsPlaced hash) whole
each_given hash none given whole empty given_is keeps =
    subst (AllByRecursion (IsPlaced hash)) (given_is ∙ ap (λ (first : List Placed). first ++ whole) empty)
    (keeps (subst (AllByRecursion (IsPlaced hash)) (sym empty) tt))

module _ (hash : Kind) (objects : List Object) (rows : List Placed) (are : rows ≡ index_placed hash objects) where
  pub index_few : length objects < 2 ^ 31 → length rows < 2 ^ 31
  index_few few =
      let fewer = length-table_of id_of (placed_from hash 0 entries_place objects) in
      let as_many = length-placed_from hash 0 entries_place objects in
      let same : length rows ≡ length (index_placed hash objects) = ap (λ (r : List Placed). length r) are in
      omega arith

  pub index_rising : is_rising (map id_of rows) ≡ true
  index_rising = ap (λ (r : List Placed). is_rising (map id_of r)) are ∙ rising-table_of id_of (placed_from hash 0 entries_place objects)

  pub index_each : AllByRecursion (IsPlaced hash) (placed_from hash 0 entries_place objects) → AllByRecursion (IsPlaced hash) rows
  index_each placed = subst (AllByRecursion (IsPlaced hash)) (sym are) (each_of_table id_of (IsPlaced hash) (placed_from hash 0 entries_place objects) placed)

-- the tables one after another
pub front_steps : (rows : List Placed) (pack own l0 l1 l2 l3 l4 l5 l6 : List ℕ) → l0 ≡ signature → l1 ≡ l0 ++ number_bytes (counts_of (map id_of rows)) → l2 ≡ l1 ++ flat_map bytes_of (map id_of rows)
    → l3 ≡ l2 ++ replicate (4 * length rows) 0 → l4 ≡ l3 ++ number_bytes (narrow_from 0 (map offset_of rows)) → l5 ≡ l4 ++ long_number_bytes (filter is_wide (map offset_of rows))
    → l6 ≡ l5 ++ own → own ≡ pack
    → l6 ≡ front_of_rows rows pack
front_steps rows pack own l0 l1 l2 l3 l4 l5 l6 a b c d e f g h =
    let one = b ∙ ap (λ (l : List ℕ). l ++ number_bytes (counts_of (map id_of rows))) a in
    let two = c ∙ ap (λ (l : List ℕ). l ++ flat_map bytes_of (map id_of rows)) one in
    let three = d ∙ ap (λ (l : List ℕ). l ++ replicate (4 * length rows) 0) two in
    let four = e ∙ ap (λ (l : List ℕ). l ++ number_bytes (narrow_from 0 (map offset_of rows))) three in
    let five = f ∙ ap (λ (l : List ℕ). l ++ long_number_bytes (filter is_wide (map offset_of rows))) four in
    g ∙ ap (λ (l : List ℕ). l ++ own) five ∙ ap (λ (p : List ℕ). signature ++ number_bytes (counts_of (map id_of rows)) ++ flat_map bytes_of (map id_of rows)
    ++ replicate (4 * length rows) 0 ++ number_bytes (narrow_from 0 (map offset_of rows)) ++ long_number_bytes (filter is_wide (map offset_of rows)) ++ p) h

-- the index of objects is read back, where their ids are ids and their offsets fit
pub index_read_back : (hash : Kind) (objects : List Object) (rows : List Placed) (front : List ℕ) → rows ≡ index_placed hash objects → front ≡ front_of_rows rows (pack_hash hash objects)
    → IsId (hash_of hash (pack_front objects)) → IsId (hash_of hash front) → length objects < 2 ^ 31 → AllByRecursion (IsPlaced hash) (placed_from hash 0 entries_place objects)
    → ReadsIndex hash objects (front ++ bytes_of (hash_of hash front))
index_read_back hash objects rows front rows_are front_is pack_id own_id few placed =
    let pack = pack_hash hash objects in
    let own = bytes_of (hash_of hash front) in
    let nested = all_nested signature (number_bytes (counts_of (map id_of rows))) (flat_map bytes_of (map id_of rows)) (replicate (4 * length rows) 0)
    (number_bytes (narrow_from 0 (map offset_of rows)))
    (long_number_bytes (filter is_wide (map offset_of rows))) pack own in
    record {
      rows = table_of id_seen (rows_in_order hash objects);
      table = is_table id_seen (rows_in_order hash objects);
      read =
          ap (rows_of_index hash) (ap (λ (f : List ℕ). f ++ own) front_is ∙ nested)
          ∙ index_read hash rows pack own (index_each hash objects rows rows_are placed) (index_few hash objects rows rows_are few) (index_rising hash objects rows rows_are)
          (length-hash_of hash (pack_front objects) pack_id) (length-hash_of hash front own_id)
          ∙ ap (λ (seen : List Row). Some seen) (ap (map row_of) rows_are ∙ table_seen hash objects);
    }
