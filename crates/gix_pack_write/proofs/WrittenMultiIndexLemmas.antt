-- Multi-pack indices as they are written: their chunks, and the table of these.
pub mod Loops
use Rattle.std.proofs.Common.{◌≡◌, ℕ, ◌+◌, ◌-◌, ◌*◌, ◌^◌, ◌<◌, ◌≤◌, ◌&&◌, Bool, true, false, List, [], ◌∷◌, ◌++◌, length, map, drop, get_or, codes, refl, sym, ap, subst, ◌∙◌, arith}
use Rattle.std.proofs.lemmas.Simd.{map-map}
use Rattle.std.specs.List.{AllByRecursion, flat_map, list_all, sum_by}
use Rattle.std.specs.Int.{w32, to_be_bytes}
use Rattle.std.proofs.lemmas.List.{drop_all, drop_more, length-map}
use Rattle.std.proofs.lemmas.List.Sums.{sum_by-cons}
use Rattle.gix_hash.specs.Hash.{hash_of}
use Rattle.gix_hash.specs.ObjectId.{bytes_of}
use Rattle.gix_hash.specs.declared.kind.Kind.{Kind}
use Rattle.gix_hash.specs.declared.object_id.ObjectId.{ObjectId}
use Rattle.gix_pack_read.specs.MultiIndex.Chunks.{Chunk}
use Rattle.gix_pack_read.specs.MultiIndex.Held.{are_names, is_index_name, names_rise}
use Rattle.gix_pack_write.specs.MultiIndexChunks.{below_first, chunk_seen, front_with, objects_over, offset_chunks, one_chunk}
use Rattle.gix_pack_write.specs.PlacedRow.{IsPlaced, id_of, offset_of, pack_of}
use Rattle.gix_pack_write.specs.PlacedPackRow.{multi_placed, pack_row_of, placed_in}
use Rattle.gix_pack_read.specs.Rows.{PackRow, counts_of, is_rising}
use Rattle.gix_pack_write.specs.WrittenTables.{number_bytes, table_of}
use Rattle.gix_pack_write.specs.WrittenMultiIndex.{Named, chunk_table, chunks_written, hash_number, multi_bytes, multi_front}
use Rattle.gix_pack_write.specs.WrittenMultiIndex.{multi_index_of_packs, name_bytes, named_seen, names_of, padded, rows_in_packs, IsMultiIndexOf, chunks_place}
use Rattle.gix_pack_write.specs.WrittenPack.{object_seen}
use Rattle.gix_pack_write.specs.declared.multi_index.writing.Chunk as kept
use Rattle.gix_pack_write.specs.declared.multi_index.named_pack.NamedPack as given
use Rattle.gix_pack_write.specs.declared.rows.Placed.{Placed}
use Rattle.gix_pack_write.proofs.PlacedPackRowLemmas.{length-placed_in, pack_rows_placed}
use Rattle.gix_pack_write.proofs.TableLemmas.{each_of_table, is_table, length-table_of, rising-table_of}
use Rattle.gix_pack_write.proofs.TableLemmas.Seen.{map-table_of}

-- ---- the whole

abbrev id_seen : PackRow → ObjectId
id_seen row = row.id

abbrev offset_seen : PackRow → ℕ
offset_seen row = row.offset

abbrev pack_seen : PackRow → ℕ
pack_seen row = row.pack

-- the chunks as they are written of rows
pub chunks_seen : (names : List (List ℕ)) (rows : List Placed) → chunks_written names (map pack_row_of rows)
    ≡ record { name = codes "PNAM"; bytes = padded (name_bytes names) } ∷ record { name = codes "OIDF"; bytes = number_bytes (counts_of (map id_of rows)) }
    ∷ record { name = codes "OIDL"; bytes = flat_map bytes_of (map id_of rows) } ∷ offset_chunks (map pack_of rows) (map offset_of rows)
unfolding chunks_written
chunks_seen names rows =
    let ids : map id_seen (map pack_row_of rows) ≡ map id_of rows = map-map id_seen pack_row_of rows in
    let offsets : map offset_seen (map pack_row_of rows) ≡ map offset_of rows = map-map offset_seen pack_row_of rows in
    let packs : map pack_seen (map pack_row_of rows) ≡ map pack_of rows = map-map pack_seen pack_row_of rows in
    rw (ids, offsets, packs) refl

pub multi_table_seen : (hash : Kind) (packs : List Named) → map pack_row_of (multi_placed hash packs) ≡ table_of id_seen (rows_in_packs hash packs)
multi_table_seen hash packs = map-table_of pack_row_of id_of id_seen (λ (row : Placed). refl) (placed_in hash 0 packs) ∙ ap (table_of id_seen) (pack_rows_placed hash packs)

-- the header, the table and the chunks one after another
pub front_steps : (hash : Kind) (packs : ℕ) (chunks : List kept.Chunk) (l0 l1 l2 l3 : List ℕ) → l0 ≡ []
    → l1 ≡ l0 ++ (codes "MIDX" ++ 1 ∷ hash_number hash ∷ length chunks ∷ 0 ∷ to_be_bytes w32 packs) → l2 ≡ l1 ++ chunk_table (chunks_place (length chunks)) (map chunk_seen chunks)
    → l3 ≡ l2 ++ flat_map (λ (c : Chunk). c.bytes) (map chunk_seen chunks) → l3 ≡ front_with hash packs (map chunk_seen chunks)
front_steps hash packs chunks l0 l1 l2 l3 empty a b c =
    let seen = map chunk_seen chunks in
    let behind = flat_map (λ (d : Chunk). d.bytes) seen in
    let one = b ∙ ap (λ (l : List ℕ). l ++ chunk_table (chunks_place (length chunks)) seen)
    (a ∙ ap (λ (l : List ℕ). l ++ (codes "MIDX" ++ 1 ∷ hash_number hash ∷ length chunks ∷ 0 ∷ to_be_bytes w32 packs)) empty) in
    c ∙ ap (λ (l : List ℕ). l ++ behind) one
    ∙ ap (λ (n : ℕ). (codes "MIDX" ++ 1 ∷ hash_number hash ∷ n ∷ 0 ∷ to_be_bytes w32 packs) ++ chunk_table (chunks_place n) seen ++ behind) (sym (length-map chunks chunk_seen))

pub multi_written : (hash : Kind) (packs : List Named) (rows : List Placed) (chunks : List Chunk) (front : List ℕ) → rows ≡ multi_placed hash packs
    → chunks ≡ chunks_written (names_of packs) (map pack_row_of rows) → front ≡ front_with hash (length packs) chunks → front ++ bytes_of (hash_of hash front) ≡ multi_index_of_packs hash packs
unfolding multi_index_of_packs multi_bytes multi_front
multi_written hash packs rows chunks front rows_are chunks_are front_is =
    let seen : map pack_row_of rows ≡ table_of id_seen (rows_in_packs hash packs) = ap (map pack_row_of) rows_are ∙ multi_table_seen hash packs in
    ap (λ (bytes : List ℕ). bytes ++ bytes_of (hash_of hash bytes))
    (front_is ∙ ap (λ (n : ℕ). front_with hash n chunks) (sym (length-map packs (λ (pack : Named). pack.name)))
    ∙ ap (multi_front hash (names_of packs)) (chunks_are ∙ ap (chunks_written (names_of packs)) seen))

pub is_multi_index_of : (hash : Kind) (packs : List Named) → IsMultiIndexOf hash packs (multi_index_of_packs hash packs)
unfolding multi_index_of_packs
is_multi_index_of hash packs =
    record {
      rows = table_of id_seen (rows_in_packs hash packs);
      table = is_table id_seen (rows_in_packs hash packs);
      bytes_are = refl;
    }

-- ---- what is known of the rows in between

pub multi_rows_are : (hash : Kind) (packs : List Named) (given table rows : List Placed) → given ≡ placed_in hash 0 packs → table ≡ table_of id_of given → rows ≡ table → rows ≡ multi_placed hash packs
multi_rows_are hash packs given table rows given_is table_is rows_is = rows_is ∙ table_is ∙ ap (table_of id_of) given_is

module _ (hash : Kind) (packs : List Named) (rows : List Placed) (are : rows ≡ multi_placed hash packs) where
  pub multi_few : sum_by (λ (pack : Named). length pack.objects) packs < 2 ^ 31 → length rows < 2 ^ 31
  multi_few few =
      let fewer = length-table_of id_of (placed_in hash 0 packs) in
      let as_many = length-placed_in hash 0 packs in
      let same : length rows ≡ length (multi_placed hash packs) = ap (λ (r : List Placed). length r) are in
      omega arith

  pub multi_rising : is_rising (map id_of rows) ≡ true
  multi_rising = ap (λ (r : List Placed). is_rising (map id_of r)) are ∙ rising-table_of id_of (placed_in hash 0 packs)

  pub multi_each : AllByRecursion (IsPlaced hash) (placed_in hash 0 packs) → AllByRecursion (IsPlaced hash) rows
  multi_each placed = subst (AllByRecursion (IsPlaced hash)) (sym are) (each_of_table id_of (IsPlaced hash) (placed_in hash 0 packs) placed)

-- ---- whether a multi-index can be written

objects_more : (packs : List given.NamedPack) (i : ℕ) (pack : given.NamedPack) → i < length packs → pack ≡ get_or packs i pack
    → objects_over (map named_seen (drop i packs)) ≡ length pack.objects + objects_over (map named_seen (drop (i + 1) packs))
objects_more packs i pack below is =
    ap (λ (rest : List given.NamedPack). objects_over (map named_seen rest)) (drop_more packs i pack below ∙ ap (λ (p : given.NamedPack). p ∷ drop (i + 1) packs) (sym is))
    ∙ sum_by-cons (λ (p : Named). length p.objects) (named_seen pack) (map named_seen (drop (i + 1) packs))
    ∙ ap (λ (n : ℕ). n + objects_over (map named_seen (drop (i + 1) packs))) (length-map pack.objects object_seen)

-- the rest of the limit, one pack on
pub left_on : (packs : List given.NamedPack) (i left next : ℕ) (pack : given.NamedPack) → i < length packs → pack ≡ get_or packs i pack → length pack.objects ≤ left → next + length pack.objects ≡ left
    → objects_over (map named_seen packs) + left ≡ 2 ^ 31 - 1 + objects_over (map named_seen (drop i packs))
    → objects_over (map named_seen packs) + next ≡ 2 ^ 31 - 1 + objects_over (map named_seen (drop (i + 1) packs))
left_on packs i left next pack below is fits next_is so_far = let more = objects_more packs i pack below is in omega arith

pub left_over : (packs : List given.NamedPack) (i left : ℕ) (pack : given.NamedPack) → i < length packs → pack ≡ get_or packs i pack → left < length pack.objects → left ≤ 2 ^ 31 - 1
    → objects_over (map named_seen packs) + left ≡ 2 ^ 31 - 1 + objects_over (map named_seen (drop i packs)) → 2 ^ 31 ≤ objects_over (map named_seen packs)
left_over packs i left pack below is over within so_far = let more = objects_more packs i pack below is in omega arith

pub left_all : (packs : List given.NamedPack) (i left : ℕ) → length packs ≤ i → left ≤ 2 ^ 31 - 1
    → objects_over (map named_seen packs) + left ≡ 2 ^ 31 - 1 + objects_over (map named_seen (drop i packs)) → objects_over (map named_seen packs) < 2 ^ 31
left_all packs i left past within so_far =
    let none : objects_over (map named_seen (drop i packs)) ≡ 0 = ap (λ (rest : List given.NamedPack). objects_over (map named_seen rest)) (drop_all i packs past) in
    omega arith

rise_more : (name : List ℕ) (names : List (List ℕ)) → names_rise (name ∷ names) ≡ (below_first name names && names_rise names)
unfolding names_rise
rise_more name [] = refl
rise_more name (next ∷ names) = refl

shuffled : (a b c d : Bool) → ((a && b) && (c && d)) ≡ ((a && c) && (b && d))
shuffled true true c d = refl
shuffled true false true d = refl
shuffled true false false d = refl
shuffled false b c d = refl

-- the first name, and the others
pub names_more : (name : List ℕ) (names : List (List ℕ)) → are_names (name ∷ names) ≡ ((is_index_name name && below_first name names) && are_names names)
names_more name names =
    ap (λ (rise : Bool). (is_index_name name && list_all is_index_name names) && rise) (rise_more name names)
    ∙ shuffled (is_index_name name) (list_all is_index_name names) (below_first name names) (names_rise names)

pub no_names : are_names [] ≡ true
unfolding names_rise
no_names = refl

-- ---- the chunks, one put after another

pub chunks_put : (names : List (List ℕ)) (rows : List Placed) (s0 s1 s2 s3 s4 : List Chunk) → s0 ≡ [] → s1 ≡ s0 ++ one_chunk (codes "PNAM") (padded (name_bytes names))
    → s2 ≡ s1 ++ one_chunk (codes "OIDF") (number_bytes (counts_of (map id_of rows))) → s3 ≡ s2 ++ one_chunk (codes "OIDL") (flat_map bytes_of (map id_of rows))
    → s4 ≡ s3 ++ offset_chunks (map pack_of rows) (map offset_of rows) → s4 ≡ chunks_written names (map pack_row_of rows)
chunks_put names rows s0 s1 s2 s3 s4 a b c d e =
    e
    ∙ ap (λ (cs : List Chunk). cs ++ offset_chunks (map pack_of rows) (map offset_of rows))
    (d
    ∙ ap (λ (cs : List Chunk). cs ++ one_chunk (codes "OIDL") (flat_map bytes_of (map id_of rows)))
    (c
    ∙ ap (λ (cs : List Chunk). cs ++ one_chunk (codes "OIDF") (number_bytes (counts_of (map id_of rows))))
    (b ∙ ap (λ (cs : List Chunk). cs ++ one_chunk (codes "PNAM") (padded (name_bytes names))) a)))
    ∙ sym (chunks_seen names rows)
